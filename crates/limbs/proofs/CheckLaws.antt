-- What a check has answered: a refusal, or the numbers that it has found legal. Assumes nothing.
use Prim.Native.Nat.{ℕ, ◌≤◌}
use native.Mathlib.Omega.{arith}
use mathlib.Core.Path.{◌≡◌, sym, ap, ◌∙◌}
use mathlib.Core.Bool.{Bool, true}
use mathlib.Core.List.{List, [], ◌∷◌}
use lib.IntN.{ℤ, pos, nat_abs}
use lib.Signed.{le_z}
use mir.Syntax.{w64}
use mir.Val.{SFits, to_z, of_z}
use Rattle.std.specs.Prelude.{Result, Ok, Err}
use Rattle.words.proofs.WordLaws.{back, natural-pos}
use Rattle.outcomes.specs.Outcome.{Outcome, done, refuse, map_done}
use Rattle.outcomes.specs.Refusal.{outcome_of, code_of}
use Rattle.outcomes.specs.declared.refusal.Refusal.{Refusal}
use Rattle.outcomes.proofs.OutcomeLaws.{stage-passed, stages, stages-refused, stages-value, stages-passed}
use Rattle.limbstages.specs.declared.numbers.Field.{Field}
use Rattle.limbstages.specs.declared.numbers.Rotation.{Rotation}
use Rattle.limbstages.specs.declared.numbers.NewBit.{NewBit}
use Rattle.limbstages.specs.Inner.{field_of, rotation_of, new_bit_of}
use Rattle.limbstages.specs.Stages.{is_operand, operand, natural, is_field, field, is_new_bit, new_bit}
use Rattle.limbstages.proofs.StageLaws.{operand-legal, field-numbers, new-bit-numbers}

-- the signed numbers of a call are given to its check as the machine has them
abbrev W : ℤ → ℤ
W z = to_z w64 (of_z w64 z)

abbrev natural-stages : List ℕ → ℤ → List (Bool × ℕ)
natural-stages x n = (is_operand x, 7) ∷ (le_z (pos 0) n, 5) ∷ []

module _ (x : List ℕ) {n : ℤ} (f : SFits w64 n) {r : Result ℕ Refusal} (answered : outcome_of r ≡ operand x (natural (W n) (done (nat_abs (W n))))) where
  pub natural-refused : {k : Refusal} (o : Outcome ℤ) → r ≡ Err k → operand x (natural n o) ≡ refuse (code_of k)
  unfolding outcome_of operand natural stages
  natural-refused o e = stages-refused (natural-stages x n) (nat_abs n) o (sym (rw (back f) at answered) ∙ ap outcome_of e)

  -- the operand is legal, the number is m, and nothing is refused
  pub natural-legal : {m : ℕ} → r ≡ Ok m → (is_operand x ≡ true) × ((n ≡ pos m) × ((o : Outcome ℤ) → operand x (natural n o) ≡ o))
  unfolding outcome_of operand natural stages
  natural-legal {m} e =
      let d = sym (rw (back f) at answered) ∙ ap outcome_of e in
      let l = operand-legal x (natural n (done (nat_abs n))) d in
      let p = stage-passed (le_z (pos 0) n) 5 (done (nat_abs n)) l.1 in
      (l.0, (natural-pos n p.0 (sym (stages-value (natural-stages x n) d)), λ o. stages-passed (natural-stages x n) (nat_abs n) o d))

pub record LegalField (x y : List ℕ) (start end : ℤ) (s e : ℕ) : Type 0 where
  pub first : is_operand x ≡ true
  pub second : is_operand y ≡ true
  pub order : s ≤ e
  pub last : e ≤ 32767
  pub from : nat_abs start ≡ s
  pub to : nat_abs end ≡ e

legal-numbers : {x y : List ℕ} (start end : ℤ) {s e : ℕ} → is_operand x ≡ true → is_operand y ≡ true → is_field start end ≡ true → nat_abs start ≡ s
    → nat_abs end ≡ e → LegalField x y start end s e
legal-numbers start end a b l f t =
    let n = field-numbers start end l in
    record { first = a; second = b; order = omega (arith, n.order); last = omega (arith, n.last); from = f; to = t }

abbrev field-stages : List ℕ → List ℕ → ℤ → ℤ → List (Bool × ℕ)
field-stages x y start end = (is_operand x, 7) ∷ (is_operand y, 7) ∷ (is_field start end, 5) ∷ []

module _ (x y : List ℕ) {start end : ℤ} (f : SFits w64 start) (g : SFits w64 end) {r : Result Field Refusal}
    (answered : field_of r ≡ operand x (operand y (field (W start) (W end) (done (nat_abs (W start), nat_abs (W end)))))) where
  pub field-refused : {k : Refusal} (o : Outcome ℤ) → r ≡ Err k → operand x (operand y (field start end o)) ≡ refuse (code_of k)
  unfolding field_of map_done outcome_of operand field stages
  field-refused o e = stages-refused (field-stages x y start end) (nat_abs start, nat_abs end) o (sym (rw (back f, back g) at answered) ∙ ap field_of e)

  pub field-legal : {f : Field} → r ≡ Ok f → LegalField x y start end f.start f.end × ((o : Outcome ℤ) → operand x (operand y (field start end o)) ≡ o)
  unfolding field_of map_done outcome_of operand field stages
  field-legal q =
      let numbers : ℕ × ℕ = (nat_abs start, nat_abs end) in
      let d = sym (rw (back f, back g) at answered) ∙ ap field_of q in
      let a = operand-legal x (operand y (field start end (done numbers))) d in
      let b = operand-legal y (field start end (done numbers)) a.1 in
      let v = stages-value (field-stages x y start end) d in (
        legal-numbers start end a.0 b.0 (stage-passed (is_field start end) 5 (done numbers) b.1).0 (ap (λ (p : ℕ × ℕ). p.0) v) (ap (λ (p : ℕ × ℕ). p.1) v),
        λ o. stages-passed (field-stages x y start end) numbers o d,
      )

abbrev rotation-stages : List ℕ → ℤ → ℤ → ℤ → List (Bool × ℕ)
rotation-stages x start end count = (is_operand x, 7) ∷ (is_field start end, 5) ∷ (le_z (pos 0) count, 5) ∷ []

module _ (x : List ℕ) {start end count : ℤ} (f : SFits w64 start) (g : SFits w64 end) (h : SFits w64 count) {r : Result Rotation Refusal}
    (answered : rotation_of r ≡ operand x (field (W start) (W end) (natural (W count) (done (nat_abs (W start), (nat_abs (W end), nat_abs (W count))))))) where
  pub rotation-refused : {k : Refusal} (o : Outcome ℤ) → r ≡ Err k → operand x (field start end (natural count o)) ≡ refuse (code_of k)
  unfolding rotation_of map_done outcome_of operand field natural stages
  rotation-refused o e =
      stages-refused (rotation-stages x start end count) (nat_abs start, (nat_abs end, nat_abs count)) o (sym (rw (back f, back g, back h) at answered) ∙ ap rotation_of e)

  pub rotation-legal : {n : Rotation} → r ≡ Ok n
      → LegalField x x start end n.field.start n.field.end × ((count ≡ pos n.count) × ((o : Outcome ℤ) → operand x (field start end (natural count o)) ≡ o))
  unfolding rotation_of map_done outcome_of operand field natural stages
  rotation-legal q =
      let numbers : ℕ × (ℕ × ℕ) = (nat_abs start, (nat_abs end, nat_abs count)) in
      let d = sym (rw (back f, back g, back h) at answered) ∙ ap rotation_of q in
      let a = operand-legal x (field start end (natural count (done numbers))) d in
      let b = stage-passed (is_field start end) 5 (natural count (done numbers)) a.1 in
      let v = stages-value (rotation-stages x start end count) d in (
        legal-numbers start end a.0 a.0 b.0 (ap (λ (p : ℕ × (ℕ × ℕ)). p.0) v) (ap (λ (p : ℕ × (ℕ × ℕ)). p.1.0) v),
        (
          natural-pos count (stage-passed (le_z (pos 0) count) 5 (done numbers) b.1).0 (sym (ap (λ (p : ℕ × (ℕ × ℕ)). p.1.1) v)),
          λ o. stages-passed (rotation-stages x start end count) numbers o d,
        ),
      )

pub record LegalBit (x : List ℕ) (position bit : ℤ) (k b : ℕ) : Type 0 where
  pub first : is_operand x ≡ true
  pub last : k ≤ 32766
  pub small : b ≤ 1
  pub at : nat_abs position ≡ k
  pub new : bit ≡ pos b

abbrev new-bit-stages : List ℕ → ℤ → ℤ → List (Bool × ℕ)
new-bit-stages x k bit = (is_operand x, 7) ∷ (is_new_bit k bit, 5) ∷ []

module _ (x : List ℕ) {k bit : ℤ} (f : SFits w64 k) (g : SFits w64 bit) {r : Result NewBit Refusal}
    (answered : new_bit_of r ≡ operand x (new_bit (W k) (W bit) (done (nat_abs (W k), nat_abs (W bit))))) where
  pub new-bit-refused : {j : Refusal} (o : Outcome ℤ) → r ≡ Err j → operand x (new_bit k bit o) ≡ refuse (code_of j)
  unfolding new_bit_of map_done outcome_of operand new_bit stages
  new-bit-refused o e = stages-refused (new-bit-stages x k bit) (nat_abs k, nat_abs bit) o (sym (rw (back f, back g) at answered) ∙ ap new_bit_of e)

  pub new-bit-legal : {n : NewBit} → r ≡ Ok n → LegalBit x k bit n.position n.bit × ((o : Outcome ℤ) → operand x (new_bit k bit o) ≡ o)
  unfolding new_bit_of map_done outcome_of operand new_bit stages
  new-bit-legal {n = m} e =
      let numbers : ℕ × ℕ = (nat_abs k, nat_abs bit) in
      let d = sym (rw (back f, back g) at answered) ∙ ap new_bit_of e in
      let a = operand-legal x (new_bit k bit (done numbers)) d in
      let n = new-bit-numbers k bit (stage-passed (is_new_bit k bit) 5 (done numbers) a.1).0 in
      let v = stages-value (new-bit-stages x k bit) d in
      let at : nat_abs k ≡ m.position = ap (λ (q : ℕ × ℕ). q.0) v in
      let new : nat_abs bit ≡ m.bit = ap (λ (q : ℕ × ℕ). q.1) v in (
        record { first = a.0; last = omega (arith, n.0.1); small = omega (arith, n.1.1); at = at; new = natural-pos bit n.1.0 (sym new) },
        λ o. stages-passed (new-bit-stages x k bit) numbers o d,
      )
