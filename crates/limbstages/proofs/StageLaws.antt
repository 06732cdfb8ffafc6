-- The stages of a limb call: an operand that is legal or not, and what legal numbers are. Assumes nothing.
use Prim.Native.Nat.{ℕ, zero-le, ◌≤◌, ◌<◌}
use native.Mathlib.Omega.{arith}
use mathlib.Core.Path.{◌≡◌, refl, sym, ap, ◌∙◌}
use mathlib.Core.Bool.{Bool, true, false, not, ◌&&◌, true≢false}
use mathlib.Core.List.{List, [], ◌∷◌}
use lib.Dec.{leb, lit<}
use lib.IntN.{ℤ, pos, negsuc, nat_abs}
use lib.ListN.{length}
use lib.Signed.{le_z}
use borrow.Author.Tests.{le-leb, leb-true, eqb-true, eq-eqb, not-true, not-false}
use Rattle.std.specs.Prelude.{Result, Ok, Err, IsErrAnd}
use Rattle.bits.specs.Range.{within}
use Rattle.bits.proofs.Booleans.{both_left, both_right}
use Rattle.outcomes.specs.Outcome.{Outcome, done, refuse, guard, guard_at, map_done}
use Rattle.outcomes.proofs.OutcomeLaws.{passed, failed, guard-twice, stage-passed, stages, stages-refused, stages-passed, stages-value}
use Rattle.outcomes.specs.declared.refusal.Refusal.{Refusal}
use Rattle.outcomes.specs.Refusal.{outcome_of, code_of}
use Rattle.limbwords.specs.Value.{value, limb_count, is_shortest}
use Rattle.limbwords.proofs.ValueLaws.{value-length, limb_count-positive, limb_count-le}
use Rattle.limbstages.specs.Stages.{most_limbs, has_limbs, is_operand, operand, natural, is_field, field, is_new_bit}
use Rattle.limbstages.specs.declared.numbers.Field.{Field}
use Rattle.limbstages.specs.Inner.{field_of}

-- ---- operands

pub limbs-lengths : (xs : List ℕ) → has_limbs xs ≡ true → (0 < length xs) × (length xs ≤ 1024)
unfolding has_limbs most_limbs
limbs-lengths xs h =
    (leb-true 1 (length xs) (both_left (leb 1 (length xs)) (leb (length xs) 1024) h), leb-true (length xs) 1024 (both_right (leb 1 (length xs)) (leb (length xs) 1024) h))

-- a legal operand: its length, and that it is the shortest
pub operand-limbs : (xs : List ℕ) → is_operand xs ≡ true → has_limbs xs ≡ true
unfolding is_operand
operand-limbs xs h = both_left (has_limbs xs) (is_shortest xs) h

pub operand-shortest : (xs : List ℕ) → is_operand xs ≡ true → is_shortest xs ≡ true
unfolding is_operand
operand-shortest xs h = both_right (has_limbs xs) (is_shortest xs) h

pub operand-count : (xs : List ℕ) → is_operand xs ≡ true → length xs ≡ limb_count (value xs)
unfolding is_shortest
operand-count xs h = eqb-true (length xs) (limb_count (value xs)) (operand-shortest xs h)

-- one limb is always legal
pub limb-operand : (n : ℕ) → is_operand (n ∷ []) ≡ true
unfolding is_operand has_limbs most_limbs is_shortest
limb-operand n =
    let z = value (n ∷ []) in
    eq-eqb 1 (limb_count z) (omega (arith, limb_count-positive z, limb_count-le z 1 (value-length (n ∷ []) (lit< tt))))

-- what the code needs of a legal operand
pub operand_lengths : (xs : List ℕ) → is_operand xs ≡ true → (0 < length xs) × (length xs ≤ 1024)
operand_lengths xs h = limbs-lengths xs (operand-limbs xs h)

pub operand-length : (xs : List ℕ) → is_operand xs ≡ true → 0 < length xs
operand-length xs h = (operand_lengths xs h).0

-- what the code's test t has found, where it goes on and where it refuses
pub legal : {t b : Bool} → t ≡ b → not t ≡ false → b ≡ true
legal e n = sym e ∙ not-false _ n

pub illegal : {t b : Bool} → t ≡ b → not t ≡ true → b ≡ false
illegal e n = sym e ∙ not-true _ n

module _ {A : Type 0} where
  pub operand-passed : (xs : List ℕ) (o : Outcome A) → is_operand xs ≡ true → operand xs o ≡ o
  unfolding operand
  operand-passed xs o h = passed 7 o h

  pub operand-twice : (xs : List ℕ) (o : Outcome A) → operand xs (operand xs o) ≡ operand xs o
  unfolding operand
  operand-twice xs o = guard-twice (is_operand xs) 7 o

  pub operand-legal : (xs : List ℕ) (o : Outcome A) {a : A} → operand xs o ≡ done a → (is_operand xs ≡ true) × (o ≡ done a)
  unfolding operand
  operand-legal xs o e = stage-passed (is_operand xs) 7 o e

-- what a `?` hands on
pub exited : {B E : Type 0} {e : E} (r : Result B E) → IsErrAnd r (λ y. y ≡ e) → r ≡ Err e
exited (Ok x) h = absurd h
exited (Err y) h = ap Err h

-- the check of one operand, or of two, has passed them or refuses
module _ {A : Type 0} (xs : List ℕ) where
  pub operand-ok : (o : Outcome A) (u : Unit {0}) → outcome_of (Ok u) ≡ operand xs (done (tt {0})) → (is_operand xs ≡ true) × (operand xs o ≡ o)
  unfolding outcome_of
  operand-ok o u e = let l = operand-legal xs (done (tt {0})) (sym e) in (l.0, operand-passed xs o l.0)

  pub operand-err : (o : Outcome A) (r : Refusal) → outcome_of {A = Unit {0}} (Err r) ≡ operand xs (done (tt {0})) → operand xs o ≡ refuse (code_of r)
  unfolding outcome_of operand stages
  operand-err o r e = stages-refused ((is_operand xs, 7) ∷ []) (tt {0}) o (sym e)

  pub operands-ok : (ys : List ℕ) (o : Outcome A) (u : Unit {0}) → outcome_of (Ok u) ≡ operand xs (operand ys (done (tt {0})))
      → ((is_operand xs ≡ true) × (is_operand ys ≡ true)) × (operand xs (operand ys o) ≡ o)
  unfolding outcome_of
  operands-ok ys o u e =
      let l = operand-legal xs (operand ys (done (tt {0}))) (sym e) in
      let m = operand-legal ys (done (tt {0})) l.1 in
      ((l.0, m.0), operand-passed xs (operand ys o) l.0 ∙ operand-passed ys o m.0)

  pub operands-err : (ys : List ℕ) (o : Outcome A) (r : Refusal) → outcome_of {A = Unit {0}} (Err r) ≡ operand xs (operand ys (done (tt {0})))
      → operand xs (operand ys o) ≡ refuse (code_of r)
  unfolding outcome_of operand stages
  operands-err ys o r e = stages-refused ((is_operand xs, 7) ∷ (is_operand ys, 7) ∷ []) (tt {0}) o (sym e)

-- ---- numbers

-- the numbers of a field
pub record FieldNumbers (start end : ℤ) : Type 0 where
  pub from : le_z (pos 0) start ≡ true
  pub to : le_z (pos 0) end ≡ true
  pub order : nat_abs start ≤ nat_abs end
  pub last : nat_abs end ≤ 32767

pub within-natural : (i : ℤ) (n : ℕ) → within (pos 0) i (pos n) ≡ true → (le_z (pos 0) i ≡ true) × (nat_abs i ≤ n)
unfolding within
within-natural (pos a) n h = (le-leb 0 a zero-le, leb-true a n (both_right (leb 0 a) (leb a n) h))
within-natural (negsuc a) n h = absurd (true≢false (sym h))

none_within : (a : ℤ) (b : ℕ) → within (pos 0) a (negsuc b) ≡ true → ⊥
unfolding within
none_within (pos a) b h = true≢false (sym (both_right (leb 0 a) false h))
none_within (negsuc a) b h = true≢false (sym h)

pub field-numbers : (start end : ℤ) → is_field start end ≡ true → FieldNumbers start end
unfolding is_field
field-numbers start end h = go start end (both_left (within (pos 0) start end) (le_z end (pos 32767)) h) (both_right (within (pos 0) start end) (le_z end (pos 32767)) h)
  where
    go : (start end : ℤ) → within (pos 0) start end ≡ true → le_z end (pos 32767) ≡ true → FieldNumbers start end
    go a (pos b) h k = let i = within-natural a b h in record { from = i.0; to = le-leb 0 b zero-le; order = i.1; last = leb-true b 32767 k }
    go a (negsuc b) h k = absurd (none_within a b h)

pub new-bit-numbers : (k bit : ℤ) → is_new_bit k bit ≡ true
    → ((le_z (pos 0) k ≡ true) × (nat_abs k ≤ 32766)) × ((le_z (pos 0) bit ≡ true) × (nat_abs bit ≤ 1))
unfolding is_new_bit
new-bit-numbers k bit h = (
  within-natural k 32766 (both_left (within (pos 0) k (pos 32766)) (within (pos 0) bit (pos 1)) h),
  within-natural bit 1 (both_right (within (pos 0) k (pos 32766)) (within (pos 0) bit (pos 1)) h),
)

-- the checks of numbers have passed them or refuse
module _ {A : Type 0} where
  pub natural-ok : (n : ℤ) (o : Outcome A) (m : ℕ) → outcome_of (Ok m) ≡ natural n (done (nat_abs n)) → (nat_abs n ≡ m) × (natural n o ≡ o)
  unfolding outcome_of natural stages
  natural-ok n o m e =
      let list : List (Bool × ℕ) = (le_z (pos 0) n, 5) ∷ [] in
      (stages-value list (sym e), stages-passed list (nat_abs n) o (sym e))

  pub natural-err : (n : ℤ) (o : Outcome A) (r : Refusal) → outcome_of (Err r) ≡ natural n (done (nat_abs n)) → natural n o ≡ refuse (code_of r)
  unfolding outcome_of natural stages
  natural-err n o r e = stages-refused ((le_z (pos 0) n, 5) ∷ []) (nat_abs n) o (sym e)

  pub field-ok : (start end : ℤ) (o : Outcome A) (f : Field) → field_of (Ok f) ≡ field start end (done (nat_abs start, nat_abs end))
      → ((nat_abs start ≡ f.start) × (nat_abs end ≡ f.end)) × (field start end o ≡ o)
  unfolding field_of map_done outcome_of field stages
  field-ok start end o f e =
      let list : List (Bool × ℕ) = (is_field start end, 5) ∷ [] in
      let v = stages-value list (sym e) in
      ((ap (λ (p : ℕ × ℕ). p.0) v, ap (λ (p : ℕ × ℕ). p.1) v), stages-passed list (nat_abs start, nat_abs end) o (sym e))

  pub field-err : (start end : ℤ) (o : Outcome A) (r : Refusal) → field_of (Err r) ≡ field start end (done (nat_abs start, nat_abs end))
      → field start end o ≡ refuse (code_of r)
  unfolding field_of map_done outcome_of field stages
  field-err start end o r e = stages-refused ((is_field start end, 5) ∷ []) (nat_abs start, nat_abs end) o (sym e)
