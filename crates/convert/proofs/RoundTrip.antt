-- To limbs and back, and to a fixnum and back: where both calls are done, the integer is the same. Assumes nothing.
use Prim.Native.Nat.{ℕ, ◌^◌, ◌≤◌, ◌<◌}
use native.Mathlib.Omega.{arith}
use mathlib.Core.Path.{◌≡◌, refl, sym, ap, ◌∙◌}
use mathlib.Core.Bool.{Bool, true, false}
use mathlib.Core.List.{List}
use lib.Dec.{lit<}
use lib.IntN.{ℤ}
use lib.ListN.{length, get_or}
use Rattle.bits.specs.Testbit.{fits}
use Rattle.bits.proofs.LengthLaws.{fits-length, fits-mono}
use Rattle.bits.proofs.FitsLaws.{is_true, holds}
use Rattle.fxtable.specs.Domains.{is_width}
use Rattle.fxtable.proofs.CallLaws.{width-bounds}
use Rattle.limbwords.specs.Value.{value, shortest}
use Rattle.limbwords.proofs.ValueLaws.{value-shortest, length-shortest, limb_count-le, is_shortest-unique}
use Rattle.outcomes.specs.declared.number.Number.{Number}
use Rattle.limbstages.specs.declared.Written.{Written}
use Rattle.outcomes.specs.Outcome.{Outcome, done, refuse, guard, guard_at, map_done, refusal_of}
use Rattle.outcomes.specs.Buffer.{capacity, fitted, count_of}
use Rattle.outcomes.proofs.OutcomeLaws.{passed, stage-passed}
use Rattle.outcomes.proofs.BufferLaws.{fitted-enough}
use Rattle.limbstages.specs.Buffer.{stored, written, Writes, copied}
use Rattle.outcomes.specs.Number.{number}
use Rattle.limbstages.specs.Stages.{is_operand, operand}
use Rattle.limbstages.proofs.StageLaws.{operand-passed, operand-legal, operand-shortest}
use Rattle.limbstages.proofs.WritesLaws.{writes_as, written-limbs, shortest-operand}
use Rattle.convert.specs.Convert.{to_fixnum_outcome, to_limbs_outcome}

-- ---- outcomes

module _ (w : ℕ) (n : ℤ) where
  pub to-limbs : is_width w ≡ true → fits w n ≡ true → to_limbs_outcome w n ≡ done n
  unfolding to_limbs_outcome
  to-limbs a f = passed 1 _ a ∙ passed 4 (done n) f

  -- the shortest limbs of a fixnum are legal, and convert to it
  pub to-fixnum-shortest : is_width w ≡ true → fits w n ≡ true → to_fixnum_outcome w (shortest n) ≡ done n
  unfolding to_fixnum_outcome
  to-fixnum-shortest a f =
      let b = width-bounds w a in
      let l = shortest-operand n (is_true (fits-mono w 32768 n (omega arith) (holds f))) in
      let v = value-shortest n in
      passed 1 _ a
      ∙ operand-passed (shortest n) _ l
      ∙ passed 6 (done (value (shortest n))) (ap (fits w) v ∙ f)
      ∙ ap done v

-- limbs that convert are those of a fixnum, and legal
pub to-fixnum-done : (w : ℕ) (x : List ℕ) {z : ℤ} → to_fixnum_outcome w x ≡ done z → (to_limbs_outcome w z ≡ done z) × ((z ≡ value x) × (is_operand x ≡ true))
unfolding to_fixnum_outcome
to-fixnum-done w x {z} e =
    let a = stage-passed (is_width w) 1 _ e in
    let b = operand-legal x _ a.1 in
    let c = stage-passed (fits w (value x)) 6 (done (value x)) b.1 in
    let v : z ≡ value x = cc c.1 in
    (to-limbs w z a.0 (ap (fits w) v ∙ c.0), (v, b.0))

-- ---- answers

-- an answer without a refusal has passed each stage; f is the refusal number of its kind of answer
module _ (f : Outcome ℤ → ℕ) (f-refused : (k : ℕ) → f (refuse k) ≡ k) where
  stage-done : (test : Bool) (k : ℕ) (o : Outcome ℤ) → 0 < k → f (guard test k o) ≡ 0 → (test ≡ true) × (f o ≡ 0)
  unfolding guard guard_at
  stage-done true k o h e = (refl, e)
  stage-done false k o h e = absurd (omega (arith, sym (f-refused k) ∙ e))

pub number-done : (w : ℕ) (x : List ℕ) → (number (to_fixnum_outcome w x)).refusal ≡ 0 → to_fixnum_outcome w x ≡ done (value x)
unfolding to_fixnum_outcome operand number
number-done w x e =
    let stage = stage-done (λ o. (number o).refusal) (λ k. refl) in
    let a = stage (is_width w) 1 _ (lit< tt) e in
    let b = stage (is_operand x) 7 _ (lit< tt) a.1 in
    let c = stage (fits w (value x)) 6 _ (lit< tt) b.1 in
    passed 1 _ a.0 ∙ passed 7 _ b.0 ∙ passed 6 _ c.0

pub limbs-done : (w : ℕ) (n : ℤ) (out : List ℕ) (first : ℕ) → (written (to_limbs_outcome w n) out first).refusal ≡ 0 → (is_width w ≡ true) × (fits w n ≡ true)
unfolding to_limbs_outcome written stored map_done fitted refusal_of
limbs-done w n out first e =
    let stage = stage-done (λ o. (written o out first).refusal) (λ k. refl) in
    let a = stage (is_width w) 1 _ (lit< tt) e in
    (a.0, (stage (fits w n) 4 _ (lit< tt) a.1).0)

-- ---- to limbs and back: a copy of the limbs that were written converts to the same integer

pub to-limbs-and-back : (w : ℕ) (n : ℤ) {out out' : List ℕ} {first : ℕ} {r : Written} → Writes (to_limbs_outcome w n) out first r out' → r.refusal ≡ 0
    → number (to_fixnum_outcome w (copied r first out')) ≡ record { refusal = 0; value = n }
unfolding number
to-limbs-and-back w n {out} {out'} {first} {r} c h =
    let (a, f) = limbs-done w n out first (sym (ap (λ (r : Written). r.refusal) c.answer) ∙ h) in
    let same = written-limbs (writes_as (sym (to-limbs w n a f)) c) h in
    ap (λ (l : List ℕ). number (to_fixnum_outcome w l)) same ∙ ap number (to-fixnum-shortest w n a f)

-- ---- to a fixnum and back

module _ (w : ℕ) (x : List ℕ) {r : Number} (c : r ≡ number (to_fixnum_outcome w x)) (h : r.refusal ≡ 0) where
  converted : to_fixnum_outcome w x ≡ done (value x)
  converted = number-done w x (sym (ap (λ (r : Number). r.refusal) c) ∙ h)

  same-integer : r.value ≡ value x
  unfolding number
  same-integer = ap (λ (r : Number). r.value) (c ∙ ap number converted)

  -- only a buffer that is too short can refuse the way back
  pub back-to-limbs : to_limbs_outcome w r.value ≡ done (value x)
  back-to-limbs = ap (to_limbs_outcome w) same-integer ∙ (to-fixnum-done w x converted).0

  -- the limbs that are written have the same integer, and are the limbs that were converted
  pub to-fixnum-and-back : {out out' : List ℕ} {first : ℕ} {r' : Written} → Writes (to_limbs_outcome w r.value) out first r' out' → r'.refusal ≡ 0
      → (value (copied r' first out') ≡ value x) × (((i : ℕ) → get_or x i 0 < 2 ^ 32) → copied r' first out' ≡ x)
  to-fixnum-and-back c' h' =
      let same = written-limbs (writes_as (sym back-to-limbs) c') h' in
      let legal = (to-fixnum-done w x converted).1.1 in
      (ap value same ∙ value-shortest (value x), λ b. same ∙ sym (is_shortest-unique x b (operand-shortest x legal)))

-- ---- a fixnum has at most two limbs, so room for two is always enough

pub two-limbs-enough : (w : ℕ) (n : ℤ) (out : List ℕ) (first : ℕ) → is_width w ≡ true → fits w n ≡ true → 2 ≤ capacity out first
    → written (to_limbs_outcome w n) out first ≡ record { refusal = 0; length = length (shortest n) }
unfolding written stored map_done refusal_of count_of capacity
two-limbs-enough w n out first a f h =
    let b = width-bounds w a in
    let l = limb_count-le n 2 (omega (arith, (fits-length w n (omega arith)).0 (holds f))) in
    ap (λ (o : Outcome ℤ). written o out first) (to-limbs w n a f)
    ∙ ap (λ (p : Outcome (List ℕ)). record { refusal = refusal_of p; length = count_of p }) (fitted-enough (shortest n) out first (omega (arith, length-shortest n)))
