-- A conversion that is done at a width is done at every larger one, and is the same there. Assumes nothing.
use Prim.Native.Nat.{ℕ, ◌≤◌}
use mathlib.Core.Path.{◌≡◌, sym, ap, ◌∙◌}
use mathlib.Core.Bool.{true}
use mathlib.Core.List.{List}
use lib.IntN.{ℤ}
use Rattle.bits.specs.Testbit.{fits}
use Rattle.bits.proofs.LengthLaws.{fits-mono}
use Rattle.bits.proofs.FitsLaws.{is_true, holds}
use Rattle.fxtable.specs.Domains.{is_width}
use Rattle.outcomes.specs.Outcome.{done}
use Rattle.outcomes.proofs.OutcomeLaws.{passed, stage-passed}
use Rattle.limbwords.specs.Value.{value}
use Rattle.limbstages.specs.declared.Written.{Written}
use Rattle.limbstages.specs.Buffer.{Writes}
use Rattle.outcomes.specs.Number.{number}
use Rattle.limbstages.proofs.StageLaws.{operand-passed, operand-legal}
use Rattle.limbstages.proofs.WritesLaws.{writes_as}
use Rattle.convert.specs.Convert.{to_fixnum_outcome, to_limbs_outcome}
use Rattle.convert.proofs.RoundTrip.{number-done, limbs-done, to-limbs}

module _ (v w : ℕ) (l : v ≤ w) (a : is_width w ≡ true) where
  wider : (n : ℤ) → fits v n ≡ true → fits w n ≡ true
  wider n f = is_true (fits-mono v w n l (holds f))

  -- the answer of limbs to a fixnum
  pub to-fixnum-wider : (x : List ℕ) → (number (to_fixnum_outcome v x)).refusal ≡ 0 → number (to_fixnum_outcome w x) ≡ number (to_fixnum_outcome v x)
  unfolding to_fixnum_outcome
  to-fixnum-wider x h =
      let d = number-done v x h in
      let p = stage-passed (is_width v) 1 _ d in
      let q = operand-legal x _ p.1 in
      let f = (stage-passed (fits v (value x)) 6 (done (value x)) q.1).0 in
      ap number (passed 1 _ a ∙ operand-passed x _ q.0 ∙ passed 6 (done (value x)) (wider (value x) f) ∙ sym d)

  -- the answer of a fixnum to limbs, and the buffer
  pub to-limbs-wider : (n : ℤ) {out out' : List ℕ} {first : ℕ} {r : Written} → Writes (to_limbs_outcome v n) out first r out' → r.refusal ≡ 0
      → Writes (to_limbs_outcome w n) out first r out'
  to-limbs-wider n {out} {first} c h =
      let (b, f) = limbs-done v n out first (sym (ap (λ (r : Written). r.refusal) c.answer) ∙ h) in
      writes_as (to-limbs w n a (wider n f) ∙ sym (to-limbs v n b f)) c
