-- Signed numbers of a call: the distance of a shift, and a word as two limbs. Assumes nothing.
use Prim.Native.Nat.{ℕ, suc, zero-le, ◌^◌, ◌<◌}
use native.Mathlib.Omega.{arith}
use mathlib.Core.Path.{◌≡◌, sym, ap, ap₂, ◌∙◌}
use mathlib.Core.Bool.{true, false, true≢false}
use mathlib.Core.List.{List, [], ◌∷◌}
use lib.IntN.{ℤ, pos, negsuc, nat_abs}
use lib.ListN.{length}
use lib.Signed.{mag, le_z}
use borrow.Author.Tests.{le-leb}
use Rattle.bits.specs.Shift.{shift_left, shift_right, arithmetic_shift}
use Rattle.bits.specs.Division.{mod_ℕ}
use Rattle.bits.proofs.ShiftLaws.{shift_right-zero}
use Rattle.bits.proofs.LengthLaws.{bit_length-le}
use Rattle.outcomes.specs.Outcome.{done}
use Rattle.limbwords.specs.Value.{value, limbs_of}
use Rattle.limbwords.specs.Results.{bits_from}
use Rattle.limbwords.proofs.ValueLaws.{value-limbs_of, limb_count-le}
use Rattle.limbstages.specs.Stages.{is_operand, sized}
use Rattle.limbstages.proofs.ShiftLaws.{sized-done, legal-lengths, right-enough}

-- ---- a signed distance

module _ (xs : List ℕ) (legal : is_operand xs ≡ true) where
  pub shift-left : {d : ℤ} {r : ℕ} → d ≡ pos r → sized (arithmetic_shift (value xs) d) ≡ sized (shift_left (value xs) r)
  unfolding arithmetic_shift
  shift-left e = ap (λ (d : ℤ). sized (arithmetic_shift (value xs) d)) e

  -- to the right, where it is negative
  pub shift-right : (d : ℤ) → le_z (pos 0) d ≡ false → sized (arithmetic_shift (value xs) d) ≡ done (shift_right (value xs) (nat_abs d))
  unfolding arithmetic_shift
  shift-right (pos n) h = absurd (true≢false (sym (le-leb 0 n zero-le) ∙ h))
  shift-right (negsuc n) h =
      let l = limb_count-le (shift_right (value xs) (suc n)) (length xs) (right-enough xs legal (suc n) (length xs) (legal-lengths xs legal).0 (omega arith)) in
      sized-done (shift_right (value xs) (suc n)) (omega (arith, l, (legal-lengths xs legal).1))

-- ---- a signed word as two limbs

pub word-limbs : (v : ℤ) → mag v < 2 ^ 63 → {low high : ℕ} → low ≡ bits_from v 0 → high ≡ bits_from v 32 → value (low ∷ high ∷ []) ≡ v
unfolding bits_from limbs_of
word-limbs v h p q =
    ap₂ (λ (m n : ℕ). value (m ∷ n ∷ [])) (p ∙ ap (λ (y : ℤ). mod_ℕ y (2 ^ 32)) (shift_right-zero v)) q
    ∙ value-limbs_of 2 v (omega (arith, bit_length-le v 63 h))
