-- The shifts of an operand: a distance of 32,768 is as good as any beyond it, and how many limbs are enough. Assumes nothing.
use Prim.Native.Nat.{ℕ, zero, suc, ◌+◌, ◌*◌, ◌/◌, ◌≤◌, ◌<◌}
use native.Mathlib.Omega.{arith}
use mathlib.Core.Path.{◌≡◌, refl, sym, ap, ◌∙◌, subst}
use mathlib.Core.Bool.{true, cond}
use mathlib.Core.List.{List}
use lib.Dec.{ltb}
use lib.IntN.{ℤ, pos, negsuc, pos-ne-negsuc}
use lib.ListN.{length}
use borrow.Author.Tests.{le-leb, lt-leb}
use Rattle.bits.specs.Testbit.{bit_length}
use Rattle.bits.specs.Shift.{shift_left, shift_right}
use Rattle.bits.proofs.TestbitLaws.{by-lt}
use Rattle.bits.proofs.ShiftLaws.{shift_left-zero-l}
use Rattle.bits.proofs.LengthBounds.{shift_right-length-sub, shift_right-beyond, shift_left-length, shift_left-length-exact}
use Rattle.outcomes.specs.Outcome.{done, refuse}
use Rattle.outcomes.proofs.OutcomeLaws.{passed, failed}
use Rattle.limbwords.specs.Value.{value, limb_count}
use Rattle.limbwords.proofs.ValueLaws.{pos-injective, value-length}
use Rattle.limbstages.specs.Stages.{most_limbs, is_operand, sized}
use Rattle.limbstages.proofs.StageLaws.{operand_lengths}

-- ---- the size of a result

pub sized-done : (z : ℤ) → limb_count z ≤ 1024 → sized z ≡ done z
unfolding sized most_limbs
sized-done z h = passed 6 (done z) (le-leb (limb_count z) 1024 h)

pub sized-refused : (z : ℤ) → 1024 < limb_count z → sized z ≡ refuse 6
unfolding sized most_limbs
sized-refused z h = failed 6 (done z) (lt-leb (limb_count z) 1024 h)

-- ---- a distance beyond the largest length

beyond-refused : (z : ℤ) (k : ℕ) → 32768 ≤ k → (z ≡ pos 0 → ⊥) → sized (shift_left z k) ≡ refuse 6
unfolding limb_count
beyond-refused z k l h = sized-refused (shift_left z k) (omega (arith, shift_left-length-exact z k h))

both-refused : (z : ℤ) (k : ℕ) → 32768 ≤ k → (z ≡ pos 0 → ⊥) → sized (shift_left z 32768) ≡ sized (shift_left z k)
both-refused z k l h = beyond-refused z 32768 (omega arith) h ∙ sym (beyond-refused z k l h)

-- 0 stays 0, and everything else is too long
beyond-same : (z : ℤ) (k : ℕ) → 32768 ≤ k → sized (shift_left z 32768) ≡ sized (shift_left z k)
beyond-same (pos zero) k l = ap sized (shift_left-zero-l 32768 ∙ sym (shift_left-zero-l k))
beyond-same (pos (suc n)) k l = both-refused (pos (suc n)) k l (λ e. omega (arith, pos-injective (suc n) 0 e))
beyond-same (negsuc n) k l = both-refused (negsuc n) k l (λ e. pos-ne-negsuc 0 n (sym e))

-- ---- the shifts of an operand, by a distance that is capped

-- the contract of the code's `capped`
abbrev Capped : ℕ → ℕ → Type 0
Capped by r = r ≡ cond (ltb by 32768) by 32768

-- a property of the capped distance: of one that is short enough, and of 32,768 where the distance is at least that
by-cap : (P : ℕ → Type 0) (by : ℕ) {r : ℕ} → Capped by r → (by < 32768 → P by) → (32768 ≤ by → P 32768) → P r
by-cap P by e short long = subst P (sym e) (by-lt (λ b. P (cond b by 32768)) by 32768 short long)

pub capped_le : (by : ℕ) {r : ℕ} → Capped by r → r ≤ 32768
capped_le by e = by-cap (λ k. k ≤ 32768) by e (λ h. omega arith) (λ h. omega arith)

module _ (xs : List ℕ) (legal : is_operand xs ≡ true) where
  pub legal-lengths : (0 < length xs) × (length xs ≤ 1024)
  legal-lengths = operand_lengths xs legal

  -- a right shift needs no limbs for those that it drops whole
  pub right-enough : (k m : ℕ) → 0 < m → length xs ≤ m + k / 32 → bit_length (shift_right (value xs) k) < 32 * m
  right-enough k m p h = omega (arith, shift_right-length-sub (value xs) k, value-length xs legal-lengths.0)

  pub left-enough : (k : ℕ) → bit_length (shift_left (value xs) k) < 32 * (length xs + k / 32 + 1)
  left-enough k = omega (arith, shift_left-length (value xs) k, value-length xs legal-lengths.0)

  module _ (by : ℕ) {r : ℕ} (e : Capped by r) where
    pub capped-right : shift_right (value xs) by ≡ shift_right (value xs) r
    capped-right =
        by-cap (λ k. shift_right (value xs) by ≡ shift_right (value xs) k) by e (λ h. refl)
        (shift_right-beyond (value xs) 32768 by (omega (arith, value-length xs legal-lengths.0, legal-lengths.1)))

    capped_left : sized (shift_left (value xs) by) ≡ sized (shift_left (value xs) r)
    capped_left =
        by-cap (λ k. sized (shift_left (value xs) by) ≡ sized (shift_left (value xs) k)) by e (λ h. refl)
        (λ h. sym (beyond-same (value xs) by h))

    -- by the number of limbs that the code has measured
    pub left-done : {n : ℕ} → n ≡ limb_count (shift_left (value xs) r) → n ≤ 1024 → sized (shift_left (value xs) by) ≡ done (shift_left (value xs) r)
    left-done q h = capped_left ∙ sized-done (shift_left (value xs) r) (omega arith)

    pub left-refused : {n : ℕ} → n ≡ limb_count (shift_left (value xs) r) → 1024 < n → sized (shift_left (value xs) by) ≡ refuse 6
    left-refused q h = capped_left ∙ sized-refused (shift_left (value xs) r) (omega arith)
