-- The 32 bits of a shifted integer from a position on. Assumes nothing.
use Prim.Native.Nat.{ℕ, ◌+◌, ◌*◌, ◌-◌, ◌/◌, ◌%◌, ◌^◌, ◌≤◌, ◌<◌}
use native.Mathlib.Omega.{arith}
use mathlib.Core.Path.{◌≡◌, sym, ap, ap₂, ◌∙◌}
use mathlib.Core.Bool.{Bool, not, ◌&&◌}
use lib.IntN.{ℤ}
use lib.Pow.{pow_pos}
use borrow.Author.Tests.{lt-ltb}
use Rattle.bits.specs.Testbit.{testbit}
use Rattle.bits.specs.Shift.{shift_left, shift_right}
use Rattle.bits.specs.Division.{mod_ℕ}
use Rattle.bits.proofs.TestbitLaws.{testbit-zero}
use Rattle.bits.proofs.ShiftLaws.{testbit-shift_left, shift_right-compose, shift_right-shift_left-le, shift_right-shift_left-ge}
use Rattle.limbwords.specs.Results.{bits_from}
use Rattle.limbwords.proofs.LimbLaws.{word-ext, bits_from-join}

-- only the integer above the position counts
bits_from-same : (y z : ℤ) (at from : ℕ) → shift_right y at ≡ shift_right z from → bits_from y at ≡ bits_from z from
unfolding bits_from
bits_from-same y z at from e = ap (λ (x : ℤ). mod_ℕ x (2 ^ 32)) e

-- a right shift moves the position
pub bits_from-shift_right : (z : ℤ) (by at : ℕ) → bits_from z (at + by) ≡ bits_from (shift_right z by) at
bits_from-shift_right z by at =
    let e : at + by ≡ by + at = omega arith in
    ap (bits_from z) e ∙ bits_from-same z (shift_right z by) (by + at) at (sym (shift_right-compose z by at))

-- a left shift by `by`, from that position on
pub bits_from-shift_left-ge : (z : ℤ) (by at : ℕ) → by ≤ at → bits_from z (at - by) ≡ bits_from (shift_left z by) at
bits_from-shift_left-ge z by at h = bits_from-same z (shift_left z by) (at - by) at (sym (shift_right-shift_left-ge z by at h))

-- all 32 bits below it
pub bits_from-shift_left-zero : (z : ℤ) (by at : ℕ) → at + 32 ≤ by → 0 ≡ bits_from (shift_left z by) at
bits_from-shift_left-zero z by at h =
    word-ext 0 (shift_left z by) at (pow_pos 32) (λ t k.
    testbit-zero t
    ∙ sym (testbit-shift_left z by (at + t) ∙ ap (λ (b : Bool). not b && testbit z (at + t - by)) (lt-ltb (at + t) by (omega arith))))

-- some of them below it: the lowest limb above a limb of zeros
pub bits_from-shift_left-lt : (z : ℤ) (by at : ℕ) → at < by → by < at + 32
    → (bits_from z 0 * 2 ^ 32 + 0) / 2 ^ (32 - (by - at)) % 2 ^ 32 ≡ bits_from (shift_left z by) at
bits_from-shift_left-lt z by at h l =
    let k = 32 - (by - at) in
    let e : 32 - k ≡ by - at = omega arith in
    let m : 32 * 0 + k ≡ k = omega arith in
    ap₂ (λ (m n : ℕ). (m * 2 ^ 32 + n) / 2 ^ k % 2 ^ 32) (bits_from-shift_left-ge z 32 32 (omega arith)) (bits_from-shift_left-zero z 32 0 (omega arith))
    ∙ bits_from-join (shift_left z 32) 0 k (omega arith)
    ∙ ap (bits_from (shift_left z 32)) m
    ∙ bits_from-same (shift_left z 32) (shift_left z by) k at
    (shift_right-shift_left-le z 32 k (omega arith) ∙ ap (shift_left z) e ∙ sym (shift_right-shift_left-le z by at (omega arith)))
