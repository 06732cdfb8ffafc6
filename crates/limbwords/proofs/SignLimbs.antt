-- The sign of limbs, and their magnitude: each limb exclusive or with what continues the integer is a limb of its magnitude. Assumes nothing.
use Prim.Native.Nat.{ℕ, ◌+◌, ◌*◌, ◌^◌, ◌≤◌, ◌<◌}
use native.Mathlib.Nat.{le_of_lt}
use native.Mathlib.Omega.{arith}
use mathlib.Core.Path.{◌≡◌, refl, sym, ap, ap₂, ◌∙◌}
use mathlib.Core.Bool.{Bool, true, false, cond, not, xor}
use mathlib.Core.List.{List}
use lib.Bits.{bit_xor, xor_lt}
use lib.Dec.{eqb}
use lib.IntN.{ℤ, pos}
use lib.ListN.{length}
use lib.Signed.{mag}
use Rattle.bits.specs.Testbit.{is_negative, bit_length}
use Rattle.bits.specs.Shift.{floor_div, shift_right}
use Rattle.bits.specs.Division.{mod_ℕ}
use Rattle.bits.proofs.TestbitLaws.{testbit-above}
use Rattle.words.proofs.MagnitudeLaws.{testbit-mag}
use Rattle.bits.proofs.LengthLaws.{mag-lt}
use Rattle.words.proofs.Digitwise.{testbit-digitwise, xor-digitwise}
use Rattle.limbwords.specs.Value.{value}
use Rattle.limbwords.specs.Results.{bits_from}
use Rattle.limbwords.proofs.ValueLaws.{value-length}
use Rattle.limbwords.proofs.LimbLaws.{bits_from-lt, testbit-bits_from, word-ext, bits_from-above}

-- what continues an integer is not 0 exactly where it is negative
pub sign-test : (z : ℤ) (k : ℕ) → bit_length z ≤ k → not (eqb (bits_from z k) 0) ≡ is_negative z
sign-test z k h = ap (λ (n : ℕ). not (eqb n 0)) (bits_from-above z k h) ∙ go (is_negative z)
  where
    go : (s : Bool) → not (eqb (cond s 0xFFFFFFFF 0) 0) ≡ s
    go true = refl
    go false = refl

-- a limb of the magnitude
pub limb-mag : (z : ℤ) (at k : ℕ) → bit_length z ≤ k → bit_xor (bits_from z at) (bits_from z k) ≡ bits_from (pos (mag z)) at
limb-mag z at k h =
    word-ext (bit_xor (bits_from z at) (bits_from z k)) (pos (mag z)) at (xor_lt 32 (bits_from z at) (bits_from z k) (bits_from-lt z at) (bits_from-lt z k)) (λ t l.
    testbit-digitwise xor-digitwise t (bits_from z at) (bits_from z k)
    ∙ ap₂ xor (testbit-bits_from z at t l) (testbit-bits_from z k t l ∙ testbit-above z (k + t) (omega arith))
    ∙ sym (testbit-mag z (at + t)))

-- a number of two limbs
joined : (m : ℕ) → m < 2 ^ 63 → bits_from (pos m) 32 * 4294967296 + bits_from (pos m) 0 ≡ m
unfolding bits_from shift_right floor_div mod_ℕ
joined m h = omega arith

module _ (xs : List ℕ) (s : ℕ) (e : s ≡ bits_from (value xs) (32 * length xs)) (h : 0 < length xs) where
  pub long : bit_length (value xs) ≤ 32 * length xs
  long = le_of_lt (value-length xs h)

  -- a limb, exclusive or with what continues the operand
  pub flipped : (n at : ℕ) → n ≡ bits_from (value xs) at → bit_xor n s ≡ bits_from (pos (mag (value xs))) at
  flipped n at q = ap₂ bit_xor q e ∙ limb-mag (value xs) at (32 * length xs) long

  -- the code's test of the sign
  pub operand-sign : not (eqb s 0) ≡ is_negative (value xs)
  operand-sign = ap (λ (n : ℕ). not (eqb n 0)) e ∙ sign-test (value xs) (32 * length xs) long

  -- two limbs of a value that one word can hold
  pub two-limbs : (low high : ℕ) → low ≡ bits_from (value xs) 0 → high ≡ bits_from (value xs) 32 → bit_length (value xs) < 64
      → bit_xor high s * 4294967296 + bit_xor low s ≡ mag (value xs)
  two-limbs low high p q l =
      ap₂ (λ (m n : ℕ). m * 4294967296 + n) (flipped high 32 q) (flipped low 0 p) ∙ joined (mag (value xs)) (mag-lt (value xs) 63 (omega arith))
