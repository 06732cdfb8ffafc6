-- The bits of a flonum from its value in units of 2 ^ -1074: a value and a sign have one flonum, and the last bit of an even number of units of the last digit is 0. Assumes nothing.
use Prim.Native.Nat.{ℕ, suc, ◌+◌, ◌*◌, ◌/◌, ◌%◌, ◌^◌, ◌-◌, ◌≤◌, ◌<◌}
use native.Mathlib.Nat.{lt_of_le_of_lt, mul_assoc, mul_right_comm, mul_comm, mul-div_cancel, mul-le-mul_right, le_of_mul-le-mul_right, pow-suc}
use native.Mathlib.Omega.{arith}
use mathlib.Core.Path.{◌≡◌, refl, sym, ap, ap₂, ◌∙◌, subst}
use mathlib.Core.Logic.{inl, inr}
use mathlib.Core.Bool.{Bool, true, false, cond}
use lib.Dec.{T}
use lib.Pow.{pow-add, pow_pos, pow-lt}
use lib.Ieee.{Float, nan, inf, fin, binary64, size, top, down, to_bits, fits}
use lib.Ieee.Bits.{of_bits-to_bits}
use lib.Ieee.Digits.{size-le, size_reaches}
use lib.Ieee.Exact.{HasValue}
use lib.Ieee.Fits.{down_pos}
use Rattle.flonum_laws.proofs.Multiples.{le-or-gt}

-- the bits below the sign
abbrev kept : ℕ → ℕ
kept g = g / 2 ^ (size g - 53)

abbrev pub bits_of : Bool → ℕ → ℕ
bits_of s g = cond s (top binary64) 0 + (size g - 53) * 2 ^ 52 + kept g

pub bits_of_value : (x : Float) (s : Bool) (g : ℕ) → HasValue x s g (2 ^ 1074) → to_bits binary64 x ≡ bits_of s g
unfolding to_bits
bits_of_value nan s g v = absurd v
bits_of_value (inf t) s g v = absurd v
bits_of_value (fin t m e) s g v = ap₂ bits_of v.0 (ap (λ (a : ℕ). a / down e) v.1 ∙ mul-div_cancel g (down_pos e))

pub one-flonum : (x y : Float) (s : Bool) (g : ℕ) → T (fits binary64 x) → T (fits binary64 y) → HasValue x s g (2 ^ 1074) → HasValue y s g (2 ^ 1074) → x ≡ y
one-flonum x y s g h k v w = sym (of_bits-to_bits binary64 x h) ∙ ap (lib.Ieee.of_bits binary64) (bits_of_value x s g v ∙ sym (bits_of_value y s g w)) ∙ of_bits-to_bits binary64 y k

-- q 2^k with an even q of at most 53 digits, or 2^53
module _ (q k : ℕ) (few : q ≤ 2 ^ 53) (even : q % 2 ≡ 0) where
  abbrev g : ℕ
  g = q * 2 ^ k

  size-under : size g ≤ 54 + k
  size-under = size-le g (54 + k) (lt_of_le_of_lt (mul-le-mul_right (2 ^ k) few) (subst (λ (x : ℕ). x < 2 ^ (54 + k)) (pow-add 2 53 k) (pow-lt {i = 53 + k} {j = 54 + k} (let h : 53 + k < 54 + k = omega arith in h))))

  times-even : (j : ℕ) → q * 2 ^ j % 2 ≡ 0
  times-even j = ap (λ (x : ℕ). x % 2) (ap (λ (x : ℕ). x * 2 ^ j) (twice q even) ∙ mul_right_comm (q / 2) 2 (2 ^ j)) ∙ double (q / 2 * 2 ^ j)
    where
      twice : (q : ℕ) → q % 2 ≡ 0 → q ≡ q / 2 * 2
      twice q h = omega arith

      double : (x : ℕ) → x * 2 % 2 ≡ 0
      double x = omega arith

  -- no more digits are dropped than q 2^k has zeros
  few-dropped : (d : ℕ) → d ≤ k → g / 2 ^ d % 2 ≡ 0
  few-dropped d h =
      ap (λ (x : ℕ). x % 2)
      (ap (λ (x : ℕ). x / 2 ^ d) (ap (λ (x : ℕ). q * x) (ap (λ (x : ℕ). 2 ^ x) (sym (back k d h)) ∙ pow-add 2 (k - d) d) ∙ sym (mul_assoc q (2 ^ (k - d)) (2 ^ d)))
      ∙ mul-div_cancel (q * 2 ^ (k - d)) (pow_pos d))
      ∙ times-even (k - d)
    where
      back : (k d : ℕ) → d ≤ k → k - d + d ≡ k
      back k d h = omega arith

  -- one more: q is 2^53
  one_more : size g - 53 ≡ suc k → g / 2 ^ suc k % 2 ≡ 0
  one_more h =
      let reached : 2 ^ 53 * 2 ^ k ≤ q * 2 ^ k = subst (λ (x : ℕ). x ≤ g) (pow-add 2 53 k) (size_reaches g (53 + k) (let l : 53 + k < size g = omega arith in l)) in
      let full : q ≡ 2 ^ 53 = equal q (le_of_mul-le-mul_right reached (pow_pos k)) few in
      ap (λ (x : ℕ). x / 2 ^ suc k % 2) (ap (λ (x : ℕ). x * 2 ^ k) full ∙ mul_assoc (2 ^ 52) 2 (2 ^ k) ∙ ap (λ (x : ℕ). 2 ^ 52 * x) (sym (two-pow k)))
      ∙ ap (λ (x : ℕ). x % 2) (mul-div_cancel (2 ^ 52) (pow_pos (suc k)))
    where
      equal : (q : ℕ) → 2 ^ 53 ≤ q → q ≤ 2 ^ 53 → q ≡ 2 ^ 53
      equal q a b = omega arith

      two-pow : (k : ℕ) → 2 ^ suc k ≡ 2 * 2 ^ k
      two-pow k = pow-suc 2 k ∙ mul_comm (2 ^ k) 2

  kept-even : kept g % 2 ≡ 0
  kept-even = elim (le-or-gt (size g - 53) k) [
    | inl h ↦ few-dropped (size g - 53) h
    | inr h ↦
        let d : size g - 53 ≡ suc k = let u = size-under in omega arith in
        subst (λ (x : ℕ). g / 2 ^ x % 2 ≡ 0) (sym d) (one_more d)
  ]

  pub last_bit : (s : Bool) → bits_of s g % 2 ≡ 0
  last_bit s = last (cond s (top binary64) 0) (size g - 53) (kept g) (sign s) kept-even
    where
      sign : (s : Bool) → cond s (top binary64) 0 % 2 ≡ 0
      sign true = refl
      sign false = refl

      last : (a d b : ℕ) → a % 2 ≡ 0 → b % 2 ≡ 0 → (a + d * 2 ^ 52 + b) % 2 ≡ 0
      last a d b p q = omega arith
