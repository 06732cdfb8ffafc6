-- A natural number rounded to 53 binary digits, `grid n`: no number of 53 digits at any scale is nearer, and where another is as near, the last digit is 0. Assumes nothing.
use Prim.Native.Nat.{ℕ, ◌+◌, ◌*◌, ◌/◌, ◌%◌, ◌^◌, ◌-◌, ◌≤◌, ◌<◌, compare}
use native.Mathlib.Nat.{le_trans, le_of_eq, le_of_lt, lt_of_lt_of_le, lt_of_le_of_lt, one-mul, mul_assoc, mul-le-mul, div-one, div-div-eq-div-mul}
use native.Mathlib.Omega.{arith}
use mathlib.Core.Path.{◌≡◌, refl, sym, ap, ◌∙◌, subst}
use mathlib.Core.Logic.{inl, inr}
use mathlib.Core.Bool.{Bool}
use lib.Dec.{lit<}
use lib.Pow.{pow-add, pow_pos, pow_mono, pow-lt, shl_lt}
use lib.Ieee.{Float, binary64, size, round}
use lib.Ieee.Nearest.{closest}
use lib.Ieee.Digits.{size-le, size_reaches}
use lib.Ieee.Exact.{HasValue, units_val}
use lib.Ieee.Fits.{nearest-le, kept-lt, round_is}
use Rattle.flonum.proofs.Magnitudes.{closest-picks}
use Rattle.flonum_laws.proofs.Multiples.{apart, le-or-gt, even_sum, nearest-multiple, halfway}

-- how many digits are dropped, the unit of the last digit that is kept, and the digits
abbrev pub dropped : ℕ → ℕ
dropped n = size (n / 1) - 53

abbrev pub unit : ℕ → ℕ
unit n = 1 * 2 ^ dropped n

abbrev pub digits : ℕ → ℕ
digits n = closest n (unit n)

abbrev pub grid : ℕ → ℕ
grid n = digits n * 2 ^ dropped n

unit-is : (n : ℕ) → unit n ≡ 2 ^ dropped n
unit-is n = one-mul (2 ^ dropped n)

unit-pos : (n : ℕ) → 0 < unit n
unit-pos n = subst (λ (u : ℕ). 0 < u) (sym (unit-is n)) (pow_pos (dropped n))

grid-is : (n : ℕ) → grid n ≡ closest n (unit n) * unit n
grid-is n = ap (λ (u : ℕ). digits n * u) (sym (unit-is n))

-- a number q 2^j is a multiple of the unit, or lies below 2^52 units, which n reaches
multiple : (n q j : ℕ) → dropped n ≤ j → q * 2 ^ (j - dropped n) * unit n ≡ q * 2 ^ j
multiple n q j h =
    ap (λ (u : ℕ). q * 2 ^ (j - dropped n) * u) (unit-is n)
    ∙ mul_assoc q (2 ^ (j - dropped n)) (2 ^ dropped n)
    ∙ ap (λ (x : ℕ). q * x) (sym (pow-add 2 (j - dropped n) (dropped n)) ∙ ap (λ (x : ℕ). 2 ^ x) (back j (dropped n) h))
  where
    back : (j k : ℕ) → k ≤ j → j - k + k ≡ j
    back j k h = omega arith

below_top : (n q j : ℕ) → q < 2 ^ 53 → j < dropped n → q * 2 ^ j < 2 ^ 52 * unit n
below_top n q j Q h =
    subst (λ (u : ℕ). q * 2 ^ j < 2 ^ 52 * u) (sym (unit-is n))
    (lt_of_lt_of_le (shl_lt 53 j Q) (le_trans (pow_mono (under j (dropped n) h)) (le_of_eq (pow-add 2 52 (dropped n)))))
  where
    under : (j k : ℕ) → j < k → 53 + j ≤ 52 + k
    under j k h = omega arith

top_reached : (n j : ℕ) → j < dropped n → 2 ^ 52 * unit n ≤ n
top_reached n j h =
    subst (λ (x : ℕ). x ≤ n) (pow-add 2 52 (dropped n) ∙ ap (λ (u : ℕ). 2 ^ 52 * u) (sym (unit-is n)))
    (subst (λ (x : ℕ). 2 ^ (52 + dropped n) ≤ x) (div-one n) (size_reaches (n / 1) (52 + dropped n) (reaches (size (n / 1)) (dropped n) j refl h)))
  where
    reaches : (z k j : ℕ) → k ≡ z - 53 → j < k → 52 + k < z
    reaches z k j e h = omega arith

farther : (y t n d : ℕ) → d ≤ apart t n → y < t → t ≤ n → d < apart y n
farther y t n d h a b = omega arith

below-farther : (n q j : ℕ) → q < 2 ^ 53 → j < dropped n → apart (grid n) n < apart (q * 2 ^ j) n
below-farther n q j Q h =
    farther (q * 2 ^ j) (2 ^ 52 * unit n) n (apart (grid n) n)
    (subst (λ (g : ℕ). apart g n ≤ apart (2 ^ 52 * unit n) n) (sym (grid-is n)) (nearest-multiple n (unit n) (2 ^ 52) (unit-pos n)))
    (below_top n q j Q h) (top_reached n j h)

pub grid-nearest : (n q j : ℕ) → q < 2 ^ 53 → apart (grid n) n ≤ apart (q * 2 ^ j) n
grid-nearest n q j Q = elim (le-or-gt (dropped n) j) [
  | inr h ↦ le_of_lt (below-farther n q j Q h)
  | inl h ↦
      subst (λ (y : ℕ). apart (grid n) n ≤ apart y n) (multiple n q j h)
      (subst (λ (g : ℕ). apart g n ≤ apart (q * 2 ^ (j - dropped n) * unit n) n) (sym (grid-is n)) (nearest-multiple n (unit n) (q * 2 ^ (j - dropped n)) (unit-pos n)))
]

-- a positive number is nearer to the grid than to zero
pub grid-near : (n : ℕ) → 0 < n → apart (grid n) n < n
grid-near n h = near n (apart (grid n) n) h (grid-nearest n 1 0 (lit< tt))
  where
    near : (n d : ℕ) → 0 < n → d ≤ apart (1 * 2 ^ 0) n → d < n
    near n d h k = omega arith

pub grid-even : (n q j : ℕ) → q < 2 ^ 53 → apart (grid n) n ≡ apart (q * 2 ^ j) n → (q * 2 ^ j ≡ grid n → ⊥) → digits n % 2 ≡ 0
grid-even n q j Q s d = elim (le-or-gt (dropped n) j) [
  | inr h ↦ absurd (unlike (apart (grid n) n) (apart (q * 2 ^ j) n) s (below-farther n q j Q h))
  | inl h ↦
      let half : n % unit n * 2 ≡ unit n =
      halfway n (unit n) (q * 2 ^ (j - dropped n)) (unit-pos n)
      (ap (λ (g : ℕ). apart g n) (sym (grid-is n)) ∙ s ∙ ap (λ (y : ℕ). apart y n) (sym (multiple n q j h)))
      (λ p. d (sym (multiple n q j h) ∙ p ∙ sym (grid-is n))) in
      ap (λ (x : ℕ). x % 2) ((closest-picks n (unit n)).same half) ∙ even_sum (n / unit n)
]
  where
    unlike : (a b : ℕ) → a ≡ b → a < b → ⊥
    unlike a b e h = omega arith

-- ---- the flonum that n is rounded to, in units of 2 ^ -1074
abbrev pub scaled : ℕ → ℕ
scaled n = n * 2 ^ 1074

pub few-digits : (n : ℕ) → digits n ≤ 2 ^ 53
few-digits n =
    le_trans (nearest-le (n / unit n) (compare (n % unit n * 2) (unit n))) (subst (λ (x : ℕ). x < 2 ^ 53) (div-div-eq-div-mul n 1 (2 ^ dropped n)) (kept-lt 53 (n / 1)))

pub grid-under : (n : ℕ) → n < 2 ^ 64 → grid (scaled n) < 2 ^ (1074 + 1024)
grid-under n h =
    let k-le : dropped (scaled n) ≤ 1085 = spare (size (scaled n / 1)) (size-le (scaled n / 1) 1138 (subst (λ (x : ℕ). x < 2 ^ 1138) (sym (div-one (scaled n))) (shl_lt 64 1074 h))) in
    lt_of_le_of_lt (mul-le-mul (few-digits (scaled n)) (pow_mono k-le)) (subst (λ (x : ℕ). x < 2 ^ (1074 + 1024)) (pow-add 2 53 1085) (pow-lt {i = 53 + 1085} {j = 1074 + 1024} (lit< tt)))
  where
    spare : (z : ℕ) → z ≤ 1138 → z - 53 ≤ 1085
    spare z h = omega arith

pub round-value : (s : Bool) (n : ℕ) → n < 2 ^ 64 → HasValue (round binary64 s n 1) s (grid (scaled n)) (2 ^ 1074)
round-value s n h =
    subst (λ (x : Float). HasValue x s (grid (scaled n)) (2 ^ 1074)) (sym (round_is binary64 s n 1)) (units_val binary64 s (digits (scaled n)) (dropped (scaled n)) (grid-under n h))
