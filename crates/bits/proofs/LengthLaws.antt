-- Laws of the length: it is the least k with mag x below 2^k, and a number fits w bits exactly when its length is below w. Assumes nothing.
use mathlib.Core.Path.{◌≡◌, refl, sym, ◌∙◌, ap}
use mathlib.Core.Logic.{◌↔◌}
use mathlib.Core.Bool.{not, not-eq-not}
use Prim.Native.Nat.{ℕ, zero, suc, ◌-◌, ◌/◌, ◌^◌, ◌≤◌, ◌<◌}
use native.Mathlib.Nat.{pow-suc, le_antisymm, lt_of_lt_of_le, div-eq_of_lt-le}
use native.Mathlib.Omega.{arith}
use lib.Dec.{T, ltb, ltb→lt, lt→ltb, leb-suc-suc}
use lib.Pow.{pow_mono, pow_pos}
use lib.IntN.{ℤ, pos, negsuc, neg_ℤ}
use lib.Signed.{mag, ◌≤ℤ◌, ◌<ℤ◌}
use Rattle.bits.specs.Testbit.{odd, is_negative, testbit, halvings, bit_length, fits}
use Rattle.bits.specs.Logical.{bitwise_not}
use Rattle.bits.proofs.TestbitLaws.{halvings-zero, halvings-suc, mag-lt-bit_length, testbit-above}

-- ---- the length

halvings-le : (k n j : ℕ) → n < 2 ^ j → halvings k n ≤ j
unfolding halvings
halvings-le zero n j h = omega arith
halvings-le (suc k) zero j h = rw halvings-zero (omega arith)
halvings-le (suc k) (suc n) zero h = absurd (omega arith)
halvings-le (suc k) (suc n) (suc j) h =
    rw (halvings-suc k (suc n) (omega arith)) (omega (arith, halvings-le k (suc n / 2) j (omega (arith, pow-suc 2 j))))

-- with `mag-lt-bit_length`: the length is the least k with mag x < 2^k
pub bit_length-le : (x : ℤ) (k : ℕ) → mag x < 2 ^ k → bit_length x ≤ k
unfolding bit_length
bit_length-le x k h = halvings-le (mag x) (mag x) k h

pub mag-lt : (x : ℤ) (k : ℕ) → bit_length x ≤ k → mag x < 2 ^ k
mag-lt x k h = lt_of_lt_of_le (mag-lt-bit_length x) (pow_mono h)

pub bit_length-unique : (x : ℤ) (k : ℕ) → mag x < 2 ^ k → ((j : ℕ) → mag x < 2 ^ j → k ≤ j) → bit_length x ≡ k
bit_length-unique x k h least = le_antisymm (bit_length-le x k h) (least (bit_length x) (mag-lt-bit_length x))

-- for x that is neither 0 nor -1
pub bit_length-bounds : (x : ℤ) → 0 < mag x → (2 ^ (bit_length x - 1) ≤ mag x) × (mag x < 2 ^ bit_length x)
bit_length-bounds x h = (omega (arith, low), mag-lt-bit_length x)
  where
    low : ¬ (mag x < 2 ^ (bit_length x - 1))
    low l = let z : bit_length x ≤ 0 = omega (arith, bit_length-le x (bit_length x - 1) l) in omega (arith, mag-lt x 0 z)

top_one : (x : ℤ) → 0 < bit_length x → mag x / 2 ^ (bit_length x - 1) ≡ 1
top_one x h =
    let nonzero : ¬ (mag x < 1) = (λ l. omega (arith, bit_length-le x 0 l)) in
    let (low, high) = bit_length-bounds x (omega arith) in
    let e : bit_length x ≡ suc (bit_length x - 1) = omega arith in
    div-eq_of_lt-le (2 ^ (bit_length x - 1)) (omega arith) (omega (arith, ap (λ (k : ℕ). 2 ^ k) e, pow-suc 2 (bit_length x - 1)))

-- the highest bit below the length is not the sign
pub testbit-top : (x : ℤ) → 0 < bit_length x → testbit x (bit_length x - 1) ≡ not (is_negative x)
unfolding testbit is_negative odd
testbit-top (pos n) h = ap odd (top_one (pos n) h)
testbit-top (negsuc n) h = ap (λ (m : ℕ). not (odd m)) (top_one (negsuc n) h)

pub bit_length-not : (x : ℤ) → bit_length (bitwise_not x) ≡ bit_length x
unfolding bit_length bitwise_not
bit_length-not (pos n) = refl
bit_length-not (negsuc n) = refl

-- with `testbit-above`: the bits from k on are the sign exactly when the length is at most k
pub bit_length-least-bits : (x : ℤ) (k : ℕ) → ((i : ℕ) → k ≤ i → testbit x i ≡ is_negative x) → bit_length x ≤ k
bit_length-least-bits x k e = omega (arith, longer)
  where
    longer : ¬ (k < bit_length x)
    longer h = not-eq-not.1 refl (sym (e (bit_length x - 1) (omega arith)) ∙ testbit-top x (omega arith))

-- ---- the range of a width

pub fits-length : (w : ℕ) (x : ℤ) → 0 < w → T (fits w x) ↔ (bit_length x < w)
unfolding fits
fits-length w x h = (
  λ t. omega (arith, bit_length-le x (w - 1) (ltb→lt (mag x) (2 ^ (w - 1)) t)),
  λ l. lt→ltb (mag x) (2 ^ (w - 1)) (mag-lt x (w - 1) (omega arith)),
)

-- a number fits w exactly when its bits from w - 1 on are its sign
pub fits_bits : (w : ℕ) (x : ℤ) → 0 < w → T (fits w x) ↔ ((i : ℕ) → w - 1 ≤ i → testbit x i ≡ is_negative x)
fits_bits w x h = (
  λ t i l. testbit-above x i (omega (arith, (fits-length w x h).0 t)),
  λ e. (fits-length w x h).1 (omega (arith, bit_length-least-bits x (w - 1) e)),
)

-- `mag x` is below m exactly when -m <= x < m
in-range : (m : ℕ) (x : ℤ) → 0 < m → T (ltb (mag x) m) ↔ ((neg_ℤ (pos m) ≤ℤ x) × (x <ℤ pos m))
in-range zero x h = absurd (omega arith)
in-range (suc m) (pos n) h = (λ t. (record { le = tt }, record { lt = t }), λ r. r.1.lt)
in-range (suc m) (negsuc n) h = (λ t. (record { le = rw leb-suc-suc at t }, record { lt = tt }), λ r. rw leb-suc-suc r.0.le)

pub fits-range : (w : ℕ) (x : ℤ) → T (fits w x) ↔ ((neg_ℤ (pos (2 ^ (w - 1))) ≤ℤ x) × (x <ℤ pos (2 ^ (w - 1))))
unfolding fits
fits-range w x = in-range (2 ^ (w - 1)) x (pow_pos (w - 1))

pub fits-mono : (w v : ℕ) (x : ℤ) → w ≤ v → T (fits w x) → T (fits v x)
unfolding fits
fits-mono w v x h t = lt→ltb (mag x) (2 ^ (v - 1)) (lt_of_lt_of_le (ltb→lt (mag x) (2 ^ (w - 1)) t) (pow_mono (omega arith)))

pub fits_not : (w : ℕ) (x : ℤ) → fits w (bitwise_not x) ≡ fits w x
unfolding fits bitwise_not
fits_not w (pos n) = refl
fits_not w (negsuc n) = refl
