-- The machine's counts of binary digits are the counts of an integer's bits. Assumes nothing.
use mathlib.Core.Path.{◌≡◌, refl, sym, ◌∙◌, ap}
use mathlib.Core.Bool.{Bool, true, false, cond, not}
use Prim.Native.Nat.{ℕ, zero, suc, ◌+◌, ◌*◌, ◌-◌, ◌/◌, ◌%◌, ◌^◌, ◌≤◌, ◌<◌}
use native.Mathlib.Nat.{pow-suc, le_refl}
use native.Mathlib.Omega.{arith}
use lib.Count as digits
use lib.Count.{ones_step, ones-le, leading_length, under}
use lib.IntN.{ℤ, pos, negsuc, nat_abs}
use lib.Pow.{pow_mono}
use lib.Signed.{mag}
use Rattle.bits.specs.Testbit.{is_negative, testbit, bit_length}
use Rattle.words.specs.Sign.{of_magnitude}
use Rattle.bits.specs.Logical.{bitwise_not}
use Rattle.bits.specs.Shift.{floor_div}
use Rattle.bits.specs.Count.{ones_below, ones, bit_count, first_bit_set}
use Rattle.bits.proofs.TestbitLaws.{testbit-half, mag-lt-bit_length}
use Rattle.bits.proofs.CountLaws.{ones_below-split, ones_below-ext, ones-ones_below, first_bit_set-unique}
use Rattle.bits.proofs.LengthLaws.{bit_length-unique}
use Rattle.words.proofs.Digitwise.{digit-testbit}

-- ---- the ones

-- bit 0 is the lowest digit, and the others are those of the half
ones_below-suc : (k n : ℕ) → ones_below (suc k) (λ i. testbit (pos n) i) ≡ n % 2 + ones_below k (λ i. testbit (pos (n / 2)) i)
unfolding ones_below floor_div
ones_below-suc k n =
    let e : 1 + k ≡ suc k = omega arith in
    let next : (i : ℕ) → 1 + i ≡ suc i = (λ i. omega arith) in
    omega (
      arith,
      ap (λ (m : ℕ). ones_below m (λ i. testbit (pos n) i)) e,
      ones_below-split 1 k (λ i. testbit (pos n) i),
      ones_below-ext k (λ i. testbit (pos n) (1 + i)) (λ i. testbit (pos (n / 2)) i)
          (λ i h. ap (λ (m : ℕ). testbit (pos n) m) (next i) ∙ testbit-half (pos n) i),
      digit-testbit n,
    )

digits-ones_below : (k n : ℕ) → n < 2 ^ k → digits.ones n ≡ ones_below k (λ i. testbit (pos n) i)
unfolding ones_below
digits-ones_below zero n h = omega (arith, ones-le 0 n h)
digits-ones_below (suc k) n h =
    omega (arith, ones_step n, digits-ones_below k (n / 2) (omega (arith, pow-suc 2 k)), ones_below-suc k n)

pub count_ones : (n : ℕ) → digits.ones n ≡ ones n
count_ones n =
    digits-ones_below (bit_length (pos n)) n (mag-lt-bit_length (pos n)) ∙ sym (ones-ones_below n (bit_length (pos n)) (le_refl (bit_length (pos n))))

-- the count is that of the magnitude, under the sign
pub bit_count-mag : (x : ℤ) → of_magnitude (is_negative x) (ones (mag x)) ≡ bit_count x
unfolding bit_count of_magnitude is_negative bitwise_not
bit_count-mag (pos n) = refl
bit_count-mag (negsuc n) = refl

pub count-bit_count : (x : ℤ) → of_magnitude (is_negative x) (digits.ones (mag x)) ≡ bit_count x
count-bit_count x = ap (of_magnitude (is_negative x)) (count_ones (mag x)) ∙ bit_count-mag x

-- ---- the length

pub leading-bit_length : (x : ℤ) (k : ℕ) → mag x < 2 ^ k → k - digits.count_leading_zeros k (mag x) ≡ bit_length x
leading-bit_length x k h = go (leading_length k (mag x) h)
  where
    go : (m : ℕ) × (digits.count_leading_zeros k (mag x) + m ≡ k) × (mag x < 2 ^ m) × (2 ^ m ≤ 2 * mag x + 1)
        → k - digits.count_leading_zeros k (mag x) ≡ bit_length x
    go (m, e, lt, le) = omega (arith, e, bit_length-unique x m lt least)
      where
        least : (j : ℕ) → mag x < 2 ^ j → m ≤ j
        least j l = omega (arith, shorter)
          where
            shorter : ¬ (j < m)
            shorter g = omega (arith, pow_mono g, pow-suc 2 j)

-- ---- the lowest one

-- bit i is the lowest one of x
record Lowest (x : ℤ) (i : ℕ) : Type 0 where
  one : testbit x i ≡ true
  none : (j : ℕ) → j < i → testbit x j ≡ false

-- x and its absolute value are both odd or both even
digit-nat_abs : (x : ℤ) → nat_abs x % 2 ≡ cond (testbit x 0) 1 0
unfolding testbit
digit-nat_abs (pos n) = digit-testbit n
digit-nat_abs (negsuc n) = go (testbit (pos n) 0) (digit-testbit n)
  where
    go : (b : Bool) → n % 2 ≡ cond b 1 0 → suc n % 2 ≡ cond (not b) 1 0
    go true e = omega arith
    go false e = omega arith

-- half of an even number
nat_abs-half : (x : ℤ) → nat_abs x % 2 ≡ 0 → nat_abs (floor_div x 2) ≡ nat_abs x / 2
unfolding floor_div
nat_abs-half (pos n) h = refl
nat_abs-half (negsuc n) h = omega arith

-- the lowest one of an even number
later : {x : ℤ} {i : ℕ} → testbit x 0 ≡ false → Lowest (floor_div x 2) i → Lowest x (suc i)
later {x} {i} e l = record { one = testbit-half x i ∙ l.one; none = below }
  where
    below : (j : ℕ) → j < suc i → testbit x j ≡ false
    below zero h = e
    below (suc j) h = testbit-half x j ∙ l.none j (omega arith)

lowest : (k : ℕ) (x : ℤ) → 0 < nat_abs x → nat_abs x < 2 ^ k → Lowest x (digits.count_trailing_zeros k (nat_abs x))
unfolding digits.count_trailing_zeros
lowest zero x p h = absurd (omega arith)
lowest (suc k) x p h = go (testbit x 0) refl (digit-nat_abs x) (lowest k (floor_div x 2))
  where
    go : (b : Bool) → testbit x 0 ≡ b → nat_abs x % 2 ≡ cond b 1 0
        → (0 < nat_abs (floor_div x 2) → nat_abs (floor_div x 2) < 2 ^ k → Lowest (floor_div x 2) (digits.count_trailing_zeros k (nat_abs (floor_div x 2))))
        → Lowest x (under (nat_abs x % 2) (digits.count_trailing_zeros k (nat_abs x / 2)))
    go true e d half = rw d (record { one = e; none = λ j l. absurd (omega arith) })
    go false e d half = rw (d, sym (nat_abs-half x d)) (later e (half (omega (arith, nat_abs-half x d)) (omega (arith, nat_abs-half x d, pow-suc 2 k))))

pub trailing-first_bit_set : (x : ℤ) (k : ℕ) → 0 < nat_abs x → nat_abs x < 2 ^ k → first_bit_set x ≡ pos (digits.count_trailing_zeros k (nat_abs x))
trailing-first_bit_set x k p h = let l = lowest k x p h in first_bit_set-unique x _ l.one l.none

pub none-first_bit_set : (x : ℤ) → nat_abs x ≡ 0 → negsuc 0 ≡ first_bit_set x
unfolding first_bit_set
none-first_bit_set (pos zero) h = refl
none-first_bit_set (pos (suc n)) h = absurd (omega arith)
none-first_bit_set (negsuc n) h = absurd (omega arith)
