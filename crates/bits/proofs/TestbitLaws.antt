-- Laws of the bits of an integer: what each builder's bits are, and that equal bits make equal integers. Assumes nothing.
use mathlib.Core.Path.{◌≡◌, refl, sym, ◌∙◌, ap, subst}
use mathlib.Core.Logic.{◌≢◌}
use mathlib.Core.Bool.{Bool, true, false, not, cond, ◌&&◌, true≢false}
use Prim.Native.Nat.{ℕ, zero, suc, ◌+◌, ◌*◌, ◌-◌, ◌/◌, ◌%◌, ◌^◌, ◌≤◌, ◌<◌}
use native.Mathlib.Nat.{pow-suc, pow-succ', div-div-eq-div-mul, div-one, div-eq_of_lt, le_refl, lt_of_lt_of_le}
use native.Mathlib.Omega.{arith}
use lib.Arith.{half_le, digits_div}
use lib.Dec.{eqb, ltb}
use lib.Pow.{pow_mono, pow_pos, shr-shr}
use lib.IntN.{ℤ, pos, negsuc}
use lib.Signed.{mag}
use borrow.Author.Tests.{ltb-true, ltb-false, eqb-true, eqb-false, ne_eqb}
use Rattle.bits.specs.Testbit.{odd, is_negative, testbit, halvings, bit_length, fill, cons_bit, of_bits}
use Rattle.bits.specs.Shift.{floor_div, shift_right}

-- ---- one bit at a time

-- halving once more is dividing by the next power
pub half_pow : (n i : ℕ) → n / 2 ^ suc i ≡ n / 2 / 2 ^ i
half_pow n i = ap (λ (d : ℕ). n / d) (pow-succ' 2 i) ∙ sym (div-div-eq-div-mul n 2 (2 ^ i))

pub testbit-half : (x : ℤ) (i : ℕ) → testbit x (suc i) ≡ testbit (floor_div x 2) i
unfolding testbit floor_div
testbit-half (pos n) i = ap odd (half_pow n i)
testbit-half (negsuc n) i = ap (λ (m : ℕ). not (odd m)) (half_pow n i)

odd-cons : (n : ℕ) (b : Bool) → odd (n * 2 + cond b 1 0) ≡ b
unfolding odd
odd-cons n true = let e : (n * 2 + 1) % 2 ≡ 1 = omega arith in ap (λ (m : ℕ). eqb m 1) e
odd-cons n false = let e : (n * 2 + 0) % 2 ≡ 0 = omega arith in ap (λ (m : ℕ). eqb m 1) e

odd-cons-not : (n : ℕ) (b : Bool) → not (odd (n * 2 + cond b 0 1)) ≡ b
odd-cons-not n true = ap not (odd-cons n false)
odd-cons-not n false = ap not (odd-cons n true)

pub testbit-cons_bit-zero : (b : Bool) (x : ℤ) → testbit (cons_bit b x) 0 ≡ b
unfolding testbit cons_bit
testbit-cons_bit-zero b (pos n) = ap odd (div-one (n * 2 + cond b 1 0)) ∙ odd-cons n b
testbit-cons_bit-zero b (negsuc n) = ap (λ (m : ℕ). not (odd m)) (div-one (n * 2 + cond b 0 1)) ∙ odd-cons-not n b

pub cond-lt : (b : Bool) (c d : ℕ) → c < 2 → d < 2 → cond b c d < 2
cond-lt true c d h k = h
cond-lt false c d h k = k

half-cons_bit : (b : Bool) (x : ℤ) → floor_div (cons_bit b x) 2 ≡ x
unfolding floor_div cons_bit
half-cons_bit b (pos n) = ap pos (digits_div n (cond-lt b 1 0 (omega arith) (omega arith)))
half-cons_bit b (negsuc n) = ap negsuc (digits_div n (cond-lt b 0 1 (omega arith) (omega arith)))

pub testbit-cons_bit-suc : (b : Bool) (x : ℤ) (i : ℕ) → testbit (cons_bit b x) (suc i) ≡ testbit x i
testbit-cons_bit-suc b x i = testbit-half (cons_bit b x) i ∙ ap (λ (y : ℤ). testbit y i) (half-cons_bit b x)

pub is_negative-cons_bit : (b : Bool) (x : ℤ) → is_negative (cons_bit b x) ≡ is_negative x
unfolding is_negative cons_bit
is_negative-cons_bit b (pos n) = refl
is_negative-cons_bit b (negsuc n) = refl

-- ---- fill and of_bits

pub testbit-fill : (b : Bool) (i : ℕ) → testbit (fill b) i ≡ b
unfolding testbit fill odd
testbit-fill true i = ap (λ (m : ℕ). not (odd m)) (div-eq_of_lt (pow_pos i))
testbit-fill false i = ap odd (div-eq_of_lt (pow_pos i))

pub testbit-zero : (i : ℕ) → testbit (pos 0) i ≡ false
unfolding fill
testbit-zero i = testbit-fill false i

pub is_negative-fill : (b : Bool) → is_negative (fill b) ≡ b
unfolding is_negative fill
is_negative-fill true = refl
is_negative-fill false = refl

pub testbit-of_bits-lt : (k : ℕ) (f : ℕ → Bool) (t : ℤ) (i : ℕ) → i < k → testbit (of_bits k f t) i ≡ f i
unfolding of_bits
testbit-of_bits-lt zero f t i h = absurd (omega arith)
testbit-of_bits-lt (suc k) f t zero h = testbit-cons_bit-zero (f 0) (of_bits k (λ i. f (suc i)) t)
testbit-of_bits-lt (suc k) f t (suc i) h =
    testbit-cons_bit-suc (f 0) (of_bits k (λ i. f (suc i)) t) i ∙ testbit-of_bits-lt k (λ i. f (suc i)) t i (omega arith)

pub testbit-of_bits-ge : (k : ℕ) (f : ℕ → Bool) (t : ℤ) (i : ℕ) → k ≤ i → testbit (of_bits k f t) i ≡ testbit t (i - k)
unfolding of_bits
testbit-of_bits-ge zero f t i h = let e : i ≡ i - 0 = omega arith in ap (λ (m : ℕ). testbit t m) e
testbit-of_bits-ge (suc k) f t zero h = absurd (omega arith)
testbit-of_bits-ge (suc k) f t (suc i) h =
    testbit-cons_bit-suc (f 0) (of_bits k (λ i. f (suc i)) t) i
    ∙ testbit-of_bits-ge k (λ i. f (suc i)) t i (omega arith)
    ∙ (let e : i - k ≡ suc i - suc k = omega arith in ap (λ (m : ℕ). testbit t m) e)

-- a choice by the test i < k, decided
pub by-lt : (P : Bool → Type 0) (i k : ℕ) → (i < k → P true) → (k ≤ i → P false) → P (ltb i k)
by-lt P i k f g = go (ltb i k) refl
  where
    go : (b : Bool) → ltb i k ≡ b → P b
    go true e = f (ltb-true i k e)
    go false e = g (ltb-false i k e)

pub testbit-of_bits : (k : ℕ) (f : ℕ → Bool) (t : ℤ) (i : ℕ) → testbit (of_bits k f t) i ≡ cond (ltb i k) (f i) (testbit t (i - k))
testbit-of_bits k f t i =
    by-lt (λ b. testbit (of_bits k f t) i ≡ cond b (f i) (testbit t (i - k))) i k (testbit-of_bits-lt k f t i) (testbit-of_bits-ge k f t i)

-- nothing above the given bits
pub testbit-of_bits-zero : (k : ℕ) (f : ℕ → Bool) (i : ℕ) → testbit (of_bits k f (pos 0)) i ≡ ltb i k && f i
testbit-of_bits-zero k f i = testbit-of_bits k f (pos 0) i ∙ pick (ltb i k)
  where
    pick : (b : Bool) → cond b (f i) (testbit (pos 0) (i - k)) ≡ b && f i
    pick true = refl
    pick false = testbit-zero (i - k)

pub is_negative-of_bits : (k : ℕ) (f : ℕ → Bool) (t : ℤ) → is_negative (of_bits k f t) ≡ is_negative t
unfolding of_bits
is_negative-of_bits zero f t = refl
is_negative-of_bits (suc k) f t =
    is_negative-cons_bit (f 0) (of_bits k (λ i. f (suc i)) t) ∙ is_negative-of_bits k (λ i. f (suc i)) t

-- ---- the length: from there on every bit is the sign

pub halvings-zero : (k : ℕ) → halvings k 0 ≡ 0
unfolding halvings
halvings-zero zero = refl
halvings-zero (suc k) = refl

pub halvings-suc : (k n : ℕ) → 0 < n → halvings (suc k) n ≡ suc (halvings k (n / 2))
unfolding halvings
halvings-suc k n h =
    subst (λ (b : Bool). elim b as (λ c. ℕ) [ true ↦ zero | false ↦ suc (halvings k (n / 2)) ] ≡ suc (halvings k (n / 2)))
    (sym (ne_eqb n 0 (λ e. omega arith))) refl

lt-pow-halvings : (k n : ℕ) → n ≤ k → n < 2 ^ halvings k n
lt-pow-halvings zero n h = let z : n ≡ 0 = omega arith in rw z (rw halvings-zero (omega arith))
lt-pow-halvings (suc k) zero h = rw halvings-zero (omega arith)
lt-pow-halvings (suc k) (suc n) h =
    rw (halvings-suc k (suc n) (omega arith))
    (omega (arith, pow-suc 2 (halvings k (suc n / 2)), lt-pow-halvings k (suc n / 2) (half_le h)))

pub mag-lt-bit_length : (x : ℤ) → mag x < 2 ^ bit_length x
unfolding bit_length
mag-lt-bit_length x = lt-pow-halvings (mag x) (mag x) (le_refl (mag x))

pub testbit-mag-lt : (x : ℤ) (i : ℕ) → mag x < 2 ^ i → testbit x i ≡ is_negative x
unfolding testbit is_negative odd
testbit-mag-lt (pos n) i h = ap odd (div-eq_of_lt h)
testbit-mag-lt (negsuc n) i h = ap (λ (m : ℕ). not (odd m)) (div-eq_of_lt h)

-- a natural number: its binary digits, and none of them beyond its size
pub testbit-digit : (n i : ℕ) → testbit (pos n) i ≡ eqb (n / 2 ^ i % 2) 1
unfolding testbit odd
testbit-digit n i = refl

pub testbit-small : (n k i : ℕ) → n < 2 ^ k → k ≤ i → testbit (pos n) i ≡ false
unfolding is_negative
testbit-small n k i h l = testbit-mag-lt (pos n) i (lt_of_lt_of_le h (pow_mono l))

pub testbit-above : (x : ℤ) (i : ℕ) → bit_length x ≤ i → testbit x i ≡ is_negative x
testbit-above x i h = testbit-mag-lt x i (lt_of_lt_of_le (mag-lt-bit_length x) (pow_mono h))

-- ---- equal bits, equal integers

odd-one : (n : ℕ) → odd n ≡ true → n % 2 ≡ 1
unfolding odd
odd-one n = eqb-true (n % 2) 1

odd-zero : (n : ℕ) → odd n ≡ false → n % 2 ≡ 0
unfolding odd
odd-zero n e = let ne : n % 2 ≢ 1 = eqb-false (n % 2) 1 e in omega arith

odd-half : (m n : ℕ) → odd m ≡ odd n → m / 2 ≡ n / 2 → m ≡ n
odd-half m n e h = go (odd m) (odd n) refl refl e
  where
    go : (a b : Bool) → odd m ≡ a → odd n ≡ b → a ≡ b → m ≡ n
    go true true p q r = omega (arith, odd-one m p, odd-one n q)
    go true false p q r = absurd (true≢false r)
    go false true p q r = absurd (true≢false (sym r))
    go false false p q r = omega (arith, odd-zero m p, odd-zero n q)

-- the first argument bounds both numbers
ext-ℕ : (k m n : ℕ) → m ≤ k → n ≤ k → ((i : ℕ) → odd (m / 2 ^ i) ≡ odd (n / 2 ^ i)) → m ≡ n
ext-ℕ zero m n h l e = omega arith
ext-ℕ (suc k) m n h l e =
    odd-half m n (ap odd (sym (div-one m)) ∙ e 0 ∙ ap odd (div-one n))
    (ext-ℕ k (m / 2) (n / 2) (half_le h) (half_le l)
    (λ i. ap odd (sym (half_pow m i)) ∙ e (suc i) ∙ ap odd (half_pow n i)))

not_inj : (a b : Bool) → not a ≡ not b → a ≡ b
not_inj true true e = refl
not_inj true false e = sym e
not_inj false true e = sym e
not_inj false false e = refl

-- far enough up, the bits are the signs
signs : (x y : ℤ) → ((i : ℕ) → testbit x i ≡ testbit y i) → is_negative x ≡ is_negative y
signs x y e =
    sym (testbit-above x (bit_length x + bit_length y) (omega arith))
    ∙ e (bit_length x + bit_length y)
    ∙ testbit-above y (bit_length x + bit_length y) (omega arith)

pub testbit-ext : {x y : ℤ} → ((i : ℕ) → testbit x i ≡ testbit y i) → x ≡ y
unfolding testbit is_negative
testbit-ext {x = pos m} {y = pos n} e = ap pos (ext-ℕ (m + n) m n (omega arith) (omega arith) e)
testbit-ext {x = pos m} {y = negsuc n} e = absurd (true≢false (sym (signs (pos m) (negsuc n) e)))
testbit-ext {x = negsuc m} {y = pos n} e = absurd (true≢false (signs (negsuc m) (pos n) e))
testbit-ext {x = negsuc m} {y = negsuc n} e =
    ap negsuc (ext-ℕ (m + n) m n (omega arith) (omega arith) (λ i. not_inj (odd (m / 2 ^ i)) (odd (n / 2 ^ i)) (e i)))

-- ---- an integer is its bits below k and what a right shift by k leaves

pub testbit-shift_right : (x : ℤ) (k i : ℕ) → testbit (shift_right x k) i ≡ testbit x (k + i)
unfolding testbit shift_right floor_div
testbit-shift_right (pos n) k i = ap odd (shr-shr n k i)
testbit-shift_right (negsuc n) k i = ap (λ (m : ℕ). not (odd m)) (shr-shr n k i)

pub is_negative-shift_right : (x : ℤ) (k : ℕ) → is_negative (shift_right x k) ≡ is_negative x
unfolding is_negative shift_right floor_div
is_negative-shift_right (pos n) k = refl
is_negative-shift_right (negsuc n) k = refl

-- bits given below k, and those of x from k on
pub testbit-of_bits-shift_right : (k : ℕ) (f : ℕ → Bool) (x : ℤ) (i : ℕ)
    → testbit (of_bits k f (shift_right x k)) i ≡ cond (ltb i k) (f i) (testbit x i)
testbit-of_bits-shift_right k f x i =
    by-lt (λ b. testbit (of_bits k f (shift_right x k)) i ≡ cond b (f i) (testbit x i)) i k (testbit-of_bits-lt k f (shift_right x k) i)
    (λ h. testbit-of_bits-ge k f (shift_right x k) i h
    ∙ testbit-shift_right x k (i - k)
    ∙ (let e : k + (i - k) ≡ i = omega arith in ap (λ (m : ℕ). testbit x m) e))

pub of_bits-testbit : (k : ℕ) (x : ℤ) → of_bits k (λ i. testbit x i) (shift_right x k) ≡ x
of_bits-testbit k x = testbit-ext (λ i. testbit-of_bits-shift_right k (λ i. testbit x i) x i ∙ cond_same (ltb i k) (testbit x i))
  where
    cond_same : (b a : Bool) → cond b a a ≡ a
    cond_same true a = refl
    cond_same false a = refl
