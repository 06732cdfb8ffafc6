-- A field replaced in a sign and a magnitude, where the magnitude is a natural number of three digits: above the field, the field, below
-- it. And the highest bit of a width replaced. Assumes nothing.
use mathlib.Core.Path.{◌≡◌, refl, sym, ◌∙◌, ap, subst}
use mathlib.Core.Bool.{Bool, true, false, not, cond, ◌&&◌}
use Prim.Native.Nat.{ℕ, suc, ◌+◌, ◌*◌, ◌-◌, ◌/◌, ◌%◌, ◌^◌, ◌≤◌, ◌<◌}
use native.Mathlib.Nat.{mod-lt}
use native.Mathlib.Omega.{arith}
use lib.Arith.{digits_lt}
use lib.Dec.{ltb, eqb}
use lib.Pow.{pow_pos, pow-add, low, high}
use lib.IntN.{ℤ, pos, negsuc}
use lib.Signed.{mag}
use borrow.Author.Tests.{lt-ltb, eq-eqb, ne_eqb}
use Rattle.bits.proofs.ShiftLaws.{testbit-shift_left}
use Rattle.bits.specs.Testbit.{odd, testbit, fill, of_bits}
use Rattle.words.specs.Sign.{of_magnitude}
use Rattle.bits.specs.Logical.{bitwise_not}
use Rattle.bits.specs.Shift.{floor_div, shift_right, shift_left}
use Rattle.bits.specs.Division.{mod_ℕ, mod0}
use Rattle.bits.specs.Field.{in_field, copy_bit_field, copy_bit}
use Rattle.bits.proofs.FitsLaws.{holds, mag-fits}
use Rattle.bits.proofs.Booleans.{all₂}
use Rattle.bits.proofs.TestbitLaws.{by-lt, testbit-ext, testbit-fill, testbit-of_bits, testbit-shift_right}
use Rattle.bits.proofs.LogicalLaws.{testbit-not}
use Rattle.bits.proofs.ModLaws.{mod_ℕ-lt, mod_ℕ-small}
use Rattle.bits.proofs.ValueLaws.{of_bits-mod_ℕ, testbit-mod_ℕ-pow, testbit-mod0-pow, mod0-pow-same}
use Rattle.bits.proofs.FieldLaws.{in_field-true, in_field-lt, in_field-ge, testbit-copy_bit_field, testbit-copy_bit}
use Rattle.bits.proofs.LengthBounds.{set_field-lt}
use Rattle.bits.proofs.FieldAlgebra.{set_field-ext, copy_bit_field-not}

-- ---- bits of remainders, quotients and two digits

pub testbit-mod_ℕ-lt : (x : ℤ) (k i : ℕ) → i < k → testbit (pos (mod_ℕ x (2 ^ k))) i ≡ testbit x i
testbit-mod_ℕ-lt x k i h = testbit-mod_ℕ-pow x k i ∙ ap (λ (b : Bool). b && testbit x i) (lt-ltb i k h)

pub testbit-mod-lt : (n k i : ℕ) → i < k → testbit (pos (n % 2 ^ k)) i ≡ testbit (pos n) i
unfolding mod_ℕ
testbit-mod-lt n = testbit-mod_ℕ-lt (pos n)

pub testbit-div : (n k i : ℕ) → testbit (pos (n / 2 ^ k)) i ≡ testbit (pos n) (k + i)
unfolding shift_right floor_div
testbit-div n = testbit-shift_right (pos n)

pub testbit-times : (n k i : ℕ) → testbit (pos (n * 2 ^ k)) i ≡ not (ltb i k) && testbit (pos n) (i - k)
unfolding shift_left
testbit-times n = testbit-shift_left (pos n)

-- counted from bit 0 of n
pub testbit-div-ge : (n k i : ℕ) → k ≤ i → testbit (pos (n / 2 ^ k)) (i - k) ≡ testbit (pos n) i
testbit-div-ge n k i h =
    testbit-div n k (i - k) ∙ (let e : k + (i - k) ≡ i = omega arith in ap (λ (j : ℕ). testbit (pos n) j) e)

-- the digit a to the base 2^k, and the digit b below it
pub testbit-digits : (a b k i : ℕ) → b < 2 ^ k
    → testbit (pos (a * 2 ^ k + b)) i ≡ cond (ltb i k) (testbit (pos b) i) (testbit (pos a) (i - k))
testbit-digits a b k i h =
    by-lt (λ t. testbit (pos (a * 2 ^ k + b)) i ≡ cond t (testbit (pos b) i) (testbit (pos a) (i - k))) i k
    (λ l. sym (testbit-mod-lt (a * 2 ^ k + b) k i l) ∙ ap (λ (n : ℕ). testbit (pos n) i) (low a k h))
    (λ l. sym (testbit-div-ge (a * 2 ^ k + b) k i l) ∙ ap (λ (n : ℕ). testbit (pos n) (i - k)) (high a k h))

-- ---- a field replaced

-- only the low bits of the source count
pub copy_bit_field-low : (x : ℤ) (start end : ℕ) (y : ℤ) → copy_bit_field x start end y ≡ copy_bit_field x start end (pos (mod_ℕ y (2 ^ (end - start))))
unfolding copy_bit_field
copy_bit_field-low x start end y =
    set_field-ext x x start end (λ j. testbit y j) (λ j. testbit (pos (mod_ℕ y (2 ^ (end - start)))) j) (λ i o. refl)
    (λ j h. sym (testbit-mod_ℕ-lt y (end - start) j h))

pub copy_bit_field-put : (x : ℤ) (start end : ℕ) (y : ℤ) {v : ℕ} → v ≡ mod_ℕ y (2 ^ (end - start))
    → copy_bit_field x start end (pos v) ≡ copy_bit_field x start end y
copy_bit_field-put x start end y p = ap (λ (n : ℕ). copy_bit_field x start end (pos n)) p ∙ sym (copy_bit_field-low x start end y)

-- the digits v and r, below 2^end
pub digits-lt-pow : (start end v r : ℕ) → start ≤ end → v < 2 ^ (end - start) → r < 2 ^ start → v * 2 ^ start + r < 2 ^ end
digits-lt-pow start end v r h l k =
    subst (λ (n : ℕ). v * 2 ^ start + r < n)
    (sym (pow-add 2 (end - start) start) ∙ (let e : end - start + start ≡ end = omega arith in ap (λ (n : ℕ). 2 ^ n) e))
    (digits_lt l k)

copy_bit_field-digits : (m start end v : ℕ) → start ≤ end → v < 2 ^ (end - start)
    → pos (m / 2 ^ end * 2 ^ end + (v * 2 ^ start + m % 2 ^ start)) ≡ copy_bit_field (pos m) start end (pos v)
copy_bit_field-digits m start end v h l = testbit-ext λ i.
    testbit-digits (m / 2 ^ end) (v * 2 ^ start + m % 2 ^ start) end i (digits-lt-pow start end v (m % 2 ^ start) h l (mod-lt m (pow_pos start)))
    ∙ by-lt
    (λ b. cond b (testbit (pos (v * 2 ^ start + m % 2 ^ start)) i) (testbit (pos (m / 2 ^ end)) (i - end))
    ≡ cond (in_field start end i) (testbit (pos v) (i - start)) (testbit (pos m) i))
    i end
    (λ u. testbit-digits v (m % 2 ^ start) start i (mod-lt m (pow_pos start)) ∙ below i u)
    (λ u. testbit-div-ge m end i u ∙ sym (pick i (in_field-ge start end i u)))
    ∙ sym (testbit-copy_bit_field (pos m) start end (pos v) i)
  where
    pick : (i : ℕ) {b : Bool} → in_field start end i ≡ b
        → cond (in_field start end i) (testbit (pos v) (i - start)) (testbit (pos m) i) ≡ cond b (testbit (pos v) (i - start)) (testbit (pos m) i)
    pick i e = ap (λ (b : Bool). cond b (testbit (pos v) (i - start)) (testbit (pos m) i)) e

    below : (i : ℕ) → i < end
        → cond (ltb i start) (testbit (pos (m % 2 ^ start)) i) (testbit (pos v) (i - start))
        ≡ cond (in_field start end i) (testbit (pos v) (i - start)) (testbit (pos m) i)
    below i u =
        by-lt
        (λ b. cond b (testbit (pos (m % 2 ^ start)) i) (testbit (pos v) (i - start))
        ≡ cond (in_field start end i) (testbit (pos v) (i - start)) (testbit (pos m) i))
        i start
        (λ k. testbit-mod-lt m start i k ∙ sym (pick i (in_field-lt start end i k)))
        (λ k. sym (pick i (in_field-true start end i k u)))

-- the same of a sign and a magnitude: where the sign is negative, the magnitude's field gets the complements of y's bits
pub copy_bit_field-magnitude : (negative : Bool) (m start end y : ℕ) → start ≤ end
    → of_magnitude negative (m / 2 ^ end * 2 ^ end + (mod_ℕ (of_magnitude negative y) (2 ^ (end - start)) * 2 ^ start + m % 2 ^ start))
    ≡ copy_bit_field (of_magnitude negative m) start end (pos y)
unfolding of_magnitude bitwise_not
copy_bit_field-magnitude false m start end y h =
    copy_bit_field-digits m start end (mod_ℕ (pos y) (2 ^ (end - start))) h (mod_ℕ-lt (pos y) (2 ^ (end - start)) (pow_pos (end - start)))
    ∙ sym (copy_bit_field-low (pos m) start end (pos y))
copy_bit_field-magnitude true m start end y h =
    ap bitwise_not
    (copy_bit_field-digits m start end (mod_ℕ (negsuc y) (2 ^ (end - start))) h (mod_ℕ-lt (negsuc y) (2 ^ (end - start)) (pow_pos (end - start)))
    ∙ sym (copy_bit_field-low (pos m) start end (negsuc y)))
    ∙ sym (copy_bit_field-not (pos m) start end (negsuc y))

-- ---- the highest bit of a width replaced, which is the sign

extend-bits : (c a : Bool) → not (c && not (c && a)) ≡ cond c a true
extend-bits = all₂ (λ c a. not (c && not (c && a))) (λ c a. cond c a true) tt

-- the low k bits of x under a sign, as a sign and a magnitude
pub extend-magnitude : (negative : Bool) (x : ℤ) (k : ℕ)
    → of_magnitude negative (mod_ℕ (of_magnitude negative (mod_ℕ x (2 ^ k))) (2 ^ k)) ≡ of_bits k (λ i. testbit x i) (fill negative)
unfolding of_magnitude fill bitwise_not
extend-magnitude false x k = ap pos (mod_ℕ-small (mod_ℕ x (2 ^ k)) (2 ^ k) (mod_ℕ-lt x (2 ^ k) (pow_pos k))) ∙ sym (of_bits-mod_ℕ k x)
extend-magnitude true x k = testbit-ext λ i.
    testbit-not (pos (mod_ℕ (negsuc (mod_ℕ x (2 ^ k))) (2 ^ k))) i
    ∙ ap not
    (testbit-mod_ℕ-pow (negsuc (mod_ℕ x (2 ^ k))) k i
    ∙ ap (λ (b : Bool). ltb i k && b) (testbit-not (pos (mod_ℕ x (2 ^ k))) i ∙ ap not (testbit-mod_ℕ-pow x k i)))
    ∙ extend-bits (ltb i k) (testbit x i)
    ∙ sym (testbit-of_bits k (λ i. testbit x i) (negsuc 0) i ∙ ap (cond (ltb i k) (testbit x i)) (testbit-fill true (i - k)))

new-bit : (b : Bool) → testbit (pos (cond b 1 0)) 0 ≡ b
unfolding testbit odd
new-bit true = refl
new-bit false = refl

-- the low k bits of x under a sign: bit k of x replaced, at width k + 1
pub extend-copy_bit : (negative : Bool) (x : ℤ) (k : ℕ)
    → of_bits k (λ i. testbit x i) (fill negative) ≡ mod0 (copy_bit x k (pos (cond negative 1 0))) (pos (2 ^ suc k))
extend-copy_bit negative x k = testbit-ext λ i.
    testbit-of_bits k (λ i. testbit x i) (fill negative) i
    ∙ by-lt
    (λ b. cond b (testbit x i) (testbit (fill negative) (i - k)) ≡ cond (ltb i (suc k)) (testbit y i) (testbit y (suc k - 1))) i k
    (λ l. sym
    (ap (λ (b : Bool). cond b (testbit y i) (testbit y (suc k - 1))) (lt-ltb i (suc k) (omega arith))
    ∙ at i (ne_eqb i k (λ e. omega arith))))
    (λ l. testbit-fill negative (i - k)
    ∙ by-lt (λ b. negative ≡ cond b (testbit y i) (testbit y (suc k - 1))) i (suc k)
    (λ u. sym (at i (eq-eqb i k (omega arith)) ∙ new-bit negative))
    (λ u. sym (at (suc k - 1) (eq-eqb (suc k - 1) k (omega arith)) ∙ new-bit negative)))
    ∙ sym (testbit-mod0-pow (suc k) y i (omega arith))
  where
    y : ℤ
    y = copy_bit x k (pos (cond negative 1 0))

    at : (i : ℕ) {b : Bool} → eqb i k ≡ b → testbit y i ≡ cond b (testbit (pos (cond negative 1 0)) 0) (testbit x i)
    at i e =
        testbit-copy_bit x k (pos (cond negative 1 0)) i
        ∙ ap (λ (b : Bool). cond b (testbit (pos (cond negative 1 0)) 0) (testbit x i)) e

-- below the highest bit of its width a number has a bit replaced in place
pub mod0-copy_bit : (w : ℕ) (x : ℤ) (k : ℕ) (y : ℤ) → k < w - 1 → mag x < 2 ^ (w - 1)
    → mod0 (copy_bit x k y) (pos (2 ^ w)) ≡ copy_bit_field x k (suc k) y
unfolding copy_bit copy_bit_field
mod0-copy_bit w x k y h l =
    mod0-pow-same w (copy_bit x k y) (omega arith)
    (holds (mag-fits w (copy_bit x k y) (set_field-lt x k (suc k) (λ j. testbit y j) (w - 1) h l)))
