-- How long the result of a shift or of a field operation can be. Assumes nothing.
use Prim.Native.Nat.{ℕ, zero, suc, ◌+◌, ◌-◌, ◌≤◌, ◌<◌, ◌^◌}
use native.Mathlib.Nat.{lt_of_lt_of_le}
use native.Mathlib.Omega.{arith}
use mathlib.Core.Path.{◌≡◌, refl, sym, ap, ◌∙◌, subst}
use mathlib.Core.Bool.{Bool, not, ◌&&◌, false≢true}
use lib.Dec.{lit<}
use lib.Pow.{pow_mono}
use lib.IntN.{ℤ, pos, negsuc}
use lib.Signed.{mag}
use borrow.Author.Tests.{le-ltb, lt-ltb}
use Rattle.bits.specs.Testbit.{is_negative, testbit, bit_length}
use Rattle.bits.specs.Shift.{shift_left, shift_right}
use Rattle.bits.specs.Field.{bit_field, set_field, copy_bit_field, permute_field, rotate_index, rotate_bit_field, reverse_index, reverse_bit_field}
use Rattle.bits.proofs.TestbitLaws.{testbit-above, testbit-mag-lt, testbit-shift_right, is_negative-shift_right, is_negative-of_bits}
use Rattle.bits.proofs.ShiftLaws.{testbit-shift_left-ge, testbit-shift_left-ones, is_negative-shift_left, shift_right-shift_left, shift_right-above}
use Rattle.bits.proofs.LengthLaws.{bit_length-le, mag-lt, bit_length-least-bits}
use Rattle.bits.proofs.FieldLaws.{in_field-ge, testbit-bit_field, testbit-set_field-out, is_negative-set_field}

-- ---- right shifts

-- a right shift is shorter by k, or of length 0
pub shift_right-length-sub : (x : ℤ) (k : ℕ) → bit_length (shift_right x k) ≤ bit_length x - k
shift_right-length-sub x k =
    bit_length-least-bits (shift_right x k) (bit_length x - k) (λ i l.
    testbit-shift_right x k i ∙ testbit-above x (k + i) (omega arith) ∙ sym (is_negative-shift_right x k))

-- from the length on, every shift gives the sign
pub shift_right-beyond : (x : ℤ) (j k : ℕ) → bit_length x ≤ j → j ≤ k → shift_right x k ≡ shift_right x j
shift_right-beyond x j k h l = shift_right-above x k (omega arith) ∙ sym (shift_right-above x j h)

-- ---- left shifts

pub shift_left-length : (x : ℤ) (k : ℕ) → bit_length (shift_left x k) ≤ bit_length x + k
shift_left-length x k =
    bit_length-least-bits (shift_left x k) (bit_length x + k) (λ i l.
    testbit-shift_left-ge x k i (omega arith) ∙ testbit-above x (i - k) (omega arith) ∙ sym (is_negative-shift_left x k))

-- for x that is neither 0 nor -1
long-exact : (x : ℤ) (k : ℕ) → 0 < mag x → bit_length (shift_left x k) ≡ bit_length x + k
long-exact x k h =
    let nonzero : ¬ (bit_length x ≤ 0) = (λ l. omega (arith, mag-lt x 0 l)) in
    let back = subst (λ (y : ℤ). bit_length y ≤ bit_length (shift_left x k) - k) (shift_right-shift_left x k) (shift_right-length-sub (shift_left x k) k) in
    omega (arith, shift_left-length x k)

-- -1 shifted left by k has a zero at k - 1
ones-exact : (k : ℕ) → bit_length (shift_left (negsuc 0) k) ≡ bit_length (negsuc 0) + k
unfolding is_negative
ones-exact k = omega (arith, shift_left-length (negsuc 0) k, bit_length-le (negsuc 0) 0 (lit< tt), shorter)
  where
    shorter : ¬ (bit_length (shift_left (negsuc 0) k) < k)
    shorter h =
        false≢true (ap not (sym (lt-ltb (k - 1) k (omega arith)))
        ∙ sym (testbit-shift_left-ones k (k - 1))
        ∙ testbit-above (shift_left (negsuc 0) k) (k - 1) (omega arith)
        ∙ is_negative-shift_left (negsuc 0) k)

-- for every x but 0
pub shift_left-length-exact : (x : ℤ) (k : ℕ) → (x ≡ pos 0 → ⊥) → bit_length (shift_left x k) ≡ bit_length x + k
shift_left-length-exact (pos zero) k h = absurd (h refl)
shift_left-length-exact (pos (suc n)) k h = long-exact (pos (suc n)) k (omega arith)
shift_left-length-exact (negsuc zero) k h = ones-exact k
shift_left-length-exact (negsuc (suc n)) k h = long-exact (negsuc (suc n)) k (omega arith)

-- ---- fields

pub bit_field-length : (x : ℤ) (start end : ℕ) → bit_length (bit_field x start end) ≤ end - start
unfolding bit_field is_negative
bit_field-length x start end =
    bit_length-least-bits (bit_field x start end) (end - start) (λ i l.
    testbit-bit_field x start end i
    ∙ ap (λ (b : Bool). b && testbit x (start + i)) (le-ltb i (end - start) l)
    ∙ sym (is_negative-of_bits (end - start) (λ j. testbit x (start + j)) (pos 0)))

-- a magnitude below a power of two stays below it, where the field is
pub set_field-lt : (x : ℤ) (start end : ℕ) (g : ℕ → Bool) (k : ℕ) → end ≤ k → mag x < 2 ^ k → mag (set_field x start end g) < 2 ^ k
set_field-lt x start end g k h l =
    mag-lt (set_field x start end g) k
    (bit_length-least-bits (set_field x start end g) k
    (λ i u. testbit-set_field-out x start end g i (in_field-ge start end i (omega arith))
    ∙ testbit-mag-lt x i (lt_of_lt_of_le l (pow_mono u))
    ∙ sym (is_negative-set_field x start end g)))

-- k bits are enough where they are enough for x and the field lies in them
pub set_field-length : (x : ℤ) (start end : ℕ) (g : ℕ → Bool) (k : ℕ) → bit_length x ≤ k → end ≤ k → bit_length (set_field x start end g) ≤ k
set_field-length x start end g k h l = bit_length-le (set_field x start end g) k (set_field-lt x start end g k l (mag-lt x k h))

pub copy_bit_field-length : (x : ℤ) (start end : ℕ) (y : ℤ) (k : ℕ) → bit_length x ≤ k → end ≤ k → bit_length (copy_bit_field x start end y) ≤ k
unfolding copy_bit_field
copy_bit_field-length x start end y = set_field-length x start end (λ j. testbit y j)

permute_field-length : (p : ℕ → ℕ) (x : ℤ) (start end k : ℕ) → bit_length x ≤ k → end ≤ k → bit_length (permute_field p x start end) ≤ k
unfolding permute_field
permute_field-length p x start end = set_field-length x start end (λ j. testbit x (start + p j))

pub rotate_bit_field-length : (x : ℤ) (start end : ℕ) (c : ℤ) (k : ℕ) → bit_length x ≤ k → end ≤ k → bit_length (rotate_bit_field x start end c) ≤ k
unfolding rotate_bit_field
rotate_bit_field-length x start end c = permute_field-length (rotate_index (end - start) c) x start end

pub reverse_bit_field-length : (x : ℤ) (start end k : ℕ) → bit_length x ≤ k → end ≤ k → bit_length (reverse_bit_field x start end) ≤ k
unfolding reverse_bit_field
reverse_bit_field-length x start end = permute_field-length (reverse_index (end - start)) x start end
