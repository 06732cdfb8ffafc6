-- Laws of the arithmetic shifts: their bits, their composition, and the logical operations of shifted integers. Assumes nothing.
use mathlib.Core.Path.{◌≡◌, refl, sym, ◌∙◌, ap, ap₂}
use mathlib.Core.Bool.{Bool, true, false, not, cond, ◌&&◌}
use Prim.Native.Nat.{ℕ, zero, suc, ◌+◌, ◌*◌, ◌-◌, ◌^◌, ◌≤◌}
use native.Mathlib.Nat.{
  pow-suc,
  mul_assoc,
  mul-one,
  one-mul,
  zero-mul,
  div-one,
  add-zero,
  add-suc,
  add_assoc,
  sub-add_cancel,
  add-sub_of_le,
  add-sub_cancel_left,
}
use native.Mathlib.Omega.{arith}
use lib.Dec.{ltb, eqb, eqb-zero-suc, eqb-suc-zero, eqb-suc-suc, le→leb, leb→le}
use lib.IntN.{ℤ, pos, negsuc, neg_ℤ, ◌+ℤ◌, +ℤ_idr}
use lib.Signed.{◌≤ℤ◌, le_z_yes}
use borrow.Author.Tests.{le-ltb}
use Rattle.bits.specs.Testbit.{is_negative, testbit, bit_length, fill, cons_bit, of_bits}
use Rattle.bits.specs.Logical.{bitwise_not, bitwise, bitwise_and}
use Rattle.bits.specs.Shift.{floor_div, shift_left, shift_right, arithmetic_shift}
use Rattle.bits.proofs.Booleans.{and-true, and-distrib}
use Rattle.bits.proofs.TestbitLaws.{
  by-lt,
  testbit-ext,
  testbit-zero,
  testbit-cons_bit-zero,
  testbit-cons_bit-suc,
  testbit-fill,
  testbit-above,
  testbit-of_bits,
  is_negative-of_bits,
  of_bits-testbit,
  testbit-shift_right,
  is_negative-shift_right,
}
use Rattle.bits.proofs.LogicalLaws.{testbit-bitwise, testbit-and}

-- ---- no distance

pub shift_left-zero : (x : ℤ) → shift_left x 0 ≡ x
unfolding shift_left
shift_left-zero (pos n) = ap pos (mul-one n)
shift_left-zero (negsuc n) = ap (λ (m : ℕ). neg_ℤ (pos m)) (mul-one (suc n))

pub shift_right-zero : (x : ℤ) → shift_right x 0 ≡ x
unfolding shift_right floor_div
shift_right-zero (pos n) = ap pos (div-one n)
shift_right-zero (negsuc n) = ap negsuc (div-one n)

-- ---- bits

double-neg : (m : ℕ) → neg_ℤ (pos (m * 2)) ≡ cons_bit false (neg_ℤ (pos m))
unfolding cons_bit
double-neg zero = refl
double-neg (suc m) = let e : suc m * 2 ≡ suc (m * 2 + 1) = omega arith in ap (λ (n : ℕ). neg_ℤ (pos n)) e

mul-pow-suc : (m k : ℕ) → m * 2 ^ suc k ≡ m * 2 ^ k * 2
mul-pow-suc m k = ap (λ (p : ℕ). m * p) (pow-suc 2 k) ∙ sym (mul_assoc m (2 ^ k) 2)

-- each step to the left puts a zero below
pub shift_left-suc : (x : ℤ) (k : ℕ) → shift_left x (suc k) ≡ cons_bit false (shift_left x k)
unfolding shift_left cons_bit
shift_left-suc (pos n) k = ap pos (mul-pow-suc n k ∙ sym (add-zero (n * 2 ^ k * 2)))
shift_left-suc (negsuc n) k = ap (λ (m : ℕ). neg_ℤ (pos m)) (mul-pow-suc (suc n) k) ∙ double-neg (suc n * 2 ^ k)

pub shift_left-of_bits : (x : ℤ) (k : ℕ) → shift_left x k ≡ of_bits k (λ i. false) x
unfolding of_bits
shift_left-of_bits x zero = shift_left-zero x
shift_left-of_bits x (suc k) = shift_left-suc x k ∙ ap (cons_bit false) (shift_left-of_bits x k)

-- zeros below k, and from k on the bits of x
pub testbit-shift_left : (x : ℤ) (k i : ℕ) → testbit (shift_left x k) i ≡ not (ltb i k) && testbit x (i - k)
testbit-shift_left x k i =
    ap (λ (y : ℤ). testbit y i) (shift_left-of_bits x k) ∙ testbit-of_bits k (λ i. false) x i ∙ pick (ltb i k) (testbit x (i - k))
  where
    pick : (b a : Bool) → cond b false a ≡ not b && a
    pick true a = refl
    pick false a = refl

pub testbit-shift_left-ge : (x : ℤ) (k i : ℕ) → k ≤ i → testbit (shift_left x k) i ≡ testbit x (i - k)
testbit-shift_left-ge x k i h = testbit-shift_left x k i ∙ ap (λ (b : Bool). not b && testbit x (i - k)) (le-ltb i k h)

pub is_negative-shift_left : (x : ℤ) (k : ℕ) → is_negative (shift_left x k) ≡ is_negative x
is_negative-shift_left x k = ap is_negative (shift_left-of_bits x k) ∙ is_negative-of_bits k (λ i. false) x

pub testbit-arithmetic_shift-pos : (x : ℤ) (k i : ℕ) → testbit (arithmetic_shift x (pos k)) i ≡ not (ltb i k) && testbit x (i - k)
unfolding arithmetic_shift
testbit-arithmetic_shift-pos = testbit-shift_left

pub testbit-arithmetic_shift-negsuc : (x : ℤ) (k i : ℕ) → testbit (arithmetic_shift x (negsuc k)) i ≡ testbit x (suc k + i)
unfolding arithmetic_shift
testbit-arithmetic_shift-negsuc x k = testbit-shift_right x (suc k)

pub is_negative-arithmetic_shift : (x d : ℤ) → is_negative (arithmetic_shift x d) ≡ is_negative x
unfolding arithmetic_shift
is_negative-arithmetic_shift x (pos k) = is_negative-shift_left x k
is_negative-arithmetic_shift x (negsuc k) = is_negative-shift_right x (suc k)

-- 1 to the left: a one at k, and zeros elsewhere
pub testbit-shift_left-one : (k i : ℕ) → testbit (shift_left (pos 1) k) i ≡ eqb i k
unfolding cons_bit
testbit-shift_left-one zero zero = ap (λ (x : ℤ). testbit x 0) (shift_left-zero (pos 1)) ∙ testbit-cons_bit-zero true (pos 0)
testbit-shift_left-one zero (suc i) =
    ap (λ (x : ℤ). testbit x (suc i)) (shift_left-zero (pos 1))
    ∙ testbit-cons_bit-suc true (pos 0) i
    ∙ testbit-zero i
    ∙ sym (eqb-suc-zero i)
testbit-shift_left-one (suc k) zero =
    ap (λ (x : ℤ). testbit x 0) (shift_left-suc (pos 1) k)
    ∙ testbit-cons_bit-zero false (shift_left (pos 1) k)
    ∙ sym (eqb-zero-suc k)
testbit-shift_left-one (suc k) (suc i) =
    ap (λ (x : ℤ). testbit x (suc i)) (shift_left-suc (pos 1) k)
    ∙ testbit-cons_bit-suc false (shift_left (pos 1) k) i
    ∙ testbit-shift_left-one k i
    ∙ sym (eqb-suc-suc i k)

pub testbit-pow : (k i : ℕ) → testbit (pos (2 ^ k)) i ≡ eqb i k
unfolding shift_left
testbit-pow k i = ap (λ (m : ℕ). testbit (pos m) i) (sym (one-mul (2 ^ k))) ∙ testbit-shift_left-one k i

-- -1 to the left: k zeros, and from there on ones
pub testbit-shift_left-ones : (k i : ℕ) → testbit (shift_left (negsuc 0) k) i ≡ not (ltb i k)
unfolding fill
testbit-shift_left-ones k i =
    testbit-shift_left (negsuc 0) k i
    ∙ ap (λ (b : Bool). not (ltb i k) && b) (testbit-fill true (i - k))
    ∙ and-true (not (ltb i k))

-- ---- the one shift and the two

pub arithmetic_shift-left : (x : ℤ) (k : ℕ) → arithmetic_shift x (pos k) ≡ shift_left x k
unfolding arithmetic_shift
arithmetic_shift-left x k = refl

pub arithmetic_shift-right : (x : ℤ) (k : ℕ) → arithmetic_shift x (neg_ℤ (pos k)) ≡ shift_right x k
unfolding arithmetic_shift
arithmetic_shift-right x zero = shift_left-zero x ∙ sym (shift_right-zero x)
arithmetic_shift-right x (suc k) = refl

-- ---- shifts of shifts

pub shift_left-compose : (x : ℤ) (j k : ℕ) → shift_left (shift_left x j) k ≡ shift_left x (j + k)
shift_left-compose x j zero = shift_left-zero (shift_left x j) ∙ ap (shift_left x) (sym (add-zero j))
shift_left-compose x j (suc k) =
    shift_left-suc (shift_left x j) k
    ∙ ap (cons_bit false) (shift_left-compose x j k)
    ∙ sym (shift_left-suc x (j + k))
    ∙ ap (shift_left x) (sym (add-suc j k))

pub shift_right-compose : (x : ℤ) (j k : ℕ) → shift_right (shift_right x j) k ≡ shift_right x (j + k)
shift_right-compose x j k = testbit-ext (λ i. testbit-shift_right (shift_right x j) k i
    ∙ testbit-shift_right x j (k + i)
    ∙ ap (testbit x) (sym (add_assoc j k i))
    ∙ sym (testbit-shift_right x (j + k) i))

-- left and back
pub shift_right-shift_left : (x : ℤ) (k : ℕ) → shift_right (shift_left x k) k ≡ x
shift_right-shift_left x k = testbit-ext (λ i. testbit-shift_right (shift_left x k) k i
    ∙ testbit-shift_left-ge x k (k + i) (omega arith)
    ∙ ap (testbit x) (add-sub_cancel_left k i))

pub shift_right-shift_left-le : (x : ℤ) (j k : ℕ) → k ≤ j → shift_right (shift_left x j) k ≡ shift_left x (j - k)
shift_right-shift_left-le x j k h =
    ap (λ (m : ℕ). shift_right (shift_left x m) k) (sym (sub-add_cancel h))
    ∙ ap (λ (y : ℤ). shift_right y k) (sym (shift_left-compose x (j - k) k))
    ∙ shift_right-shift_left (shift_left x (j - k)) k

pub shift_right-shift_left-ge : (x : ℤ) (j k : ℕ) → j ≤ k → shift_right (shift_left x j) k ≡ shift_right x (k - j)
shift_right-shift_left-ge x j k h =
    ap (shift_right (shift_left x j)) (sym (add-sub_of_le h))
    ∙ sym (shift_right-compose (shift_left x j) j (k - j))
    ∙ ap (λ (y : ℤ). shift_right y (k - j)) (shift_right-shift_left x j)

-- right and back: the low k bits are cleared
pub shift_left-shift_right : (x : ℤ) (k : ℕ) → shift_left (shift_right x k) k ≡ bitwise_and (shift_left (negsuc 0) k) x
shift_left-shift_right x k = testbit-ext (λ i. testbit-shift_left (shift_right x k) k i
    ∙ by-lt (λ b. not b && testbit (shift_right x k) (i - k) ≡ not b && testbit x i) i k (λ h. refl)
    (λ h. testbit-shift_right x k (i - k) ∙ ap (testbit x) (add-sub_of_le h))
    ∙ ap (λ (b : Bool). b && testbit x i) (sym (testbit-shift_left-ones k i))
    ∙ sym (testbit-and (shift_left (negsuc 0) k) x i))

-- x * 2^d * 2^e is x * 2^(d+e), unless d < 0 < e: then the first shift may lose bits
pub arithmetic_shift-compose : (x d e : ℤ) → pos 0 ≤ℤ d → arithmetic_shift (arithmetic_shift x d) e ≡ arithmetic_shift x (d +ℤ e)
unfolding arithmetic_shift
arithmetic_shift-compose x (pos j) (pos k) h = shift_left-compose x j k
arithmetic_shift-compose x (pos j) (negsuc k) h =
    by-lt (λ b. shift_right (shift_left x j) (suc k) ≡ arithmetic_shift x (cond b (negsuc (suc k - suc j)) (pos (j - suc k)))) j (suc k)
    (λ l. shift_right-shift_left-ge x j (suc k) (omega arith)
    ∙ (let e : suc k - j ≡ suc (suc k - suc j) = omega arith in ap (shift_right x) e))
    (shift_right-shift_left-le x j (suc k))
arithmetic_shift-compose x (negsuc j) e h = absurd h.le

pub arithmetic_shift-compose-right : (x d e : ℤ) → e ≤ℤ pos 0 → arithmetic_shift (arithmetic_shift x d) e ≡ arithmetic_shift x (d +ℤ e)
unfolding arithmetic_shift
arithmetic_shift-compose-right x (pos j) e h = arithmetic_shift-compose x (pos j) e (le_z_yes (le→leb 0 j (omega arith)))
arithmetic_shift-compose-right x (negsuc j) (pos zero) h =
    shift_left-zero (shift_right x (suc j)) ∙ ap (arithmetic_shift x) (sym (+ℤ_idr (negsuc j)))
arithmetic_shift-compose-right x (negsuc j) (pos (suc k)) h = absurd (omega (arith, leb→le (suc k) 0 h.le))
arithmetic_shift-compose-right x (negsuc j) (negsuc k) h =
    shift_right-compose x (suc j) (suc k) ∙ (let e : suc j + suc k ≡ suc (suc (j + k)) = omega arith in ap (shift_right x) e)

-- ---- the logical operations

pub shift_right-not : (x : ℤ) (k : ℕ) → shift_right (bitwise_not x) k ≡ bitwise_not (shift_right x k)
unfolding shift_right floor_div bitwise_not
shift_right-not (pos n) k = refl
shift_right-not (negsuc n) k = refl

pub shift_right-distrib-bitwise : (op : Bool → Bool → Bool) (x y : ℤ) (k : ℕ)
    → shift_right (bitwise op x y) k ≡ bitwise op (shift_right x k) (shift_right y k)
shift_right-distrib-bitwise op x y k = testbit-ext (λ i. testbit-shift_right (bitwise op x y) k i
    ∙ testbit-bitwise op x y (k + i)
    ∙ sym (testbit-bitwise op (shift_right x k) (shift_right y k) i ∙ ap₂ op (testbit-shift_right x k i) (testbit-shift_right y k i)))

pub shift_left-distrib-bitwise : (op : Bool → Bool → Bool) (x y : ℤ) (k : ℕ) → op false false ≡ false
    → shift_left (bitwise op x y) k ≡ bitwise op (shift_left x k) (shift_left y k)
shift_left-distrib-bitwise op x y k o = testbit-ext (λ i. testbit-shift_left (bitwise op x y) k i
    ∙ ap (λ (b : Bool). not (ltb i k) && b) (testbit-bitwise op x y (i - k))
    ∙ and-distrib op o (not (ltb i k)) (testbit x (i - k)) (testbit y (i - k))
    ∙ sym (testbit-bitwise op (shift_left x k) (shift_left y k) i ∙ ap₂ op (testbit-shift_left x k i) (testbit-shift_left y k i)))

-- ---- 0 and -1, and distances past the length

pub shift_right-fill : (b : Bool) (k : ℕ) → shift_right (fill b) k ≡ fill b
shift_right-fill b k = testbit-ext (λ i. testbit-shift_right (fill b) k i ∙ testbit-fill b (k + i) ∙ sym (testbit-fill b i))

pub shift_left-zero-l : (k : ℕ) → shift_left (pos 0) k ≡ pos 0
unfolding shift_left
shift_left-zero-l k = ap pos (zero-mul (2 ^ k))

pub shift_right-above : (x : ℤ) (k : ℕ) → bit_length x ≤ k → shift_right x k ≡ fill (is_negative x)
shift_right-above x k h = testbit-ext (λ i. testbit-shift_right x k i
    ∙ testbit-above x (k + i) (omega arith)
    ∙ sym (testbit-fill (is_negative x) i))

-- an integer from its bits and its sign
pub of_bits-sign : (x : ℤ) (k : ℕ) → bit_length x ≤ k → of_bits k (λ i. testbit x i) (fill (is_negative x)) ≡ x
of_bits-sign x k h = ap (of_bits k (λ i. testbit x i)) (sym (shift_right-above x k h)) ∙ of_bits-testbit k x
