-- Bits and arithmetic: what the builders are worth, and the low bits of an integer as a remainder. Assumes nothing.
use mathlib.Core.Path.{◌≡◌, refl, sym, ◌∙◌, ap, ap₂, subst, fun_ext}
use mathlib.Core.Bool.{Bool, true, false, not, cond, ◌&&◌}
use Prim.Native.Nat.{ℕ, zero, suc, ◌+◌, ◌*◌, ◌-◌, ◌/◌, ◌%◌, ◌^◌, ◌≤◌, ◌<◌}
use native.Mathlib.Nat.{pow-suc, mod-lt, zero-mod, lt_of_lt_of_le}
use native.Mathlib.Omega.{arith}
use lib.Arith.{mod-mul, digits_div, digits_mod}
use lib.Dec.{T, ltb, ltb→lt, lt→ltb}
use lib.Pow.{pow_pos, pow_mono}
use lib.IntN.{ℤ, pos, negsuc, nat_abs, ◌+ℤ◌, ◌*ℤ◌}
use lib.Signed.{mag}
use borrow.Author.Tests.{lt-ltb, not-false}
use Rattle.bits.specs.Testbit.{is_negative, testbit, fits, fill, cons_bit, of_bits}
use Rattle.bits.specs.Logical.{bitwise_not, bitwise_and}
use Rattle.bits.specs.Shift.{floor_div, shift_right}
use Rattle.bits.specs.Division.{div, mod_ℕ, «mod», div0, mod0}
use Rattle.bits.specs.Field.{bit_field}
use Rattle.bits.proofs.Booleans.{and-true, and-swap, not-not}
use Rattle.bits.proofs.IntegerLaws.{pos-sub-lt}
use Rattle.bits.proofs.TestbitLaws.{
  by-lt,
  cond-lt,
  testbit-half,
  testbit-ext,
  testbit-fill,
  testbit-of_bits-zero,
  of_bits-testbit,
  testbit-mag-lt,
  testbit-shift_right,
}
use Rattle.bits.proofs.LogicalLaws.{testbit-not, testbit-and}
use Rattle.bits.proofs.DivisionLaws.{div0-mod0-low, div0-mod0-high}
use Rattle.bits.proofs.ModLaws.{negsuc-digits, mod_ℕ-lt, mod_ℕ-not}

-- ---- what the builders are worth

pub cons_bit-value : (b : Bool) (x : ℤ) → cons_bit b x ≡ (x *ℤ pos 2) +ℤ pos (cond b 1 0)
unfolding cons_bit
cons_bit-value b (pos n) = refl
cons_bit-value true (negsuc n) = sym (negsuc-digits n 2 1 (omega arith))
cons_bit-value false (negsuc n) = sym (negsuc-digits n 2 0 (omega arith))

-- an integer is its lowest bit and its half
pub cons_bit-half : (x : ℤ) → cons_bit (testbit x 0) (floor_div x 2) ≡ x
unfolding of_bits shift_right
cons_bit-half = of_bits-testbit 1

-- ---- the low bits are the remainder by a power of two

low-cons : (n c k : ℕ) → c < 2 → (n * 2 + c) % 2 ^ suc k ≡ n % 2 ^ k * 2 + c
low-cons n c k h =
    ap (λ (m : ℕ). (n * 2 + c) % m) (pow-suc 2 k)
    ∙ mod-mul (n * 2 + c) (pow_pos k) (omega arith)
    ∙ ap₂ (λ (q r : ℕ). q % 2 ^ k * 2 + r) (digits_div n h) (digits_mod n h)

mod_ℕ-cons_bit : (b : Bool) (x : ℤ) (k : ℕ) → mod_ℕ (cons_bit b x) (2 ^ suc k) ≡ mod_ℕ x (2 ^ k) * 2 + cond b 1 0
unfolding mod_ℕ cons_bit
mod_ℕ-cons_bit b (pos n) k = low-cons n (cond b 1 0) k (cond-lt b 1 0 (omega arith) (omega arith))
mod_ℕ-cons_bit b (negsuc n) k =
    ap (λ (m : ℕ). 2 ^ suc k - suc m) (low-cons n (cond b 0 1) k (cond-lt b 0 1 (omega arith) (omega arith))) ∙ complement b
  where
    complement : (b : Bool) → 2 ^ suc k - suc (n % 2 ^ k * 2 + cond b 0 1) ≡ (2 ^ k - suc (n % 2 ^ k)) * 2 + cond b 1 0
    complement true = omega (arith, pow-suc 2 k, mod-lt n (pow_pos k))
    complement false = omega (arith, pow-suc 2 k, mod-lt n (pow_pos k))

pub of_bits-mod_ℕ : (k : ℕ) (x : ℤ) → of_bits k (λ i. testbit x i) (pos 0) ≡ pos (mod_ℕ x (2 ^ k))
unfolding of_bits cons_bit
of_bits-mod_ℕ zero x = ap pos (omega (arith, mod_ℕ-lt x 1 (omega arith)))
of_bits-mod_ℕ (suc k) x =
    ap (λ (f : ℕ → Bool). cons_bit (testbit x 0) (of_bits k f (pos 0))) (fun_ext (testbit-half x))
    ∙ ap (cons_bit (testbit x 0)) (of_bits-mod_ℕ k (floor_div x 2))
    ∙ ap pos (sym (mod_ℕ-cons_bit (testbit x 0) (floor_div x 2) k) ∙ ap (λ (y : ℤ). mod_ℕ y (2 ^ suc k)) (cons_bit-half x))

pub testbit-mod_ℕ-pow : (x : ℤ) (k i : ℕ) → testbit (pos (mod_ℕ x (2 ^ k))) i ≡ ltb i k && testbit x i
testbit-mod_ℕ-pow x k i = ap (λ (y : ℤ). testbit y i) (sym (of_bits-mod_ℕ k x)) ∙ testbit-of_bits-zero k (λ i. testbit x i) i

-- a mask of k ones
pub testbit-mask : (k i : ℕ) → testbit (pos (2 ^ k - 1)) i ≡ ltb i k
unfolding mod_ℕ fill
testbit-mask k i =
    ap (λ (m : ℕ). testbit (pos (2 ^ k - suc m)) i) (sym (zero-mod (2 ^ k)))
    ∙ testbit-mod_ℕ-pow (negsuc 0) k i
    ∙ ap (λ (b : Bool). ltb i k && b) (testbit-fill true i)
    ∙ and-true (ltb i k)

pub and_mask : (x : ℤ) (k : ℕ) → bitwise_and x (pos (2 ^ k - 1)) ≡ «mod» x (pos (2 ^ k))
unfolding «mod»
and_mask x k = testbit-ext λ i.
    testbit-and x (pos (2 ^ k - 1)) i
    ∙ ap (λ (b : Bool). testbit x i && b) (testbit-mask k i)
    ∙ and-swap (testbit x i) (ltb i k)
    ∙ sym (testbit-mod_ℕ-pow x k i)

-- ---- a field as a number

pub bit_field-value : (x : ℤ) (start end : ℕ) → bit_field x start end ≡ «mod» (shift_right x start) (pos (2 ^ (end - start)))
unfolding bit_field «mod»
bit_field-value x start end =
    ap (λ (f : ℕ → Bool). of_bits (end - start) f (pos 0)) (fun_ext (λ j. sym (testbit-shift_right x start j)))
    ∙ of_bits-mod_ℕ (end - start) (shift_right x start)

pub bit_field-lt : (x : ℤ) (start end : ℕ) → mag (bit_field x start end) < 2 ^ (end - start)
unfolding «mod»
bit_field-lt x start end =
    subst (λ (y : ℤ). mag y < 2 ^ (end - start)) (sym (bit_field-value x start end))
    (mod_ℕ-lt (shift_right x start) (2 ^ (end - start)) (pow_pos (end - start)))

pub is_negative-bit_field : (x : ℤ) (start end : ℕ) → is_negative (bit_field x start end) ≡ false
unfolding «mod» is_negative
is_negative-bit_field x start end = ap is_negative (bit_field-value x start end)

-- ---- mod0 by 2^w: the integer that has the same low w bits and fits w

module _ (w : ℕ) (x : ℤ) where
  -- at width w + 1: the low bits of x, and those of not x
  low : ℕ
  low = mod_ℕ x (2 ^ suc w)

  low-not : ℕ
  low-not = mod_ℕ (bitwise_not x) (2 ^ suc w)

  -- the top of the low bits, where they are a number below 2^w
  top-zero : (y : ℤ) → mod_ℕ y (2 ^ suc w) < 2 ^ w → testbit y w ≡ false
  unfolding is_negative
  top-zero y h =
      sym (ap (λ (b : Bool). b && testbit y w) (lt-ltb w (suc w) (omega arith)))
      ∙ sym (testbit-mod_ℕ-pow y (suc w) w)
      ∙ testbit-mag-lt (pos (mod_ℕ y (2 ^ suc w))) w h

  mod0-low : low < 2 ^ w → mod0 x (pos (2 ^ suc w)) ≡ pos low
  unfolding low «mod»
  mod0-low h = (div0-mod0-low x (pos (2 ^ suc w)) (omega (arith, pow-suc 2 w))).1

  mod0-high : 2 ^ w ≤ low → mod0 x (pos (2 ^ suc w)) ≡ bitwise_not (pos low-not)
  unfolding low low-not «mod» bitwise_not
  mod0-high h =
      (div0-mod0-high x (pos (2 ^ suc w)) (λ e. omega (arith, ap nat_abs e, pow_pos (suc w))) (omega (arith, pow-suc 2 w))).1
      ∙ pos-sub-lt (mod_ℕ x (2 ^ suc w)) (2 ^ suc w) (mod_ℕ-lt x (2 ^ suc w) (pow_pos (suc w)))
      ∙ ap negsuc (sym (mod_ℕ-not x (2 ^ suc w) (pow_pos (suc w))))

  low-not-lt : 2 ^ w ≤ low → low-not < 2 ^ w
  unfolding low low-not
  low-not-lt h = omega (arith, pow_pos w, pow-suc 2 w, mod_ℕ-not x (2 ^ suc w) (pow_pos (suc w)))

  top_one : 2 ^ w ≤ low → testbit x w ≡ true
  unfolding low-not
  top_one h = not-false (testbit x w) (sym (testbit-not x w) ∙ top-zero (bitwise_not x) (low-not-lt h))

  mod0-bits : (i : ℕ) → testbit (mod0 x (pos (2 ^ suc w))) i ≡ cond (ltb i (suc w)) (testbit x i) (testbit x w)
  unfolding low low-not
  mod0-bits i =
      by-lt (λ b. testbit (mod0 x (pos (2 ^ suc w))) i ≡ cond (ltb i (suc w)) (testbit x i) (testbit x w)) low (2 ^ w)
      (λ h. ap (λ (y : ℤ). testbit y i) (mod0-low h) ∙ testbit-mod_ℕ-pow x (suc w) i ∙ below (ltb i (suc w)) (top-zero x h))
      (λ h. ap (λ (y : ℤ). testbit y i) (mod0-high h)
      ∙ testbit-not (pos low-not) i
      ∙ ap not (testbit-mod_ℕ-pow (bitwise_not x) (suc w) i ∙ ap (λ (b : Bool). ltb i (suc w) && b) (testbit-not x i))
      ∙ above (ltb i (suc w)) (testbit x i) (top_one h))
    where
      below : (b : Bool) → testbit x w ≡ false → b && testbit x i ≡ cond b (testbit x i) (testbit x w)
      below true e = refl
      below false e = sym e

      above : (b a : Bool) → testbit x w ≡ true → not (b && not a) ≡ cond b a (testbit x w)
      above true a e = not-not a
      above false a e = sym e

  mod0-mag : mag (mod0 x (pos (2 ^ suc w))) < 2 ^ w
  unfolding bitwise_not
  mod0-mag =
      by-lt (λ b. mag (mod0 x (pos (2 ^ suc w))) < 2 ^ w) low (2 ^ w)
      (λ h. subst (λ (y : ℤ). mag y < 2 ^ w) (sym (mod0-low h)) h)
      (λ h. subst (λ (y : ℤ). mag y < 2 ^ w) (sym (mod0-high h)) (low-not-lt h))

less_one : (w : ℕ) → w ≡ suc w - 1
less_one w = omega arith

-- bits below w are those of x, and the highest of them continues
pub testbit-mod0-pow : (w : ℕ) (x : ℤ) (i : ℕ) → 0 < w → testbit (mod0 x (pos (2 ^ w))) i ≡ cond (ltb i w) (testbit x i) (testbit x (w - 1))
testbit-mod0-pow zero x i h = absurd (omega arith)
testbit-mod0-pow (suc w) x i h =
    mod0-bits w x i ∙ ap (λ (k : ℕ). cond (ltb i (suc w)) (testbit x i) (testbit x k)) (less_one w)

-- so no other bits count
pub mod0-pow-bits : (w : ℕ) (x y : ℤ) → 0 < w → ((i : ℕ) → i < w → testbit x i ≡ testbit y i) → mod0 x (pos (2 ^ w)) ≡ mod0 y (pos (2 ^ w))
mod0-pow-bits w x y h e = testbit-ext λ i.
    testbit-mod0-pow w x i h
    ∙ by-lt (λ b. cond b (testbit x i) (testbit x (w - 1)) ≡ cond b (testbit y i) (testbit y (w - 1))) i w (e i) (λ l. e (w - 1) (omega arith))
    ∙ sym (testbit-mod0-pow w y i h)

pub mod0-pow-fits : (w : ℕ) (x : ℤ) → 0 < w → T (fits w (mod0 x (pos (2 ^ w))))
unfolding fits
mod0-pow-fits zero x h = absurd (omega arith)
mod0-pow-fits (suc w) x h =
    lt→ltb (mag (mod0 x (pos (2 ^ suc w)))) (2 ^ (suc w - 1))
    (subst (λ (k : ℕ). mag (mod0 x (pos (2 ^ suc w))) < 2 ^ k) (less_one w) (mod0-mag w x))

-- a number that fits w stays as it is
pub mod0-pow-same : (w : ℕ) (x : ℤ) → 0 < w → T (fits w x) → mod0 x (pos (2 ^ w)) ≡ x
unfolding fits
mod0-pow-same w x h t = testbit-ext λ i.
    testbit-mod0-pow w x i h
    ∙ by-lt (λ b. cond b (testbit x i) (testbit x (w - 1)) ≡ testbit x i) i w (λ l. refl)
    (λ l. testbit-mag-lt x (w - 1) (ltb→lt (mag x) (2 ^ (w - 1)) t)
    ∙ sym (testbit-mag-lt x i (lt_of_lt_of_le (ltb→lt (mag x) (2 ^ (w - 1)) t) (pow_mono (omega arith)))))

-- ---- div0 by 2^w: the bits from w on, after half of 2^w is added

pub testbit-div0-pow : (w : ℕ) (x : ℤ) (i : ℕ) → testbit (div0 x (pos (2 ^ w))) i ≡ testbit (x +ℤ pos (2 ^ w / 2)) (w + i)
unfolding div0 div shift_right
testbit-div0-pow w x i = testbit-shift_right (x +ℤ pos (2 ^ w / 2)) w i
