-- Integers that fit a width: what an operation makes of them fits it too. Assumes nothing.
use Prim.Native.Nat.{ℕ, zero, suc, ◌*◌, ◌-◌, ◌/◌, ◌^◌, ◌≤◌, ◌<◌}
use native.Mathlib.Nat.{le_refl, le_trans, lt_of_lt_of_le, lt_of_le_of_lt, pow-suc, div-eq_of_lt, div-lt_iff_lt-mul}
use native.Mathlib.Omega.{arith}
use mathlib.Core.Path.{◌≡◌, refl, sym, ap, ◌∙◌, subst}
use mathlib.Core.Bool.{Bool, true, false}
use lib.Dec.{T, lit<}
use lib.IntN.{ℤ, pos, negsuc, nat_abs, ◌+ℤ◌}
use lib.Pow.{pow_pos, pow_mono, pow-lt, shr_le}
use lib.Signed.{mag, nat_abs-le}
use borrow.Author.Tests.{lt-ltb, ltb-true}
use Rattle.bits.specs.Testbit.{is_negative, testbit, bit_length, fits, fill}
use Rattle.bits.specs.Logical.{bitwise_not, bitwise, bitwise_and, bitwise_ior, bitwise_if}
use Rattle.bits.specs.Shift.{floor_div, shift_right}
use Rattle.bits.specs.Division.{mod_ℕ, «mod», div, div0, mod0}
use Rattle.bits.specs.Field.{set_field, bit_field}
use Rattle.bits.specs.Count.{ones_below, ones, bit_count, first_true, first_bit_set}
use Rattle.bits.proofs.IntegerLaws.{sub_ℕ-ge, pos-sub-lt}
use Rattle.bits.proofs.TestbitLaws.{by-lt, cond-lt}
use Rattle.bits.proofs.LengthLaws.{bit_length-le, fits_bits, fits_not}
use Rattle.bits.proofs.LogicalLaws.{testbit-bitwise, is_negative-bitwise}
use Rattle.bits.proofs.ModLaws.{mod_ℕ-lt}
use Rattle.bits.proofs.DivisionLaws.{div0-mod0-low, div0-mod0-high}
use Rattle.bits.proofs.ValueLaws.{bit_field-lt, mod0-pow-fits}
use Rattle.bits.proofs.FieldLaws.{in_field-ge, testbit-set_field-out, is_negative-set_field}

-- a test passed, as a type and as an equation
pub is_true : {t : Bool} → T t → t ≡ true
is_true {t = true} h = refl
is_true {t = false} h = absurd h

pub holds : {t : Bool} → t ≡ true → T t
holds e = subst T (sym e) tt

pub lt-two-pow : (k : ℕ) → k < 2 ^ k
lt-two-pow zero = lit< tt
lt-two-pow (suc k) = omega (arith, pow-suc 2 k, lt-two-pow k)

pub mag-fits : (w : ℕ) (x : ℤ) → mag x < 2 ^ (w - 1) → fits w x ≡ true
unfolding fits
mag-fits w x h = lt-ltb (mag x) (2 ^ (w - 1)) h

-- 2^w is twice 2^(w-1)
pub double : (w : ℕ) → 0 < w → 2 ^ w ≡ 2 * 2 ^ (w - 1)
double zero h = absurd (omega arith)
double (suc w) h = let e : suc w - 1 ≡ w = omega arith in rw e (omega (arith, pow-suc 2 w))

half : (w : ℕ) → 0 < w → 2 ^ w / 2 ≡ 2 ^ (w - 1)
half w h = omega (arith, double w h)

ones_below-le : (k : ℕ) (f : ℕ → Bool) → ones_below k f ≤ k
unfolding ones_below
ones_below-le zero f = le_refl 0
ones_below-le (suc k) f = omega (arith, cond-lt (f k) 1 0 (lit< tt) (lit< tt), ones_below-le k f)

first_true-le : (k : ℕ) (f : ℕ → Bool) → first_true k f ≤ k
unfolding first_true
first_true-le zero f = le_refl 0
first_true-le (suc k) f = go (f zero) (first_true-le k (λ i. f (suc i)))
  where
    go : (b : Bool) → first_true k (λ i. f (suc i)) ≤ k → (elim b as (λ c. ℕ) [ true ↦ zero | false ↦ suc (first_true k (λ i. f (suc i))) ]) ≤ suc k
    go true h = omega arith
    go false h = omega arith

-- the counts of an integer are at most its length
mag-bit_count : (x : ℤ) → mag (bit_count x) ≤ bit_length x
unfolding bit_count ones bitwise_not bit_length
mag-bit_count (pos n) = ones_below-le (bit_length (pos n)) (λ i. testbit (pos n) i)
mag-bit_count (negsuc n) = ones_below-le (bit_length (pos n)) (λ i. testbit (pos n) i)

mag-first_bit_set : (x : ℤ) → mag (first_bit_set x) ≤ bit_length x
unfolding first_bit_set
mag-first_bit_set (pos zero) = omega arith
mag-first_bit_set (pos (suc n)) = first_true-le (bit_length (pos (suc n))) (λ i. testbit (pos (suc n)) i)
mag-first_bit_set (negsuc n) = first_true-le (bit_length (negsuc n)) (λ i. testbit (negsuc n) i)

mag-floor_div : (x : ℤ) (m : ℕ) → mag (floor_div x m) ≡ mag x / m
unfolding floor_div
mag-floor_div (pos n) m = refl
mag-floor_div (negsuc n) m = refl

module _ (w : ℕ) where
  magnitude-fits : (x : ℤ) → mag x < 2 ^ (w - 1) → fits w x ≡ true
  unfolding fits
  magnitude-fits x h = lt-ltb (mag x) (2 ^ (w - 1)) h

  magnitude : (x : ℤ) → fits w x ≡ true → mag x < 2 ^ (w - 1)
  unfolding fits
  magnitude x f = ltb-true (mag x) (2 ^ (w - 1)) f

  pub fill-fits : (b : Bool) → fits w (fill b) ≡ true
  unfolding fill
  fill-fits true = magnitude-fits (negsuc 0) (pow_pos (w - 1))
  fill-fits false = magnitude-fits (pos 0) (pow_pos (w - 1))

  pub zero-fits : fits w (pos 0) ≡ true
  zero-fits = magnitude-fits (pos 0) (pow_pos (w - 1))

  -- ---- numbers below the width, and counts

  small-magnitude : (x : ℤ) → mag x ≤ w - 1 → fits w x ≡ true
  small-magnitude x h = magnitude-fits x (lt_of_le_of_lt h (lt-two-pow (w - 1)))

  pub small-fits : (n : ℕ) → n < w → fits w (pos n) ≡ true
  small-fits n h = small-magnitude (pos n) (omega arith)

  -- a power of two
  pub pow-fits : (k : ℕ) → k < w - 1 → fits w (pos (2 ^ k)) ≡ true
  pow-fits k h = magnitude-fits (pos (2 ^ k)) (pow-lt h)

  module _ (x : ℤ) (f : fits w x ≡ true) where
    short : bit_length x ≤ w - 1
    short = bit_length-le x (w - 1) (magnitude x f)

    pub bit_length-fits : fits w (pos (bit_length x)) ≡ true
    bit_length-fits = small-magnitude (pos (bit_length x)) short

    pub bit_count-fits : fits w (bit_count x) ≡ true
    bit_count-fits = small-magnitude (bit_count x) (le_trans (mag-bit_count x) short)

    pub first_bit_set-fits : fits w (first_bit_set x) ≡ true
    first_bit_set-fits = small-magnitude (first_bit_set x) (le_trans (mag-first_bit_set x) short)

  -- ---- remainders by a number that fits

  module _ (x y : ℤ) (h : 0 < nat_abs y) (f : fits w y ≡ true) where
    divisor-le : nat_abs y ≤ 2 ^ (w - 1)
    divisor-le = nat_abs-le y (magnitude y f)

    pub mod-fits : fits w («mod» x y) ≡ true
    unfolding «mod»
    mod-fits = magnitude-fits («mod» x y) (lt_of_lt_of_le (mod_ℕ-lt x (nat_abs y) h) divisor-le)

    pub mod0-fits : fits w (mod0 x y) ≡ true
    unfolding «mod»
    mod0-fits =
        by-lt (λ b. fits w (mod0 x y) ≡ true) (2 * mod_ℕ x (nat_abs y)) (nat_abs y)
        (λ l. rw (div0-mod0-low x y l).1 mod-fits)
        (λ l. rw ((div0-mod0-high x y (λ e. omega (arith, ap nat_abs e)) l).1, pos-sub-lt (mod_ℕ x (nat_abs y)) (nat_abs y) (mod_ℕ-lt x (nat_abs y) h))
        (magnitude-fits (negsuc (nat_abs y - suc (mod_ℕ x (nat_abs y)))) (omega (arith, divisor-le))))

  -- ---- the parts of an integer by 2^w

  pub low_fits : (x : ℤ) → 0 < w → fits w (mod0 x (pos (2 ^ w))) ≡ true
  low_fits x h = is_true (mod0-pow-fits w x h)

  pub high_fits : (x : ℤ) → 0 < w → mag (x +ℤ pos (2 ^ (w - 1))) < 2 ^ (w - 1) * (2 * 2 ^ (w - 1)) → fits w (div0 x (pos (2 ^ w))) ≡ true
  unfolding div0 div
  high_fits x h l =
      let y = x +ℤ pos (2 ^ (w - 1)) in
      rw (half w h)
      (magnitude-fits (floor_div y (2 ^ w))
      (rw (mag-floor_div y (2 ^ w)) ((div-lt_iff_lt-mul (pow_pos w)).1 (subst (λ (m : ℕ). mag y < 2 ^ (w - 1) * m) (sym (double w h)) l))))

  -- the second is 0 where the integer fits
  pub high_zero : (x : ℤ) → 0 < w → fits w x ≡ true → div0 x (pos (2 ^ w)) ≡ pos 0
  unfolding div0 div floor_div
  high_zero (pos n) h f = ap pos (div-eq_of_lt (omega (arith, double w h, magnitude (pos n) f)))
  high_zero (negsuc n) h f =
      ap (λ (y : ℤ). floor_div y (2 ^ w)) (sub_ℕ-ge (2 ^ w / 2) (suc n) (omega (arith, double w h, magnitude (negsuc n) f)))
      ∙ ap pos (div-eq_of_lt (omega (arith, pow_pos w)))

-- ---- operations on bits

module _ (w : ℕ) (p : 0 < w) where
  -- an integer whose bits from w - 1 on, and whose sign, are those of one that fits
  pub same-above-fits : (x y : ℤ) → ((i : ℕ) → w - 1 ≤ i → testbit y i ≡ testbit x i) → is_negative y ≡ is_negative x
      → fits w x ≡ true → fits w y ≡ true
  same-above-fits x y e s f = is_true ((fits_bits w y p).1 (λ i h. e i h ∙ (fits_bits w x p).0 (holds f) i h ∙ sym s))

  pub bitwise-fits : (op : Bool → Bool → Bool) (x y : ℤ) → fits w x ≡ true → fits w y ≡ true → fits w (bitwise op x y) ≡ true
  bitwise-fits op x y f g =
      is_true ((fits_bits w (bitwise op x y) p).1 (λ i h.
      testbit-bitwise op x y i
      ∙ cc ((fits_bits w x p).0 (holds f) i h, (fits_bits w y p).0 (holds g) i h)
      ∙ sym (is_negative-bitwise op x y)))

  pub if-fits : (x y z : ℤ) → fits w x ≡ true → fits w y ≡ true → fits w z ≡ true → fits w (bitwise_if x y z) ≡ true
  unfolding bitwise_if bitwise_ior bitwise_and
  if-fits x y z f g h =
      bitwise-fits _ (bitwise_and x y) (bitwise_and (bitwise_not x) z) (bitwise-fits _ x y f g) (bitwise-fits _ (bitwise_not x) z (fits_not w x ∙ f) h)

  -- a field that ends at or below w - 1
  module _ (x : ℤ) (start end : ℕ) (k : end ≤ w - 1) where
    pub set_field-fits : (g : ℕ → Bool) → fits w x ≡ true → fits w (set_field x start end g) ≡ true
    set_field-fits g =
        same-above-fits x (set_field x start end g) (λ i h. testbit-set_field-out x start end g i (in_field-ge start end i (le_trans k h)))
        (is_negative-set_field x start end g)

    pub bit_field-fits : fits w (bit_field x start end) ≡ true
    bit_field-fits = magnitude-fits w (bit_field x start end) (lt_of_lt_of_le (bit_field-lt x start end) (pow_mono (omega arith)))

-- ---- a shift to the right

mag-right : (x : ℤ) (k : ℕ) → mag (shift_right x k) ≤ mag x
unfolding shift_right floor_div
mag-right (pos n) k = shr_le n k
mag-right (negsuc n) k = shr_le n k

pub right-fits : (w : ℕ) (x : ℤ) (k : ℕ) → fits w x ≡ true → fits w (shift_right x k) ≡ true
unfolding fits
right-fits w x k h = lt-ltb (mag (shift_right x k)) (2 ^ (w - 1)) (lt_of_le_of_lt (mag-right x k) (ltb-true (mag x) (2 ^ (w - 1)) h))
