-- Copy-bit at the highest bit of a width, in numbers: where it changes the sign it moves the number by a power of two, and else the result fits
-- the width. Assumes nothing.
use Prim.Native.Nat.{ℕ, zero, suc, ◌+◌, ◌*◌, ◌-◌, ◌/◌, ◌≤◌, ◌<◌, ◌^◌}
use native.Mathlib.Nat.{lt_of_lt_of_le, pow-suc}
use native.Mathlib.Omega.{arith}
use mathlib.Core.Path.{◌≡◌, refl, sym, ap, ◌∙◌}
use mathlib.Core.Bool.{Bool, true, false, cond, not, false≢true}
use lib.Arith.{digits_div}
use lib.Dec.{eqb, ltb}
use lib.IntN.{ℤ, pos, negsuc, nat_abs, ◌+ℤ◌, ◌-ℤ◌, -ℤ-+ℤ_cancel}
use lib.Pow.{pow_mono}
use lib.Signed.{mag}
use borrow.Author.Tests.{lt-ltb, eqb-true, eqb-false}
use Rattle.bits.specs.Testbit.{odd, is_negative, testbit, fits}
use Rattle.bits.specs.Logical.{bitwise_not}
use Rattle.bits.specs.Division.{mod0}
use Rattle.bits.specs.Field.{copy_bit_field, copy_bit}
use Rattle.bits.specs.Range.{within}
use Rattle.bits.proofs.IntegerLaws.{sub_ℕ-ge, pos-sub-lt}
use Rattle.bits.proofs.RangeLaws.{within-pos}
use Rattle.bits.proofs.TestbitLaws.{by-lt, testbit-mag-lt, testbit-ext}
use Rattle.bits.proofs.ModLaws.{mod_ℕ-period, not-add}
use Rattle.bits.proofs.ValueLaws.{testbit-mod0-pow}
use Rattle.bits.proofs.FieldLaws.{testbit-copy_bit}
use Rattle.bits.proofs.FieldAlgebra.{set_field-same}
use Rattle.bits.proofs.FitsLaws.{mag-fits, set_field-fits}
use Rattle.words.proofs.WordLaws.{fits-mag}
use Rattle.words.proofs.FieldWords.{testbit-mod_ℕ-lt}
use Rattle.fixnum_laws.specs.Widths.{other_side, same_side}

-- ---- the bits of a number moved by 2^k

plus-low : (x : ℤ) (k i : ℕ) → i < k → testbit (x +ℤ pos (2 ^ k)) i ≡ testbit x i
plus-low x k i h =
    sym (testbit-mod_ℕ-lt (x +ℤ pos (2 ^ k)) k i h) ∙ ap (λ (n : ℕ). testbit (pos n) i) (mod_ℕ-period x (2 ^ k)) ∙ testbit-mod_ℕ-lt x k i h

minus-low : (x : ℤ) (k i : ℕ) → i < k → testbit (x -ℤ pos (2 ^ k)) i ≡ testbit x i
minus-low x k i h = sym (plus-low (x -ℤ pos (2 ^ k)) k i h) ∙ ap (λ (y : ℤ). testbit y i) (-ℤ-+ℤ_cancel x (pos (2 ^ k)))

other-low : (x : ℤ) (k i : ℕ) → i < k → testbit (other_side x k) i ≡ testbit x i
unfolding other_side is_negative
other-low (pos n) = minus-low (pos n)
other-low (negsuc n) = plus-low (negsuc n)

same_low : (x : ℤ) (k i : ℕ) → i < k → testbit (same_side x k) i ≡ testbit x i
unfolding same_side is_negative
same_low (pos n) = plus-low (pos n)
same_low (negsuc n) = minus-low (negsuc n)

other-high : (x : ℤ) (k i : ℕ) → mag x < 2 ^ k → k ≤ i → testbit (other_side x k) i ≡ not (is_negative x)
unfolding other_side is_negative
other-high (pos n) k i h l =
    ap (λ (y : ℤ). testbit y i) (pos-sub-lt n (2 ^ k) h) ∙ testbit-mag-lt (negsuc (2 ^ k - suc n)) i (lt_of_lt_of_le (omega arith) (pow_mono l))
other-high (negsuc n) k i h l =
    ap (λ (y : ℤ). testbit y i) (sub_ℕ-ge (2 ^ k) (suc n) h) ∙ testbit-mag-lt (pos (2 ^ k - suc n)) i (lt_of_lt_of_le (omega arith) (pow_mono l))

-- away from 0
outward : (n m : ℕ) → negsuc n -ℤ pos m ≡ negsuc (n + m)
unfolding bitwise_not
outward n m = sym (not-add (pos n) (pos m))

top : (n k : ℕ) → n < 2 ^ k → (n + 2 ^ k) / 2 ^ k ≡ 1
top n k h = let e : n + 2 ^ k ≡ 1 * 2 ^ k + n = omega arith in ap (λ (m : ℕ). m / 2 ^ k) e ∙ digits_div 1 h

same_at : (x : ℤ) (k : ℕ) → mag x < 2 ^ k → testbit (same_side x k) k ≡ not (is_negative x)
unfolding same_side is_negative testbit odd
same_at (pos n) k h = ap odd (top n k h)
same_at (negsuc n) k h = ap (λ (y : ℤ). testbit y k) (outward n (2 ^ k)) ∙ ap (λ (m : ℕ). not (odd m)) (top n k h)

doubled : (n k i : ℕ) → n < 2 ^ k → k < i → n + 2 ^ k < 2 ^ i
doubled n k i h l = lt_of_lt_of_le (omega (arith, pow-suc 2 k)) (pow_mono {i = suc k} l)

same-high : (x : ℤ) (k i : ℕ) → mag x < 2 ^ k → k < i → testbit (same_side x k) i ≡ is_negative x
unfolding same_side is_negative
same-high (pos n) k i h l = testbit-mag-lt (pos (n + 2 ^ k)) i (doubled n k i h l)
same-high (negsuc n) k i h l = ap (λ (y : ℤ). testbit y i) (outward n (2 ^ k)) ∙ testbit-mag-lt (negsuc (n + 2 ^ k)) i (doubled n k i h l)

-- a number that fits v, moved further on its side, fits each wider width
pub same-fits : (v w : ℕ) (x : ℤ) → 0 < v → v < w → fits v x ≡ true → fits w (same_side x (v - 1)) ≡ true
unfolding same_side is_negative
same-fits v w (pos n) p l f = mag-fits w (pos (n + 2 ^ (v - 1))) (doubled n (v - 1) (w - 1) (fits-mag v (pos n) f) (omega arith))
same-fits v w (negsuc n) p l f =
    rw (outward n (2 ^ (v - 1))) (mag-fits w (negsuc (n + 2 ^ (v - 1))) (doubled n (v - 1) (w - 1) (fits-mag v (negsuc n) f) (omega arith)))

-- ---- bit k replaced, of a number below it

module _ (x : ℤ) (k : ℕ) (y : ℤ) (h : mag x < 2 ^ k) where
  pub copy-sign : testbit y 0 ≡ not (is_negative x) → copy_bit x k y ≡ same_side x k
  copy-sign e = testbit-ext λ i. testbit-copy_bit x k y i ∙ by_place i (eqb i k) refl
    where
      by_place : (i : ℕ) (t : Bool) → eqb i k ≡ t → cond t (testbit y 0) (testbit x i) ≡ testbit (same_side x k) i
      by_place i true q = e ∙ sym (same_at x k h) ∙ ap (λ (j : ℕ). testbit (same_side x k) j) (sym (eqb-true i k q))
      by_place i false q =
          let d = eqb-false i k q in
          by-lt (λ b. testbit x i ≡ testbit (same_side x k) i) i k (λ l. sym (same_low x k i l))
          (λ l. testbit-mag-lt x i (lt_of_lt_of_le h (pow_mono l)) ∙ sym (same-high x k i h (omega arith)))

  copy-kept : testbit y 0 ≡ is_negative x → copy_bit x k y ≡ x
  unfolding copy_bit copy_bit_field
  copy-kept e =
      set_field-same x k (suc k) (λ j. testbit y j)
      (λ j l. let z : j ≡ 0 = omega arith in ap (λ (i : ℕ). testbit y i) z ∙ e ∙ sym (testbit-mag-lt x (k + j) (lt_of_lt_of_le h (pow_mono (omega arith)))))

module _ (w : ℕ) (p : 0 < w) (x : ℤ) (f : fits w x ≡ true) where
  -- at the width itself, the number comes to the other side of 0
  pub wrapped : mod0 (same_side x (w - 1)) (pos (2 ^ w)) ≡ other_side x (w - 1)
  wrapped = testbit-ext λ i.
      testbit-mod0-pow w (same_side x last) i p
      ∙ by-lt (λ b. cond (ltb i w) (testbit (same_side x last) i) top_bit ≡ testbit (other_side x last) i) i last
      (λ l. rw (lt-ltb i w (omega arith)) (same_low x last i l ∙ sym (other-low x last i l)))
      (λ l. upper i l ∙ same_at x last (fits-mag w x f) ∙ sym (other-high x last i (fits-mag w x f) l))
    where
      last : ℕ
      last = w - 1

      top_bit : Bool
      top_bit = testbit (same_side x last) last

      upper : (i : ℕ) → last ≤ i → cond (ltb i w) (testbit (same_side x last) i) top_bit ≡ top_bit
      upper i l =
          by-lt (λ b. cond b (testbit (same_side x last) i) top_bit ≡ top_bit) i w
          (λ u. let e : i ≡ w - 1 = omega arith in ap (λ (j : ℕ). testbit (same_side x last) j) e) (λ u. refl)

  -- where the highest bit is not changed, the result fits
  pub copy-fits : (k : ℕ) (y : ℤ) → k ≤ w - 1 → (k ≡ w - 1 → testbit y 0 ≡ is_negative x) → fits w (copy_bit x k y) ≡ true
  unfolding copy_bit copy_bit_field
  copy-fits k y l e = go (eqb k (w - 1)) refl
    where
      go : (t : Bool) → eqb k (w - 1) ≡ t → fits w (copy_bit x k y) ≡ true
      go true q =
          let h = eqb-true k (w - 1) q in
          let m : mag x < 2 ^ k = rw h (fits-mag w x f) in
          rw (copy-kept x k y m (e h)) f
      go false q = let d = eqb-false k (w - 1) q in set_field-fits w p x k (suc k) (omega arith) (λ j. testbit y j) f

-- ---- a new bit, 0 or 1

pub new-bit : (y : ℤ) → within (pos 0) y (pos 1) ≡ true → testbit y 0 ≡ eqb (nat_abs y) 1
unfolding within testbit odd
new-bit (pos zero) h = refl
new-bit (pos (suc zero)) h = refl
new-bit (pos (suc (suc n))) h = absurd (omega (arith, (within-pos 0 1 (pos (suc (suc n))) h).2))
new-bit (negsuc n) h = absurd (false≢true h)
