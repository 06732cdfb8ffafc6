-- What the words of a field operation are, said of integers. Assumes nothing.
use Prim.Native.Nat.{ℕ, suc, ◌+◌, ◌*◌, ◌-◌, ◌/◌, ◌%◌, ◌<◌, ◌≤◌, ◌^◌}
use native.Mathlib.Omega.{arith}
use mathlib.Core.Path.{◌≡◌, refl, sym, ap, ap₂, ◌∙◌, subst}
use mathlib.Core.Bool.{Bool, true, false}
use lib.Dec.{eqb, lit<}
use lib.Pow.{split, pow_pos}
use lib.IntN.{ℤ, pos}
use lib.Signed.{mag}
use mir.Syntax.{w64}
use mir.Val.{SFits, to_z, of_z}
use Rattle.bits.proofs.ModLaws.{mod_ℕ-lt}
use Rattle.bits.proofs.TestbitLaws.{testbit-digit, testbit-shift_right}
use Rattle.bits.specs.Testbit.{is_negative, testbit}
use Rattle.words.specs.Sign.{of_magnitude}
use Rattle.bits.specs.Shift.{floor_div, shift_right}
use Rattle.bits.specs.Division.{mod_ℕ}
use Rattle.bits.specs.Field.{copy_bit_field}
use Rattle.words.proofs.MagnitudeLaws.{of_magnitude-mag}
use Rattle.words.proofs.FieldWords.{copy_bit_field-magnitude, testbit-mod_ℕ-lt}
use Rattle.bits.proofs.LengthBounds.{set_field-lt}
use Rattle.words.proofs.WordLaws.{back, mag-of_magnitude}

-- ---- sign and magnitude

-- a word from what `is_negative` and `magnitude` answered
pub together : {x : ℤ} {negative : Bool} {m : ℕ} → SFits w64 x
    → negative ≡ is_negative (to_z w64 (of_z w64 x)) → m ≡ mag (to_z w64 (of_z w64 x)) → of_magnitude negative m ≡ x
together {x} h p q = ap₂ of_magnitude p q ∙ of_magnitude-mag (to_z w64 (of_z w64 x)) ∙ back h

pub magnitude-lt : {x : ℤ} {m : ℕ} → SFits w64 x → m ≡ mag (to_z w64 (of_z w64 x)) → m < 2 ^ 63
magnitude-lt {x} h q = subst (λ (n : ℕ). n < 2 ^ 63) (sym (q ∙ ap mag (back h))) h.sfits

pub magnitude-shift_right : (negative : Bool) (m k : ℕ) → of_magnitude negative (m / 2 ^ k) ≡ shift_right (of_magnitude negative m) k
unfolding of_magnitude shift_right floor_div
magnitude-shift_right true m k = refl
magnitude-shift_right false m k = refl

-- ---- low bits, by the sign

pub low-negative : {negative : Bool} (m k : ℕ) → negative ≡ true → 2 ^ k - 1 - m % 2 ^ k ≡ mod_ℕ (of_magnitude negative m) (2 ^ k)
unfolding of_magnitude mod_ℕ
low-negative {negative} m k e =
    let s : 2 ^ k - 1 - m % 2 ^ k ≡ 2 ^ k - suc (m % 2 ^ k) = omega arith in
    s ∙ sym (ap (λ (b : Bool). mod_ℕ (of_magnitude b m) (2 ^ k)) e)

pub low-nonnegative : {negative : Bool} (m k : ℕ) → negative ≡ false → m % 2 ^ k ≡ mod_ℕ (of_magnitude negative m) (2 ^ k)
unfolding of_magnitude mod_ℕ
low-nonnegative {negative} m k e = sym (ap (λ (b : Bool). mod_ℕ (of_magnitude b m) (2 ^ k)) e)

-- one bit, as a number
pub one_bit : (x : ℤ) (k : ℕ) → eqb (mod_ℕ (shift_right x k) (2 ^ 1)) 1 ≡ testbit x k
one_bit x k =
    let n = mod_ℕ (shift_right x k) (2 ^ 1) in
    let digit : n / 2 ^ 0 % 2 ≡ n = omega (arith, mod_ℕ-lt (shift_right x k) (2 ^ 1) (pow_pos 1)) in
    let same : k + 0 ≡ k = omega arith in
    sym (testbit-digit n 0 ∙ ap (λ (d : ℕ). eqb d 1) digit)
    ∙ testbit-mod_ℕ-lt (shift_right x k) 1 0 (lit< tt)
    ∙ testbit-shift_right x k 0
    ∙ ap (testbit x) same

-- ---- a field replaced

-- `new` is what the field of the magnitude gets
module _ (negative : Bool) (m start end y : ℕ) {new : ℕ} (e : new ≡ mod_ℕ (of_magnitude negative y) (2 ^ (end - start))) (h : start ≤ end) where
  pub replaced : of_magnitude negative (m - m % 2 ^ end + new * 2 ^ start + m % 2 ^ start) ≡ copy_bit_field (of_magnitude negative m) start end (pos y)
  replaced =
      (let d : m - m % 2 ^ end + new * 2 ^ start + m % 2 ^ start ≡ m / 2 ^ end * 2 ^ end + (new * 2 ^ start + m % 2 ^ start) = omega (arith, split m end) in
      ap (of_magnitude negative) d)
      ∙ ap (λ (n : ℕ). of_magnitude negative (m / 2 ^ end * 2 ^ end + (n * 2 ^ start + m % 2 ^ start))) e
      ∙ copy_bit_field-magnitude negative m start end y h

  pub replaced-lt : end < 64 → m < 2 ^ 63 → m - m % 2 ^ end + new * 2 ^ start + m % 2 ^ start < 2 ^ 63
  unfolding copy_bit_field
  replaced-lt l k =
      subst (λ (n : ℕ). n < 2 ^ 63) (ap mag (sym replaced) ∙ mag-of_magnitude negative (m - m % 2 ^ end + new * 2 ^ start + m % 2 ^ start))
      (set_field-lt (of_magnitude negative m) start end (λ j. testbit (pos y) j) 63 (omega arith)
      (subst (λ (n : ℕ). n < 2 ^ 63) (sym (mag-of_magnitude negative m)) k))
