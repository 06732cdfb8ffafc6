-- Bits of a result that are bits of an operand: which they are, for each operation, and the limbs that lie whole among them. Assumes nothing.
use Prim.Native.Nat.{ℕ, zero-le, ◌+◌, ◌*◌, ◌-◌, ◌≤◌, ◌<◌}
use native.Mathlib.Omega.{arith}
use mathlib.Core.Path.{◌≡◌, sym, ap, ◌∙◌}
use mathlib.Core.Bool.{Bool, ◌&&◌}
use lib.IntN.{ℤ, pos}
use borrow.Author.Tests.{lt-ltb}
use Rattle.bits.specs.Testbit.{testbit}
use Rattle.bits.specs.Shift.{shift_left}
use Rattle.bits.specs.Field.{bit_field, set_field, copy_bit_field, permute_field, rotate_index, rotate_bit_field}
use Rattle.bits.proofs.ShiftLaws.{testbit-shift_left-ge}
use Rattle.bits.proofs.FieldLaws.{in_field-lt, in_field-ge, testbit-bit_field, testbit-set_field-in, testbit-set_field-out}
use Rattle.words.proofs.RotateWords.{rotate-low, rotate-high}
use Rattle.limbwords.specs.Results.{bits_from, limb_at}
use Rattle.limbsegments.specs.Inner.{Past}
use Rattle.limbwrite.specs.Inner.{Moved}
use Rattle.limbwords.proofs.LimbLaws.{bits_from-lt, testbit-bits_from, word-ext}
use Rattle.limbwords.proofs.WindowLaws.{bits_from-shift_left-zero}

-- ---- limbs that lie whole in a piece

-- limb j, where the windows of a segment begin with that of limb r
pub moved-limb : {z y : ℤ} {from to up down first last r s : ℕ} → Moved z y from to up down → Past (from + 31) first last r → Past to r last s
    → (j : ℕ) → r ≤ j → j < s → bits_from y (32 * r + up - down + 32 * (j - r)) ≡ limb_at z j
moved-limb {z} {y} {from} {to} {up} {down} {first} {last} {r} m p q j h k =
    let u : j < last = omega (arith, q.high) in
    let a = p.beyond j h u in
    let b = p.beyond r (omega arith) (omega arith) in
    let c = q.below j h k in
    let d = m.reach in
    word-ext (bits_from y (32 * r + up - down + 32 * (j - r))) z (32 * j) (bits_from-lt y (32 * r + up - down + 32 * (j - r))) (λ t l.
    let at : 32 * r + up - down + 32 * (j - r) + t ≡ 32 * j + t + up - down = omega arith in
    testbit-bits_from y (32 * r + up - down + 32 * (j - r)) t l ∙ ap (testbit y) at ∙ sym (m.bits (32 * j + t) (omega arith) (omega arith)))

-- limbs below a shift are zeros
pub zero-limb : (z : ℤ) {by to r : ℕ} → Past by 0 to r → (j : ℕ) → 0 ≤ j → j < r → 0 ≡ limb_at (shift_left z by) j
zero-limb z {by} p j h k = bits_from-shift_left-zero z by (32 * j) (p.below j h k)

-- ---- the pieces of each operation

same_place : (x : ℤ) (i : ℕ) → testbit x i ≡ testbit x (i + 0 - 0)
same_place x i = let e : i ≡ i + 0 - 0 = omega arith in ap (testbit x) e

pub moved-left : (x : ℤ) (by to : ℕ) → Moved (shift_left x by) x by to 0 by
moved-left x by to = record {
  reach = omega arith;
  bits = λ i h k. let e : i - by ≡ i + 0 - by = omega arith in testbit-shift_left-ge x by i h ∙ ap (testbit x) e;
}

pub moved-field : (x : ℤ) (start end : ℕ) → Moved (bit_field x start end) x 0 (end - start) start 0
moved-field x start end = record {
  reach = zero-le;
  bits = λ i h k.
      let e : start + i ≡ i + start - 0 = omega arith in
      testbit-bit_field x start end i ∙ ap (λ (b : Bool). b && testbit x (start + i)) (lt-ltb i (end - start) k) ∙ ap (testbit x) e;
}

module _ (x : ℤ) (start end : ℕ) (g : ℕ → Bool) where
  pub moved-below : Moved (set_field x start end g) x 0 start 0 0
  moved-below = record { reach = zero-le; bits = λ i h k. testbit-set_field-out x start end g i (in_field-lt start end i k) ∙ same_place x i }

  pub moved-above : (to : ℕ) → Moved (set_field x start end g) x end to 0 0
  moved-above to = record { reach = zero-le; bits = λ i h k. testbit-set_field-out x start end g i (in_field-ge start end i h) ∙ same_place x i }

  inside : (i : ℕ) → start ≤ i → i < end → testbit (set_field x start end g) i ≡ g (i - start)
  inside i h k =
      let e : i ≡ start + (i - start) = omega arith in
      ap (testbit (set_field x start end g)) e ∙ testbit-set_field-in x start end g (i - start) (omega arith)

pub moved-copy : (x y : ℤ) (start end : ℕ) → Moved (copy_bit_field x start end y) y start end 0 start
unfolding copy_bit_field
moved-copy x y start end = record {
  reach = omega arith;
  bits = λ i h k. let e : i - start ≡ i + 0 - start = omega arith in inside x start end (λ j. testbit y j) i h k ∙ ap (testbit y) e;
}

module _ (x : ℤ) (start end by : ℕ) (h : start ≤ end) (k : by ≤ end - start) where
  abbrev from-bit : ℕ → Bool
  from-bit j = testbit x (start + rotate_index (end - start) (pos by) j)

  pub moved-upper : Moved (rotate_bit_field x start end (pos by)) x start (start + by) (end - (start + by)) 0
  unfolding rotate_bit_field permute_field
  moved-upper = record {
    reach = zero-le;
    bits = λ i l m.
        let e : start + (end - start - by + (i - start)) ≡ i + (end - (start + by)) - 0 = omega arith in
        inside x start end from-bit i l (omega arith)
        ∙ ap (λ (n : ℕ). testbit x (start + n)) (rotate-low (end - start) by (i - start) k (omega arith))
        ∙ ap (testbit x) e;
  }

  pub moved-others : Moved (rotate_bit_field x start end (pos by)) x (start + by) end 0 by
  unfolding rotate_bit_field permute_field
  moved-others = record {
    reach = omega arith;
    bits = λ i l m.
        let e : start + (i - start - by) ≡ i + 0 - by = omega arith in
        inside x start end from-bit i (omega arith) m
        ∙ ap (λ (n : ℕ). testbit x (start + n)) (rotate-high (end - start) by (i - start) (omega arith) (omega arith))
        ∙ ap (testbit x) e;
  }
