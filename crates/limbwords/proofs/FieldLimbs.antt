-- A limb of each operation on fields, from words with the bits of the limb. Assumes nothing.
use Prim.Native.Nat.{ℕ, suc, ◌+◌, ◌*◌, ◌-◌, ◌^◌, ◌≤◌, ◌<◌}
use native.Mathlib.Nat.{add-sub_cancel_left}
use native.Mathlib.Omega.{arith}
use mathlib.Core.Path.{◌≡◌, refl, sym, ap, ◌∙◌}
use mathlib.Core.Bool.{Bool, true, false, cond, ◌&&◌}
use lib.Dec.{ltb}
use lib.IntN.{ℤ, pos}
use Rattle.bits.specs.Testbit.{testbit}
use Rattle.bits.specs.Shift.{shift_left}
use Rattle.bits.specs.Field.{in_field, bit_field, set_field, copy_bit_field, permute_field, rotate_index, reverse_index, rotate_bit_field, reverse_bit_field}
use Rattle.bits.proofs.TestbitLaws.{by-lt, testbit-zero}
use Rattle.bits.proofs.ShiftLaws.{testbit-shift_left-ge}
use Rattle.bits.proofs.FieldLaws.{in_field-true, in_field-lt, in_field-ge, by_field, testbit-set_field, testbit-bit_field}
use Rattle.words.proofs.RotateWords.{rotate-low, rotate-high}
use Rattle.limbwords.specs.Results.{bits_from, limb_at}
use Rattle.limbwords.proofs.LimbLaws.{testbit-bits_from, word-ext}

-- ---- one bit

-- from two words: below `end` from the one, and below `start` and from `end` on from the other
pub choose-field : (start end i : ℕ) (a b : Bool) → cond (ltb i start) b (cond (ltb i end) a b) ≡ cond (in_field start end i) a b
choose-field start end i a b =
    by-lt (λ c. cond c b (cond (ltb i end) a b) ≡ cond (in_field start end i) a b) i start
    (λ l. pick (in_field-lt start end i l))
    (λ l. by-lt (λ c. cond c a b ≡ cond (in_field start end i) a b) i end
    (λ u. pick (in_field-true start end i l u))
    (λ u. pick (in_field-ge start end i u)))
  where
    pick : {c : Bool} → in_field start end i ≡ c → cond c a b ≡ cond (in_field start end i) a b
    pick e = sym (ap (λ (c : Bool). cond c a b) e)

-- from 32 bits of x, and of x shifted left
window-bit : (x : ℤ) (at t w m : ℕ) → w ≡ bits_from x at → t < 32 → at + t ≡ m → testbit (pos w) t ≡ testbit x m
window-bit x at t w m e h q = ap (λ (n : ℕ). testbit (pos n) t) e ∙ testbit-bits_from x at t h ∙ ap (testbit x) q

shifted-bit : (x : ℤ) (at by t w m : ℕ) → w ≡ bits_from (shift_left x by) at → t < 32 → at + t ≡ by + m → testbit (pos w) t ≡ testbit x m
shifted-bit x at by t w m e h q =
    window-bit (shift_left x by) at t w (by + m) e h q
    ∙ testbit-shift_left-ge x by (by + m) (omega arith)
    ∙ ap (testbit x) (add-sub_cancel_left by m)

-- ---- a limb of a field as a number: the bits of the field, and zeros from its end on

pub bit_field-limb : (x : ℤ) (start end j : ℕ) {w r : ℕ} → r < 2 ^ 32 → w ≡ bits_from x (start + 32 * j)
    → ((t : ℕ) → t < 32 → testbit (pos r) t ≡ cond (ltb (32 * j + t) (end - start)) (testbit (pos w) t) (testbit (pos 0) t))
    → r ≡ limb_at (bit_field x start end) j
bit_field-limb x start end j {w} {r} h e f =
    word-ext r (bit_field x start end) (32 * j) h (λ t l.
    f t l ∙ pick t l (ltb (32 * j + t) (end - start)) ∙ sym (testbit-bit_field x start end (32 * j + t)))
  where
    pick : (t : ℕ) → t < 32 → (b : Bool) → cond b (testbit (pos w) t) (testbit (pos 0) t) ≡ b && testbit x (start + (32 * j + t))
    pick t l true = window-bit x (start + 32 * j) t w (start + (32 * j + t)) e l (omega arith)
    pick t l false = testbit-zero t

-- ---- a limb of x with a field replaced

-- limb j has the bits of the word `inside` within the field, and those of x outside it
pub record Laid (x : ℤ) (start end j inside r : ℕ) : Type 0 where
  pub fits : r < 2 ^ 32
  pub outside : ℕ
  pub same : outside ≡ limb_at x j
  pub bits : (t : ℕ) → t < 32 → testbit (pos r) t ≡ cond (in_field start end (32 * j + t)) (testbit (pos inside) t) (testbit (pos outside) t)

-- by any new bits that `inside` has within the field
set_field-limb : {x : ℤ} {start end j inside r : ℕ} (g : ℕ → Bool) → Laid x start end j inside r
    → ((t : ℕ) → t < 32 → start ≤ 32 * j + t → 32 * j + t < end → testbit (pos inside) t ≡ g (32 * j + t - start))
    → r ≡ limb_at (set_field x start end g) j
set_field-limb {x} {start} {end} {j} {inside} {r} g laid k =
    word-ext r (set_field x start end g) (32 * j) laid.fits (λ t l.
    laid.bits t l
    ∙ by_field
    (λ b. cond b (testbit (pos inside) t) (testbit (pos laid.outside) t) ≡ cond b (g (32 * j + t - start)) (testbit x (32 * j + t)))
    start end (32 * j + t)
    (k t l)
    (λ o. window-bit x (32 * j) t laid.outside (32 * j + t) laid.same l refl)
    ∙ sym (testbit-set_field x start end g (32 * j + t)))

-- by the low bits of y
pub copy_bit_field-limb : {x : ℤ} {start end j inside r : ℕ} (y : ℤ) → Laid x start end j inside r
    → inside ≡ limb_at (shift_left y start) j → r ≡ limb_at (copy_bit_field x start end y) j
unfolding copy_bit_field
copy_bit_field-limb {x} {start} {end} {j} {inside} y laid e =
    set_field-limb (λ i. testbit y i) laid (λ t l s u. shifted-bit y (32 * j) start t inside (32 * j + t - start) e l (omega arith))

-- rotated: the upper bits of the field come down to its start, and the others go up
pub rotate_bit_field-limb : {x : ℤ} {start end by j upper others inside r : ℕ} → by ≤ end - start → Laid x start end j inside r
    → ((t : ℕ) → t < 32 → testbit (pos inside) t ≡ cond (ltb (32 * j + t) (start + by)) (testbit (pos upper) t) (testbit (pos others) t))
    → upper ≡ bits_from x (32 * j + (end - start - by)) → others ≡ limb_at (shift_left x by) j
    → r ≡ limb_at (rotate_bit_field x start end (pos by)) j
unfolding rotate_bit_field permute_field
rotate_bit_field-limb {x} {start} {end} {by} {j} {upper} {others} h laid k p q =
    set_field-limb (λ i. testbit x (start + rotate_index (end - start) (pos by) i)) laid
    (λ t l s u. k t l
    ∙ by-lt
    (λ c. cond c (testbit (pos upper) t) (testbit (pos others) t) ≡ testbit x (start + rotate_index (end - start) (pos by) (32 * j + t - start)))
    (32 * j + t) (start + by)
    (λ v. window-bit x (32 * j + (end - start - by)) t upper (start + (end - start - by + (32 * j + t - start))) p l (omega arith)
    ∙ ap (λ (n : ℕ). testbit x (start + n)) (sym (rotate-low (end - start) by (32 * j + t - start) h (omega arith))))
    (λ v. shifted-bit x (32 * j) by t others (start + (32 * j + t - start - by)) q l (omega arith)
    ∙ ap (λ (n : ℕ). testbit x (start + n)) (sym (rotate-high (end - start) by (32 * j + t - start) (omega arith) (omega arith)))))

-- reversed: bit i comes from bit start + end - 1 - i
pub reverse_bit_field-limb : {x : ℤ} {start end j w inside r : ℕ} → Laid x start end j inside r
    → ((t : ℕ) → t < 32 → testbit (pos inside) t ≡ testbit (pos w) (31 - t)) → w ≡ bits_from (shift_left x (32 * j + 32)) (start + end)
    → r ≡ limb_at (reverse_bit_field x start end) j
unfolding reverse_bit_field permute_field reverse_index
reverse_bit_field-limb {x} {start} {end} {j} {w} laid k p =
    set_field-limb (λ i. testbit x (start + (end - start - suc i))) laid
    (λ t l s u. k t l
    ∙ shifted-bit x (start + end) (32 * j + 32) (31 - t) w (start + (end - start - suc (32 * j + t - start))) p (omega arith) (omega arith))
