-- A field rotated where it stands, by masks: its two parts, moved past each other, and put back in place of the field. Assumes nothing.
use Prim.Native.Nat.{ℕ, ◌+◌, ◌*◌, ◌-◌, ◌/◌, ◌%◌, ◌≤◌, ◌<◌, ◌^◌}
use native.Mathlib.Nat.{lt_of_lt_of_le, mul_assoc, mul_comm, add-mul, add-zero}
use native.Mathlib.Omega.{arith}
use mathlib.Core.Path.{◌≡◌, refl, sym, ap, ap₂, ◌∙◌}
use mathlib.Core.Bool.{Bool, true, false, not, cond, ◌&&◌, ◌||◌, xor}
use lib.Dec.{ltb}
use lib.IntN.{ℤ, pos, nat_abs}
use lib.Pow.{pow-add, pow_pos, pow_mono, high}
use borrow.Author.Tests.{lt-ltb, le-ltb}
use Rattle.bits.specs.Testbit.{testbit, is_negative}
use Rattle.bits.specs.Logical.{bitwise_and, bitwise_ior, bitwise_xor}
use Rattle.bits.specs.Shift.{shift_right}
use Rattle.bits.specs.Division.{mod_ℕ}
use Rattle.bits.specs.Field.{in_field, copy_bit_field, rotate_bit_field}
use Rattle.bits.proofs.Booleans.{and-false, and-swap}
use Rattle.bits.proofs.FieldLaws.{testbit-copy_bit_field, in_field-true, in_field-lt, in_field-ge}
use Rattle.words.proofs.FieldWords.{testbit-div, testbit-times, digits-lt-pow}
use Rattle.bits.proofs.LogicalLaws.{testbit-and, testbit-ior, testbit-xor}
use Rattle.bits.proofs.ModLaws.{mod_ℕ-lt}
use Rattle.words.proofs.RotateWords.{rotate-put, rotate-digits, rotate-digits-lt}
use Rattle.bits.proofs.ShiftLaws.{shift_right-compose}
use Rattle.bits.proofs.TestbitLaws.{by-lt, testbit-ext, testbit-mag-lt, testbit-shift_right}
use Rattle.bits.proofs.ValueLaws.{testbit-mask, testbit-mod_ℕ-pow}

-- a number moved up by k places, below k and from k on
times-lt : (v k i : ℕ) → i < k → testbit (pos (v * 2 ^ k)) i ≡ false
times-lt v k i h = testbit-times v k i ∙ ap (λ (t : Bool). not t && testbit (pos v) (i - k)) (lt-ltb i k h)

times-ge : (v k i : ℕ) → k ≤ i → testbit (pos (v * 2 ^ k)) i ≡ testbit (pos v) (i - k)
times-ge v k i h = testbit-times v k i ∙ ap (λ (t : Bool). not t && testbit (pos v) (i - k)) (le-ltb i k h)

-- the bits of x from a on, n of them
window : (x : ℤ) (a n i : ℕ) → a ≤ i → testbit (pos (mod_ℕ (shift_right x a) (2 ^ n))) (i - a) ≡ ltb (i - a) n && testbit x i
window x a n i h =
    let e : a + (i - a) ≡ i = omega arith in
    testbit-mod_ℕ-pow (shift_right x a) n (i - a) ∙ ap (λ (t : Bool). ltb (i - a) n && t) (testbit-shift_right x a (i - a) ∙ ap (testbit x) e)

-- ---- a part of a number, where it stands

pub part-and : (x : ℤ) (a n : ℕ) → bitwise_and x (pos ((2 ^ n - 1) * 2 ^ a)) ≡ pos (mod_ℕ (shift_right x a) (2 ^ n) * 2 ^ a)
part-and x a n = testbit-ext (λ i. testbit-and x (pos ((2 ^ n - 1) * 2 ^ a)) i ∙ by-lt (λ _. P i) i a (below i) (above i))
  where
    P : ℕ → Type 0
    P i = testbit x i && testbit (pos ((2 ^ n - 1) * 2 ^ a)) i ≡ testbit (pos (mod_ℕ (shift_right x a) (2 ^ n) * 2 ^ a)) i

    below : (i : ℕ) → i < a → P i
    below i h = ap (λ (t : Bool). testbit x i && t) (times-lt (2 ^ n - 1) a i h) ∙ and-false (testbit x i) ∙ sym (times-lt (mod_ℕ (shift_right x a) (2 ^ n)) a i h)

    above : (i : ℕ) → a ≤ i → P i
    above i h =
        ap (λ (t : Bool). testbit x i && t) (times-ge (2 ^ n - 1) a i h ∙ testbit-mask n (i - a))
        ∙ and-swap (testbit x i) (ltb (i - a) n)
        ∙ sym (times-ge (mod_ℕ (shift_right x a) (2 ^ n)) a i h ∙ window x a n i h)

pub part-lt : (x : ℤ) (a b : ℕ) → a ≤ b → mod_ℕ (shift_right x a) (2 ^ (b - a)) * 2 ^ a < 2 ^ b
part-lt x a b h =
    omega (arith, digits-lt-pow a b (mod_ℕ (shift_right x a) (2 ^ (b - a))) 0 h (mod_ℕ-lt (shift_right x a) (2 ^ (b - a)) (pow_pos (b - a))) (pow_pos a))

-- ---- the two parts of a field

low_part : (y : ℤ) (n c : ℕ) → mod_ℕ y (2 ^ (n + c)) % 2 ^ n ≡ mod_ℕ y (2 ^ n)
unfolding mod_ℕ
low_part y n c = ap nat_abs (testbit-ext {x = pos (mod_ℕ y (2 ^ (n + c)) % 2 ^ n)} {y = pos (mod_ℕ y (2 ^ n))} (λ i.
    testbit-mod_ℕ-pow (pos (mod_ℕ y (2 ^ (n + c)))) n i
    ∙ ap (λ (t : Bool). ltb i n && t) (testbit-mod_ℕ-pow y (n + c) i)
    ∙ by-lt (λ t. t && (ltb i (n + c) && testbit y i) ≡ t && testbit y i) i n
    (λ h. ap (λ (t : Bool). t && testbit y i) (lt-ltb i (n + c) (omega arith))) (λ h. refl)
    ∙ sym (testbit-mod_ℕ-pow y n i)))

high_part : (y : ℤ) (n c : ℕ) → mod_ℕ y (2 ^ (n + c)) / 2 ^ n ≡ mod_ℕ (shift_right y n) (2 ^ c)
high_part y n c = ap nat_abs (testbit-ext {x = pos (mod_ℕ y (2 ^ (n + c)) / 2 ^ n)} {y = pos (mod_ℕ (shift_right y n) (2 ^ c))} (λ i.
    testbit-div (mod_ℕ y (2 ^ (n + c))) n i
    ∙ testbit-mod_ℕ-pow y (n + c) (n + i)
    ∙ by-lt (λ t. ltb (n + i) (n + c) && testbit y (n + i) ≡ t && testbit y (n + i)) i c
    (λ h. ap (λ (t : Bool). t && testbit y (n + i)) (lt-ltb (n + i) (n + c) (omega arith)))
    (λ h. ap (λ (t : Bool). t && testbit y (n + i)) (le-ltb (n + i) (n + c) (omega arith)))
    ∙ sym (testbit-mod_ℕ-pow (shift_right y n) c i ∙ ap (λ (t : Bool). ltb i c && t) (testbit-shift_right y n i))))

-- ---- the field put back

place : (x : ℤ) (s e r : ℕ) → s ≤ e → r < 2 ^ (e - s)
    → bitwise_ior (bitwise_xor x (pos (mod_ℕ (shift_right x s) (2 ^ (e - s)) * 2 ^ s))) (pos (r * 2 ^ s)) ≡ copy_bit_field x s e (pos r)
unfolding xor is_negative
place x s e r o l = testbit-ext (λ i.
    testbit-ior (bitwise_xor x (pos (v * 2 ^ s))) (pos (r * 2 ^ s)) i
    ∙ ap (λ (t : Bool). t || testbit (pos (r * 2 ^ s)) i) (testbit-xor x (pos (v * 2 ^ s)) i)
    ∙ by-lt (λ _. P i) i s (below i) (λ h. by-lt (λ _. P i) i e (inside i h) (above i h))
    ∙ sym (testbit-copy_bit_field x s e (pos r) i))
  where
    v : ℕ
    v = mod_ℕ (shift_right x s) (2 ^ (e - s))

    P : ℕ → Type 0
    P i = xor (testbit x i) (testbit (pos (v * 2 ^ s)) i) || testbit (pos (r * 2 ^ s)) i ≡ cond (in_field s e i) (testbit (pos r) (i - s)) (testbit x i)

    kept : (t : Bool) → xor t false || false ≡ t
    kept true = refl
    kept false = refl

    cleared : (t u : Bool) → xor t t || u ≡ u
    cleared true u = refl
    cleared false u = refl

    below : (i : ℕ) → i < s → P i
    below i h = rw (times-lt v s i h, times-lt r s i h, in_field-lt s e i h) (kept (testbit x i))

    inside : (i : ℕ) → s ≤ i → i < e → P i
    inside i h k = rw (times-ge v s i h, window x s (e - s) i h, lt-ltb (i - s) (e - s) (omega arith), times-ge r s i h, in_field-true s e i h k) (cleared (testbit x i) (testbit (pos r) (i - s)))

    above : (i : ℕ) → s ≤ i → e ≤ i → P i
    above i h k =
        let z : testbit (pos r) (i - s) ≡ false = testbit-mag-lt (pos r) (i - s) (lt_of_lt_of_le l (pow_mono (omega arith))) in
        rw (times-ge v s i h, window x s (e - s) i h, le-ltb (i - s) (e - s) (omega arith), times-ge r s i h, z, in_field-ge s e i k) (kept (testbit x i))

-- ---- the whole

-- the upper part comes down to the field's start
down-law : (v s n : ℕ) → v * 2 ^ (s + n) / 2 ^ n ≡ v * 2 ^ s
down-law v s n =
    ap (λ (m : ℕ). m / 2 ^ n) (ap (λ (m : ℕ). v * m) (pow-add 2 s n) ∙ sym (mul_assoc v (2 ^ s) (2 ^ n)) ∙ sym (add-zero (v * 2 ^ s * 2 ^ n)))
    ∙ high (v * 2 ^ s) n {lo = 0} (pow_pos n)

join-law : (a b s c : ℕ) → a * 2 ^ s * 2 ^ c + b * 2 ^ s ≡ (a * 2 ^ c + b) * 2 ^ s
join-law a b s c =
    ap (λ (m : ℕ). m + b * 2 ^ s) (mul_assoc a (2 ^ s) (2 ^ c) ∙ ap (λ (m : ℕ). a * m) (mul_comm (2 ^ s) (2 ^ c)) ∙ sym (mul_assoc a (2 ^ c) (2 ^ s)))
    ∙ sym (add-mul (a * 2 ^ c) b (2 ^ s))

module _ (x : ℤ) (s n c : ℕ) where
  abbrev whole : ℕ
  whole = mod_ℕ (shift_right x s) (2 ^ (n + c))

  abbrev below : ℕ
  below = mod_ℕ (shift_right x s) (2 ^ n)

  abbrev above : ℕ
  above = mod_ℕ (shift_right x (s + n)) (2 ^ c)

  -- the field rotated, as a number
  digits : below * 2 ^ c + above ≡ whole % 2 ^ n * 2 ^ c + whole / 2 ^ n
  digits =
      sym (ap₂ (λ (a b : ℕ). a * 2 ^ c + b) (low_part (shift_right x s) n c)
      (high_part (shift_right x s) n c ∙ ap (λ (y : ℤ). mod_ℕ y (2 ^ c)) (shift_right-compose x s n)))

-- the field of x, and the field rotated, as numbers
unfoldable pub field_of : ℤ → ℕ → ℕ → ℕ
field_of x s e = mod_ℕ (shift_right x s) (2 ^ (e - s))

unfoldable pub rotated_of : ℤ → ℕ → ℕ → ℕ → ℕ
rotated_of x s e c = field_of x s e % 2 ^ (e - s - c) * 2 ^ c + field_of x s e / 2 ^ (e - s - c)

module _ (x : ℤ) (s e c : ℕ) (o : s ≤ e) (k : c ≤ e - s) where
  field_lt : field_of x s e < 2 ^ (e - s)
  unfolding field_of
  field_lt = mod_ℕ-lt (shift_right x s) (2 ^ (e - s)) (pow_pos (e - s))

  rotated-lt : rotated_of x s e c < 2 ^ (e - s)
  unfolding rotated_of
  rotated-lt = rotate-digits-lt (field_of x s e) (e - s) c field_lt k

  pub rotated-place-lt : rotated_of x s e c * 2 ^ s < 2 ^ e
  rotated-place-lt = omega (arith, digits-lt-pow s e (rotated_of x s e c) 0 o rotated-lt (pow_pos s))

  -- what the code adds
  pub summed : {p u q : ℕ} → p ≡ mod_ℕ (shift_right x s) (2 ^ (e - c - s)) * 2 ^ s → u ≡ p * 2 ^ c
      → q ≡ mod_ℕ (shift_right x (e - c)) (2 ^ (e - (e - c))) * 2 ^ (e - c) → u + q / 2 ^ (e - c - s) ≡ rotated_of x s e c * 2 ^ s
  unfolding rotated_of field_of
  summed {p} {u} {q} hp hu hq =
      let n = e - c - s in
      let e₁ : e - c ≡ s + n = omega arith in
      let e₂ : e - (e - c) ≡ c = omega arith in
      let e₃ : n + c ≡ e - s = omega arith in
      let e₄ : n ≡ e - s - c = omega arith in
      let hq' : q ≡ mod_ℕ (shift_right x (s + n)) (2 ^ c) * 2 ^ (s + n) = hq ∙ ap₂ (λ (a b : ℕ). mod_ℕ (shift_right x a) (2 ^ b) * 2 ^ a) e₁ e₂ in
      ap₂ (λ (a b : ℕ). a + b / 2 ^ n) (hu ∙ ap (λ (a : ℕ). a * 2 ^ c) hp) hq'
      ∙ ap (λ (a : ℕ). below x s n c * 2 ^ s * 2 ^ c + a) (down-law (above x s n c) s n)
      ∙ join-law (below x s n c) (above x s n c) s c
      ∙ ap (λ (a : ℕ). a * 2 ^ s) (digits x s n c ∙ ap₂ (λ (a b : ℕ). mod_ℕ (shift_right x s) (2 ^ a) % 2 ^ b * 2 ^ c + mod_ℕ (shift_right x s) (2 ^ a) / 2 ^ b) e₃ e₄)

  -- and what it puts together
  pub rotated : {f t : ℕ} → f ≡ mod_ℕ (shift_right x s) (2 ^ (e - s)) * 2 ^ s → t ≡ rotated_of x s e c * 2 ^ s
      → bitwise_ior (bitwise_xor x (pos f)) (pos t) ≡ rotate_bit_field x s e (pos c)
  unfolding rotated_of field_of
  rotated hf ht =
      ap₂ (λ (a b : ℕ). bitwise_ior (bitwise_xor x (pos a)) (pos b)) hf ht
      ∙ place x s e (rotated_of x s e c) o rotated-lt
      ∙ rotate-put x s e (pos c) refl (rotate-digits (field_of x s e) (e - s) c field_lt k)
