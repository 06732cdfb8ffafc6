-- A field rotated and reversed as a number, by the digits of that number. Assumes nothing.
use mathlib.Core.Path.{◌≡◌, refl, sym, ◌∙◌, ap, subst}
use mathlib.Core.Bool.{Bool, cond, ◌&&◌}
use Prim.Native.Nat.{ℕ, suc, ◌+◌, ◌*◌, ◌-◌, ◌/◌, ◌%◌, ◌^◌, ◌≤◌, ◌<◌}
use native.Mathlib.Nat.{mod-lt, mod-eq_of_lt, zero-add}
use native.Mathlib.Omega.{arith}
use lib.Pow.{pow_pos, shr_lt}
use lib.IntN.{ℤ, pos}
use borrow.Author.Tests.{lt-ltb}
use Rattle.bits.specs.Testbit.{testbit}
use Rattle.bits.specs.Shift.{shift_right}
use Rattle.bits.specs.Division.{mod_ℕ, «mod»}
use Rattle.bits.specs.Field.{bit_field, copy_bit_field, permute_field, rotate_index, reverse_index, rotate_bit_field, reverse_bit_field}
use Rattle.bits.proofs.IntegerLaws.{pos-sub-lt, pos-sub-ge}
use Rattle.bits.proofs.TestbitLaws.{by-lt, testbit-ext, testbit-small}
use Rattle.bits.proofs.ValueLaws.{bit_field-value}
use Rattle.bits.proofs.FieldLaws.{in_field-ge, testbit-bit_field, testbit-permute_field-in, testbit-permute_field-out}
use Rattle.bits.proofs.FieldAlgebra.{set_field-ext}
use Rattle.bits.proofs.RotateLaws.{rotate_index-lt, reverse_index-lt}
use Rattle.words.proofs.FieldWords.{testbit-mod-lt, testbit-div, testbit-digits, digits-lt-pow}

-- ---- a permutation of a field, and of the field as a number

testbit-permute-number : (p : ℕ → ℕ) (x : ℤ) (size j : ℕ) → j < size → testbit (permute_field p x 0 size) j ≡ testbit x (p j)
testbit-permute-number p x size j h =
    ap (testbit (permute_field p x 0 size)) (sym (zero-add j))
    ∙ testbit-permute_field-in p x 0 size j (omega arith)
    ∙ ap (testbit x) (zero-add (p j))

-- a permutation of a field permutes the field as a number
pub permute_field-number : (p : ℕ → ℕ) (x : ℤ) (start end : ℕ) → ((j : ℕ) → j < end - start → p j < end - start)
    → permute_field p x start end ≡ copy_bit_field x start end (permute_field p (bit_field x start end) 0 (end - start))
unfolding permute_field copy_bit_field
permute_field-number p x start end into =
    set_field-ext x x start end (λ j. testbit x (start + p j)) (λ j. testbit (permute_field p (bit_field x start end) 0 (end - start)) j)
    (λ i o. refl)
    (λ j h. sym
    (testbit-permute-number p (bit_field x start end) (end - start) j h
    ∙ testbit-bit_field x start end (p j)
    ∙ ap (λ (b : Bool). b && testbit x (start + p j)) (lt-ltb (p j) (end - start) (into j h))))

whole : (size : ℕ) → size - 0 ≡ size
whole size = omega arith

rotate-number : (x : ℤ) (start end : ℕ) (c : ℤ)
    → rotate_bit_field x start end c ≡ copy_bit_field x start end (rotate_bit_field (bit_field x start end) 0 (end - start) c)
unfolding rotate_bit_field
rotate-number x start end c =
    permute_field-number (rotate_index (end - start) c) x start end (λ j h. rotate_index-lt (end - start) (omega arith) c j)
    ∙ ap (λ (size : ℕ). copy_bit_field x start end (permute_field (rotate_index size c) (bit_field x start end) 0 (end - start)))
    (sym (whole (end - start)))

reverse-number : (x : ℤ) (start end : ℕ)
    → reverse_bit_field x start end ≡ copy_bit_field x start end (reverse_bit_field (bit_field x start end) 0 (end - start))
unfolding reverse_bit_field
reverse-number x start end =
    permute_field-number (reverse_index (end - start)) x start end (λ j h. reverse_index-lt (end - start) (omega arith) j)
    ∙ ap (λ (size : ℕ). copy_bit_field x start end (permute_field (reverse_index size) (bit_field x start end) 0 (end - start)))
    (sym (whole (end - start)))

-- the field of x as a number v, and a number r put back
pub bit_field-number : (x : ℤ) (start end : ℕ) {v : ℕ} → v ≡ mod_ℕ (shift_right x start) (2 ^ (end - start)) → pos v ≡ bit_field x start end
unfolding «mod»
bit_field-number x start end p = ap pos p ∙ sym (bit_field-value x start end)

pub rotate-put : (x : ℤ) (start end : ℕ) (c : ℤ) {v r : ℕ} → v ≡ mod_ℕ (shift_right x start) (2 ^ (end - start))
    → pos r ≡ rotate_bit_field (pos v) 0 (end - start) c → copy_bit_field x start end (pos r) ≡ rotate_bit_field x start end c
rotate-put x start end c p q =
    ap (copy_bit_field x start end) (q ∙ ap (λ (y : ℤ). rotate_bit_field y 0 (end - start) c) (bit_field-number x start end p))
    ∙ sym (rotate-number x start end c)

pub reverse-put : (x : ℤ) (start end : ℕ) {v r : ℕ} → v ≡ mod_ℕ (shift_right x start) (2 ^ (end - start))
    → pos r ≡ reverse_bit_field (pos v) 0 (end - start) → copy_bit_field x start end (pos r) ≡ reverse_bit_field x start end
reverse-put x start end p q =
    ap (copy_bit_field x start end) (q ∙ ap (λ (y : ℤ). reverse_bit_field y 0 (end - start)) (bit_field-number x start end p))
    ∙ sym (reverse-number x start end)

-- ---- by digits

-- a number below 2^size that has the permuted bits of v
permuted : (p : ℕ → ℕ) (n v size : ℕ) → n < 2 ^ size → v < 2 ^ size → ((j : ℕ) → j < size → testbit (pos n) j ≡ testbit (pos v) (p j))
    → pos n ≡ permute_field p (pos v) 0 size
permuted p n v size h l e = testbit-ext λ i.
    by-lt (λ b. testbit (pos n) i ≡ testbit (permute_field p (pos v) 0 size) i) i size
    (λ u. e i u ∙ sym (testbit-permute-number p (pos v) size i u))
    (λ u. testbit-small n size i h u ∙ sym (testbit-permute_field-out p (pos v) 0 size i (in_field-ge 0 size i u) ∙ testbit-small v size i l u))

-- where bit j comes from
pub rotate-low : (size c j : ℕ) → c ≤ size → j < c → rotate_index size (pos c) j ≡ size - c + j
unfolding rotate_index mod_ℕ
rotate-low size c j h l =
    ap (λ (x : ℤ). mod_ℕ x size) (pos-sub-lt j c l)
    ∙ ap (λ (n : ℕ). size - suc n) (let u : c - suc j < size = omega arith in mod-eq_of_lt u)
    ∙ (let e : size - suc (c - suc j) ≡ size - c + j = omega arith in e)

pub rotate-high : (size c j : ℕ) → c ≤ j → j < size → rotate_index size (pos c) j ≡ j - c
unfolding rotate_index mod_ℕ
rotate-high size c j h l =
    ap (λ (x : ℤ). mod_ℕ x size) (pos-sub-ge j c h) ∙ (let u : j - c < size = omega arith in mod-eq_of_lt u)

rotate-div-lt : (v size c : ℕ) → v < 2 ^ size → c ≤ size → v / 2 ^ (size - c) < 2 ^ c
rotate-div-lt v size c h k =
    let e : size ≡ c + (size - c) = omega arith in shr_lt c (size - c) (subst (λ (n : ℕ). v < 2 ^ n) e h)

pub rotate-digits-lt : (v size c : ℕ) → v < 2 ^ size → c ≤ size → v % 2 ^ (size - c) * 2 ^ c + v / 2 ^ (size - c) < 2 ^ size
rotate-digits-lt v size c h k =
    digits-lt-pow c size (v % 2 ^ (size - c)) (v / 2 ^ (size - c)) k (mod-lt v (pow_pos (size - c))) (rotate-div-lt v size c h k)

-- the low size - c bits go up by c, and the c bits above them come down
pub rotate-digits : (v size c : ℕ) → v < 2 ^ size → c ≤ size
    → pos (v % 2 ^ (size - c) * 2 ^ c + v / 2 ^ (size - c)) ≡ rotate_bit_field (pos v) 0 size (pos c)
unfolding rotate_bit_field
rotate-digits v size c h k =
    permuted (rotate_index size (pos c)) (v % 2 ^ (size - c) * 2 ^ c + v / 2 ^ (size - c)) v size (rotate-digits-lt v size c h k) h
    (λ j u. testbit-digits (v % 2 ^ (size - c)) (v / 2 ^ (size - c)) c j (rotate-div-lt v size c h k)
    ∙ by-lt
    (λ b. cond b (testbit (pos (v / 2 ^ (size - c))) j) (testbit (pos (v % 2 ^ (size - c))) (j - c))
    ≡ testbit (pos v) (rotate_index size (pos c) j))
    j c
    (λ l. testbit-div v (size - c) j ∙ ap (testbit (pos v)) (sym (rotate-low size c j k l)))
    (λ l. testbit-mod-lt v (size - c) (j - c) (omega arith) ∙ ap (testbit (pos v)) (sym (rotate-high size c j l u))))
    ∙ ap (λ (n : ℕ). permute_field (rotate_index n (pos c)) (pos v) 0 size) (sym (whole size))

-- a number below 2^size that has the bits of v in the opposite order
pub reverse_bits : (n v size : ℕ) → n < 2 ^ size → v < 2 ^ size → ((j : ℕ) → j < size → testbit (pos n) j ≡ testbit (pos v) (size - suc j))
    → pos n ≡ reverse_bit_field (pos v) 0 size
unfolding reverse_bit_field reverse_index
reverse_bits n v size h l e =
    permuted (reverse_index size) n v size h l e ∙ ap (λ (k : ℕ). permute_field (reverse_index k) (pos v) 0 size) (sym (whole size))
