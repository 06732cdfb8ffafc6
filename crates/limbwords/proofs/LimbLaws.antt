-- A limb as 32 bits of an integer: one law from bits to the limb, the limbs of an operand, and what continues it. Assumes nothing.
use Prim.Native.Nat.{ℕ, ◌+◌, ◌*◌, ◌-◌, ◌/◌, ◌%◌, ◌^◌, ◌≤◌, ◌<◌}
use native.Mathlib.Nat.{mod-lt}
use native.Mathlib.Omega.{arith}
use mathlib.Core.Path.{◌≡◌, refl, sym, ap, ap₂, ◌∙◌}
use mathlib.Core.Bool.{Bool, true, false, cond, not}
use mathlib.Core.List.{List, [], ◌∷◌}
use lib.Dec.{eqb, ltb, lit<}
use lib.IntN.{ℤ, pos}
use lib.ListN.{length, get_or}
use lib.Pow.{pow_pos}
use borrow.Author.Tests.{ltb-true, ltb-false}
use Rattle.bits.specs.Testbit.{is_negative, testbit, bit_length, fill}
use Rattle.bits.specs.Shift.{shift_right}
use Rattle.bits.specs.Division.{mod_ℕ}
use Rattle.bits.proofs.TestbitLaws.{by-lt, testbit-ext, testbit-above, testbit-digit, testbit-shift_right}
use Rattle.bits.proofs.LengthLaws.{bit_length-least-bits}
use Rattle.bits.proofs.ShiftLaws.{shift_right-above}
use Rattle.bits.proofs.ModLaws.{mod_ℕ-lt}
use Rattle.words.proofs.FieldWords.{testbit-mod_ℕ-lt, testbit-mod-lt, testbit-div, testbit-digits}
use Rattle.limbwords.specs.Value.{value}
use Rattle.limbwords.specs.Results.{bits_from}
use Rattle.limbwords.proofs.ValueLaws.{pos-injective, testbit-value, testbit-value-sign, small-bits}

pub bits_from-lt : (z : ℤ) (at : ℕ) → bits_from z at < 2 ^ 32
unfolding bits_from
bits_from-lt z at = mod_ℕ-lt (shift_right z at) (2 ^ 32) (pow_pos 32)

pub testbit-bits_from : (z : ℤ) (at t : ℕ) → t < 32 → testbit (pos (bits_from z at)) t ≡ testbit z (at + t)
unfolding bits_from
testbit-bits_from z at t h = testbit-mod_ℕ-lt (shift_right z at) 32 t h ∙ testbit-shift_right z at t

-- a limb is known by its 32 bits
pub limb-ext : (m n : ℕ) → m < 2 ^ 32 → n < 2 ^ 32 → ((t : ℕ) → t < 32 → testbit (pos m) t ≡ testbit (pos n) t) → m ≡ n
limb-ext m n a b e = pos-injective m n (testbit-ext (λ t. go t (ltb t 32) refl))
  where
    go : (t : ℕ) (c : Bool) → ltb t 32 ≡ c → testbit (pos m) t ≡ testbit (pos n) t
    go t true q = e t (ltb-true t 32 q)
    go t false q = small-bits m t a (ltb-false t 32 q) ∙ sym (small-bits n t b (ltb-false t 32 q))

pub word-ext : (r : ℕ) (z : ℤ) (at : ℕ) → r < 2 ^ 32 → ((t : ℕ) → t < 32 → testbit (pos r) t ≡ testbit z (at + t)) → r ≡ bits_from z at
word-ext r z at h e = limb-ext r (bits_from z at) h (bits_from-lt z at) (λ t k. e t k ∙ sym (testbit-bits_from z at t k))

-- ---- the limbs of an operand

pub limb-value : (xs : List ℕ) (j : ℕ) → ((i : ℕ) → get_or xs i 0 < 2 ^ 32) → j < length xs → get_or xs j 0 ≡ bits_from (value xs) (32 * j)
limb-value xs j b h = word-ext (get_or xs j 0) (value xs) (32 * j) (b j) (λ t k. sym (testbit-value xs j t h k))

-- past the last limb, all bits are the sign
bits_from-fill : (s : Bool) → mod_ℕ (fill s) (2 ^ 32) ≡ cond s 0xFFFFFFFF 0
unfolding mod_ℕ fill
bits_from-fill true = refl
bits_from-fill false = refl

pub bits_from-above : (z : ℤ) (at : ℕ) → bit_length z ≤ at → bits_from z at ≡ cond (is_negative z) 0xFFFFFFFF 0
unfolding bits_from
bits_from-above z at h = ap (λ (y : ℤ). mod_ℕ y (2 ^ 32)) (shift_right-above z at h) ∙ bits_from-fill (is_negative z)

-- a limb that only continues the sign
pub length-below : (z : ℤ) (at k : ℕ) → bit_length z ≤ at + 32 → bit_length z ≤ k → bits_from z at ≡ bits_from z k → bit_length z ≤ at
length-below z at k h l e = bit_length-least-bits z at (λ i g. by-lt (λ b. testbit z i ≡ is_negative z) i (at + 32) (in-limb i g) (λ f. testbit-above z i (omega arith)))
  where
    in-limb : (i : ℕ) → at ≤ i → i < at + 32 → testbit z i ≡ is_negative z
    in-limb i g f =
        let q : at + (i - at) ≡ i = omega arith in
        ap (testbit z) (sym q)
        ∙ sym (testbit-bits_from z at (i - at) (omega arith))
        ∙ ap (λ (n : ℕ). testbit (pos n) (i - at)) e
        ∙ testbit-bits_from z k (i - at) (omega arith)
        ∙ testbit-above z (k + (i - at)) (omega arith)

-- the top bit of a limb
pub top_bit : (n : ℕ) → n < 2 ^ 32 → testbit (pos n) 31 ≡ not (ltb n 0x80000000)
top_bit n h = testbit-digit n 31 ∙ go (ltb n 0x80000000) refl
  where
    go : (c : Bool) → ltb n 0x80000000 ≡ c → eqb (n / 2 ^ 31 % 2) 1 ≡ not c
    go true e = let q : n / 2147483648 % 2 ≡ 0 = omega (arith, ltb-true n 0x80000000 e) in ap (λ (d : ℕ). eqb d 1) q
    go false e = let q : n / 2147483648 % 2 ≡ 1 = omega (arith, ltb-false n 0x80000000 e) in ap (λ (d : ℕ). eqb d 1) q

pub sign-last : (xs : List ℕ) → ((i : ℕ) → get_or xs i 0 < 2 ^ 32) → 0 < length xs → is_negative (value xs) ≡ not (ltb (get_or xs (length xs - 1) 0) 0x80000000)
sign-last [] b h = absurd (omega arith)
sign-last (n ∷ ms) b h =
    let at : 32 * (length (n ∷ ms) - 1) + 31 ≡ 32 * length (n ∷ ms) - 1 = omega arith in
    sym (testbit-value-sign n ms (32 * (length (n ∷ ms) - 1) + 31) (omega arith))
    ∙ testbit-value (n ∷ ms) (length (n ∷ ms) - 1) 31 (omega arith) (lit< tt)
    ∙ top_bit (get_or (n ∷ ms) (length (n ∷ ms) - 1) 0) (b (length (n ∷ ms) - 1))

-- ---- 32 bits across two limbs

pub bits_from-join : (z : ℤ) (j k : ℕ) → k < 32
    → (bits_from z (32 * (j + 1)) * 2 ^ 32 + bits_from z (32 * j)) / 2 ^ k % 2 ^ 32 ≡ bits_from z (32 * j + k)
bits_from-join z j k h =
    word-ext ((high * 2 ^ 32 + low) / 2 ^ k % 2 ^ 32) z (32 * j + k) (mod-lt ((high * 2 ^ 32 + low) / 2 ^ k) (pow_pos 32)) (λ t l.
    testbit-mod-lt ((high * 2 ^ 32 + low) / 2 ^ k) 32 t l
    ∙ testbit-div (high * 2 ^ 32 + low) k t
    ∙ testbit-digits high low 32 (k + t) (bits_from-lt z (32 * j))
    ∙ go t l (ltb (k + t) 32) refl)
  where
    low : ℕ
    low = bits_from z (32 * j)

    high : ℕ
    high = bits_from z (32 * (j + 1))

    go : (t : ℕ) → t < 32 → (c : Bool) → ltb (k + t) 32 ≡ c
        → cond c (testbit (pos low) (k + t)) (testbit (pos high) (k + t - 32)) ≡ testbit z (32 * j + k + t)
    go t l true e =
        let q : 32 * j + (k + t) ≡ 32 * j + k + t = omega arith in
        testbit-bits_from z (32 * j) (k + t) (ltb-true (k + t) 32 e) ∙ ap (testbit z) q
    go t l false e =
        let g = ltb-false (k + t) 32 e in
        let q : 32 * (j + 1) + (k + t - 32) ≡ 32 * j + k + t = omega arith in
        testbit-bits_from z (32 * (j + 1)) (k + t - 32) (omega arith) ∙ ap (testbit z) q

-- the same of two limbs of an operand
pub window-value : (xs : List ℕ) (j k : ℕ) → ((i : ℕ) → get_or xs i 0 < 2 ^ 32) → j + 1 < length xs → k < 32
    → (get_or xs (j + 1) 0 * 2 ^ 32 + get_or xs j 0) / 2 ^ k % 2 ^ 32 ≡ bits_from (value xs) (32 * j + k)
window-value xs j k b h l =
    ap₂ (λ (high low : ℕ). (high * 2 ^ 32 + low) / 2 ^ k % 2 ^ 32) (limb-value xs (j + 1) b h) (limb-value xs j b (omega arith))
    ∙ bits_from-join (value xs) j k l
