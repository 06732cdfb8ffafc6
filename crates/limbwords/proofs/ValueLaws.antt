-- The value of limbs and the shortest limbs of an integer: each undoes the other, and no other limbs of that length or less have that value.
-- Assumes nothing.
use Prim.Native.Nat.{ℕ, zero, suc, ◌+◌, ◌*◌, ◌-◌, ◌/◌, ◌^◌, ◌≤◌, ◌<◌}
use native.Mathlib.Nat.{lt_of_lt_of_le}
use native.Mathlib.Omega.{arith}
use mathlib.Core.Path.{◌≡◌, refl, sym, ap, ◌∙◌, subst}
use mathlib.Core.Bool.{Bool, true, false, ◌&&◌}
use mathlib.Core.List.{List, [], ◌∷◌}
use lib.Dec.{ltb, lit<}
use lib.IntN.{ℤ, pos}
use lib.ListN.{length, get_or}
use lib.Pow.{pow_mono}
use borrow.Author.Tests.{ltb-true, ltb-false, eqb-true, eq-eqb}
use Rattle.bits.specs.Testbit.{is_negative, testbit, bit_length, fill, of_bits}
use Rattle.bits.specs.Shift.{shift_right}
use Rattle.bits.specs.Division.{mod_ℕ}
use Rattle.bits.proofs.TestbitLaws.{testbit-ext, testbit-above, testbit-shift_right, testbit-of_bits-lt, testbit-of_bits-ge, is_negative-of_bits, testbit-fill, is_negative-fill, is_negative-shift_right, testbit-small}
use Rattle.bits.proofs.LengthLaws.{bit_length-least-bits}
use Rattle.bits.proofs.ShiftLaws.{shift_right-above}
use Rattle.bits.proofs.ModLaws.{mod_ℕ-lt, mod_ℕ-small}
use Rattle.bits.proofs.ValueLaws.{testbit-mod_ℕ-pow, of_bits-mod_ℕ}
use Rattle.words.proofs.FieldWords.{testbit-mod_ℕ-lt}
use Rattle.limbwords.specs.Value.{on_top, value, limbs_of, limb_count, shortest, is_shortest}

-- ---- one limb below an integer

pub testbit-on_top-lt : (n : ℕ) (t : ℤ) (i : ℕ) → i < 32 → testbit (on_top n t) i ≡ testbit (pos n) i
unfolding on_top
testbit-on_top-lt n t i h = testbit-of_bits-lt 32 (λ i. testbit (pos n) i) t i h

pub testbit-on_top-ge : (n : ℕ) (t : ℤ) (i : ℕ) → 32 ≤ i → testbit (on_top n t) i ≡ testbit t (i - 32)
unfolding on_top
testbit-on_top-ge n t i h = testbit-of_bits-ge 32 (λ i. testbit (pos n) i) t i h

is_negative-on_top : (n : ℕ) (t : ℤ) → is_negative (on_top n t) ≡ is_negative t
unfolding on_top
is_negative-on_top n t = is_negative-of_bits 32 (λ i. testbit (pos n) i) t

-- an integer is its low limb below the rest
pub on_top-split : (z : ℤ) → on_top (mod_ℕ z (2 ^ 32)) (shift_right z 32) ≡ z
on_top-split z = testbit-ext (λ i. go i (ltb i 32) refl)
  where
    go : (i : ℕ) (b : Bool) → ltb i 32 ≡ b → testbit (on_top (mod_ℕ z (2 ^ 32)) (shift_right z 32)) i ≡ testbit z i
    go i true e = testbit-on_top-lt (mod_ℕ z (2 ^ 32)) (shift_right z 32) i (ltb-true i 32 e) ∙ testbit-mod_ℕ-lt z 32 i (ltb-true i 32 e)
    go i false e =
        let h = ltb-false i 32 e in
        let m : 32 + (i - 32) ≡ i = omega arith in
        testbit-on_top-ge (mod_ℕ z (2 ^ 32)) (shift_right z 32) i h ∙ testbit-shift_right z 32 (i - 32) ∙ ap (testbit z) m

pub high-on_top : (n : ℕ) (t : ℤ) → shift_right (on_top n t) 32 ≡ t
high-on_top n t = testbit-ext (λ i.
    let h : 32 ≤ 32 + i = omega arith in
    let m : 32 + i - 32 ≡ i = omega arith in
    testbit-shift_right (on_top n t) 32 i ∙ testbit-on_top-ge n t (32 + i) h ∙ ap (testbit t) m)

pub pos-injective : (m n : ℕ) → pos m ≡ pos n → m ≡ n
pos-injective m n e = cc

-- a limb has no ones from bit 32 on
pub small-bits : (n i : ℕ) → n < 2 ^ 32 → 32 ≤ i → testbit (pos n) i ≡ false
small-bits n i h k = testbit-small n 32 i h k

pub low-on_top : (n : ℕ) (t : ℤ) → n < 2 ^ 32 → mod_ℕ (on_top n t) (2 ^ 32) ≡ n
low-on_top n t h = pos-injective (mod_ℕ (on_top n t) (2 ^ 32)) n (testbit-ext (λ i. testbit-mod_ℕ-pow (on_top n t) 32 i ∙ go i (ltb i 32) refl))
  where
    go : (i : ℕ) (b : Bool) → ltb i 32 ≡ b → b && testbit (on_top n t) i ≡ testbit (pos n) i
    go i true e = testbit-on_top-lt n t i (ltb-true i 32 e)
    go i false e = sym (small-bits n i h (ltb-false i 32 e))

-- ---- the value of limbs

-- the bits of each limb
pub testbit-value : (xs : List ℕ) (j i : ℕ) → j < length xs → i < 32 → testbit (value xs) (32 * j + i) ≡ testbit (pos (get_or xs j 0)) i
unfolding value
testbit-value [] j i h k = absurd (omega arith)
testbit-value (n ∷ []) zero i h k = let e : 32 * 0 + i ≡ i = omega arith in rw e (testbit-on_top-lt n _ i k)
testbit-value (n ∷ []) (suc j) i h k = absurd (omega arith)
testbit-value (n ∷ m ∷ ms) zero i h k = let e : 32 * 0 + i ≡ i = omega arith in rw e (testbit-on_top-lt n _ i k)
testbit-value (n ∷ m ∷ ms) (suc j) i h k =
    let e : 32 * suc j + i - 32 ≡ 32 * j + i = omega arith in
    testbit-on_top-ge n (value (m ∷ ms)) (32 * suc j + i) (omega arith)
    ∙ ap (testbit (value (m ∷ ms))) e
    ∙ testbit-value (m ∷ ms) j i (omega arith) k

-- from the top bit of the last limb on, every bit is the sign
pub testbit-value-sign : (n : ℕ) (ms : List ℕ) (i : ℕ) → 32 * length (n ∷ ms) ≤ i + 1 → testbit (value (n ∷ ms)) i ≡ is_negative (value (n ∷ ms))
unfolding value
testbit-value-sign n [] i h = go (ltb i 32) refl ∙ sym (is_negative-on_top n (fill (testbit (pos n) 31)) ∙ is_negative-fill (testbit (pos n) 31))
  where
    go : (b : Bool) → ltb i 32 ≡ b → testbit (on_top n (fill (testbit (pos n) 31))) i ≡ testbit (pos n) 31
    go true e =
        let q : i ≡ 31 = omega (arith, ltb-true i 32 e) in
        testbit-on_top-lt n (fill (testbit (pos n) 31)) i (ltb-true i 32 e) ∙ ap (testbit (pos n)) q
    go false e = testbit-on_top-ge n (fill (testbit (pos n) 31)) i (ltb-false i 32 e) ∙ testbit-fill (testbit (pos n) 31) (i - 32)
testbit-value-sign n (m ∷ ms) i h =
    testbit-on_top-ge n (value (m ∷ ms)) i (omega arith)
    ∙ testbit-value-sign m ms (i - 32) (omega arith)
    ∙ sym (is_negative-on_top n (value (m ∷ ms)))

-- the length of the value leaves room for the sign
pub value-length : (xs : List ℕ) → 0 < length xs → bit_length (value xs) < 32 * length xs
value-length [] h = absurd (omega arith)
value-length (n ∷ ms) h =
    omega (arith, bit_length-least-bits (value (n ∷ ms)) (32 * length (n ∷ ms) - 1) (λ i l. testbit-value-sign n ms i (omega arith)))

-- one limb without its top bit
pub value-small : (n : ℕ) → n < 2 ^ 31 → value (n ∷ []) ≡ pos n
unfolding value on_top fill
value-small n h =
    ap (λ (s : Bool). of_bits 32 (λ i. testbit (pos n) i) (fill s)) (testbit-small n 31 31 h (omega arith))
    ∙ of_bits-mod_ℕ 32 (pos n)
    ∙ ap pos (mod_ℕ-small n (2 ^ 32) (lt_of_lt_of_le h (pow_mono {i = 31} {j = 32} (omega arith))))

-- ---- the limbs of an integer

pub length-limbs_of : (k : ℕ) (z : ℤ) → length (limbs_of k z) ≡ k
unfolding limbs_of
length-limbs_of zero z = refl
length-limbs_of (suc k) z = ap suc (length-limbs_of k (shift_right z 32))

shifted-length : (z : ℤ) (k : ℕ) → bit_length z < 32 * suc k → 0 < k → bit_length (shift_right z 32) < 32 * k
shifted-length z k h p =
    omega (
      arith,
      bit_length-least-bits (shift_right z 32) (32 * k - 1) (λ i l.
          testbit-shift_right z 32 i ∙ testbit-above z (32 + i) (omega arith) ∙ sym (is_negative-shift_right z 32)),
    )

pub value-limbs_of : (k : ℕ) (z : ℤ) → bit_length z < 32 * k → value (limbs_of k z) ≡ z
unfolding value limbs_of
value-limbs_of zero z h = absurd (omega arith)
value-limbs_of (suc zero) z h =
    ap (λ (s : Bool). on_top (mod_ℕ z (2 ^ 32)) (fill s)) (testbit-mod_ℕ-lt z 32 31 (lit< tt) ∙ testbit-above z 31 (omega arith))
    ∙ ap (on_top (mod_ℕ z (2 ^ 32))) (sym (shift_right-above z 32 (omega arith)))
    ∙ on_top-split z
value-limbs_of (suc (suc k)) z h =
    ap (on_top (mod_ℕ z (2 ^ 32))) (value-limbs_of (suc k) (shift_right z 32) (shifted-length z (suc k) h (omega arith))) ∙ on_top-split z

pub limbs_of-value : (xs : List ℕ) → ((i : ℕ) → get_or xs i 0 < 2 ^ 32) → limbs_of (length xs) (value xs) ≡ xs
unfolding value limbs_of
limbs_of-value [] b = refl
limbs_of-value (n ∷ []) b = ap (λ (m : ℕ). m ∷ []) (low-on_top n _ (b 0))
limbs_of-value (n ∷ m ∷ ms) b =
    cc (low-on_top n (value (m ∷ ms)) (b 0), ap (limbs_of (length (m ∷ ms))) (high-on_top n (value (m ∷ ms))), limbs_of-value (m ∷ ms) (λ i. b (suc i)))

-- ---- the shortest limbs

pub limb_count-positive : (z : ℤ) → 0 < limb_count z
unfolding limb_count
limb_count-positive z = omega arith

pub limb_count-le : (z : ℤ) (n : ℕ) → bit_length z < 32 * n → limb_count z ≤ n
unfolding limb_count
limb_count-le z n h = omega arith

pub length-shortest : (z : ℤ) → length (shortest z) ≡ limb_count z
unfolding shortest
length-shortest z = length-limbs_of (limb_count z) z

pub value-shortest : (z : ℤ) → value (shortest z) ≡ z
unfolding shortest limb_count
value-shortest z = value-limbs_of (bit_length z / 32 + 1) z (omega arith)

-- no limbs with that value are fewer
pub shortest-least : (xs : List ℕ) → 0 < length xs → length (shortest (value xs)) ≤ length xs
unfolding limb_count
shortest-least xs h = omega (arith, length-shortest (value xs), value-length xs h)

-- and as many or fewer are the same
pub shortest-unique : (xs : List ℕ) (z : ℤ) → 0 < length xs → ((i : ℕ) → get_or xs i 0 < 2 ^ 32) → value xs ≡ z → length xs ≤ length (shortest z) → xs ≡ shortest z
unfolding shortest
shortest-unique xs z h b e l =
    let n : length xs ≡ limb_count z =
    omega (arith, length-shortest z, subst (λ (y : ℤ). length (shortest y) ≤ length xs) e (shortest-least xs h)) in
    sym (limbs_of-value xs b) ∙ cc (n, e)

-- each of its limbs has 32 bits
pub limbs_of-lt : (k : ℕ) (z : ℤ) (i : ℕ) → get_or (limbs_of k z) i 0 < 2 ^ 32
unfolding limbs_of
limbs_of-lt zero z i = lit< tt
limbs_of-lt (suc k) z zero = mod_ℕ-lt z (2 ^ 32) (lit< tt)
limbs_of-lt (suc k) z (suc i) = limbs_of-lt k (shift_right z 32) i

-- ---- limbs that are the shortest of their integer

pub is_shortest-shortest : (z : ℤ) → is_shortest (shortest z) ≡ true
unfolding is_shortest
is_shortest-shortest z =
    eq-eqb (length (shortest z)) (limb_count (value (shortest z))) (length-shortest z ∙ ap limb_count (sym (value-shortest z)))

-- limbs of 32 bits that are so have one spelling
pub is_shortest-unique : (xs : List ℕ) → ((i : ℕ) → get_or xs i 0 < 2 ^ 32) → is_shortest xs ≡ true → xs ≡ shortest (value xs)
unfolding is_shortest shortest
is_shortest-unique xs b h =
    sym (limbs_of-value xs b)
    ∙ ap (λ (n : ℕ). limbs_of n (value xs)) (eqb-true (length xs) (limb_count (value xs)) h)
