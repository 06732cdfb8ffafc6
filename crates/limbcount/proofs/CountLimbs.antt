-- Counts by limbs. A negative integer is counted by its complement: each limb exclusive or with what continues the integer is a limb of its
-- magnitude. Assumes nothing.
use Prim.Native.Nat.{ℕ, ◌+◌, ◌*◌, ◌-◌, ◌/◌, ◌%◌, ◌^◌, ◌≤◌, ◌<◌}
use native.Mathlib.Omega.{arith}
use mathlib.Core.Path.{◌≡◌, refl, sym, ap, ap₂, ◌∙◌, subst}
use mathlib.Core.Bool.{Bool, true, false, not, true≢false}
use mathlib.Core.List.{List}
use lib.Bits.{bit_xor, xor_self}
use lib.Dec.{eqb}
use lib.IntN.{ℤ, pos, negsuc}
use lib.ListN.{length, get_or}
use lib.Signed.{mag}
use borrow.Author.Tests.{eqb-true, eqb-false, eq-eqb, ne_eqb}
use Rattle.bits.specs.Testbit.{is_negative, testbit, halvings, bit_length}
use Rattle.words.specs.Sign.{of_magnitude}
use Rattle.bits.specs.Count.{ones_below, ones, bit_count, first_bit_set}
use Rattle.bits.proofs.TestbitLaws.{by-lt, testbit-ext, testbit-zero, testbit-above, testbit-digit}
use Rattle.words.proofs.MagnitudeLaws.{bit_length-mag}
use Rattle.words.proofs.CountWords.{bit_count-mag}
use Rattle.bits.proofs.LengthLaws.{bit_length-le, bit_length-least-bits, testbit-top}
use Rattle.bits.proofs.CountLaws.{ones_below-ext, ones_below-le, ones_below-split, ones-ones_below, first_bit_set-unique, first_bit_set-none}
use Rattle.limbwords.specs.Value.{value, limb_count}
use Rattle.limbwords.specs.Results.{bits_from}
use Rattle.limbwords.proofs.ValueLaws.{small-bits, testbit-value, value-length}
use Rattle.limbwords.proofs.SignLimbs.{long, flipped, operand-sign}
use Rattle.limbwords.proofs.LimbLaws.{bits_from-lt, testbit-bits_from, limb-value, bits_from-above, length-below}

-- ---- the ones

-- one limb more
pub ones-limb : (m at : ℕ) → ones_below at (testbit (pos m)) + ones (bits_from (pos m) at) ≡ ones_below (at + 32) (testbit (pos m))
ones-limb m at =
    omega (
      arith,
      ones_below-split at 32 (testbit (pos m)),
      ones-ones_below (bits_from (pos m) at) 32 (bit_length-le (pos (bits_from (pos m) at)) 32 (bits_from-lt (pos m) at)),
      ones_below-ext 32 (λ t. testbit (pos (bits_from (pos m) at)) t) (λ t. testbit (pos m) (at + t)) (testbit-bits_from (pos m) at),
    )

ones-zero : ones 0 ≡ 0
unfolding ones ones_below bit_length halvings
ones-zero = refl

-- a count that goes beyond the length is complete
pub ones-bit_count : (z : ℤ) (k : ℕ) → bit_length z ≤ k → of_magnitude (is_negative z) (ones_below k (testbit (pos (mag z)))) ≡ bit_count z
ones-bit_count z k h = ap (of_magnitude (is_negative z)) (sym (ones-ones_below (mag z) k (omega (arith, bit_length-mag z)))) ∙ bit_count-mag z

-- ---- the length

-- the limb with the highest one
length-highest : (m at : ℕ) → at < bit_length (pos m) → bit_length (pos m) ≤ at + 32 → at + bit_length (pos (bits_from (pos m) at)) ≡ bit_length (pos m)
unfolding is_negative
length-highest m at h l = omega (arith, bit_length-least-bits (pos w) (bit_length (pos m) - at) above, at_least)
  where
    w : ℕ
    w = bits_from (pos m) at

    above : (i : ℕ) → bit_length (pos m) - at ≤ i → testbit (pos w) i ≡ false
    above i g =
        by-lt (λ b. testbit (pos w) i ≡ false) i 32
        (λ f. testbit-bits_from (pos m) at i f ∙ testbit-above (pos m) (at + i) (omega arith))
        (λ f. small-bits w i (bits_from-lt (pos m) at) f)

    at_least : ¬ (bit_length (pos w) < bit_length (pos m) - at)
    at_least g =
        let t = bit_length (pos m) - at - 1 in
        let q : at + t ≡ bit_length (pos m) - 1 = omega arith in
        true≢false
        (sym (testbit-bits_from (pos m) at t (omega arith) ∙ ap (testbit (pos m)) q ∙ testbit-top (pos m) (omega arith))
        ∙ testbit-above (pos w) t (omega arith))

module _ (z : ℤ) (at k : ℕ) (h : bit_length z ≤ at + 32) (l : bit_length z ≤ k) where
  -- the highest limb that does not only continue the sign
  pub length-limb : (bits_from z at ≡ bits_from z k → ⊥) → at + bit_length (pos (bits_from (pos (mag z)) at)) ≡ bit_length z
  length-limb e =
      let longer : bit_length z ≤ at → ⊥ = (λ g. e (bits_from-above z at g ∙ sym (bits_from-above z k l))) in
      let same = bit_length-mag z in
      length-highest (mag z) at (omega arith) (omega arith) ∙ same

-- ---- the first bit set

-- no one below a position
abbrev pub NoneBelow : ℤ → ℕ → Type 0
NoneBelow z k = (i : ℕ) → i < k → testbit z i ≡ false

-- no one at all
pub none-first_bit_set : (z : ℤ) (k : ℕ) → bit_length z < k → NoneBelow z k → negsuc 0 ≡ first_bit_set z
none-first_bit_set z k h none = sym ((first_bit_set-none z).1 (testbit-ext (λ i. bit i ∙ sym (testbit-zero i))))
  where
    sign : is_negative z ≡ false
    sign = sym (testbit-above z (k - 1) (omega arith)) ∙ none (k - 1) (omega arith)

    bit : (i : ℕ) → testbit z i ≡ false
    bit i = by-lt (λ b. testbit z i ≡ false) i k (none i) (λ g. testbit-above z i (omega arith) ∙ sign)

-- one bit more
none_more : (z : ℤ) (k : ℕ) → NoneBelow z k → testbit z k ≡ false → NoneBelow z (k + 1)
none_more z k none e i h = go (eqb i k) refl
  where
    go : (b : Bool) → eqb i k ≡ b → testbit z i ≡ false
    go true q = ap (testbit z) (eqb-true i k q) ∙ e
    go false q = let n = eqb-false i k q in none i (omega arith)

module _ (xs : List ℕ) (j i : ℕ) (h : j < length xs) (l : i < 32) (none : NoneBelow (value xs) (32 * j + i)) where
  -- the code's test is that bit
  tested : testbit (value xs) (32 * j + i) ≡ eqb (get_or xs j 0 / 2 ^ i % 2) 1
  tested = testbit-value xs j i h l ∙ testbit-digit (get_or xs j 0) i

  -- bit i of limb j is the first one
  pub one_found : get_or xs j 0 / 2 ^ i % 2 ≡ 1 → pos (32 * j + i) ≡ first_bit_set (value xs)
  one_found e = sym (first_bit_set-unique (value xs) (32 * j + i) (tested ∙ eq-eqb (get_or xs j 0 / 2 ^ i % 2) 1 e) none)

  -- it is no one: there is none below the next bit
  pub none_here : (get_or xs j 0 / 2 ^ i % 2 ≡ 1 → ⊥) → NoneBelow (value xs) (32 * j + (i + 1))
  none_here e =
      let next : 32 * j + i + 1 ≡ 32 * j + (i + 1) = omega arith in
      subst (NoneBelow (value xs)) next (none_more (value xs) (32 * j + i) none (tested ∙ ne_eqb (get_or xs j 0 / 2 ^ i % 2) 1 e))

-- ---- the limbs of an operand, with what continues it

-- the ones of the first j limbs of the magnitude
abbrev pub ones_of : List ℕ → ℕ → ℕ
ones_of xs j = ones_below (32 * j) (testbit (pos (mag (value xs))))

pub ones_of-le : (xs : List ℕ) (j : ℕ) → ones_of xs j ≤ 32 * j
ones_of-le xs j = ones_below-le (32 * j) (testbit (pos (mag (value xs))))

module _ (xs : List ℕ) (s : ℕ) (e : s ≡ bits_from (value xs) (32 * length xs)) (h : 0 < length xs) where
  -- all limbs are counted
  pub ones_of-all : {n : ℕ} → n ≡ ones_of xs (length xs) → of_magnitude (not (eqb s 0)) n ≡ bit_count (value xs)
  ones_of-all p = ap₂ of_magnitude (operand-sign xs s e h) p ∙ ones-bit_count (value xs) (32 * length xs) (long xs s e h)

  module _ (j : ℕ) (b : (i : ℕ) → get_or xs i 0 < 2 ^ 32) (l : j < length xs) where
    limb : get_or xs j 0 ≡ bits_from (value xs) (32 * j)
    limb = limb-value xs j b l

    -- the ones of one limb more
    ones_of-more : {n r : ℕ} → n ≡ ones_of xs j → r ≡ ones (bit_xor (get_or xs j 0) s) → n + r ≡ ones_of xs (j + 1)
    ones_of-more p q =
        let next : 32 * j + 32 ≡ 32 * (j + 1) = omega arith in
        ap₂ ◌+◌ p (q ∙ ap ones (flipped xs s e h (get_or xs j 0) (32 * j) limb))
        ∙ ones-limb (mag (value xs)) (32 * j)
        ∙ ap (λ (k : ℕ). ones_below k (testbit (pos (mag (value xs))))) next

    -- a limb that is what continues the operand can go
    length_without : bit_length (value xs) ≤ 32 * j + 32 → get_or xs j 0 ≡ s → bit_length (value xs) ≤ 32 * j
    length_without g q = length-below (value xs) (32 * j) (32 * length xs) g (long xs s e h) (sym limb ∙ q ∙ e)

    -- the highest limb that is not gives the length
    length-with : {r : ℕ} → bit_length (value xs) ≤ 32 * j + 32 → (get_or xs j 0 ≡ s → ⊥) → r ≡ bit_length (pos (bit_xor (get_or xs j 0) s))
        → 32 * j + r ≡ bit_length (value xs)
    length-with g q p =
        ap (λ (r : ℕ). 32 * j + r) (p ∙ ap (λ (n : ℕ). bit_length (pos n)) (flipped xs s e h (get_or xs j 0) (32 * j) limb))
        ∙ length-limb (value xs) (32 * j) (32 * length xs) g (long xs s e h) (λ w. q (limb ∙ w ∙ sym e))

    -- the last limb gives it where the limbs are the fewest
    pub length_last : {r : ℕ} → length xs ≡ limb_count (value xs) → j + 1 ≡ length xs → r ≡ bit_length (pos (bit_xor (get_or xs j 0) s))
        → 32 * j + r ≡ bit_length (value xs)
    unfolding limb_count bit_length halvings
    length_last {r} c k p = go (eqb (get_or xs j 0) s) refl
      where
        bound : bit_length (value xs) ≤ 32 * j + 32
        bound = omega (arith, value-length xs h)

        go : (t : Bool) → eqb (get_or xs j 0) s ≡ t → 32 * j + r ≡ bit_length (value xs)
        go true q =
            let same = eqb-true (get_or xs j 0) s q in
            let none : r ≡ 0 = p ∙ ap (λ (n : ℕ). bit_length (pos n)) (ap (λ (a : ℕ). bit_xor a s) same ∙ xor_self s) in
            omega (arith, c, length_without bound same)
        go false q = length-with bound (eqb-false (get_or xs j 0) s q) p

  module _ (j : ℕ) (b : (i : ℕ) → get_or xs i 0 < 2 ^ 32) {n r : ℕ} (p : n ≡ ones_of xs j) where
    -- the ones of two limbs more
    pub ones_of-two : j + 1 < length xs → r ≡ ones (bit_xor (get_or xs j 0) s) + ones (bit_xor (get_or xs (j + 1) 0) s) → n + r ≡ ones_of xs (j + 2)
    ones_of-two l q =
        let next : j + 1 + 1 ≡ j + 2 = omega arith in
        omega (arith, q, ones_of-more j b (omega arith) p refl, ones_of-more (j + 1) b l refl refl, ap (ones_of xs) next)

    -- the ones of the last limb, where it is alone
    pub ones_of-last : j + 1 ≡ length xs → r ≡ ones (bit_xor (get_or xs j 0) s) + ones 0 → n + r ≡ ones_of xs (length xs)
    ones_of-last l q = omega (arith, q, ones-zero, ones_of-more j b (omega arith) p refl, ap (ones_of xs) l)
