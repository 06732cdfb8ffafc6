-- Swaps of the bits of a word of some size with those k above them, one after another, and the reversal by them. Assumes nothing.
use Prim.Native.Nat.{ℕ, zero, suc, ◌+◌, ◌*◌, ◌-◌, ◌/◌, ◌%◌, ◌^◌, ◌<◌}
use native.Mathlib.Omega.{arith}
use mathlib.Core.Path.{◌≡◌, refl, ap, ap₂, ◌∙◌}
use mathlib.Core.Bool.{Bool, true, false, cond, not, ◌&&◌, ◌||◌, xor, false≢true}
use lib.Bits.{bit_and, bit_or}
use lib.Dec.{eqb, ltb}
use lib.IntN.{pos}
use borrow.Author.Tests.{ltb-true, eqb-true, eqb-false}
use Rattle.bits.specs.Testbit.{testbit}
use Rattle.bits.proofs.Booleans.{all₂, all₃, both_left, both_right}
use Rattle.words.proofs.FieldWords.{testbit-mod-lt, testbit-div, testbit-times}
use Rattle.words.proofs.Digitwise.{testbit-digitwise, and-digitwise, ior-digitwise}

-- ---- a test at every number below n

unfoldable pub below : (ℕ → Bool) → ℕ → Bool
below f zero = true
below f (suc n) = f n && below f n

below_each : (f : ℕ → Bool) (n : ℕ) → below f n ≡ true → (t : ℕ) → t < n → f t ≡ true
unfolding below
below_each f zero h t l = absurd (omega arith)
below_each f (suc n) h t l = go (below_each f n (both_right (f n) (below f n) h) t) (eqb t n) refl
  where
    go : (t < n → f t ≡ true) → (b : Bool) → eqb t n ≡ b → f t ≡ true
    go less true e = ap f (eqb-true t n e) ∙ both_left (f n) (below f n) h
    go less false e = less (omega (arith, eqb-false t n e))

-- ---- one swap

-- the bits of a word of some size at the ones of the mask and those k above them change places
abbrev pub swapped : ℕ → ℕ → ℕ → ℕ → ℕ
swapped size w k mask = bit_or (bit_and (w / 2 ^ k) mask) (bit_and w mask * 2 ^ k % 2 ^ size)

-- its bits
testbit-swapped : (size w k mask t : ℕ) → t < size
    → testbit (pos (swapped size w k mask)) t
    ≡ testbit (pos w) (k + t) && testbit (pos mask) t || testbit (pos w) (t - k) && (not (ltb t k) && testbit (pos mask) (t - k))
testbit-swapped size w k mask t h =
    testbit-digitwise ior-digitwise t (bit_and (w / 2 ^ k) mask) (bit_and w mask * 2 ^ k % 2 ^ size)
    ∙ ap₂ ◌||◌ (testbit-digitwise and-digitwise t (w / 2 ^ k) mask ∙ ap (λ (b : Bool). b && testbit (pos mask) t) (testbit-div w k t))
    (testbit-mod-lt (bit_and w mask * 2 ^ k) size t h
    ∙ testbit-times (bit_and w mask) k t
    ∙ ap (λ (b : Bool). not (ltb t k) && b) (testbit-digitwise and-digitwise (t - k) w mask)
    ∙ all₃ (λ a b c. a && (b && c)) (λ a b c. b && (a && c)) tt (not (ltb t k)) (testbit (pos w) (t - k)) (testbit (pos mask) (t - k)))

-- the place that bit t comes from in one swap
unfoldable pub source : ℕ → ℕ → ℕ → ℕ
source k mask t = cond (testbit (pos mask) t) (k + t) (t - k)

-- the mask has either t or the place k below it
unfoldable pub paired : ℕ → ℕ → ℕ → Bool
paired k mask t = xor (testbit (pos mask) t) (not (ltb t k) && testbit (pos mask) (t - k))

-- the one of two bits that the mask lets through
either : (f : ℕ → Bool) (i j : ℕ) (m p : Bool) → xor m p ≡ true → f i && m || f j && p ≡ f (cond m i j)
unfolding xor
either f i j true true h = absurd (false≢true h)
either f i j true false h = all₂ (λ a b. a && true || b && false) (λ a b. a) tt (f i) (f j)
either f i j false true h = all₂ (λ a b. a && false || b && true) (λ a b. b) tt (f i) (f j)
either f i j false false h = absurd (false≢true h)

-- the mask passes both tests: its pairs are whole, and lie in the word
unfoldable pub fair : ℕ → ℕ → ℕ → Bool
fair size k mask = below (λ t. paired k mask t && ltb (source k mask t) size) size

-- ---- swaps one after another

-- the bits of r below the size are those of w at the places p
pub record Moves (size r w : ℕ) (p : ℕ → ℕ) : Type 0 where
  bits : (t : ℕ) → t < size → testbit (pos r) t ≡ testbit (pos w) (p t)
  inside : (t : ℕ) → t < size → p t < size

pub unmoved : (size w : ℕ) → Moves size w w (λ t. t)
unmoved size w = record {
  bits = λ t l. refl;
  inside = λ t l. l;
}

-- one more swap
pub swap-moves : {size v w : ℕ} {p : ℕ → ℕ} → Moves size v w p → (k mask : ℕ) {r : ℕ} → r ≡ swapped size v k mask → fair size k mask ≡ true
    → Moves size r w (λ t. p (source k mask t))
unfolding source paired fair
swap-moves {size} {v} m k mask e h = record {
  bits = λ t l.
      ap (λ (n : ℕ). testbit (pos n) t) e
      ∙ testbit-swapped size v k mask t l
      ∙ either (testbit (pos v)) (k + t) (t - k) (testbit (pos mask) t) (not (ltb t k) && testbit (pos mask) (t - k))
      (both_left (paired k mask t) (ltb (source k mask t) size) (tested t l))
      ∙ m.bits (source k mask t) (within t l);
  inside = λ t l. m.inside (source k mask t) (within t l);
}
  where
    tested : (t : ℕ) → t < size → paired k mask t && ltb (source k mask t) size ≡ true
    tested = below_each (λ t. paired k mask t && ltb (source k mask t) size) size h

    within : (t : ℕ) → t < size → source k mask t < size
    within t l = ltb-true (source k mask t) size (both_right (paired k mask t) (ltb (source k mask t) size) (tested t l))

-- the bits are reversed, where that is so of the places, tested at all of them
pub moves-reverse : {size r w : ℕ} {p : ℕ → ℕ} → Moves size r w p → below (λ t. eqb (p t) (size - 1 - t)) size ≡ true
    → (t : ℕ) → t < size → testbit (pos r) t ≡ testbit (pos w) (size - 1 - t)
moves-reverse {size} {w} {p} m h t l =
    m.bits t l ∙ ap (testbit (pos w)) (eqb-true (p t) (size - 1 - t) (below_each (λ t. eqb (p t) (size - 1 - t)) size h t l))
