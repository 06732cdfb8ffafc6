-- A number as a word, where it is below 2^64, and what a text is as a signed word. Assumes nothing.
use Prim.Native.Nat.{ℕ, ◌^◌, ◌≤◌, ◌<◌}
use native.Mathlib.Omega.{arith}
use mathlib.Core.Path.{◌≡◌, refl, sym, ap, ◌∙◌}
use mathlib.Core.Bool.{Bool, true, false, cond}
use mathlib.Core.List.{List}
use lib.Dec.{ltb}
use lib.IntN.{ℤ}
use lib.ListN.{length, take}
use lib.Seq.{take_all}
use borrow.Author.Tests.{lt-ltb, le-ltb, ltb-true, ltb-false, lt-leb}
use Rattle.bits.specs.Testbit.{fits}
use Rattle.words.specs.Sign.{with_sign}
use Rattle.words.proofs.WordLaws.{fits_negative, fits-nonnegative}
use Rattle.text.specs.declared.ReadError.{ReadError}
use Rattle.std.specs.Prelude.{Some, None, Result, Ok, Err, ok_or}
use Rattle.text.specs.Numerals.{numeral, is_integer, integer}
use Rattle.text.specs.Readings.{reading}
use Rattle.text.specs.Inner.{as_word}

-- ---- a number as a word without a sign

pub as_word-value : (n : ℕ) → n < 2 ^ 64 → as_word n ≡ Some n
unfolding as_word
as_word-value n h = rw (lt-ltb n (2 ^ 64) h) refl

pub as_word-beyond : (n : ℕ) → 2 ^ 64 ≤ n → as_word n ≡ None
unfolding as_word
as_word-beyond n h = rw (le-ltb n (2 ^ 64) h) refl

-- the digits are all summed, and a word holds the sum
pub word_summed : (base n i : ℕ) (text : List ℕ) → n ≡ numeral base (take i text) → length text ≤ i → n < 2 ^ 64 → Some n ≡ as_word (numeral base text)
word_summed base n i text e all h =
    let s : n ≡ numeral base text = e ∙ ap (numeral base) (take_all i text all) in
    ap Some s ∙ sym (as_word-value (numeral base text) (omega (arith, s)))

pub value-as_word : (n m : ℕ) → as_word n ≡ Some m → (n ≡ m) × (m < 2 ^ 64)
unfolding as_word
value-as_word n m e = go (ltb n (2 ^ 64)) refl e
  where
    go : (t : Bool) → ltb n (2 ^ 64) ≡ t → cond t (Some n) None ≡ Some m → (n ≡ m) × (m < 2 ^ 64)
    go true q r = let s : n ≡ m = cc in (s, omega (arith, s, ltb-true n (2 ^ 64) q))
    go false q r = let z : ◌≡◌ {A = ℕ} 0 1 = cc in absurd (omega arith)

pub beyond-as_word : (n : ℕ) → as_word n ≡ None → 2 ^ 64 ≤ n
unfolding as_word
beyond-as_word n e = go (ltb n (2 ^ 64)) refl e
  where
    go : (t : Bool) → ltb n (2 ^ 64) ≡ t → cond t (Some n) None ≡ None → 2 ^ 64 ≤ n
    go true q r = let z : ◌≡◌ {A = ℕ} 0 1 = cc in absurd (omega arith)
    go false q r = ltb-false n (2 ^ 64) q

-- as a result
module _ (n : ℕ) {r : Result ℕ ReadError} (e : r ≡ ok_or (as_word n) ReadError.TooLarge) where
  pub ok-as_word : {m : ℕ} → r ≡ Ok m → (n ≡ m) × (m < 2 ^ 64)
  unfolding as_word
  ok-as_word {m} f = go (ltb n (2 ^ 64)) refl (sym e ∙ f)
    where
      go : (t : Bool) → ltb n (2 ^ 64) ≡ t → ok_or (cond t (Some n) None) ReadError.TooLarge ≡ Ok m → (n ≡ m) × (m < 2 ^ 64)
      go true q g = let s : n ≡ m = cc in (s, omega (arith, s, ltb-true n (2 ^ 64) q))
      go false q g = let z : ◌≡◌ {A = ℕ} 0 1 = cc in absurd (omega arith)

  pub err-as_word : {x : ReadError} → r ≡ Err x → (2 ^ 64 ≤ n) × (x ≡ ReadError.TooLarge)
  unfolding as_word
  err-as_word {x} f = go (ltb n (2 ^ 64)) refl (sym e ∙ f)
    where
      go : (t : Bool) → ltb n (2 ^ 64) ≡ t → ok_or (cond t (Some n) None) ReadError.TooLarge ≡ Err x → (2 ^ 64 ≤ n) × (x ≡ ReadError.TooLarge)
      go true q g = let z : ◌≡◌ {A = ℕ} 0 1 = cc in absurd (omega arith)
      go false q g = let s : ReadError.TooLarge ≡ x = cc in (ltb-false n (2 ^ 64) q, sym s)

-- ---- as a signed word

beyond-fits : (negative : Bool) (n : ℕ) → 2 ^ 64 ≤ n → fits 64 (with_sign negative n) ≡ false
beyond-fits true n h = fits_negative 64 n ∙ lt-leb n (2 ^ 63) (omega arith)
beyond-fits false n h = fits-nonnegative 64 n ∙ le-ltb n (2 ^ 63) (omega arith)

pub reading-malformed : (cs : List ℕ) → is_integer cs ≡ false → reading cs ≡ Err ReadError.Malformed
unfolding reading
reading-malformed cs e = rw e refl

pub reading-by : (cs : List ℕ) {z : ℤ} {t : Bool} → is_integer cs ≡ true → integer cs ≡ z → fits 64 z ≡ t → reading cs ≡ cond t (Ok z) (Err ReadError.TooLarge)
unfolding reading
reading-by cs e f g = rw (e, f, g) refl

pub reading-beyond : (cs : List ℕ) (negative : Bool) (n : ℕ) → is_integer cs ≡ true → integer cs ≡ with_sign negative n → 2 ^ 64 ≤ n
    → reading cs ≡ Err ReadError.TooLarge
reading-beyond cs negative n e f g = reading-by cs e f (beyond-fits negative n g)
