-- What a text is as a flonum, by its parts. Assumes nothing.
use Prim.Native.Nat.{ℕ, ◌+◌, ◌-◌, ◌≤◌}
use native.Mathlib.Omega.{arith}
use mathlib.Core.Path.{◌≡◌, refl, sym, ap, ap₂, ◌∙◌}
use mathlib.Core.Bool.{Bool, true, false, cond, ◌&&◌, false≢true}
use mathlib.Core.List.{List, [], ◌∷◌}
use lib.Dec.{leb, eqb}
use lib.ListN.{length, take, drop, length-drop}
use lib.Seq.{drop-drop, length-take-le}
use borrow.Author.Tests.{lt-ltb, le-ltb, leb-true}
use borrow.Author.Rules.{part_to_end}
use Rattle.bits.proofs.Booleans.{and-false}
use Rattle.text.specs.Numerals.{are_digits, byte_at, one_of}
use Rattle.fltext.specs.declared.FlonumError.{FlonumError}
use Rattle.std.specs.Prelude.{Float, Result, Ok, Err}
use Rattle.fltext.specs.declared.exponent.Exponent.{Exponent}
use Rattle.fltext.specs.declared.form.Parts.{Parts}
use Rattle.fltext.specs.Forms.{base, is_hex, digit_count, whole, point_length, after_whole, fraction, tail, is_exponent, exponent, is_negative, digits, is_number}
use Rattle.fltext.specs.Readings.{limit, flonum, number_reading}
use Rattle.fltext.specs.Inner.{signed, exponent_reading, parts}
use Rattle.fltext.proofs.FormLaws.{point_length-le, digit_count-le, digit_count-digits}

-- ---- the parts of a number

module _ (h : Bool) (cs : List ℕ) {p : Parts} (e : p ≡ parts h cs) where
  whole_is : p.whole ≡ digit_count (base h) cs
  unfolding parts
  whole_is = ap (λ (q : Parts). q.whole) e

  from_is : p.from ≡ digit_count (base h) cs + point_length (drop (digit_count (base h) cs) cs)
  unfolding parts
  from_is = ap (λ (q : Parts). q.from) e

  after_is : drop p.from cs ≡ after_whole h cs
  unfolding after_whole
  after_is =
      ap (λ (n : ℕ). drop n cs) from_is ∙ sym (drop-drop (point_length (drop (digit_count (base h) cs) cs)) (digit_count (base h) cs) cs)

  end_is : p.end ≡ p.from + digit_count (base h) (drop p.from cs)
  unfolding parts
  end_is =
      ap (λ (q : Parts). q.end) e ∙ ap (λ (n : ℕ). n + digit_count (base h) (drop n cs)) (sym from_is)

  pub whole_in : p.whole ≤ length cs
  whole_in = omega (arith, whole_is, digit_count-le (base h) cs)

  from_in : p.from ≤ length cs
  from_in =
      omega (
        arith,
        from_is,
        digit_count-le (base h) cs,
        point_length-le (drop (digit_count (base h) cs) cs),
        length-drop (digit_count (base h) cs) cs,
      )

  pub end-in : (p.from ≤ p.end) × (p.end ≤ length cs)
  end-in =
      let l = digit_count-le (base h) (drop p.from cs) in
      (omega (arith, end_is), omega (arith, end_is, length-drop p.from cs, from_in))

  -- the bytes that the code looks at
  pub whole_part : take p.whole cs ≡ whole h cs
  unfolding whole
  whole_part = ap (λ (n : ℕ). take n cs) whole_is

  pub fraction-part : take (p.end - p.from) (drop p.from cs) ≡ fraction h cs
  unfolding fraction whole
  fraction-part =
      let n : p.end - p.from ≡ digit_count (base h) (drop p.from cs) = omega (arith, end_is) in
      ap (λ (k : ℕ). take k (drop p.from cs)) n ∙ ap (λ (l : List ℕ). take (digit_count (base h) l) l) after_is

  pub tail-part : take (length cs - p.end) (drop p.end cs) ≡ tail h cs
  unfolding tail
  tail-part =
      part_to_end cs p.end
      ∙ ap (λ (n : ℕ). drop n cs) end_is
      ∙ sym (drop-drop (digit_count (base h) (drop p.from cs)) p.from cs)
      ∙ ap (λ (l : List ℕ). drop (digit_count (base h) l) l) after_is

  pub digits_are : digits h cs ≡ p.whole + (p.end - p.from)
  unfolding digits
  digits_are =
      let l : p.end - p.from ≤ length (drop p.from cs) = omega (arith, end-in.1, length-drop p.from cs) in
      ap₂ ◌+◌ (ap length (sym whole_part) ∙ length-take-le p.whole cs whole_in) (ap length (sym fraction-part) ∙ length-take-le (p.end - p.from) (drop p.from cs) l)

pub whole-digits : (h : Bool) (cs : List ℕ) → are_digits (base h) (whole h cs) ≡ true
unfolding whole
whole-digits h cs = digit_count-digits (base h) cs

pub fraction-digits : (h : Bool) (cs : List ℕ) → are_digits (base h) (fraction h cs) ≡ true
unfolding fraction
fraction-digits h cs = whole-digits h (after_whole h cs)

-- ---- a number, by the exponent that was read

abbrev pub by_exponent : (Exponent → Result Float FlonumError) → Result Exponent FlonumError → Result Float FlonumError
by_exponent found (Ok e) = found e
by_exponent found (Err x) = Err x

abbrev pub Within : Result Exponent FlonumError → Type 0
Within (Ok e) = (e.up ≤ limit) × (e.down ≤ limit)
Within (Err x) = Unit {0}

-- an exponent that is not too long is within its limit
pub reading-within : (h : Bool) (cs : List ℕ) → Within (exponent_reading h cs)
unfolding exponent_reading signed
reading-within h cs = go (is_exponent h cs) (leb (exponent cs) limit) refl (is_negative cs)
  where
    n : ℕ
    n = exponent cs

    go : (a b : Bool) → leb n limit ≡ b → (c : Bool)
        → Within (cond a (cond b (Ok (record { up = cond c 0 n; down = cond c n 0 })) (Err FlonumError.TooLong)) (Err FlonumError.Malformed))
    go true true e true = (omega arith, leb-true n limit e)
    go true true e false = (leb-true n limit e, omega arith)
    go true false e c = tt
    go false b e c = tt

module _ (s h : Bool) (cs : List ℕ) where
  -- where the digits are not too many
  abbrev pub short : Exponent → Result Float FlonumError
  short e = cond (leb (length (whole h cs) + length (fraction h cs)) limit) (Ok (flonum s h (whole h cs) (fraction h cs) e.up e.down)) (Err FlonumError.TooLong)

  pub number-none : digits h cs ≡ 0 → number_reading s h cs ≡ Err FlonumError.Malformed
  unfolding number_reading is_number
  number-none e = rw (le-ltb 0 (digits h cs) (omega arith)) refl

  pub number_by : (digits h cs ≡ 0 → ⊥) → number_reading s h cs ≡ by_exponent short (exponent_reading h (tail h cs))
  unfolding number_reading is_number exponent_reading signed digits
  number_by l =
      rw (lt-ltb 0 (digits h cs) (omega arith))
      (go (is_exponent h (tail h cs)) (leb n limit) (leb (length (whole h cs) + length (fraction h cs)) limit) (is_negative (tail h cs)))
    where
      n : ℕ
      n = exponent (tail h cs)

      number : ℕ → ℕ → Result Float FlonumError
      number u d = Ok (flonum s h (whole h cs) (fraction h cs) u d)

      go : (a b d c : Bool)
          → cond a (cond (d && b) (number (cond c 0 n) (cond c n 0)) (Err FlonumError.TooLong)) (Err FlonumError.Malformed)
          ≡ by_exponent (λ e. cond d (number e.up e.down) (Err FlonumError.TooLong))
          (cond a (cond b (Ok (record { up = cond c 0 n; down = cond c n 0 })) (Err FlonumError.TooLong)) (Err FlonumError.Malformed))
      go true true true c = refl
      go true true false c = refl
      go true false true c = refl
      go true false false c = refl
      go false b d c = refl

-- ---- 0x takes two bytes

pub hex-length : (cs : List ℕ) → is_hex cs ≡ true → 2 ≤ length cs
unfolding is_hex byte_at one_of
hex-length [] e = absurd (false≢true e)
hex-length (c ∷ []) e = absurd (false≢true (sym (and-false (eqb c 48)) ∙ e))
hex-length (c ∷ d ∷ cs) e = omega arith
