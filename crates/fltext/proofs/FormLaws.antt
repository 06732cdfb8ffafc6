-- The parts of a text, as the code reads them. Assumes nothing.
use Prim.Native.Nat.{ℕ, suc, ◌+◌, ◌-◌, ◌≤◌}
use native.Mathlib.Nat.{le_refl}
use native.Mathlib.Omega.{arith}
use mathlib.Core.Path.{◌≡◌, refl, ap, ◌∙◌}
use mathlib.Core.Bool.{Bool, true, false, cond, not, ◌&&◌}
use mathlib.Core.List.{List, [], ◌∷◌}
use lib.Dec.{eqb, ltb}
use lib.ListN.{length, take, drop, length-drop}
use borrow.Author.Tests.{ltb-false}
use borrow.Author.Rules.{part_to_end}
use Rattle.std.specs.Prelude.{Some, None, unwrap_or, position}
use Rattle.std.specs.List.{position_or_len}
use Rattle.std.specs.Cmp.Lexicographic.{pointwise}
use Rattle.text.specs.Numerals.{digit, are_digits, byte_at, one_of}
use Rattle.fltext.specs.Forms.{same, sign_length, after_sign, point_length, base, digit_count}
use Rattle.fltext.specs.Inner.{parts}

-- ---- the same bytes

same_pointwise : (xs ys : List ℕ) → pointwise eqb xs ys ≡ same xs ys
unfolding same
same_pointwise [] [] = refl
same_pointwise [] (y ∷ ys) = refl
same_pointwise (x ∷ xs) [] = refl
same_pointwise (x ∷ xs) (y ∷ ys) = ap (λ (b : Bool). eqb x y && b) (same_pointwise xs ys)

-- what the library's comparison with a text answers
pub same_by : (xs ys zs : List ℕ) {b : Bool} → b ≡ pointwise eqb xs ys → ys ≡ zs → b ≡ same xs zs
same_by xs ys zs e f = e ∙ ap (pointwise eqb xs) f ∙ same_pointwise xs zs

-- ---- a sign and a point are in the text

one-le : (t : Bool) (n : ℕ) → cond t 1 0 ≤ suc n
one-le true n = omega arith
one-le false n = omega arith

sign_length-le : (cs : List ℕ) → sign_length cs ≤ length cs
unfolding sign_length byte_at one_of
sign_length-le [] = le_refl 0
sign_length-le (c ∷ cs) = one-le (one_of 43 45 c) (length cs)

module _ (cs : List ℕ) {n : ℕ} (e : n ≡ sign_length cs) where
  pub sign-in : n ≤ length cs
  sign-in = omega (arith, sign_length-le cs)

  pub after-sign : take (length cs - n) (drop n cs) ≡ after_sign cs
  unfolding after_sign
  after-sign = part_to_end cs n ∙ ap (λ (k : ℕ). drop k cs) e

pub point_length-le : (cs : List ℕ) → point_length cs ≤ length cs
unfolding point_length byte_at
point_length-le [] = le_refl 0
point_length-le (c ∷ cs) = one-le (eqb c 46) (length cs)

-- ---- digits

module _ (b : ℕ) where
  pub digit_count-le : (cs : List ℕ) → digit_count b cs ≤ length cs
  unfolding digit_count
  digit_count-le [] = le_refl 0
  digit_count-le (c ∷ cs) = go (ltb (digit c) b) (digit_count-le cs)
    where
      go : (t : Bool) → digit_count b cs ≤ length cs → cond t (suc (digit_count b cs)) 0 ≤ suc (length cs)
      go true h = omega arith
      go false h = omega arith

  -- the place of the first byte that is no digit
  digit_count-prefix : (cs : List ℕ) → position_or_len (λ (c : ℕ). not (ltb (digit c) b)) cs ≡ digit_count b cs
  unfolding digit_count
  digit_count-prefix [] = refl
  digit_count-prefix (c ∷ cs) = go (ltb (digit c) b) (digit_count-prefix cs)
    where
      go : (t : Bool) {m n : ℕ} → m ≡ n → cond (not (not t)) (1 + m) 0 ≡ cond t (suc n) 0
      go true e = omega (arith, e)
      go false e = refl

  pub digit_count-position : (cs : List ℕ)
      → unwrap_or (position (λ (c : ℕ). not (ltb (digit c) b)) cs) (length cs) ≡ digit_count b cs
  digit_count-position cs = ap (λ (n : ℕ). unwrap_or (cond (ltb n (length cs)) (Some n) None) (length cs)) (digit_count-prefix cs) ∙ go (ltb (digit_count b cs) (length cs)) refl
    where
      go : (t : Bool) → ltb (digit_count b cs) (length cs) ≡ t → unwrap_or (cond t (Some (digit_count b cs)) None) (length cs) ≡ digit_count b cs
      go true e = refl
      go false e = omega (arith, ltb-false (digit_count b cs) (length cs) e, digit_count-le cs)

  pub digit_count-digits : (cs : List ℕ) → are_digits b (take (digit_count b cs) cs) ≡ true
  unfolding digit_count are_digits
  digit_count-digits [] = refl
  digit_count-digits (c ∷ cs) = go (ltb (digit c) b) refl (digit_count-digits cs)
    where
      go : (t : Bool) → ltb (digit c) b ≡ t → are_digits b (take (digit_count b cs) cs) ≡ true → are_digits b (take (cond t (suc (digit_count b cs)) 0) (c ∷ cs)) ≡ true
      go true e h = rw (e, h) refl
      go false e h = refl

-- ---- where the digits end

module _ (cs : List ℕ) (b : ℕ) {w : ℕ} (ew : w ≡ digit_count b cs) where
  pub whole_le : w ≤ length cs
  whole_le = omega (arith, digit_count-le b cs)

  module _ {p : ℕ} (ep : p ≡ point_length (take (length cs - w) (drop w cs))) where
    point-is : p ≡ point_length (drop w cs)
    point-is = ep ∙ ap point_length (part_to_end cs w)

    pub from_le : w + p ≤ length cs
    from_le = omega (arith, whole_le, point-is, point_length-le (drop w cs), length-drop w cs)

    module _ {e : ℕ} (ee : e ≡ digit_count b (take (length cs - (w + p)) (drop (w + p) cs))) where
      fraction-is : e ≡ digit_count b (drop (w + p) cs)
      fraction-is = ee ∙ ap (digit_count b) (part_to_end cs (w + p))

      pub end-le : w + p + e ≤ length cs
      end-le = omega (arith, from_le, fraction-is, digit_count-le b (drop (w + p) cs), length-drop (w + p) cs)

      pub parts_are : (h : Bool) → b ≡ base h → record { whole = w; from = w + p; end = w + p + e } ≡ parts h cs
      unfolding parts
      parts_are h eb = rw (fraction-is, point-is, ew, eb) refl
