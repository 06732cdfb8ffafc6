-- Digits of a number: how many it has in hexadecimal, and how they are put one by one, from the last to the first. Assumes nothing.
use Prim.Native.Nat.{ℕ, zero, suc, ◌+◌, ◌*◌, ◌-◌, ◌/◌, ◌%◌, ◌^◌, ◌≤◌, ◌<◌}
use native.Mathlib.Nat.{mod-eq_of_lt, div-eq_of_lt, div-one, div-div-eq-div-mul, div-lt_iff_lt-mul, pow-zero, pow-suc, pow-succ', one-le-pow}
use native.Mathlib.Numerals.{add-one}
use native.Mathlib.Omega.{arith}
use mathlib.Core.Path.{◌≡◌, refl, sym, ap, ap₂, ◌∙◌, subst}
use mathlib.Core.List.{List, [], ◌∷◌, ◌++◌, append_assoc}
use lib.IntN.{pos}
use lib.ListN.{length, take, drop, set, get_or, length-append, length-set, take-append-drop}
use lib.Seq.{length-take-le, take-suc, set_at}
use Rattle.bits.specs.Testbit.{bit_length}
use Rattle.bits.proofs.LengthLaws.{bit_length-le, mag-lt}
use Rattle.spelling.specs.Spellings.{glyph, digits, hex_length}
use Rattle.text.proofs.NumeralLaws.{pow-hex}

-- ---- how many digits there are

-- what is so while a leading digit is looked for: no digit from place k on
pub record Below (n k : ℕ) : Type 0 where
  pub some : 1 ≤ k
  pub below : n < 16 ^ k

module _ {n k : ℕ} (s : Below n k) where
  step : 16 ^ k ≡ 16 ^ (k - 1) * 16
  step = let e : k ≡ suc (k - 1) = omega (arith, s.some) in ap (λ (i : ℕ). 16 ^ i) e ∙ pow-suc 16 (k - 1)

  -- digit k - 1 is all that is above the others
  top : n / 16 ^ (k - 1) % 16 ≡ n / 16 ^ (k - 1)
  top = mod-eq_of_lt ((div-lt_iff_lt-mul (one-le-pow (k - 1) 16 (omega arith))).1 (omega (arith, s.below, step)))

  -- it is 0: it can go
  pub below_less : 1 < k → n / 16 ^ (k - 1) % 16 ≡ 0 → Below n (k - 1)
  below_less h e = record {
    some = omega arith;
    below = omega (arith, (div-lt_iff_lt-mul {x = n} {y = 1} (one-le-pow (k - 1) 16 (omega arith))).0 (omega (arith, top)));
  }

  at_most : bit_length (pos n) ≤ 4 * k
  at_most = bit_length-le (pos n) (4 * k) (subst (λ (m : ℕ). n < m) (pow-hex k) s.below)

  -- it is not: k is the length
  pub below-settled : (n / 16 ^ (k - 1) % 16 ≡ 0 → ⊥) → k ≡ hex_length n
  unfolding hex_length
  below-settled e = omega (arith, s.some, at_most, at_least)
    where
      at_least : ¬ (bit_length (pos n) ≤ 4 * (k - 1))
      at_least l =
          e (ap (λ (m : ℕ). m % 16) (div-eq_of_lt (subst (λ (m : ℕ). n < m) (sym (pow-hex (k - 1))) (mag-lt (pos n) (4 * (k - 1)) l))))

  -- one digit is the least
  pub below_one : k ≤ 1 → k ≡ hex_length n
  unfolding hex_length
  below_one h = omega (arith, s.some, at_most)

-- ---- the digits, the most significant first

pub length_digits : (b k n : ℕ) → length (digits b k n) ≡ k
unfolding digits
length_digits b zero n = refl
length_digits b (suc k) n = length-append (digits b k (n / b)) (glyph (n % b) ∷ []) ∙ ap (λ (m : ℕ). m + 1) (length_digits b k (n / b)) ∙ add-one k

-- one more in front
digits_more : (b k n : ℕ) → digits b (suc k) n ≡ glyph (n / b ^ k % b) ∷ digits b k n
unfolding digits
digits_more b zero n = ap (λ (m : ℕ). glyph (m % b) ∷ []) (sym (ap (λ (m : ℕ). n / m) (pow-zero b) ∙ div-one n))
digits_more b (suc k) n =
    ap (λ (l : List ℕ). l ++ (glyph (n % b) ∷ [])) (digits_more b k (n / b))
    ∙ ap (λ (m : ℕ). glyph (m % b) ∷ digits b (suc k) n) (div-div-eq-div-mul n b (b ^ k) ∙ ap (λ (m : ℕ). n / m) (sym (pow-succ' b k)))

-- the last i of k digits are put
pub record Put (n k : ℕ) (first out : List ℕ) (i : ℕ) : Type 0 where
  pub within : i ≤ k
  pub size : length out ≡ length first
  pub so_far : out ≡ take (k - i) first ++ (digits 16 i n ++ drop k first)

pub put-none : (n k : ℕ) (out : List ℕ) → Put n k out out 0
unfolding digits
put-none n k out = record { within = omega arith; size = refl; so_far = let e : k - 0 ≡ k = omega arith in rw e (sym (take-append-drop k out)) }

pub put-more : {n k : ℕ} {first out : List ℕ} {i : ℕ} (v : ℕ) → Put n k first out i → i < k → k ≤ length first → v ≡ glyph (n / 16 ^ i % 16)
    → Put n k first (set out (k - 1 - i) v) (i + 1)
put-more {n} {k} {first} {out} {i} v s h l e = record {
  within = omega arith;
  size = length-set out (k - 1 - i) v ∙ s.size;
  so_far =
      let e₁ : k - i ≡ suc (k - 1 - i) = omega arith in
      let e₂ : k - (i + 1) ≡ k - 1 - i = omega arith in
      let m = k - 1 - i in
      let a = take m first in
      let ys = digits 16 i n ++ drop k first in
      ap (λ (o : List ℕ). set o m v)
      (s.so_far
      ∙ ap (λ (j : ℕ). take j first ++ ys) e₁
      ∙ ap (λ (l : List ℕ). l ++ ys) (take-suc first m 0 (omega arith))
      ∙ append_assoc a (get_or first m 0 ∷ []) ys)
      ∙ set_at a (get_or first m 0) ys v m (length-take-le m first (omega arith))
      ∙ ap (λ (d : ℕ). a ++ (d ∷ ys)) e
      ∙ ap (λ (l : List ℕ). a ++ (l ++ drop k first)) (sym (digits_more 16 i n))
      ∙ ap₂ (λ (j t : ℕ). take j first ++ (digits 16 t n ++ drop k first)) (sym e₂) (sym (add-one i));
}

pub put_all : {n k : ℕ} {first out : List ℕ} {i : ℕ} → Put n k first out i → k ≤ i → out ≡ digits 16 k n ++ drop k first
put_all {n} {k} {first} {out} {i} s h =
    let e : i ≡ k = omega (arith, s.within) in
    let z : k - i ≡ 0 = omega arith in
    s.so_far ∙ ap₂ (λ (j t : ℕ). take j first ++ (digits 16 t n ++ drop k first)) z e
