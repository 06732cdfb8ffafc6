-- A flonum's text has at most 24 bytes; what spelling one answers. Assumes nothing.
use Prim.Native.Nat.{ℕ, zero, suc, ◌+◌, ◌*◌, ◌-◌, ◌/◌, ◌%◌, ◌^◌, ◌≤◌, ◌<◌}
use native.Mathlib.Omega.{arith}
use mathlib.Core.Path.{◌≡◌, refl, sym, ap, ap₂, subst, ◌∙◌}
use mathlib.Core.Bool.{Bool, true, false, cond}
use mathlib.Core.List.{List, [], ◌∷◌, ◌++◌}
use lib.Dec.{eqb, ltb}
use lib.ListN.{length, take, drop, length-append}
use lib.Ieee.{Float, binary64, to_bits}
use borrow.Author.Tests.{le-leb, lt-leb}
use Rattle.outcomes.specs.Outcome.{Outcome, done, map_done}
use Rattle.outcomes.specs.Refusal.{outcome_of, code_of}
use Rattle.outcomes.specs.declared.refusal.Refusal.{Refusal}
use Rattle.std.specs.Prelude.{Ok, Err}
use Rattle.outcomes.specs.Buffer.{laid, afterwards}
use Rattle.outcomes.proofs.BufferLaws.{laid-copy}
use Rattle.output.specs.Counts.{IsPrefixLen}
use Rattle.output.proofs.PutsLaws.{counts}
use Rattle.outcomes.proofs.OutcomeLaws.{passed, failed}
use Rattle.output.proofs.AppendLaws.{after-whole, filled-whole}
use Rattle.spelling.specs.Spellings.{glyph}
use Rattle.flspelling.specs.Spellings.{fraction, pointed, last_digit, place, decimal, power, leading, scale, magnitude, sign, text_of_bits, hex_float, spelling, Spells}
use Rattle.output.specs.Put.{Puts}

-- ---- lengths

either : (b : Bool) (xs ys : List ℕ) (n : ℕ) → length xs ≤ n → length ys ≤ n → length (cond b xs ys) ≤ n
either true xs ys n h l = h
either false xs ys n h l = l

both : (xs ys : List ℕ) (n m : ℕ) → length xs ≤ n → length ys ≤ m → length (xs ++ ys) ≤ n + m
both xs ys n m h l = omega (arith, length-append xs ys)

length-fraction : (k m : ℕ) → length (fraction k m) ≤ k
unfolding fraction
length-fraction zero m = omega arith
length-fraction (suc k) m =
    let ih = length-fraction k (m % 2 ^ 48 * 16) in
    either (eqb m 0) [] (glyph (m / 2 ^ 48) ∷ fraction k (m % 2 ^ 48 * 16)) (suc k) (omega arith) (omega (arith, ih))

length-pointed : (m : ℕ) → length (pointed m) ≤ 14
unfolding pointed
length-pointed m = either (eqb m 0) [] (46 ∷ fraction 13 m) 14 (omega arith) (omega (arith, length-fraction 13 m))

length-place : (n p : ℕ) → length (place n p) ≤ 1
unfolding place
length-place n p = either (ltb n p) [] (last_digit (n / p) ∷ []) 1 (omega arith) (omega arith)

length-decimal : (n : ℕ) → length (decimal n) ≤ 4
unfolding decimal
length-decimal n =
    let last = last_digit n ∷ [] in
    both (place n 1000) (place n 100 ++ (place n 10 ++ last)) 1 3 (length-place n 1000)
    (both (place n 100) (place n 10 ++ last) 1 2 (length-place n 100)
    (both (place n 10) last 1 1 (length-place n 10) (omega arith)))

length-power : (f : ℕ) → length (power f) ≤ 6
unfolding power
length-power f =
    either (ltb f 1023) (112 ∷ 45 ∷ decimal (1023 - f)) (112 ∷ 43 ∷ decimal (f - 1023)) 6
    (omega (arith, length-decimal (1023 - f)))
    (omega (arith, length-decimal (f - 1023)))

length-magnitude : (e m : ℕ) → length (magnitude e m) ≤ 23
unfolding magnitude leading
length-magnitude e m =
    let end = power (scale e m) in
    either (ltb e 2047) (leading e ++ (pointed m ++ end)) (cond (eqb m 0) (105 ∷ 110 ∷ 102 ∷ []) (110 ∷ 97 ∷ 110 ∷ [])) 23
    (both (leading e) (pointed m ++ end) 3 20 (omega arith) (both (pointed m) end 14 6 (length-pointed m) (length-power (scale e m))))
    (either (eqb m 0) (105 ∷ 110 ∷ 102 ∷ []) (110 ∷ 97 ∷ 110 ∷ []) 23 (omega arith) (omega arith))

pub length-text : (b : ℕ) → length (text_of_bits b) ≤ 24
unfolding text_of_bits sign
length-text b =
    both (sign b) (magnitude (b / 2 ^ 52 % 2048) (b % 2 ^ 52)) 1 23
    (either (ltb b (2 ^ 63)) [] (45 ∷ []) 1 (omega arith) (omega arith))
    (length-magnitude (b / 2 ^ 52 % 2048) (b % 2 ^ 52))

-- ---- the answer

pub spells-none : (x : Float) (out : List ℕ) → length out < 24 → Spells x out (Err Refusal.Capacity) out
unfolding spelling afterwards outcome_of code_of map_done
spells-none x out h = let e = failed 8 (done (hex_float x)) (lt-leb 24 (length out) h) in record { answer = rw e refl; buffer = rw e refl }

-- the text is put into room for every text, and copied from there
module _ (b : ℕ) {space bytes text : List ℕ} {at r : ℕ} (room : length space ≡ 24) (start : at ≡ 0) (p : Puts (text_of_bits b) space at r bytes)
    (t : text ≡ take r bytes) where
  text-is : text ≡ text_of_bits b
  text-is =
      let T = text_of_bits b in
      let q : Puts T space 0 r bytes = subst (λ (i : ℕ). Puts T space i r bytes) start p in
      let fits : 0 + length T ≤ length space = omega (arith, length-text b, room) in
      let long : r ≡ length T = q.count ∙ filled-whole T space 0 fits ∙ omega arith in
      t ∙ ap₂ take long (q.buffer ∙ after-whole T space 0 fits) ∙ laid-copy space 0 T (omega arith)

  pub text-fits : length text ≤ 24
  text-fits = omega (arith, ap length text-is, length-text b)

  module _ (x : Float) (out : List ℕ) {out' : List ℕ} (h : 24 ≤ length out) (e : b ≡ to_bits binary64 x) (c : out' ≡ text ++ drop (length text) out) where
    pub spells-put : Spells x out (Ok (length text)) out'
    unfolding spelling hex_float afterwards outcome_of map_done laid
    spells-put =
        let T = text_of_bits b in
        let is : spelling x out ≡ done T = passed 8 (done (hex_float x)) (le-leb 24 (length out) h) ∙ ap (λ (n : ℕ). done (text_of_bits n)) (sym e) in
        let i : length T ≡ 0 + length T = omega arith in
        record {
          answer = ap (λ (l : List ℕ). done (length l)) text-is ∙ sym (ap (λ (o : Outcome (List ℕ)). map_done length o) is);
          buffer = c ∙ ap (λ (l : List ℕ). l ++ drop (length l) out) text-is ∙ ap (λ (n : ℕ). T ++ drop n out) i ∙ sym (ap (λ (o : Outcome (List ℕ)). afterwards o out 0) is);
        }

    pub put-counts : IsPrefixLen (length text) out'
    put-counts = counts (length text) out' (omega (arith, ap length c, length-append text (drop (length text) out)))
