-- The smallest and the largest are the first of the best, and a NaN gives NaNs. Assumes nothing.
use Prim.Native.Nat.{ℕ, zero, suc, ◌≤◌, ◌<◌}
use native.Mathlib.Omega.{arith}
use mathlib.Core.Path.{◌≡◌, refl, sym, ap, ◌∙◌, subst}
use mathlib.Core.Bool.{Bool, true, false, cond, true≢false}
use mathlib.Core.List.{List, [], ◌∷◌}
use lib.ListN.{length, take, get_or}
use lib.Seq.{length-take-le}
use lib.Ieee.{Float, nan, inf, fin, lt, is_nan}
use Rattle.outcomes.specs.Outcome.{done, guard}
use Rattle.flonum.specs.declared.extremes.Extremes.{Extremes}
use Rattle.flonum.specs.declared.extremes.ExtremesAnswer.{ExtremesAnswer}
use Rattle.flonum.specs.Extremes.{above, kept, extend, extend_all, extremes}
use Rattle.flonum.specs.Calls.{is_count, extremes_of, extremes_answer}
use Rattle.flonum.proofs.CallLaws.{count-bounds, bad-count, good-count}
use Rattle.flonum.proofs.ExtremesLaws.{better-kept, old-kept, with-nan, with_number}
use Rattle.flonum.proofs.NanLaws.{nan_is}
use Rattle.flonum_laws.specs.Extremes.{Extreme, NoNan, ExtremesStatement}
use Rattle.flonum_laws.proofs.OrderLaws.{Order, lt_order, above-order}

-- ---- numbers alone: each half is kept by its own order
unfoldable kept_all : (Float → Float → Bool) → Float → List Float → Float
kept_all better c [] = c
kept_all better c (x ∷ xs) = kept_all better (kept better c x) xs

module _ (better : Float → Float → Bool) (order : Order better) where
  -- what is not false is true, and the other way round
  decide : (b : Bool) → (b ≡ false → ⊥) → b ≡ true
  decide true h = refl
  decide false h = absurd (h refl)

  deny : (b : Bool) → b ≡ true → b ≡ false → ⊥
  deny b h k = true≢false (sym h ∙ k)

  abbrev Found : Float → List Float → Type 0
  Found c xs = Extreme better (c ∷ xs) (kept_all better c xs)

  found_number : (c : Float) (xs : List Float) (r : Float) → NoNan (c ∷ xs) → Extreme better (c ∷ xs) r → is_nan r ≡ false
  found_number c xs r n f = subst (λ (x : Float). is_nan x ≡ false) f.is (n f.place f.inside)

  tail-number : (c x : Float) (xs : List Float) → NoNan (c ∷ x ∷ xs) → NoNan (x ∷ xs)
  tail-number c x xs n i h = n (suc i) (let l : suc i < length (c ∷ x ∷ xs) = omega arith in l)

  -- x is better than c: what is found after x is found after c
  module _ (c x : Float) (xs : List Float) (r : Float) (n : NoNan (c ∷ x ∷ xs)) (t : better x c ≡ true) (f : Extreme better (x ∷ xs) r) where
    x-number : is_nan x ≡ false
    x-number = n 1 (let l : 1 < length (c ∷ x ∷ xs) = omega arith in l)

    x-behind : better x r ≡ false
    x-behind = f.none-better 0 (let l : 0 < length (x ∷ xs) = omega arith in l)

    later : Extreme better (c ∷ x ∷ xs) r
    later = record { place = suc f.place; inside = inside-later; is = f.is; none-better = none-later; first = first-later }
      where
        inside-later : suc f.place < length (c ∷ x ∷ xs)
        inside-later = let l : f.place < length (x ∷ xs) = f.inside in omega arith

        none-later : (i : ℕ) → i < length (c ∷ x ∷ xs) → better (get_or (c ∷ x ∷ xs) i nan) r ≡ false
        none-later zero h = order.onward c x r x-number (order.one_way x c t) x-behind
        none-later (suc i) h = f.none-better i (let l : i < length (x ∷ xs) = omega arith in l)

        first-later : (i : ℕ) → i < suc f.place → better r (get_or (c ∷ x ∷ xs) i nan) ≡ true
        first-later zero h = decide (better r c) (λ q. deny (better x c) t (order.onward x r c (found_number x xs r (tail-number c x xs n) f) x-behind q))
        first-later (suc i) h = f.first i (let l : i < f.place = omega arith in l)

  -- it is not: what is found after c alone is found with x beside it
  module _ (c x : Float) (xs : List Float) (r : Float) (n : NoNan (c ∷ x ∷ xs)) (t : better x c ≡ false) where
    c-number : is_nan c ≡ false
    c-number = n 0 (let l : 0 < length (c ∷ x ∷ xs) = omega arith in l)

    none_beside : ((i : ℕ) → i < length (c ∷ xs) → better (get_or (c ∷ xs) i nan) r ≡ false) → (i : ℕ) → i < length (c ∷ x ∷ xs) → better (get_or (c ∷ x ∷ xs) i nan) r ≡ false
    none_beside g zero h = g 0 (let l : 0 < length (c ∷ xs) = omega arith in l)
    none_beside g (suc zero) h = order.onward x c r c-number t (g 0 (let l : 0 < length (c ∷ xs) = omega arith in l))
    none_beside g (suc (suc i)) h = g (suc i) (let l : suc i < length (c ∷ xs) = omega arith in l)

    beside : (k : ℕ) → k < length (c ∷ xs) → get_or (c ∷ xs) k nan ≡ r → ((i : ℕ) → i < length (c ∷ xs) → better (get_or (c ∷ xs) i nan) r ≡ false)
        → ((i : ℕ) → i < k → better r (get_or (c ∷ xs) i nan) ≡ true) → Extreme better (c ∷ x ∷ xs) r
    beside zero inside is g first = record { place = 0; inside = (let l : 0 < length (c ∷ x ∷ xs) = omega arith in l); is = is; none-better = none_beside g; first = λ i h. absurd (let l : ⊥ = omega arith in l) }
    beside (suc k) inside is g first = record { place = suc (suc k); inside = (let l : suc (suc k) < length (c ∷ x ∷ xs) = omega arith in l); is = is; none-better = none_beside g; first = first-beside }
      where
        r-first : better r c ≡ true
        r-first = first 0 (let l : 0 < suc k = omega arith in l)

        x-number : is_nan x ≡ false
        x-number = n 1 (let l : 1 < length (c ∷ x ∷ xs) = omega arith in l)

        first-beside : (i : ℕ) → i < suc (suc k) → better r (get_or (c ∷ x ∷ xs) i nan) ≡ true
        first-beside zero h = r-first
        first-beside (suc zero) h = decide (better r x) (λ q. deny (better r c) r-first (order.onward r x c x-number q t))
        first-beside (suc (suc i)) h = first (suc i) (let l : suc i < suc k = omega arith in l)

  beside-number : (c x : Float) (xs : List Float) → NoNan (c ∷ x ∷ xs) → NoNan (c ∷ xs)
  beside-number c x xs n zero h = n 0 (let l : 0 < length (c ∷ x ∷ xs) = omega arith in l)
  beside-number c x xs n (suc i) h = n (suc (suc i)) (let l : suc (suc i) < length (c ∷ x ∷ xs) = omega arith in l)

  found : (c : Float) (xs : List Float) → NoNan (c ∷ xs) → Found c xs
  unfolding kept_all
  found c [] n = record {
    place = 0;
    inside = (let l : 0 < length (c ∷ []) = omega arith in l);
    is = refl;
    none-better = itself;
    first = λ i h. absurd (let l : ⊥ = omega arith in l);
  }
    where
      not_itself : (b : Bool) → (b ≡ true → b ≡ false) → b ≡ false
      not_itself true h = h refl
      not_itself false h = refl

      itself : (i : ℕ) → i < length (c ∷ []) → better (get_or (c ∷ []) i nan) c ≡ false
      itself zero h = not_itself (better c c) (order.one_way c c)
      itself (suc i) h = absurd (let l : ⊥ = omega arith in l)
  found c (x ∷ xs) n = go (better x c) refl (found x xs (tail-number c x xs n)) (found c xs (beside-number c x xs n))
    where
      go : (b : Bool) → better x c ≡ b → Found x xs → Found c xs → Extreme better (c ∷ x ∷ xs) (kept_all better (kept better c x) xs)
      go true t f g = subst (λ (y : Float). Extreme better (c ∷ x ∷ xs) (kept_all better y xs)) (better-kept better c x t) (later c x xs (kept_all better x xs) n t f)
      go false t f g = subst (λ (y : Float). Extreme better (c ∷ x ∷ xs) (kept_all better y xs)) (old-kept better c x t) (beside c x xs (kept_all better c xs) n t g.place g.inside g.is g.none-better g.first)

-- ---- the record
abbrev both : Float → Float → Extremes
both s l = record { smallest = s; largest = l }

extend-number : (e : Extremes) (x : Float) → is_nan x ≡ false → extend e x ≡ both (kept lt e.smallest x) (kept above e.largest x)
extend-number e x n = sym (with_number e x (kept lt e.smallest x) (kept above e.largest x) n refl refl)

halves : (s l : Float) (xs : List Float) → NoNan xs → extend_all (both s l) xs ≡ both (kept_all lt s xs) (kept_all above l xs)
unfolding extend_all kept_all
halves s l [] n = refl
halves s l (x ∷ xs) n =
    ap (λ (e : Extremes). extend_all e xs) (extend-number (both s l) x (n 0 (let h : 0 < length (x ∷ xs) = omega arith in h)))
    ∙ halves (kept lt s x) (kept above l x) xs (λ i h. n (suc i) (let g : suc i < length (x ∷ xs) = omega arith in g))

both_found : (xs : List Float) → 0 < length xs → NoNan xs → (Extreme lt xs (extremes xs).smallest) × (Extreme above xs (extremes xs).largest)
unfolding extremes
both_found [] h n = absurd (let g : ⊥ = omega arith in g)
both_found (x ∷ xs) h n =
    let e = halves x x xs (λ i h. n (suc i) (let g : suc i < length (x ∷ xs) = omega arith in g)) in (
      subst (λ (r : Extremes). Extreme lt (x ∷ xs) r.smallest) (sym e) (found lt lt_order x xs n),
      subst (λ (r : Extremes). Extreme above (x ∷ xs) r.largest) (sym e) (found above above-order x xs n),
    )

-- ---- NaNs: once both halves are NaNs they stay
no_less : (x : Float) → lt x nan ≡ false
unfolding lt
no_less nan = refl
no_less (inf s) = refl
no_less (fin s m e) = refl

stay : (x : Float) → extend (both nan nan) x ≡ both nan nan
unfolding extend kept above lt
stay x = go (is_nan x)
  where
    go : (b : Bool) → cond b (both nan nan) (both (cond (lt x nan) x nan) (cond (lt nan x) x nan)) ≡ both nan nan
    go true = refl
    go false = ap (λ (t : Bool). both (cond t x nan) nan) (no_less x)

all_stay : (xs : List Float) → extend_all (both nan nan) xs ≡ both nan nan
unfolding extend_all
all_stay [] = refl
all_stay (x ∷ xs) = ap (λ (e : Extremes). extend_all e xs) (stay x) ∙ all_stay xs

extend-nan : (e : Extremes) (x : Float) → is_nan x ≡ true → extend e x ≡ both nan nan
extend-nan e x n = sym (with-nan e x nan nan n refl refl)

nan-among : (e : Extremes) (xs : List Float) (i : ℕ) → i < length xs → is_nan (get_or xs i nan) ≡ true → extend_all e xs ≡ both nan nan
unfolding extend_all
nan-among e [] i h n = absurd (let g : ⊥ = omega arith in g)
nan-among e (x ∷ xs) zero h n = ap (λ (r : Extremes). extend_all r xs) (extend-nan e x n) ∙ all_stay xs
nan-among e (x ∷ xs) (suc i) h n = nan-among (extend e x) xs i (let g : i < length xs = omega arith in g) n

nan-extremes : (xs : List Float) (i : ℕ) → i < length xs → is_nan (get_or xs i nan) ≡ true → extremes xs ≡ both nan nan
unfolding extremes
nan-extremes [] i h n = absurd (let g : ⊥ = omega arith in g)
nan-extremes (x ∷ xs) zero h n = ap (λ (y : Float). extend_all (both y y) xs) (nan_is x n) ∙ all_stay xs
nan-extremes (x ∷ xs) (suc i) h n = nan-among (both x x) xs i (let g : i < length xs = omega arith in g) n

-- ---- calls
module _ (xs : List Float) (n : ℕ) where
  answer-is : is_count n ≡ true → record { refusal = 0; values = extremes (take n xs) } ≡ extremes_answer xs n
  answer-is h = good-count xs n (extremes (take n xs)) h refl

  values-are : is_count n ≡ true → extremes (take n xs) ≡ (extremes_answer xs n).values
  values-are h = ap (λ (a : ExtremesAnswer). a.values) (answer-is h)

  some-count : length xs ≡ 4 → is_count n ≡ true → 0 < length (take n xs)
  some-count four h =
      let b = count-bounds n h in
      subst (λ (k : ℕ). 0 < k) (sym (length-take-le n xs (let l : n ≤ length xs = omega arith in l))) b.0

  best : length xs ≡ 4 → is_count n ≡ true → NoNan (take n xs) → (Extreme lt (take n xs) (extremes_answer xs n).values.smallest) × (Extreme above (take n xs) (extremes_answer xs n).values.largest)
  best four h k =
      subst (λ (e : Extremes). (Extreme lt (take n xs) e.smallest) × (Extreme above (take n xs) e.largest)) (values-are h) (both_found (take n xs) (some-count four h) k)

counted-only : (xs ys : List Float) (n : ℕ) → take n xs ≡ take n ys → extremes_answer xs n ≡ extremes_answer ys n
unfolding extremes_answer
counted-only xs ys n h = ap (λ (zs : List Float). extremes_of (guard (is_count n) 3 (done (extremes zs)))) h

pub smallest-and-largest : ExtremesStatement
smallest-and-largest = record {
  refused = λ xs n h. unfold extremes in sym (bad-count xs n h);
  done = λ xs n h. sym (ap (λ (a : ExtremesAnswer). a.refusal) (answer-is xs n h));
  smallest = λ xs n f h k. (best xs n f h k).0;
  largest = λ xs n f h k. (best xs n f h k).1;
  any_nan = λ xs n i h l k. sym (values-are xs n h) ∙ nan-extremes (take n xs) i l k;
  counted = counted-only;
}
