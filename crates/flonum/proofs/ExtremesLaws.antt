-- The fold of `extend` over the counted arguments. Assumes nothing.
use Rattle.std.proofs.Common.{◌≡◌, ℕ, suc, ◌+◌, ◌<◌, ◌≤◌, Bool, true, false, cond, List, ◌∷◌, length, get_or, take, drop, sym, ap, ◌∙◌, ap₂, add-one, arith, drop_of_length-le, length-take, length-take-le, drop-cons, get_or-take}
use lib.Ieee.{Float, nan, lt, is_nan}
use Rattle.flonum.specs.declared.extremes.Extremes.{Extremes}
use Rattle.flonum.specs.Extremes.{above, kept, extend, extend_all, extremes}

module _ (better : Float → Float → Bool) (old x : Float) where
  pub better-kept : better x old ≡ true → x ≡ kept better old x
  unfolding kept
  better-kept t = sym (ap (λ (b : Bool). cond b x old) t)

  pub old-kept : better x old ≡ false → old ≡ kept better old x
  unfolding kept
  old-kept t = sym (ap (λ (b : Bool). cond b x old) t)

abbrev both : Float → Float → Extremes
both s l = record { smallest = s; largest = l }

module _ (e : Extremes) (x s l : Float) where
  abbrev without : Extremes
  without = record { smallest = kept lt e.smallest x; largest = kept above e.largest x }

  pub with-nan : is_nan x ≡ true → s ≡ nan → l ≡ nan → record { smallest = s; largest = l } ≡ extend e x
  unfolding extend
  with-nan t p q = ap₂ both p q ∙ sym (ap (λ (b : Bool). cond b (both nan nan) without) t)

  pub with_number : is_nan x ≡ false → s ≡ kept lt e.smallest x → l ≡ kept above e.largest x → record { smallest = s; largest = l } ≡ extend e x
  unfolding extend
  with_number t p q = ap₂ both p q ∙ sym (ap (λ (b : Bool). cond b (both nan nan) without) t)

module _ (xs : List Float) (n : ℕ) (four : length xs ≡ 4) (few : n ≤ 4) where
  rest-cons : (i : ℕ) → i < n → drop i (take n xs) ≡ get_or xs i nan ∷ drop (i + 1) (take n xs)
  rest-cons i h =
      let l : i < length (take n xs) = omega (arith, length-take-le n xs (omega arith)) in
      drop-cons (take n xs) i nan l
      ∙ ap (λ (x : Float). x ∷ drop (suc i) (take n xs)) (get_or-take n xs i nan h)
      ∙ ap (λ (k : ℕ). get_or xs i nan ∷ drop k (take n xs)) (sym (add-one i))

  -- the first argument begins the fold, and each further one is one step
  pub begins : 1 ≤ n → extend_all (record { smallest = get_or xs 0 nan; largest = get_or xs 0 nan }) (drop 1 (take n xs)) ≡ extremes (take n xs)
  unfolding extremes
  begins h = sym (ap extremes (rest-cons 0 h))

  pub goes_on : (e : Extremes) (i : ℕ) → i < n → extend_all e (drop i (take n xs)) ≡ extend_all (extend e (get_or xs i nan)) (drop (i + 1) (take n xs))
  unfolding extend_all
  goes_on e i h = ap (extend_all e) (rest-cons i h)

  pub ends : (e : Extremes) (i : ℕ) → n ≤ i → extend_all e (drop i (take n xs)) ≡ e
  unfolding extend_all
  ends e i h = ap (extend_all e) (drop_of_length-le (take n xs) {i = i} (omega (arith, length-take n xs)))
