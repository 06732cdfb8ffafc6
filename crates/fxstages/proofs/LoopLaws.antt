-- The loops over the arguments: what is still to be done after i turns, and one turn of it. Assumes nothing.
use Prim.Native.Nat.{ℕ, suc, ◌+◌, ◌≤◌, ◌<◌, ◌^◌}
use native.Mathlib.Numerals.{add-one}
use native.Mathlib.Omega.{arith}
use mathlib.Core.Path.{◌≡◌, refl, sym, ap, ◌∙◌}
use mathlib.Core.Bool.{Bool}
use mathlib.Core.List.{List, [], ◌∷◌}
use lib.IntN.{ℤ, pos}
use lib.ListN.{length, take, drop, length-take, drop_of_length-le}
use lib.Seq.{drop-cons, get_or-take, length-take-le}
use mir.Syntax.{w64}
use mir.Val.{to_z, of_z}
use Rattle.fxtable.specs.Domains.{arg}
use Rattle.fxtable.specs.Operations.{every, fold_from}
use Rattle.bits.specs.Logical.{bitwise, bitwise_from}
use Rattle.outcomes.specs.Outcome.{done}
use Rattle.fxtable.specs.declared.answer.Answer.{Answer}
use Rattle.fxtable.specs.Calls.{answer, counted, outcome}
use Rattle.fxtable.specs.Table.{row, row_of}
use Rattle.fxtable.proofs.CallLaws.{done-word}
use Rattle.fxtable.proofs.MeaningLaws.{every-outcome}
use lib.Signed.{mag}

module _ (xs : List ℤ) (n : ℕ) (four : length xs ≡ 4) (few : n ≤ 4) where
  pub counted-length : length (counted xs n) ≡ n
  unfolding counted
  counted-length = length-take-le n xs (omega arith)

  -- the arguments from i on are argument i and those from i + 1 on
  pub rest-cons : (i : ℕ) → i < n → drop i (counted xs n) ≡ arg xs i ∷ drop (i + 1) (counted xs n)
  unfolding counted arg
  rest-cons i h =
      let l : i < length (take n xs) = omega (arith, counted-length) in
      drop-cons (take n xs) i (pos 0) l
      ∙ ap (λ (x : ℤ). x ∷ drop (suc i) (take n xs)) (get_or-take n xs i (pos 0) h)
      ∙ ap (λ (k : ℕ). arg xs i ∷ drop k (take n xs)) (sym (add-one i))

pub rest-none : (xs : List ℤ) (n i : ℕ) → n ≤ i → drop i (counted xs n) ≡ []
unfolding counted
rest-none xs n i h = drop_of_length-le (take n xs) {i = i} (omega (arith, length-take n xs))

-- one turn of each loop, and its end
module _ (xs : List ℤ) (n : ℕ) (four : length xs ≡ 4) (few : n ≤ 4) where
  pub fold_step : (f : ℤ → ℤ → ℤ) (x : ℤ) (i : ℕ) → i < n
      → fold_from f x (drop i (counted xs n)) ≡ fold_from f (f x (arg xs i)) (drop (i + 1) (counted xs n))
  unfolding fold_from
  fold_step f x i h = ap (fold_from f x) (rest-cons xs n four few i h)

  pub fold-two : (f : ℤ → ℤ → ℤ) (x : ℤ) → n ≡ 2 → fold_from f x (counted xs n) ≡ f (f x (arg xs 0)) (arg xs 1)
  unfolding fold_from
  fold-two f x e =
      fold_step f x 0 (omega arith) ∙ fold_step f (f x (arg xs 0)) 1 (omega arith) ∙ ap (fold_from f (f (f x (arg xs 0)) (arg xs 1))) (rest-none xs n 2 (omega arith))

-- and, ior and xor of any number of arguments are folds
pub from-fold : (op : Bool → Bool → Bool) (x : ℤ) (ys : List ℤ) → bitwise_from op x ys ≡ fold_from (bitwise op) x ys
unfolding bitwise_from fold_from
from-fold op x [] = refl
from-fold op x (y ∷ ys) = from-fold op (bitwise op x y) ys

-- the answer of a code whose result is a fold, from the word that holds it
pub fold-answer : (g : List ℤ → ℤ) (step : ℤ → ℤ → ℤ) (first : ℤ) (w code : ℕ) (ys : List ℤ) {least most : ℕ} {r : Answer} {y : ℤ}
    → row_of code ≡ row least most [] 0 (every g) → g ys ≡ fold_from step first ys
    → r ≡ answer (done (to_z w64 (of_z w64 y), pos 0)) → mag y < 2 ^ 63 → y ≡ fold_from step first ys → r ≡ answer (outcome w code ys)
fold-answer g step first w code ys e q d h p = done-word d h (p ∙ sym q) ∙ every-outcome g w code ys e
