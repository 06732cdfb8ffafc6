-- A chain of comparisons: one turn of the loop, its end, the machine's test for equality, and the answers of codes 1 to 5. Assumes nothing.
use Prim.Native.Nat.{ℕ, ◌+◌, ◌≤◌, ◌<◌}
use native.Mathlib.Omega.{arith}
use mathlib.Core.Path.{◌≡◌, refl, sym, ap, ◌∙◌}
use mathlib.Core.Bool.{Bool, true, false, ◌&&◌}
use mathlib.Core.List.{List, [], ◌∷◌}
use lib.Dec.{ltb}
use lib.IntN.{ℤ, pos}
use lib.ListN.{length, drop}
use borrow.Author.Tests.{ltb-true, ltb-false}
use Rattle.fxtable.specs.Domains.{arg}
use Rattle.outcomes.specs.Outcome.{done}
use Rattle.fxtable.specs.Operations.{chain_from, chain, question, truth}
use Rattle.fxtable.specs.Calls.{answer, counted, outcome}
use Rattle.fxtable.specs.Table.{row, row_of}
use Rattle.fxtable.proofs.CallLaws.{done-cong}
use Rattle.fxtable.proofs.MeaningLaws.{every-outcome}
use Rattle.fxstages.proofs.LoopLaws.{rest-cons, rest-none}

module _ (xs : List ℤ) (n : ℕ) (four : length xs ≡ 4) (few : n ≤ 4) where
  pub chain-step : (r : ℤ → ℤ → Bool) (i : ℕ) → i + 1 < n
      → chain r (drop i (counted xs n)) ≡ r (arg xs i) (arg xs (i + 1)) && chain r (drop (i + 1) (counted xs n))
  unfolding chain chain_from
  chain-step r i h =
      let next = rest-cons xs n four few (i + 1) h in
      ap (chain r) (rest-cons xs n four few i (omega arith) ∙ ap (λ (ys : List ℤ). arg xs i ∷ ys) next)
      ∙ ap (λ (ys : List ℤ). r (arg xs i) (arg xs (i + 1)) && chain r ys) (sym next)

  pub chain-last : (r : ℤ → ℤ → Bool) (i : ℕ) → n ≤ i + 1 → chain r (drop i (counted xs n)) ≡ true
  unfolding chain chain_from
  chain-last r i k = go (ltb i n) refl
    where
      go : (t : Bool) → ltb i n ≡ t → chain r (drop i (counted xs n)) ≡ true
      go true h = ap (chain r) (rest-cons xs n four few i (ltb-true i n h) ∙ ap (λ (ys : List ℤ). arg xs i ∷ ys) (rest-none xs n (i + 1) k))
      go false h = ap (chain r) (rest-none xs n i (ltb-false i n h))

-- a code whose answer is whether each argument stands in the relation to the next
module _ (code : ℕ) (r : ℤ → ℤ → Bool) (e : row_of code ≡ row 2 4 [] 0 (question (chain r))) where
  pub compared-outcome : {b : Bool} (w : ℕ) (ys : List ℤ) → b ≡ chain r ys → answer (done (truth b, pos 0)) ≡ answer (outcome w code ys)
  compared-outcome w ys k = done-cong (ap truth k) refl ∙ every-outcome (λ zs. truth (chain r zs)) w code ys e
