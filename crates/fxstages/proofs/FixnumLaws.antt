-- The first argument that is no fixnum, from the test of each. Assumes nothing.
use Prim.Native.Nat.{ℕ, zero, suc, ◌≤◌}
use native.Mathlib.Nat.{le_trans, not-suc-le-zero, le_of_suc-le-suc}
use mathlib.Core.Path.{◌≡◌, ◌∙◌}
use mathlib.Core.Bool.{Bool, true}
use mathlib.Core.List.{List, [], ◌∷◌}
use lib.IntN.{ℤ}
use Rattle.bits.specs.Testbit.{fits}
use Rattle.bits.proofs.FitsLaws.{zero-fits}
use Rattle.outcomes.specs.Tests.{first_failed}
use Rattle.outcomes.proofs.TestLaws.{four-tests}
use Rattle.fxtable.specs.Domains.{arg}
use Rattle.fxtable.specs.Calls.{counted, fixnum_tests}
use Rattle.fxtable.proofs.ArgumentTests.{fixnum-test, fixnum-tests-length}

-- past the count an argument stands for 0
pub uncounted : (w : ℕ) (xs : List ℤ) (n i : ℕ) → n ≤ i → fits w (arg (counted xs n) i) ≡ true
unfolding arg counted
uncounted w xs zero i h = zero-fits w
uncounted w [] (suc n) i h = zero-fits w
uncounted w (x ∷ xs) (suc n) zero h = absurd (not-suc-le-zero h)
uncounted w (x ∷ xs) (suc n) (suc i) h = uncounted w xs n i (le_of_suc-le-suc h)

module _ (w : ℕ) (xs : List ℤ) (n : ℕ) where
  abbrev is : ℕ → Bool
  is i = fits w (arg (counted xs n) i)

  pub not-fixnum : n ≤ 4 → first_failed (fixnum_tests w (counted xs n)) ≡ first_failed (is 0 ∷ is 1 ∷ is 2 ∷ is 3 ∷ [])
  not-fixnum h =
      let test = fixnum-test w (counted xs n) in
      four-tests (fixnum_tests w (counted xs n)) (le_trans (fixnum-tests-length w xs n) h) ∙ cc (test 0, test 1, test 2, test 3)
