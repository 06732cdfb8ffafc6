-- The tests of the arguments, each by itself, and how many they are. An argument is counted from 0; past the last test `true` stands. Assumes nothing.
use Prim.Native.Nat.{ℕ, zero, suc, ◌+◌, ◌≤◌}
use native.Mathlib.Nat.{zero-add}
use native.Mathlib.Omega.{arith}
use mathlib.Core.Path.{◌≡◌, refl, sym, ap, ◌∙◌}
use mathlib.Core.Bool.{true}
use mathlib.Core.List.{List, [], ◌∷◌}
use lib.IntN.{ℤ}
use lib.ListN.{length, get_or, length-take}
use Rattle.bits.specs.Testbit.{fits}
use Rattle.bits.proofs.FitsLaws.{zero-fits}
use Rattle.fxtable.specs.declared.domains.Domain.{Domain}
use Rattle.fxtable.specs.Calls.{counted, fixnum_tests}
use Rattle.fxtable.specs.Domains.{arg, accepts, domain_at, domain_tests_from, domain_tests}

pub fixnum-test : (w : ℕ) (xs : List ℤ) (i : ℕ) → get_or (fixnum_tests w xs) i true ≡ fits w (arg xs i)
unfolding fixnum_tests arg
fixnum-test w [] i = sym (zero-fits w)
fixnum-test w (x ∷ xs) zero = refl
fixnum-test w (x ∷ xs) (suc i) = fixnum-test w xs i

module _ (w : ℕ) (xs : List ℤ) where
  test-from : (from : ℕ) (ds : List Domain) (i : ℕ) → get_or (domain_tests_from from ds w xs) i true ≡ accepts (domain_at ds i) w xs (arg xs (from + i))
  unfolding domain_tests_from domain_at accepts
  test-from from [] i = refl
  test-from from (d ∷ ds) zero = ap (λ (k : ℕ). accepts d w xs (arg xs k)) (omega arith)
  test-from from (d ∷ ds) (suc i) = test-from (suc from) ds i ∙ ap (λ (k : ℕ). accepts (domain_at ds i) w xs (arg xs k)) (omega arith)

  pub domain-test : (ds : List Domain) (i : ℕ) → get_or (domain_tests ds w xs) i true ≡ accepts (domain_at ds i) w xs (arg xs i)
  unfolding domain_tests
  domain-test ds i = test-from 0 ds i ∙ ap (λ (k : ℕ). accepts (domain_at ds i) w xs (arg xs k)) (zero-add i)

-- ---- how many

tests-length : (w : ℕ) (xs : List ℤ) → length (fixnum_tests w xs) ≡ length xs
unfolding fixnum_tests
tests-length w [] = refl
tests-length w (x ∷ xs) = ap suc (tests-length w xs)

pub fixnum-tests-length : (w : ℕ) (args : List ℤ) (n : ℕ) → length (fixnum_tests w (counted args n)) ≤ n
unfolding counted
fixnum-tests-length w args n = omega (arith, tests-length w (counted args n), length-take n args)

length_from : (w : ℕ) (xs : List ℤ) (from : ℕ) (ds : List Domain) → length (domain_tests_from from ds w xs) ≡ length ds
unfolding domain_tests_from
length_from w xs from [] = refl
length_from w xs from (d ∷ ds) = ap suc (length_from w xs (suc from) ds)

pub domain-tests-length : (w : ℕ) (xs : List ℤ) (ds : List Domain) → length (domain_tests ds w xs) ≡ length ds
unfolding domain_tests
domain-tests-length w xs ds = length_from w xs 0 ds
