-- What holds of the answer of every call, from each stage that may give it. Assumes nothing.
use Prim.Native.Nat.{ℕ, ◌≤◌}
use native.Mathlib.Omega.{arith}
use mathlib.Core.Path.{◌≡◌, refl}
use mathlib.Core.Bool.{Bool, true, false}
use mathlib.Core.List.{List}
use lib.IntN.{ℤ}
use Rattle.outcomes.specs.Outcome.{Outcome, refused, done, guard, guard_at}
use Rattle.outcomes.specs.Tests.{first_failed, guard_each}
use Rattle.fxtable.specs.declared.answer.Answer.{Answer}
use Rattle.fxtable.specs.Domains.{is_width, domain_tests, in_domains}
use Rattle.fxtable.specs.Operations.{results_of}
use Rattle.fxtable.specs.Table.{is_code, row_of}
use Rattle.fxtable.specs.Calls.{answer, counted, is_count, fixnum_tests, all_fixnums, checked, outcome, fixnum_answer}

pub stage : (P : Answer → Type 0) (t : Bool) (k place : ℕ) (o : Outcome (ℤ × ℤ)) → (t ≡ true → P (answer o)) → (t ≡ false → P (answer (refused k place)))
    → P (answer (guard_at t k place o))
unfolding guard_at
stage P true k place o f g = f refl
stage P false k place o f g = g refl

-- past its domains, a call is done or refused for overflow
pub of-outcome : (w code : ℕ) (xs : List ℤ) (P : Answer → Type 0) → P (answer (refused (row_of code).overflow 0)) → ((r : ℤ × ℤ) → P (answer (done r)))
    → P (answer (outcome w code xs))
unfolding outcome checked guard
of-outcome w code xs P large finished = stage P _ (row_of code).overflow 0 _ (λ t. finished (results_of (row_of code).results w xs)) (λ t. large)

module _ (w code : ℕ) (args : List ℤ) (n : ℕ) where
  abbrev xs : List ℤ
  xs = counted args n

  -- what holds of answers up to the domains, and a fact of what comes past them
  pub record Ways (P : Answer → Type 0) (Past : Type 0) : Type 0 where
    pub early : (k : ℕ) → 1 ≤ k → k ≤ 3 → P (answer (refused k 0))
    pub wide : is_count code n ≡ true → all_fixnums w xs ≡ false → P (answer (refused 4 (first_failed (fixnum_tests w xs))))
    pub outside : is_count code n ≡ true → in_domains (row_of code).domains w xs ≡ false → P (answer (refused 5 (first_failed (domain_tests (row_of code).domains w xs))))
    pub past : Past

  pub by-ways : (P : Answer → Type 0)
      → Ways P (is_width w ≡ true → is_code code ≡ true → is_count code n ≡ true → all_fixnums w xs ≡ true → in_domains (row_of code).domains w xs ≡ true → P (answer (outcome w code xs)))
      → P (fixnum_answer w code args n)
  unfolding fixnum_answer guard guard_each all_fixnums in_domains
  by-ways P ways =
      stage P (is_width w) 1 0 _
      (λ a. stage P (is_code code) 2 0 _
      (λ c. stage P (is_count code n) 3 0 _
      (λ m. stage P (all_fixnums w xs) 4 _ _ (λ f. stage P (in_domains (row_of code).domains w xs) 5 _ _ (ways.past a c m f) (ways.outside m)) (ways.wide m))
      (λ z. ways.early 3 (omega arith) (omega arith))) (λ z. ways.early 2 (omega arith) (omega arith))) (λ z. ways.early 1 (omega arith) (omega arith))

  -- the same, with the overflow and the results apart
  pub by-ends : (P : Answer → Type 0)
      → Ways P ((is_code code ≡ true → all_fixnums w xs ≡ true → in_domains (row_of code).domains w xs ≡ true → P (answer (refused (row_of code).overflow 0))) × ((r : ℤ × ℤ) → P (answer (done r))))
      → P (fixnum_answer w code args n)
  by-ends P ways =
      by-ways P
      (record { early = ways.early; wide = ways.wide; outside = ways.outside; past = λ a c m f d. of-outcome w code xs P (ways.past.0 c f d) ways.past.1 })
