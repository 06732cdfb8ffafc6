-- Tests of a call's arguments, one for each, from left to right.
--   all_hold tests         ==  whether every test holds
--   first_failed tests     ==  the place of the first test that fails, counted from 1; 0 where every one holds
--   guard_each tests k o   ==  o where every test holds, else refusal k with that place: a stage that names the argument
use Rattle.std.specs.Prelude.{ℕ, suc, Bool, true, cond, ◌&&◌, List, [], ◌∷◌}
use Rattle.outcomes.specs.Outcome.{Outcome, guard_at}

unfoldable pub all_hold : List Bool → Bool
all_hold [] = true
all_hold (t ∷ ts) = t && all_hold ts

unfoldable pub first_failed_from : ℕ → List Bool → ℕ
first_failed_from place [] = 0
first_failed_from place (t ∷ ts) = cond t (first_failed_from (suc place) ts) place

unfoldable pub first_failed : List Bool → ℕ
first_failed tests = first_failed_from 1 tests

unfoldable pub guard_each : {A : Type 0} → List Bool → ℕ → Outcome A → Outcome A
guard_each tests k o = guard_at (all_hold tests) k (first_failed tests) o
