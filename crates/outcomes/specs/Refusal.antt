-- The numbers of refusals, and a result as an outcome.
--   code_of r        ==  the number that a C caller is told
--   outcome_of r     ==  the outcome of a call whose refusals have no detail
use Rattle.std.specs.Prelude.{ℕ, Result, Ok, Err}
use Rattle.outcomes.specs.Outcome.{Outcome, done, refuse}
use Rattle.outcomes.specs.declared.refusal.Refusal.{Refusal}

unfoldable pub code_of : Refusal → ℕ
code_of Refusal.Width = 1
code_of Refusal.Code = 2
code_of Refusal.Count = 3
code_of Refusal.NotFixnum = 4
code_of Refusal.Domain = 5
code_of Refusal.Overflow = 6
code_of Refusal.Operand = 7
code_of Refusal.Capacity = 8
code_of Refusal.NotOpen = 9
code_of Refusal.BadRule = 10

unfoldable pub outcome_of : {A : Type 0} → Result A Refusal → Outcome A
outcome_of (Ok x) = done x
outcome_of (Err r) = refuse (code_of r)
