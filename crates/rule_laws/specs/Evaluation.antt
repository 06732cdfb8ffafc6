-- The order in which a call is evaluated: its arguments from left to right, then the call.
--   joined fs gs                            ==  the forms of fs, and then those of gs
--   EvaluationStatement w inputs code       ==  what a call of the code comes to
use Rattle.std.specs.Prelude.{ℕ, ◌≡◌, List, ℤ}
use Rattle.outcomes.specs.Outcome.{refused, done}
use Rattle.fxtable.specs.Calls.{answer_of}
use Rattle.rules.specs.Tree.{Form, Forms, call, none, more}
use Rattle.rules.specs.Evaluate.{result_of, evaluate, evaluate_all}

unfoldable pub joined : Forms → Forms → Forms
joined none gs = gs
joined (more f fs) gs = more f (joined fs gs)

pub record EvaluationStatement (w : ℕ) (inputs : List ℤ) (code : ℕ) : Type 0 where
  -- where the arguments before it have values, the refusal of an argument is the call's, whatever comes after
  pub first : (before : Forms) (f : Form) (after : Forms) (xs : List ℤ) (k p : ℕ) → evaluate_all w inputs before ≡ done xs → evaluate w inputs f ≡ refused k p
      → evaluate w inputs (call code (joined before (more f after))) ≡ refused k p
  -- where all have values, the call's own answer is what comes
  pub own : (args : Forms) (xs : List ℤ) → evaluate_all w inputs args ≡ done xs → evaluate w inputs (call code args) ≡ result_of (answer_of w code xs)
