-- What a form evaluates to, at a width and for sixteen inputs.
--   fixnum w z             ==  z, or refusal 4, for no argument, where it is no fixnum at w: a constant or an input that evaluation comes to
--   result_of a             ==  the first result of a fixnum call's answer, or its refusal and place
--   evaluate w inputs f    ==  the value of a form. The arguments of a call from left to right; the first refusal met is the form's
--   runs_at d r             ==  the width that a rule runs at: d, the default, where 0 is stored
use Rattle.std.specs.Prelude.{ℕ, cond, List, [], ◌∷◌, eqb, ℤ, pos, get_or}
use Rattle.bits.specs.Testbit.{fits}
use Rattle.outcomes.specs.Outcome.{Outcome, refused, done, guard, on_done}
use Rattle.fxtable.specs.declared.answer.Answer.{Answer}
use Rattle.fxtable.specs.Calls.{answer_of}
use Rattle.rules.specs.Tree.{Form, Forms, constant, input, call, none, more, Rule}

unfoldable pub fixnum : ℕ → ℤ → Outcome ℤ
fixnum w z = guard (fits w z) 4 (done z)

unfoldable pub result_of : Answer → Outcome ℤ
result_of a = cond (eqb a.refusal 0) (done a.first) (refused a.refusal a.place)

unfoldable mutual
  pub evaluate : ℕ → List ℤ → Form → Outcome ℤ
  evaluate w inputs (constant z) = fixnum w z
  evaluate w inputs (input i) = fixnum w (get_or inputs i (pos 0))
  evaluate w inputs (call code args) = on_done (evaluate_all w inputs args) (λ xs. result_of (answer_of w code xs))

  pub evaluate_all : ℕ → List ℤ → Forms → Outcome (List ℤ)
  evaluate_all w inputs none = done []
  evaluate_all w inputs (more f fs) = on_done (evaluate w inputs f) (λ x. on_done (evaluate_all w inputs fs) (λ xs. done (x ∷ xs)))

unfoldable pub runs_at : ℕ → Rule → ℕ
runs_at default r = cond (eqb r.width 0) default r.width
