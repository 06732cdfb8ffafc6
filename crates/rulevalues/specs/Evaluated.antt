-- What the evaluator's answers, which have positions in the bytes s, say of the forms that are read there. No public call's contract cites it.
--   Evaluated                      ==  a form's value and where the form ends, or the refusal that was met first
--   refusing k place               ==  refusal k and its place
--   refused_for_none r             ==  refusal r, for no argument
--   told p o                       ==  a form's outcome o, as the answer for a form that ends before p
--   Has r                          ==  the reading r has got something: it does not offend
--   Evaluates w inputs s r e       ==  of the form that the reading r has got, e is the value and where the form ends, or its refusal
--   EvaluatesConstant w s r e      ==  the same of a constant
--   answered e                     ==  the rule's answer, from its form's
use Rattle.std.specs.Prelude.{ℕ, ◌≤◌, ◌≡◌, List, ℤ, length, drop, Result, Ok, Err}
use Rattle.outcomes.specs.Outcome.{Outcome, refused, done}
use Rattle.outcomes.specs.Refusal.{code_of}
use Rattle.outcomes.specs.declared.refusal.Refusal.{Refusal}
use Rattle.rules.specs.declared.RuleAnswer.{RuleAnswer}
use Rattle.rules.specs.Tree.{Form}
use Rattle.rules.specs.Leb128.{Reading, got}
use Rattle.rules.specs.Evaluate.{fixnum, evaluate}
use Rattle.rules.specs.Answers.{value_of}
use Rattle.rulevalues.specs.declared.Refused.{Refused}

abbrev pub Evaluated : Type 0
Evaluated = Result (ℤ × ℕ) Refused

abbrev pub refusing : ℕ → ℕ → Refused
refusing k place = record { refusal = k; place = place }

abbrev pub refused_for_none : Refusal → Refused
refused_for_none r = refusing (code_of r) 0

unfoldable pub told : ℕ → Outcome ℤ → Evaluated
told p (refused k place) = Err (refusing k place)
told p (done z) = Ok (z, p)

abbrev pub Has : {A : Type 0} → Reading A → Type 0
Has {A} r = (v : A) × (rest : List ℕ) × (r ≡ got v rest)

abbrev pub Evaluates : ℕ → List ℤ → List ℕ → Reading Form → Evaluated → Type 0
Evaluates w inputs s r (Ok a) = (a.1 ≤ length s) × ((f : Form) (rest : List ℕ) → r ≡ got f rest → (evaluate w inputs f ≡ done a.0) × (rest ≡ drop a.1 s))
Evaluates w inputs s r (Err e) = (f : Form) (rest : List ℕ) → r ≡ got f rest → evaluate w inputs f ≡ refused e.refusal e.place

abbrev pub EvaluatesConstant : ℕ → List ℕ → Reading ℤ → Evaluated → Type 0
EvaluatesConstant w s r (Ok a) = (a.1 ≤ length s) × ((z : ℤ) (rest : List ℕ) → r ≡ got z rest → (fixnum w z ≡ done a.0) × (rest ≡ drop a.1 s))
EvaluatesConstant w s r (Err e) = (z : ℤ) (rest : List ℕ) → r ≡ got z rest → fixnum w z ≡ refused e.refusal e.place

unfoldable pub answered : Evaluated → RuleAnswer
answered (Ok a) = value_of (done a.0)
answered (Err e) = value_of (refused e.refusal e.place)
