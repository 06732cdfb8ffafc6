-- The forms of a rule, and those that its evaluation can be refused for.
--   Part g f                          ==  g is f, or one of the forms in f
--   is_leaf g                          ==  whether g is a constant or an input
--   WideLeaf w inputs has             ==  a constant or an input, of the forms that `has` tells, that is no fixnum at w
--   RefusedCall w inputs has k p      ==  a call, of those forms, whose arguments have values, and which is refused with k and the place p
use Rattle.std.specs.Prelude.{ℕ, ◌≡◌, Bool, true, false, List, ◌⊎◌, ℤ, length}
use Rattle.outcomes.specs.Outcome.{refused, done}
use Rattle.fxtable.specs.Calls.{is_count, all_fixnums, answer_of}
use Rattle.rules.specs.Tree.{Form, Forms, constant, input, call, none, more}
use Rattle.rules.specs.Limits.{is_stored_code}
use Rattle.rules.specs.Evaluate.{evaluate, evaluate_all}

unfoldable mutual
  pub Part : Form → Form → Type 0
  Part g (constant z) = g ≡ constant z
  Part g (input i) = g ≡ input i
  Part g (call code args) = (g ≡ call code args) ⊎ AnyPart g args

  pub AnyPart : Form → Forms → Type 0
  AnyPart g none = ⊥
  AnyPart g (more f fs) = Part g f ⊎ AnyPart g fs

unfoldable pub is_leaf : Form → Bool
is_leaf (constant z) = true
is_leaf (input i) = true
is_leaf (call code args) = false

pub record WideLeaf (w : ℕ) (inputs : List ℤ) (has : Form → Type 0) : Type 0 where
  pub form : Form
  pub part : has form
  pub leaf : is_leaf form ≡ true
  pub wide : evaluate w inputs form ≡ refused 4 0

pub record RefusedCall (w : ℕ) (inputs : List ℤ) (has : Form → Type 0) (k p : ℕ) : Type 0 where
  pub code : ℕ
  pub args : Forms
  pub values : List ℤ
  pub part : has (call code args)
  pub evaluated : evaluate_all w inputs args ≡ done values
  -- nothing that comes before the domains of the arguments is wrong with the call
  pub known : is_stored_code code ≡ true
  pub arity : is_count code (length values) ≡ true
  pub fixnums : all_fixnums w values ≡ true
  -- what it answers
  pub refusal : (answer_of w code values).refusal ≡ k
  pub place : (answer_of w code values).place ≡ p
