-- What the calls answer to the bytes of a rule.
--   default_width                  ==  the width that a stored 0 means
--   read_answer d s                ==  reading: the width that the rule runs at, d where 0 is stored; or refusal 10 with its offset
--   rule_answer d s inputs         ==  evaluation: the rule's value; or refusal 10 with its offset; or the refusal that evaluation met, with its place
--   lent_answer d s inputs         ==  the same of as many inputs as a caller lends: refusal 3, before all else, unless they are sixteen
use Rattle.std.specs.Prelude.{ℕ, cond, List, eqb, ℤ, pos, length}
use Rattle.outcomes.specs.Outcome.{Outcome, refused, done}
use Rattle.rules.specs.declared.ReadAnswer.{ReadAnswer}
use Rattle.rules.specs.declared.RuleAnswer.{RuleAnswer}
use Rattle.rules.specs.Tree.{Rule}
use Rattle.rules.specs.Parse.{parse}
use Rattle.rules.specs.Evaluate.{evaluate, runs_at}

abbrev pub default_width : ℕ
default_width = 30

unfoldable pub read_of : ℕ → Outcome Rule → ReadAnswer
read_of default (refused k offset) = record { refusal = k; offset = offset; width = 0 }
read_of default (done r) = record { refusal = 0; offset = 0; width = runs_at default r }

unfoldable pub read_answer : ℕ → List ℕ → ReadAnswer
read_answer default s = read_of default (parse s)

unfoldable pub bad_rule : ℕ → ℕ → RuleAnswer
bad_rule k offset = record { refusal = k; place = 0; offset = offset; value = pos 0 }

unfoldable pub value_of : Outcome ℤ → RuleAnswer
value_of (refused k place) = record { refusal = k; place = place; offset = 0; value = pos 0 }
value_of (done z) = record { refusal = 0; place = 0; offset = 0; value = z }

unfoldable pub evaluated : ℕ → List ℤ → Outcome Rule → RuleAnswer
evaluated default inputs (refused k offset) = bad_rule k offset
evaluated default inputs (done r) = value_of (evaluate (runs_at default r) inputs r.form)

unfoldable pub rule_answer : ℕ → List ℕ → List ℤ → RuleAnswer
rule_answer default s inputs = evaluated default inputs (parse s)

unfoldable pub lent_answer : ℕ → List ℕ → List ℤ → RuleAnswer
lent_answer default s inputs = cond (eqb (length inputs) 16) (rule_answer default s inputs) (bad_rule 3 0)
