-- The rule that bytes are, or refusal 10 with the offset where the earliest offending item begins: the length of the bytes where they end early.
--   and_then r next        ==  reads on with `next` after what r has got
--   item G k test s       ==  a number of at most k groups for which the test holds; it offends where it begins
--   read_head s            ==  what a form begins with: all of a form without arguments, or a call's code and argument count
--   read_forms one n s     ==  n forms, each read by `one`
--   read_form d s          ==  a form that may be nested d deep; one that may not be nested at all offends where its tag would begin
--   read_rule s            ==  the width and the form
--   parse s               ==  the rule, if s has no more than 4,096 bytes and nothing after the form
use Rattle.std.specs.Prelude.{ℕ, zero, suc, ◌-◌, Bool, cond, List, [], ◌∷◌, leb, ℤ, length}
use Rattle.outcomes.specs.Outcome.{Outcome, refused, done, guard_at}
use Rattle.fxtable.specs.Calls.{is_count}
use Rattle.rules.specs.Tree.{Form, Forms, constant, input, call, none, more, Rule}
use Rattle.rules.specs.Leb128.{Reading, got, offends, Groups, unsigned, signed, decode}
use Rattle.rules.specs.Limits.{number_groups, constant_groups, deepest, longest, is_stored_width, is_tag, is_input, is_constant, is_stored_code}

unfoldable pub and_then : {A B : Type 0} → Reading A → (A → List ℕ → Reading B) → Reading B
and_then (got v rest) next = next v rest
and_then (offends left) next = offends left

unfoldable pub item : {A : Type 0} → Groups A → ℕ → (A → Bool) → List ℕ → Reading A
item G k test s = and_then (decode G (length s) k s) (λ v rest. cond (test v) (got v rest) (offends (length s)))

abbrev pub read_number : (ℕ → Bool) → List ℕ → Reading ℕ
read_number test s = item unsigned number_groups test s

abbrev pub read_constant : List ℕ → Reading ℤ
read_constant s = item signed constant_groups is_constant s

pub data Head : Type 0 where
  leaf : Form → Head
  opens : ℕ → ℕ → Head

unfoldable pub after_tag : ℕ → List ℕ → Reading Head
after_tag zero s = and_then (read_constant s) (λ z rest. got (leaf (constant z)) rest)
after_tag (suc zero) s = and_then (read_number is_input s) (λ i rest. got (leaf (input i)) rest)
after_tag (suc (suc t)) s = and_then (read_number is_stored_code s) (λ code s₁. and_then (read_number (is_count code) s₁) (λ n rest. got (opens code n) rest))

unfoldable pub read_head : List ℕ → Reading Head
read_head s = and_then (read_number is_tag s) (λ tag rest. after_tag tag rest)

unfoldable pub read_forms : (List ℕ → Reading Form) → ℕ → List ℕ → Reading Forms
read_forms one zero s = got none s
read_forms one (suc n) s = and_then (one s) (λ f s₁. and_then (read_forms one n s₁) (λ fs rest. got (more f fs) rest))

unfoldable pub after_head : (List ℕ → Reading Form) → Head → List ℕ → Reading Form
after_head one (leaf f) s = got f s
after_head one (opens code n) s = and_then (read_forms one n s) (λ args rest. got (call code args) rest)

unfoldable pub read_form : ℕ → List ℕ → Reading Form
read_form zero s = offends (length s)
read_form (suc d) s = and_then (read_head s) (λ head rest. after_head (read_form d) head rest)

abbrev pub rule : ℕ → Form → Rule
rule w f = record { width = w; form = f }

unfoldable pub read_rule : List ℕ → Reading Rule
read_rule s = and_then (read_number is_stored_width s) (λ w s₁. and_then (read_form deepest s₁) (λ f rest. got (rule w f) rest))

unfoldable pub whole : ℕ → Reading Rule → Outcome Rule
whole n (got r []) = done r
whole n (got r (b ∷ rest)) = refused 10 (n - suc (length rest))
whole n (offends left) = refused 10 (n - left)

unfoldable pub parse : List ℕ → Outcome Rule
parse s = guard_at (leb (length s) longest) 10 longest (whole (length s) (read_rule s))
