-- The readers of a rule go through its bytes in order. Assumes nothing.
use Prim.Native.Nat.{ℕ, zero, suc}
use mathlib.Core.Bool.{Bool}
use mathlib.Core.List.{List}
use Rattle.fxtable.specs.Calls.{is_count}
use Rattle.rules.specs.Tree.{Form, constant, input, call, none, more}
use Rattle.rules.specs.Leb128.{Reading, got, unsigned, signed}
use Rattle.rules.specs.Limits.{number_groups, constant_groups, deepest, is_stored_width, is_tag, is_input, is_constant, is_stored_code}
use Rattle.rules.specs.Parse.{and_then, read_number, read_constant, Head, leaf, opens, after_tag, read_head, read_forms, after_head, read_form, rule, read_rule}
use Rattle.rule_laws.proofs.Orderly.{Orderly, got-orderly, offends-orderly, then-orderly, item-orderly}

number-orderly : (test : ℕ → Bool) → Orderly (read_number test)
number-orderly test = item-orderly unsigned number_groups test

tagged-orderly : (tag : ℕ) → Orderly (after_tag tag)
unfolding after_tag
tagged-orderly zero =
    then-orderly read_constant (λ z rest. got (leaf (constant z)) rest) (item-orderly signed constant_groups is_constant) (λ z. got-orderly (leaf (constant z)))
tagged-orderly (suc zero) =
    then-orderly (read_number is_input) (λ i rest. got (leaf (input i)) rest) (number-orderly is_input) (λ i. got-orderly (leaf (input i)))
tagged-orderly (suc (suc t)) =
    then-orderly (read_number is_stored_code) (λ code s₁. and_then (read_number (is_count code) s₁) (λ n rest. got (opens code n) rest)) (number-orderly is_stored_code) (λ code.
    then-orderly (read_number (is_count code)) (λ n rest. got (opens code n) rest) (number-orderly (is_count code)) (λ n. got-orderly (opens code n)))

pub head-orderly : Orderly read_head
unfolding read_head
head-orderly = then-orderly (read_number is_tag) (λ tag rest. after_tag tag rest) (number-orderly is_tag) tagged-orderly

module _ (one : List ℕ → Reading Form) (O : Orderly one) where
  forms-orderly : (n : ℕ) → Orderly (read_forms one n)
  unfolding read_forms
  forms-orderly zero = got-orderly none
  forms-orderly (suc n) =
      then-orderly one (λ f s₁. and_then (read_forms one n s₁) (λ fs rest. got (more f fs) rest)) O (λ f.
      then-orderly (read_forms one n) (λ fs rest. got (more f fs) rest) (forms-orderly n) (λ fs. got-orderly (more f fs)))

  headed-orderly : (h : Head) → Orderly (after_head one h)
  unfolding after_head
  headed-orderly (leaf f) = got-orderly f
  headed-orderly (opens code n) = then-orderly (read_forms one n) (λ args rest. got (call code args) rest) (forms-orderly n) (λ args. got-orderly (call code args))

pub form-orderly : (d : ℕ) → Orderly (read_form d)
unfolding read_form
form-orderly zero = offends-orderly
form-orderly (suc d) = then-orderly read_head (λ head rest. after_head (read_form d) head rest) head-orderly (headed-orderly (read_form d) (form-orderly d))

pub rule-orderly : Orderly read_rule
unfolding read_rule
rule-orderly =
    then-orderly (read_number is_stored_width) (λ w s₁. and_then (read_form deepest s₁) (λ f rest. got (rule w f) rest)) (number-orderly is_stored_width) (λ w.
    then-orderly (read_form deepest) (λ f rest. got (rule w f) rest) (form-orderly deepest) (λ f. got-orderly (rule w f)))
