-- `fixnum::call` meets its contract: the stages of the code are those of the answer. Assumes nothing.
use mathlib.Core.Path.{◌≡◌, sym, ap, ◌∙◌}
use mathlib.Core.Bool.{true}
use Rattle.fxtable.specs.Domains.{is_width, in_domains}
use Rattle.fxtable.specs.Table.{is_code}
use Rattle.fxtable.specs.Calls.{is_count, all_fixnums, fixnum_answer, answer}
use Rattle.fxtable.specs.Inner.{Accepted}
use Rattle.fxtable.proofs.TableLaws.{at-most-four, code-bounds}
use Rattle.outcomes.specs.Outcome.{refused}
use Rattle.outcomes.specs.Refusal.{code_of}
use Rattle.outcomes.proofs.OutcomeLaws.{passed, failed}
use Rattle.outcomes.proofs.TestLaws.{none-failed, some-failed, passed-each, failed-each}
use Rattle.fxtable.proofs.CallLaws.{accepted, refused-as}
use Rattle.fixnum.proofs.call.Goals as goal
use Rattle.fixnum.proofs.call.Goals.{Else-not-is_code, Else-not-is_count, Else-not-is_width, Else-place-ne0-2}

-- what each stage has shown, once it is passed
width-ok : (c : Else-not-is_width) → is_width c.args.width ≡ true
width-ok c = sym c.is_width.ensures ∙ c.if-not-is_width.false

code_ok : (c : Else-not-is_code) → is_code c.args.code ≡ true
code_ok c = sym c.is_code.ensures ∙ c.if-not-is_code.false

count-ok : (c : Else-not-is_count) → is_count c.args.code c.args.count ≡ true
count-ok c = sym c.is_count.ensures ∙ c.if-not-is_count.false

accepts : (c : Else-place-ne0-2) → Accepted c.args.width c.args.code c.args.args c.args.count
unfolding all_fixnums in_domains
accepts c = record {
  width = width-ok c.before.before.before.before.before.before.before.before;
  arity = count-ok c.before.before.before.before;
  fixnums = none-failed _ (sym c.first_not_fixnum-place.ensures ∙ c.if-place-ne0.false);
  domains = none-failed _ (sym c.first_outside-place.ensures ∙ c.if-place-ne0-2.false);
}

pub returns-then-not-is_width : goal.returns-then-not-is_width
unfolding fixnum_answer code_of
returns-then-not-is_width c =
    refused-as _ c.refuse.ensures ∙ ap answer (sym (failed 1 _ (sym c.is_width.ensures ∙ c.if-not-is_width.true)))

pub returns-then-not-is_code : goal.returns-then-not-is_code
unfolding fixnum_answer code_of
returns-then-not-is_code c =
    refused-as _ c.refuse-then-not-is_code.ensures
    ∙ ap answer (sym (passed 1 _ (width-ok c.before.before.before) ∙ failed 2 _ (sym c.is_code.ensures ∙ c.if-not-is_code.true)))

pub returns-then-not-is_count : goal.returns-then-not-is_count
unfolding fixnum_answer code_of
returns-then-not-is_count c =
    refused-as _ c.refuse-then-not-is_count.ensures
    ∙ ap answer (sym (passed 1 _ (width-ok c.before.before.before.before.before)
    ∙ passed 2 _ (code_ok c.before.before.before)
    ∙ failed 3 _ (sym c.is_count.ensures ∙ c.if-not-is_count.true)))

pub first_not_fixnum-place-requires : goal.first_not_fixnum-place-requires
first_not_fixnum-place-requires c = (width-ok c.before.before.before.before, at-most-four _ _ (count-ok c))

pub returns-then-place-ne0 : goal.returns-then-place-ne0
unfolding fixnum_answer code_of
returns-then-place-ne0 c =
    refused-as _ c.refuse-then-place-ne0.ensures
    ∙ ap answer (sym (passed 1 _ (width-ok c.before.before.before.before.before.before.before)
    ∙ passed 2 _ (code_ok c.before.before.before.before.before)
    ∙ passed 3 _ (count-ok c.before.before.before)
    ∙ failed-each _ 4 _ (some-failed _ (λ e. c.if-place-ne0.true (c.first_not_fixnum-place.ensures ∙ e)))
    ∙ ap (refused 4) (sym c.first_not_fixnum-place.ensures)))

pub first_outside-place-requires : goal.first_outside-place-requires
first_outside-place-requires c = record { width_value = width-ok c.before.before.before.before.before.before; count_value = count-ok c.before.before }

pub returns-then-place-ne0-2 : goal.returns-then-place-ne0-2
unfolding fixnum_answer code_of
returns-then-place-ne0-2 c =
    refused-as _ c.refuse-then-place-ne0-2.ensures
    ∙ ap answer (sym (passed 1 _ (width-ok c.before.before.before.before.before.before.before.before.before)
    ∙ passed 2 _ (code_ok c.before.before.before.before.before.before.before)
    ∙ passed 3 _ (count-ok c.before.before.before.before.before)
    ∙ passed-each _ 4 _ (none-failed _ (sym c.first_not_fixnum-place.ensures ∙ c.if-place-ne0.false))
    ∙ failed-each _ 5 _ (some-failed _ (λ e. c.if-place-ne0-2.true (c.first_outside-place.ensures ∙ e)))
    ∙ ap (refused 5) (sym c.first_outside-place.ensures)))

pub invariant_of-operate : goal.invariant_of-operate
invariant_of-operate c = record { accepted = accepts c }

pub operate-requires : goal.operate-requires
operate-requires c = code-bounds _ (code_ok c.before.before.before.before.before.before.before)

pub returns : goal.returns
returns c =
    c.operate.ensures ∙ sym (accepted c.args.width c.args.code c.args.args c.args.count (code_ok c.before.before.before.before.before.before.before.before) (accepts c.before.before))
