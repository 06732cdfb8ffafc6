-- `fixnum::accepted::call_checked` meets its contract. Assumes nothing.
use mathlib.Core.Path.{sym, ap, ◌∙◌}
use Rattle.outcomes.specs.Outcome.{refused}
use Rattle.outcomes.specs.Refusal.{code_of}
use Rattle.outcomes.proofs.OutcomeLaws.{passed}
use Rattle.outcomes.proofs.TestLaws.{none-failed, some-failed, passed-each, failed-each}
use Rattle.fxtable.specs.Domains.{in_domains}
use Rattle.fxtable.specs.Calls.{all_fixnums, fixnum_answer, answer}
use Rattle.fxtable.specs.Inner.{Accepted}
use Rattle.fxtable.proofs.TableLaws.{code-bounds}
use Rattle.fxtable.proofs.CallLaws.{accepted, refused-as}
use Rattle.fixnum.proofs.accepted.call_checked.Goals as goal
use Rattle.fixnum.proofs.accepted.call_checked.Goals.{Else-place-ne0}

accepts : (c : Else-place-ne0) → let a = c.args in Accepted a.width a.code a.args a.count
unfolding in_domains
accepts c =
    let k = c.requires.checked in
    record { width = k.width; arity = k.arity; fixnums = k.fixnums; domains = none-failed _ (sym c.first_outside-place.ensures ∙ c.if-place-ne0.false) }

pub returns-then-place-ne0 : goal.returns-then-place-ne0
unfolding fixnum_answer all_fixnums code_of
returns-then-place-ne0 c =
    let k = c.requires.checked in
    refused-as _ c.refuse.ensures
    ∙ ap answer (sym (passed 1 _ k.width
    ∙ passed 2 _ k.known
    ∙ passed 3 _ k.arity
    ∙ passed-each _ 4 _ k.fixnums
    ∙ failed-each _ 5 _ (some-failed _ (λ e. c.if-place-ne0.true (c.first_outside-place.ensures ∙ e)))
    ∙ ap (refused 5) (sym c.first_outside-place.ensures)))

pub invariant_of-operate : goal.invariant_of-operate
invariant_of-operate c = record { accepted = accepts c }

pub operate-requires : goal.operate-requires
operate-requires c = code-bounds c.args.code c.requires.checked.known

pub returns : goal.returns
returns c =
    let a = c.args in
    c.operate.ensures ∙ sym (accepted a.width a.code a.args a.count c.requires.checked.known (accepts c.before.before))
