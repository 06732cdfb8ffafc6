-- `convert::limbs_to_fixnum` meets its contract. Assumes nothing.
use native.Mathlib.Omega.{arith}
use mathlib.Core.Path.{◌≡◌, sym, ap, ◌∙◌}
use mathlib.Core.Bool.{true, not}
use Rattle.bits.specs.Testbit.{fits}
use Rattle.fxtable.specs.Domains.{is_width}
use Rattle.fxtable.proofs.CallLaws.{width-bounds}
use Rattle.outcomes.specs.Outcome.{done}
use Rattle.outcomes.specs.Refusal.{outcome_of, code_of}
use Rattle.outcomes.proofs.OutcomeLaws.{passed-by, failed-by}
use Rattle.limbstages.proofs.StageLaws.{exited}
use Rattle.convert.specs.Convert.{to_fixnum_outcome}
use Rattle.convert.proofs.ConvertLaws.{no_word, as_word, word-tested}
use Rattle.convert.proofs.limbs_to_fixnum.Goals as goal
use Rattle.convert.proofs.limbs_to_fixnum.Goals.{Else-not-is_width, After-is_fixnum}

width-ok : (c : Else-not-is_width) → is_width c.args.width ≡ true
width-ok c = sym c.is_width.ensures ∙ c.if-not-is_width.false

-- the test of a fixnum gets the word
tested : (c : After-is_fixnum) → c.is_fixnum.result ≡ fits c.args.width c.in_ok-word.word
tested c = c.is_fixnum.ensures ∙ ap (fits c.args.width) (word-tested _ _ c.in_ok-word.ensures)

pub returns-then-not-is_width : goal.returns-then-not-is_width
unfolding to_fixnum_outcome outcome_of code_of
returns-then-not-is_width c = sym (failed-by 1 _ c.is_width.ensures (ap not c.if-not-is_width.true))

pub returns-in_err-word : goal.returns-in_err-word
unfolding outcome_of
returns-in_err-word c =
    ap outcome_of (exited _ c.from_residual.ensures.1) ∙ sym (no_word _ _ (width-ok (goal.at.returns-in_err-word c).Else-not-is_width) _ c.in_err-word.ensures)

pub is_fixnum-requires : goal.is_fixnum-requires
is_fixnum-requires c =
    let b = width-bounds _ (width-ok (goal.at.is_fixnum-requires c).Else-not-is_width) in
    (omega arith, omega arith)

pub returns-then-not-is_fixnum : goal.returns-then-not-is_fixnum
unfolding outcome_of code_of
returns-then-not-is_fixnum c =
    let f = goal.at.returns-then-not-is_fixnum c in
    sym (as_word _ _ (width-ok f.Else-not-is_width) _ c.in_ok-word.ensures ∙ failed-by 6 _ (tested f.After-is_fixnum) (ap not c.if-not-is_fixnum.true))

pub returns : goal.returns
unfolding outcome_of
returns c =
    let f = goal.at.returns c in
    ap done (word-tested _ _ c.in_ok-word.ensures)
    ∙ sym (as_word _ _ (width-ok f.Else-not-is_width) _ c.in_ok-word.ensures ∙ passed-by 6 _ (tested f.After-is_fixnum) (ap not c.if-not-is_fixnum.false))
