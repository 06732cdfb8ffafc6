-- `convert::fixnum_to_limbs` meets its contract. Assumes nothing.
use native.Mathlib.Omega.{arith}
use mathlib.Core.Path.{◌≡◌, refl, sym, ap, ◌∙◌}
use mathlib.Core.Bool.{true, not}
use Rattle.bits.specs.Testbit.{fits}
use Rattle.words.proofs.WordLaws.{back}
use Rattle.fxtable.specs.Domains.{is_width}
use Rattle.fxtable.proofs.CallLaws.{width-bounds}
use Rattle.outcomes.specs.Outcome.{done}
use Rattle.outcomes.specs.Refusal.{code_of}
use Rattle.outcomes.proofs.OutcomeLaws.{passed, failed-by, passed-by}
use Rattle.limbstages.proofs.WritesLaws.{writes-refused, writes_as}
use Rattle.convert.specs.Convert.{to_limbs_outcome}
use Rattle.convert.proofs.fixnum_to_limbs.Goals as goal
use Rattle.convert.proofs.fixnum_to_limbs.Goals.{After-is_fixnum, Else-not-is_width}

width-ok : (c : Else-not-is_width) → is_width c.args.width ≡ true
width-ok c = sym c.is_width.ensures ∙ c.if-not-is_width.false

-- the test of a fixnum gets the number
tested : (c : After-is_fixnum) → c.is_fixnum.result ≡ fits c.args.width c.args.n
tested c = c.is_fixnum.ensures ∙ ap (fits c.args.width) (back c.ranges.n)

pub returns-then-not-is_width : goal.returns-then-not-is_width
unfolding to_limbs_outcome code_of
returns-then-not-is_width c = writes-refused _ _ (failed-by 1 _ c.is_width.ensures (ap not c.if-not-is_width.true)) refl

pub is_fixnum-requires : goal.is_fixnum-requires
is_fixnum-requires c =
    let b = width-bounds _ (width-ok c) in
    (omega arith, omega arith)

pub returns-then-not-is_fixnum : goal.returns-then-not-is_fixnum
unfolding to_limbs_outcome code_of
returns-then-not-is_fixnum c =
    writes-refused _ _ (passed 1 _ (width-ok (goal.at.returns-then-not-is_fixnum c).Else-not-is_width) ∙ failed-by 4 _ (tested (goal.at.returns-then-not-is_fixnum c).After-is_fixnum) (ap not c.if-not-is_fixnum.true)) refl

pub returns : goal.returns
unfolding to_limbs_outcome
returns c =
    writes_as
    (passed 1 _ (width-ok (goal.at.returns c).Else-not-is_width) ∙ passed-by 4 _ (tested (goal.at.returns c).After-is_fixnum) (ap not c.if-not-is_fixnum.false) ∙ sym (ap done (back c.ranges.n)))
    c.from_word.ensures
