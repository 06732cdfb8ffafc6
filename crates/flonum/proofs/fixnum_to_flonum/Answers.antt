-- `flonum::fixnum_to_flonum` meets its contract. Assumes nothing.
use Rattle.std.proofs.Common.{◌≡◌, true, sym, ap, ◌∙◌, arith}
use lib.Ieee.{binary64, of_int}
use Rattle.bits.specs.Testbit.{fits}
use Rattle.words.proofs.WordLaws.{back}
use Rattle.fxtable.specs.Domains.{is_width}
use Rattle.fxtable.proofs.CallLaws.{width-bounds}
use Rattle.flonum.specs.declared.answer.Answer.TheVariants.{Refused, Flonum}
use Rattle.outcomes.specs.Refusal.{code_of}
use Rattle.flonum.proofs.CallLaws.{bad-width, no-fixnum, converted}
use Rattle.flonum.proofs.fixnum_to_flonum.Goals as goal
use Rattle.flonum.proofs.fixnum_to_flonum.Goals.{After-is_fixnum, Else-not-is_width}

width-ok : (c : Else-not-is_width) → is_width c.args.width ≡ true
width-ok c = sym c.is_width.ensures ∙ c.if-not-is_width.false

-- the test of a fixnum gets the number
tested : (c : After-is_fixnum) → fits c.args.width c.args.n ≡ c.is_fixnum.result
tested c = ap (fits c.args.width) (sym (back c.ranges.n)) ∙ sym c.is_fixnum.ensures

pub returns-then-not-is_width : goal.returns-then-not-is_width
unfolding code_of
returns-then-not-is_width c = ap Refused c.into.ensures ∙ bad-width _ _ (sym c.is_width.ensures ∙ c.if-not-is_width.true)

pub is_fixnum-requires : goal.is_fixnum-requires
is_fixnum-requires c =
    let b = width-bounds _ (width-ok c) in
    (omega arith, omega arith)

pub returns-then-not-is_fixnum : goal.returns-then-not-is_fixnum
unfolding code_of
returns-then-not-is_fixnum c = let g = goal.at.returns-then-not-is_fixnum c in ap Refused c.into-then-not-is_fixnum.ensures ∙ no-fixnum _ _ (width-ok g.Else-not-is_width) (tested g.After-is_fixnum ∙ c.if-not-is_fixnum.true)

pub returns : goal.returns
returns c =
    ap Flonum (c.nearest_i64_to_f64.ensures ∙ ap (of_int binary64) (back c.ranges.n))
    ∙ converted _ _ (width-ok (goal.at.returns c).Else-not-is_width) (tested (goal.at.returns c).After-is_fixnum ∙ c.if-not-is_fixnum.false)
