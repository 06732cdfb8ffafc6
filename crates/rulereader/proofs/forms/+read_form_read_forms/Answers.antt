-- `rulereader::forms::read_form` and `rulereader::forms::read_forms`, which call each other, meet their contracts. Assumes nothing.
use native.Mathlib.Omega.{arith}
use Rattle.rulereader.proofs.Exits.{err_of}
use Rattle.rulereader.proofs.FormLaws.{too-deep, is_leaf, is_call, call-inside, head-offends, is_none, is-more, first-offends, falls-into, falls-one, falls-more}
use Rattle.rulereader.proofs.forms.+read_form_read_forms.Goals as goal

pub read_form-returns-then-depth-eq0 : goal.read_form-returns-then-depth-eq0
read_form-returns-then-depth-eq0 t c = too-deep c.args.s.now c.args.at c.args.depth c.if-depth-eq0.true c.requires

pub read_form-returns-in_err-head : goal.read_form-returns-in_err-head
read_form-returns-in_err-head t c = rw (err_of _ _ c.from_residual.ensures.1) (head-offends c.args.s.now c.args.at c.args.depth c.if-depth-eq0.false _ c.in_err-head.ensures)

pub read_form-read_forms-requires : goal.read_form-read_forms-requires
read_form-read_forms-requires t c =
    let a = c.args in
    (falls-into a.depth c.in-Call.count t c.if-depth-eq0.false (omega arith) c.decreases, call-inside a.s.now a.at a.depth c.if-depth-eq0.false _ _ c.in_ok-head.ensures _ _ c.in-Call.is)

pub read_form-returns-in-Call : goal.read_form-returns-in-Call
read_form-returns-in-Call t c =
    let a = c.args in
    is_call a.s.now a.at a.depth c.if-depth-eq0.false _ _ c.in_ok-head.ensures _ _ c.in-Call.is _ c.read_forms.ensures

pub read_form-returns-in_default : goal.read_form-returns-in_default
read_form-returns-in_default t c = is_leaf c.args.s.now c.args.at c.args.depth c.if-depth-eq0.false c.in_ok-head.head _ c.in_ok-head.ensures c.in_default.not-Call

pub read_forms-returns-then-n-eq0 : goal.read_forms-returns-then-n-eq0
read_forms-returns-then-n-eq0 t c = is_none c.args.s.now c.args.at c.args.depth c.args.n c.if-n-eq0.true c.requires

pub read_forms-read_form-requires : goal.read_forms-read_form-requires
read_forms-read_form-requires t c = (falls-one c.args.depth c.args.n t c.decreases, c.requires)

pub read_forms-returns-in_err-end : goal.read_forms-returns-in_err-end
read_forms-returns-in_err-end t c = rw (err_of _ _ c.from_residual.ensures.1) (first-offends c.args.s.now c.args.at c.args.depth c.args.n c.if-n-eq0.false _ c.in_err-end.ensures)

pub read_forms-read_forms-requires : goal.read_forms-read_forms-requires
read_forms-read_forms-requires t c = (falls-more c.args.depth c.args.n t c.if-n-eq0.false c.decreases, c.in_ok-end.ensures.1.inside)

pub read_forms-returns : goal.read_forms-returns
read_forms-returns t c = is-more c.args.s.now c.args.at c.args.depth c.args.n c.if-n-eq0.false _ c.in_ok-end.ensures _ c.read_forms.ensures
