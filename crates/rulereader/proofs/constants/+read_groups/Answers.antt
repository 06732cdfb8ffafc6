-- `rulereader::constants::read_groups` meets its contract. Assumes nothing.
use native.Mathlib.Omega.{arith}
use Rattle.rulereader.proofs.Exits.{err_of}
use Rattle.rulereader.proofs.ConstantLaws.{spent, ended, last_positive, last_negative, tail-offends, joined}
use Rattle.rulereader.proofs.constants.+read_groups.Goals as goal

pub returns-then-k-eq0 : goal.returns-then-k-eq0
returns-then-k-eq0 t c = spent c.args.s.now c.args.start c.args.at c.args.k c.if-k-eq0.true c.requires.0

pub returns-then-at-s : goal.returns-then-at-s
returns-then-at-s t c = ended c.args.s.now c.args.start c.args.at c.args.k c.if-k-eq0.false c.if-at-s.true

pub returns-then-b-lt64 : goal.returns-then-b-lt64
returns-then-b-lt64 t c =
    let a = c.args in
    rw c.from-b.ensures (last_positive a.s.now a.start a.at a.k c.if-k-eq0.false (omega arith) (rw c.from-b.ensures at c.if-b-lt64.true))

pub returns-then-b-lt128 : goal.returns-then-b-lt128
returns-then-b-lt128 t c =
    let a = c.args in
    rw c.from-b.ensures
    (last_negative a.s.now a.start a.at a.k c.if-k-eq0.false (omega arith) (rw c.from-b.ensures at c.if-b-lt64.false) (rw c.from-b.ensures at c.if-b-lt128.true))

pub returns-in_err-rest : goal.returns-in_err-rest
returns-in_err-rest t c =
    let a = c.args in
    rw (err_of _ _ c.from_residual.ensures.1)
    (tail-offends a.s.now a.start a.at a.k c.if-k-eq0.false (omega arith) (rw c.from-b.ensures at c.if-b-lt128.false) _ c.in_err-rest.ensures)

pub returns : goal.returns
returns t c =
    let a = c.args in
    rw (c.join.ensures, c.from-b.ensures)
    (joined a.s.now a.start a.at a.k c.if-k-eq0.false (omega arith) (rw c.from-b.ensures at c.if-b-lt128.false) c.requires.0 (c.type_inv.s a.at).fits _ c.in_ok-rest.ensures)
