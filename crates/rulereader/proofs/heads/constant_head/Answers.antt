-- `rulereader::heads::constant_head` meets its contract. Assumes nothing.
use mir.Syntax.{w64}
use mir.Val.{SFits}
use mir.ValLaws.{to_z-of_z}
use borrow.Author.Rules.{rules}
use Rattle.rulereader.proofs.Exits.{err_of}
use Rattle.rulereader.proofs.HeadLaws.{constant-read, constant-offends}
use Rattle.rulereader.proofs.heads.constant_head.Goals as goal

pub returns-in_err-value : goal.returns-in_err-value
returns-in_err-value c = rw (err_of _ _ c.from_residual.ensures.1) (constant-offends c.args.s.now c.args.at _ c.in_err-value.ensures)

pub returns : goal.returns
returns c =
    let fits : SFits w64 c.in_ok-value.value = search rules in
    rw (to_z-of_z w64 c.in_ok-value.value fits) (constant-read c.args.s.now c.args.at _ _ c.in_ok-value.ensures)
