-- `rulereader::constants::read_constant` meets its contract. Assumes nothing.
use native.Mathlib.Omega.{arith}
use mir.Syntax.{w64}
use mir.ValLaws.{to_z-of_z}
use Rattle.words.specs.Sign.{of_magnitude}
use Rattle.rules.specs.Parse.{item}
use Rattle.rulereader.specs.Placed.{constant_from}
use Rattle.rulereader.proofs.Exits.{err_of}
use Rattle.rulereader.proofs.ConstantLaws.{last_positive}
use Rattle.rulereader.proofs.constants.read_constant.Goals as goal

pub returns-then-b-lt64 : goal.returns-then-b-lt64
unfolding item constant_from of_magnitude
returns-then-b-lt64 c =
    let a = c.args in
    rw (to_z-of_z w64 c.from.result (record { sfits = c.from.type_inv }), c.from.ensures)
    (last_positive a.s.now a.at a.at 10 (λ z. absurd (omega arith)) (omega arith) c.if-b-lt64.true).0

pub returns-in_err-groups : goal.returns-in_err-groups
unfolding item constant_from
returns-in_err-groups c = rw (err_of _ _ c.from_residual.ensures.1) c.in_err-groups.ensures

pub returns : goal.returns
unfolding item constant_from
returns c = rw (to_z-of_z w64 c.from_magnitude.result (record { sfits = c.from_magnitude.type_inv }), c.from_magnitude.ensures) c.in_ok-groups.ensures.0
