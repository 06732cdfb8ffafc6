-- `fxbits::logical::choose` meets its contract. Assumes nothing.
use native.Mathlib.Omega.{arith}
use mathlib.Core.Path.{ap, ap₂, ◌∙◌}
use Rattle.bits.specs.Logical.{bitwise_and, bitwise_ior, bitwise_if}
use Rattle.words.proofs.WordLaws.{back, not-word}
use Rattle.fxtable.specs.Domains.{arg}
use Rattle.fxtable.specs.Table.{rows, row_of}
use Rattle.fxtable.proofs.CallLaws.{done-never}
use Rattle.fxtable.proofs.MeaningLaws.{three-outcome}
use Rattle.fxbits.proofs.logical.choose.Goals as goal

pub returns : goal.returns
unfolding rows row_of arg bitwise_if
returns c =
    done-never _ c.done.ensures c.ior.type_inv
    (c.ior.ensures
    ∙ ap₂ bitwise_ior
    (back (record { sfits = c.and.type_inv })
    ∙ c.and.ensures
    ∙ ap₂ bitwise_and (back (record { sfits = omega arith })) (back (record { sfits = omega arith })))
    (back (record { sfits = c.and-2.type_inv })
    ∙ c.and-2.ensures
    ∙ ap₂ bitwise_and (not-word (record { sfits = omega arith })) (back (record { sfits = omega arith }))))
    ∙ three-outcome (λ v x y z. bitwise_if x y z) (ap row_of c.requires) c.args.call.accepted
