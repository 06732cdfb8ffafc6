-- `fxbits::logical::not` meets its contract. Assumes nothing.
use native.Mathlib.Omega.{arith}
use mathlib.Core.Path.{refl, ap, ◌∙◌}
use Rattle.bits.specs.Logical.{bitwise_not}
use Rattle.words.proofs.WordLaws.{not-word}
use Rattle.fxtable.specs.Domains.{arg}
use Rattle.fxtable.specs.Table.{rows, row_of}
use Rattle.fxtable.proofs.CallLaws.{done-cong, never-checked}
use Rattle.fxtable.proofs.MeaningLaws.{one-outcome}
use Rattle.fxbits.proofs.logical.not.Goals as goal

pub returns : goal.returns
unfolding rows row_of arg
returns c =
    c.done.ensures
    ∙ done-cong (not-word (record { sfits = omega arith })) refl
    ∙ never-checked _ _
    ∙ one-outcome (λ v x. bitwise_not x) (ap row_of c.requires) c.args.call.accepted
