-- `widewords::parts::high_part` meets its contract. Assumes nothing.
use Rattle.std.proofs.Common.{ℕ, ◌^◌, pos, ◌+ℤ◌, ap, ◌∙◌}
use Rattle.bits.specs.Division.{mod_ℕ}
use Rattle.words.proofs.WordLaws.{back}
use Rattle.widewords.specs.Double.{double_word}
use Rattle.widewords.proofs.DoubleLaws.{low-alone}
use Rattle.widewords.proofs.PartLaws.{high_word}
use Rattle.widewords.proofs.parts.high_part.Goals as goal

pub returns : goal.returns
returns c =
    back (record { sfits = c.signed.type_inv })
    ∙ c.signed.ensures
    ∙ high_word c.args.width c.requires.0 c.requires.1 (double_word c.args.s) (double_word c.add.result) c.quotient.result c.power.result
    c.power.ensures
    (c.add.ensures ∙ ap (λ (n : ℕ). mod_ℕ (pos (double_word c.args.s) +ℤ pos n) (2 ^ 128)) (low-alone c.power.result))
    c.quotient.ensures
