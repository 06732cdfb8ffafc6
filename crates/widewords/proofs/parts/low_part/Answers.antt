-- `widewords::parts::low_part` meets its contract. Assumes nothing.
use Rattle.std.proofs.Common.{◌∙◌, arith}
use Rattle.words.proofs.WordLaws.{back}
use Rattle.widewords.proofs.PartLaws.{low_word}
use Rattle.widewords.proofs.parts.low_part.Goals as goal

pub returns : goal.returns
returns c =
    back (record { sfits = c.signed.type_inv }) ∙ c.signed.ensures ∙ low_word c.args.width c.requires.0 c.requires.1 c.args.s (omega arith)
