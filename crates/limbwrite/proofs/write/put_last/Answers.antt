-- `limbwrite::write::put_last` meets its contract. Assumes nothing.
use Rattle.std.proofs.Common.{rules}
use Rattle.std.proofs.lemmas.List.{places}
use native.Mathlib.Omega.{arith}
use Rattle.limbsegments.proofs.Parts.{puts-part}
use Rattle.outcomes.proofs.PutsLaws.{puts-join}
use Rattle.limbwrite.proofs.write.put_last.Goals as goal

pub returns : goal.returns
returns c =
    let piece = c.put_piece-rest.ensures in
    let size = piece.1.size in
    puts-join piece.1
    (puts-part _ _ _ _ c.put_limbs.ensures (search (rules, places)) (omega (arith, size, piece.0)) (omega (arith, size)))
    piece.0.0 piece.0.1
