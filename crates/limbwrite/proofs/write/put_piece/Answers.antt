-- `limbwrite::write::put_piece` meets its contract. Assumes nothing.
use Rattle.std.proofs.Common.{rules}
use Rattle.std.proofs.lemmas.List.{places}
use native.Mathlib.Omega.{arith}
use Prim.Native.Nat.{◌+◌, ◌*◌, ◌-◌, ◌<◌}
use mathlib.Core.Path.{◌≡◌, ap, ◌∙◌}
use Rattle.limbwords.specs.Value.{value}
use Rattle.limbwords.specs.Results.{bits_from}
use Rattle.limbsegments.proofs.Parts.{puts-part}
use Rattle.limbwrite.proofs.SegmentLaws.{moved-limb}
use Rattle.outcomes.proofs.PutsLaws.{puts-join, puts-as}
use Rattle.limbwrite.proofs.write.put_piece.Goals as goal

pub returns : goal.returns
returns c =
    let p = c.first_past-inner.ensures in
    let q = c.first_past-stop.ensures in
    let inner = c.first_past-inner.result in
    let stop = c.first_past-stop.result in
    let piece = c.args.piece in (
      (omega (arith, p.low, q.low), q.high),
      puts-join
          (puts-part _ c.args.from (inner - c.args.from) inner c.put_limbs.ensures (search (rules, places)) (omega (arith, p.low)) p.high)
          (puts-part _ inner (stop - inner) stop
          (puts-as (λ j h k.
          let below : j < stop - inner = search (rules, places) in
          let at : c.saturating_sub-at.result + 32 * j ≡ 32 * inner + piece.up - piece.down + 32 * (inner + j - inner) = omega (arith, c.saturating_sub-at.ensures) in
          ap (bits_from (value c.args.source.now)) at ∙ moved-limb c.requires.moved p q (inner + j) (omega arith) (omega arith))
          c.put_windows.ensures)
          (search (rules, places)) (omega (arith, q.low)) (search (rules, places)))
          p.low q.low,
    )
