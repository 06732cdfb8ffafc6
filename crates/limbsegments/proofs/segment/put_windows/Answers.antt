-- `limbsegments::segment::put_windows` meets its contract: the windows in x, and then those past it. Assumes nothing.
use Rattle.std.proofs.Common.{rules}
use Rattle.std.proofs.lemmas.List.{places}
use Prim.Native.Nat.{◌+◌, ◌*◌, ◌%◌, ◌<◌}
use native.Mathlib.Omega.{arith}
use mathlib.Core.Path.{◌≡◌, ap}
use Rattle.limbwords.specs.Value.{value}
use Rattle.limbwords.specs.Results.{bits_from}
use Rattle.outcomes.proofs.PutsLaws.{puts-as}
use Rattle.limbsegments.proofs.Parts.{puts-two}
use Rattle.limbsegments.proofs.segment.put_windows.Goals as goal

pub returns : goal.returns
returns c =
    let z = value c.args.x.now in
    let at = c.args.at in
    puts-two c.args.part.now c.min-whole.result
    (puts-as (λ j h k.
    let below : j < c.min-whole.result = search (rules, places) in
    let e : 32 * c.min-i.result + at % 32 + 32 * j ≡ at + 32 * j = omega arith in ap (bits_from z) e) c.put_inner.ensures)
    (search (rules, places))
    (omega arith)
    (puts-as (λ j h k. let e : at + 32 * c.min-whole.result + 32 * j ≡ at + 32 * (c.min-whole.result + j) = omega arith in ap (bits_from z) e) c.put_outer.ensures)
    (search (rules, places))
