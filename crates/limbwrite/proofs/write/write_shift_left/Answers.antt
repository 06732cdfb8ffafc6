-- `limbwrite::write::write_shift_left` meets its contract. Assumes nothing.
use mathlib.Core.Path.{◌≡◌}
use mathlib.Core.List.{◌++◌}
use lib.ListN.{length, take, drop}
use Rattle.limbwords.specs.Results.{meaning}
use Rattle.outcomes.specs.Puts.{Puts}
use Rattle.limbwrite.proofs.SegmentLaws.{zero-limb, moved-left}
use Rattle.std.proofs.Common.{rules}
use Rattle.std.proofs.lemmas.List.{places}
use Rattle.limbsegments.proofs.Parts.{puts-whole, puts-first}
use Rattle.outcomes.proofs.PutsLaws.{puts-join, puts-as}
use Rattle.limbwrite.proofs.write.write_shift_left.Goals as goal

pub put_last-requires-clause-moved : goal.put_last-requires-clause-moved
unfolding meaning
put_last-requires-clause-moved c = moved-left _ _ _

pub returns : goal.returns
unfolding meaning
returns c =
    let part = c.args.part.now in
    let p = c.first_past-low.ensures in
    let low = c.first_past-low.result in
    let b = take low part in
    let zeros : Puts 0 (λ j. 0) b c.fill.new.self 0 (length b) = puts-whole _ c.fill.new.self c.fill.ensures.len (λ j h. search rules) in
    let first = puts-as (zero-limb _ p) (puts-first part low zeros (search (rules, places)) p.high) in
    let end : length (c.fill.new.self ++ drop low part) ≡ length part = first.size in
    puts-join first (rw end at c.put_last.ensures) p.low p.high
