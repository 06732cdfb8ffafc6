-- `fold::record::Open::fold_bytes` meets its contract. Assumes nothing.
use native.Mathlib.Omega.{arith}
use mathlib.Core.Path.{sym, ◌∙◌}
use mathlib.Core.List.{[]}
use Rattle.fold.proofs.RunLaws.{one_more, four-more, none_left}
use Rattle.fold.proofs.record.Open.fold_bytes.Goals as goal

pub loop-a-preserved : goal.loop-a-preserved
loop-a-preserved c =
    let l = c.loop-a in
    let e = c.fold_four-folded.ensures in
    record {
      count = l.invariant.count ∙ sym e.same_count;
      left = four-more _ l.folded.fold _ _ l.a-index [] c.as_chunks.ensures.front (omega arith) (omega arith) e.value l.invariant.left;
    }

pub loop-byte-preserved : goal.loop-byte-preserved
loop-byte-preserved c =
    let l = c.loop-byte in
    one_more _ l.folded.fold _ l.byte-index c.loop-byte-test.true c.fold_byte-folded.ensures l.invariant

pub returns : goal.returns
returns c = let l = c.loop-byte in none_left l.folded.fold _ l.byte-index c.loop-byte-test.false ∙ sym l.invariant
