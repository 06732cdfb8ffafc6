-- `fold::record::Open::fold_bytes` meets its contract. Each invariant: the bytes that are left, folded into the record so far, give what all
-- of them give, folded into the first. Assumes nothing.
use Prim.Native.Nat.{◌*◌}
use mathlib.Core.Path.{◌≡◌}
use lib.ListN.{drop}
use Rattle.fold.specs.Fold.{fold_bytes}
use Rattle.fold.specs.Inner.{fourfold}
use Rattle.fold.proofs.record.Open.fold_bytes.Given as goal

abbrev pub invariant-loop-a : goal.invariant-loop-a
invariant-loop-a l = record {
  count : l.count ≡ fourfold l.folded.fold;
  left : fold_bytes l.fn.self.fold l.bytes ≡ fold_bytes l.folded.fold (drop (l.a-index * 4) l.bytes);
}

abbrev pub invariant-loop-byte : goal.invariant-loop-byte
invariant-loop-byte l = fold_bytes l.fn.self.fold l.bytes ≡ fold_bytes l.folded.fold (drop l.byte-index l.rest)
