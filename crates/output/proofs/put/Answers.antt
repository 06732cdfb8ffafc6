-- `put` meets its contract. Assumes nothing.
use native.Mathlib.Omega.{arith}
use Prim.Native.Nat.{◌-◌}
use mathlib.Core.Path.{sym, ap, ◌∙◌}
use lib.ListN.{length}
use lib.Seq.{length-take-le, take-length}
use borrow.Rule.Slice.PartMut.{put_mid}
use Rattle.outcomes.proofs.BufferLaws.{part_length}
use Rattle.output.proofs.PutLaws.{after-full, after-copy, after-length, taken-length, filled-full, filled_copy}
use Rattle.output.proofs.put.Goals as goal

pub returns-then-out-at : goal.returns-then-out-at
returns-then-out-at c =
    let a = c.args in
    record {
      prefix_len = (omega arith, sym (ap length (take-length a.out.now)));
      value = filled-full a.text.now a.out.now a.at (omega arith);
      out_after = sym (after-full a.text.now a.out.now a.at (omega arith));
    }

pub slice_bounds-copy-end : goal.slice_bounds-copy-end
slice_bounds-copy-end c =
    let a = c.args in
    sym (taken-length a.text.now a.out.now a.at c.min-n.ensures)

pub copy-requires : goal.copy-requires
copy-requires c =
    let a = c.args in
    omega (arith, part_length a.out.now a.at, taken-length a.text.now a.out.now a.at c.min-n.ensures, c.min-n.ensures)

pub returns : goal.returns
returns c =
    let a = c.args in
    let n = c.min-n.ensures in
    let s = ap (put_mid a.at (length a.out.now - a.at) a.out.now) c.copy.ensures ∙ after-copy a.text.now a.out.now a.at n in
    let f = filled_copy a.text.now a.out.now a.at n (omega arith) in
    let l = ap length s ∙ after-length a.text.now a.out.now a.at in
    record { prefix_len = (omega (arith, l, n), sym (length-take-le _ _ (omega (arith, l, n)))); value = f; out_after = s }
