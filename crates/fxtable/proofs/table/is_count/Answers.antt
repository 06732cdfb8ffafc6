-- `fxtable::table::is_count` meets its contract. Assumes nothing.
use mathlib.Core.Path.{◌≡◌, sym, ap, ◌∙◌}
use lib.Dec.{leb}
use borrow.Author.Tests.{le-leb, lt-leb}
use Rattle.fxtable.specs.declared.table.Signature.{Signature}
use Rattle.fxtable.specs.Table.{row_of, signature_of}
use Rattle.fxtable.specs.Calls.{is_count}
use Rattle.bits.proofs.Booleans.{and_first, and_second}
use Rattle.fxtable.proofs.table.is_count.Goals as goal
use Rattle.fxtable.proofs.table.is_count.Goals.{After-signature_of-s}

-- the two tests, by the row
least : (c : After-signature_of-s) → leb c.signature_of-s.result.least c.args.count ≡ leb (row_of c.args.code).least c.args.count
unfolding signature_of
least c = ap (λ (s : Signature). leb s.least c.args.count) c.signature_of-s.ensures

most : (c : After-signature_of-s) → leb c.args.count c.signature_of-s.result.most ≡ leb c.args.count (row_of c.args.code).most
unfolding signature_of
most c = ap (λ (s : Signature). leb c.args.count s.most) c.signature_of-s.ensures

pub returns-then-s-count : goal.returns-then-s-count
unfolding is_count
returns-then-s-count c =
    most c.before.before.before ∙ and_second _ _ (sym (least c.before.before.before) ∙ le-leb _ _ c.if-s-count.true)

pub returns-else-s-count : goal.returns-else-s-count
unfolding is_count
returns-else-s-count c = least c.before.before ∙ and_first _ _ (sym (least c.before.before) ∙ lt-leb _ _ c.if-s-count.false)
