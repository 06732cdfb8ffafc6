-- `rulereader::numbers::is_cut_off` meets its contract. Assumes nothing.
use mathlib.Core.Path.{refl}
use lib.Dec.{leb}
use borrow.Author.Tests.{lt-ltb, le-ltb}
use Rattle.std.proofs.Common.{rules, tests}
use Rattle.std.proofs.lemmas.Iterator.{YieldsList-from_slice}
use Rattle.std.proofs.lemmas.Iterator.Search.{all_from_yields_List}
use Rattle.rulereader.proofs.CutLaws.{cut_off_all}
use Rattle.rulereader.proofs.numbers.is_cut_off.Goals as goal

pub returns-then-rest-k : goal.returns-then-rest-k
returns-then-rest-k c =
    rw (cut_off_all c.args.k c.args.rest.now, lt-ltb _ _ c.if-rest-k.true)
    (all_from_yields_List (λ b. leb 128 b) _ _ c.all.result c.all.ensures.ran (YieldsList-from_slice c.args.rest.now cc) (λ x b q k. search (rules, tests)))

pub returns-else-rest-k : goal.returns-else-rest-k
returns-else-rest-k c = rw (cut_off_all c.args.k c.args.rest.now, le-ltb _ _ c.if-rest-k.false) refl
