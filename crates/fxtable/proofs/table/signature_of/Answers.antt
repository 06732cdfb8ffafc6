-- `fxtable::table::signature_of` meets its contract: its arms are the rows of the table. Assumes nothing.
use borrow.Author.Rules.{rules}
use mathlib.Core.Path.{sym, ap, ◌∙◌}
use Rattle.fxtable.specs.Domains.{domain_at}
use Rattle.fxtable.specs.Operations.{has_two}
use Rattle.fxtable.specs.Table.{Row, no_row, signature_from, signature_of}
use Rattle.fxtable.proofs.TableLaws.{no-row}
use Rattle.fxtable.proofs.table.signature_of.Goals as goal

pub returns-in_default : goal.returns-in_default
unfolding signature_of domain_at has_two no_row
returns-in_default c =
    c.plain-in_default.ensures
    ∙ ap (λ (r : Row). signature_from r.least r.most (domain_at r.domains 1) (domain_at r.domains 2) (domain_at r.domains 3) (has_two r.results))
    (sym (no-row c.args.code (search rules)))
