-- `fold::open` meets its contract. Assumes nothing.
use mathlib.Core.Path.{ap, ◌∙◌}
use Rattle.std.proofs.lemmas.Result.{err_from_is_err_and}
use Rattle.words.proofs.WordLaws.{back}
use Rattle.fold.specs.Fold.{settings}
use Rattle.fold.specs.Calls.{opened_as, opening}
use Rattle.fold.proofs.CallLaws.{shut-opening, open-opening}
use Rattle.fold.proofs.open.Goals as goal

pub returns-in_err-new : goal.returns-in_err-new
unfolding settings
returns-in_err-new c =
    let p = err_from_is_err_and c.from_residual.result c.from_residual.ensures.1 in
    let f = c.ranges in
    rw p.1 (shut-opening _ p.0 (ap opened_as p.2 ∙ (rw (back f.start, back f.end, back f.count, back f.accumulator) at c.in_err-new.ensures.err)))

pub returns : goal.returns
unfolding settings
returns c =
    let f = c.ranges in
    let o = c.in_ok-new.field-0 in
    open-opening o.fold o.accepted ∙ ap opening (rw (back f.start, back f.end, back f.count, back f.accumulator) at c.in_ok-new.ensures.ok)
