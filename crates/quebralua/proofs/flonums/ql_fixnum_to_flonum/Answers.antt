-- `quebralua::flonums::ql_fixnum_to_flonum` meets its contract. Assumes nothing.
use mathlib.Core.Path.{◌∙◌, ap}
use Rattle.words.proofs.WordLaws.{back}
use Rattle.flonum.specs.Calls.{flat, fixnum_to_flonum}
use Rattle.quebralua.proofs.flonums.ql_fixnum_to_flonum.Goals as goal

pub returns : goal.returns
returns c =
    c.into.ensures ∙ ap flat (c.fixnum_to_flonum.ensures ∙ ap (fixnum_to_flonum c.args.width) (back c.ranges.n))
