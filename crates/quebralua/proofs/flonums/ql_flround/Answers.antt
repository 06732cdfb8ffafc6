-- `quebralua::flonums::ql_flround` meets its contract. Assumes nothing.
use mathlib.Core.Path.{◌∙◌, ap}
use Rattle.flonum.specs.Calls.{flat}
use Rattle.quebralua.proofs.flonums.ql_flround.Goals as goal

pub returns : goal.returns
returns c = c.into.ensures ∙ ap flat c.flround.ensures
