-- `flonum::extremes::flextremes` meets its contract. Assumes nothing.
use Rattle.std.proofs.Common.{◌≡◌, take, drop}
use Rattle.flonum.specs.Extremes.{extend_all, extremes}
use Rattle.flonum.proofs.extremes.flextremes.Given as goal

abbrev pub invariant-loop-i : goal.invariant-loop-i
invariant-loop-i l = extend_all l.e (drop l.i (take l.count l.args)) ≡ extremes (take l.count l.args)
