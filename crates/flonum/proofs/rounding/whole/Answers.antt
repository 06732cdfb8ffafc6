-- `flonum::rounding::whole` meets its contract. Assumes nothing.
use Rattle.std.proofs.Common.{◌≡◌, ◌^◌, ◌<◌, T, ℤ, pos, sym, ap, subst, arith, w64, to_z}
use lib.Ieee.{binary64, in_float, of_int}
use mir.ValLaws.{to_z_pos}
use Rattle.flonum.proofs.RoundingLaws.{in-float}
use Rattle.flonum.proofs.rounding.whole.Goals as goal
use Rattle.flonum.proofs.rounding.whole.Goals.{Start}

positive : (c : Start) → to_z w64 c.args.n ≡ pos c.args.n
positive c = to_z_pos w64 c.args.n (let h = c.requires in let l : c.args.n < 2 ^ 63 = omega arith in l)

pub int_to_float-result : goal.int_to_float-result
int_to_float-result c = subst (λ (z : ℤ). T (in_float binary64 z)) (sym (positive c.before)) (in-float c.args.n c.requires)

pub returns : goal.returns
returns c = ap (of_int binary64) (positive c.before)
