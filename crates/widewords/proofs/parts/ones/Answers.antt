-- `widewords::parts::ones` meets its contract. Assumes nothing.
use Rattle.std.proofs.Common.{◌-◌, ◌^◌, ◌≤◌, arith, pow_pos, pow_mono}
use Rattle.bits.proofs.FitsLaws.{double}
use Rattle.widewords.proofs.parts.ones.Goals as goal

pub overflow_sub-result : goal.overflow_sub-result
overflow_sub-result c = omega (arith, c.power-half.ensures, pow_pos (c.args.width - 1))

pub overflow_add-result : goal.overflow_add-result
overflow_add-result c =
    let k = c.args.width - 1 in
    let l : 2 ^ k ≤ 2 ^ 63 = pow_mono {j = 63} (omega arith) in
    record { fits = omega (arith, c.power-half.ensures, pow_pos k) }

pub returns : goal.returns
returns c = let w = c.args.width in omega (arith, c.power-half.ensures, pow_pos (w - 1), double w c.requires.0)
