-- `fldecimal::digits::put_scaled` is safe: there is room. Assumes nothing.
use Rattle.std.proofs.Common.{arith, lit<}
use Rattle.fltext.specs.Limbs.{Becomes}
use Rattle.fldecimal.proofs.RoomLaws.{high-room, after-high, low-room, after-low, shift-room, after-shift, power-room}
use Rattle.fldecimal.proofs.digits.put_scaled.Goals as goal
use Rattle.fldecimal.proofs.digits.put_scaled.Goals.{After-multiply_add-2}

pub multiply_add-requires : goal.multiply_add-requires
multiply_add-requires c = record {
  b_bound = (lit< tt, omega (arith, c.args.s.small.0));
  c_bound = high-room c.args.s.small.0 c.args.s.small.1 c.requires.power_bound c.requires.cleared;
}

pub multiply_add-requires-2 : goal.multiply_add-requires-2
multiply_add-requires-2 c = record {
  b_bound = (lit< tt, omega arith);
  c_bound = low-room c.args.s.small.0 c.args.s.small.1 c.requires.power_bound c.requires.cleared (after-high c.args.s.small.0 c.args.s.small.1 c.requires.power_bound c.requires.cleared c.multiply_add.ensures);
}

-- the significand is in the limbs
put_in : (c : After-multiply_add-2) → let a = c.args in Becomes a.s.significand a.x.now c.multiply_add-2.new.x
put_in c =
    after-low c.args.s.small.0 c.args.s.small.1 c.requires.power_bound c.requires.cleared (after-high c.args.s.small.0 c.args.s.small.1 c.requires.power_bound c.requires.cleared c.multiply_add.ensures) c.multiply_add-2.ensures

pub multiply_power-requires : goal.multiply_power-requires
multiply_power-requires c = record {
  b_nonzero = (lit< tt, lit< tt);
  n_bound = shift-room c.args.s.small.0 c.args.s.small.1 c.requires.power_bound c.requires.cleared (put_in (goal.at.multiply_power-requires c).After-multiply_add-2);
}

pub multiply_power-requires-2 : goal.multiply_power-requires-2
multiply_power-requires-2 c = record {
  b_nonzero = (lit< tt, lit< tt);
  n_bound = power-room c.args.s.small.0 c.args.s.small.1 c.requires.power_bound c.requires.cleared (after-shift c.args.s.small.0 c.args.s.small.1 c.requires.power_bound c.requires.cleared (put_in (goal.at.multiply_power-requires-2 c).After-multiply_add-2) c.multiply_power.ensures);
}
