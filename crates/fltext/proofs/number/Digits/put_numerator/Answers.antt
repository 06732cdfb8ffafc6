-- `fltext::number::Digits::put_numerator` meets its contract. Assumes nothing.
use Prim.Native.Nat.{◌*◌, ◌^◌}
use native.Mathlib.Omega.{arith}
use mathlib.Core.Path.{ap, ◌∙◌}
use lib.Dec.{lit<}
use Rattle.text.specs.Numerals.{are_digits}
use Rattle.fltext.specs.Forms.{radix}
use Rattle.fltext.specs.Limbs.{Becomes}
use Rattle.fltext.proofs.NumberLaws.{all, whole_room, after-whole, fraction-room, after-fraction, power-room, after-power, units-room, after-units}
use Rattle.fltext.proofs.number.Digits.put_numerator.Goals as goal
use Rattle.fltext.proofs.number.Digits.put_numerator.Goals.{After-append_digits-2, After-multiply_power}

pub append_digits-requires : goal.append_digits-requires
append_digits-requires c = record {
  base_nonzero = c.base-base.ensures.result_nonzero;
  digits_value = ap (λ n. are_digits n c.args.self.now.whole.now) c.base-base.ensures.value ∙ c.args.self.now.digits.whole;
  digits_bound = whole_room c.args.self.now.digits c.args.power c.requires c.base-base.ensures.value;
}

pub append_digits-requires-2 : goal.append_digits-requires-2
append_digits-requires-2 c = record {
  base_nonzero = c.base-base.ensures.result_nonzero;
  digits_value = ap (λ n. are_digits n c.args.self.now.fraction.now) c.base-base.ensures.value ∙ c.args.self.now.digits.fraction;
  digits_bound = fraction-room c.args.self.now.digits c.args.power c.requires c.base-base.ensures.value (after-whole c.args.self.now.digits c.args.power c.requires c.base-base.ensures.value c.append_digits.ensures);
}

-- all digits are in the limbs
digits_in : (c : After-append_digits-2) → let a = c.args in
    Becomes (all a.self.now.hexadecimal a.self.now.whole.now a.self.now.fraction.now) a.x.now c.append_digits-2.new.x
digits_in c =
    let b = c.base-base.ensures.value in
    after-fraction c.args.self.now.digits c.args.power c.requires b (after-whole c.args.self.now.digits c.args.power c.requires b c.append_digits.ensures) c.append_digits-2.ensures

pub multiply_power-requires : goal.multiply_power-requires
multiply_power-requires c = record {
  b_nonzero = (c.radix.ensures.result_nonzero.0, omega (arith, c.radix.ensures.result_nonzero.1));
  n_bound = power-room c.args.self.now.digits c.args.power c.requires c.radix.ensures.value (digits_in (goal.at.multiply_power-requires c).After-append_digits-2);
}

-- and their number times the power
scaled-in : (c : After-multiply_power) → let a = c.args in
    Becomes (all a.self.now.hexadecimal a.self.now.whole.now a.self.now.fraction.now * radix a.self.now.hexadecimal ^ a.power) a.x.now c.multiply_power.new.x
scaled-in c =
    let b = c.base-base.ensures.value in
    let whole = after-whole c.args.self.now.digits c.args.power c.requires b c.append_digits.ensures in
    let digits = after-fraction c.args.self.now.digits c.args.power c.requires b whole c.append_digits-2.ensures in
    after-power c.args.self.now.digits c.args.power c.requires c.radix.ensures.value digits c.multiply_power.ensures

pub multiply_power-requires-2 : goal.multiply_power-requires-2
multiply_power-requires-2 c = record {
  b_nonzero = (lit< tt, lit< tt);
  n_bound = units-room c.args.self.now.digits c.args.power c.requires (scaled-in (goal.at.multiply_power-requires-2 c).After-multiply_power);
}

pub returns : goal.returns
returns c =
    after-units c.args.self.now.digits c.args.power c.requires (scaled-in (goal.at.returns c).After-multiply_power) c.multiply_power-2.ensures
