-- `fltext::scale::multiply_power` meets its contract, one factor at a time. Assumes nothing.
use Prim.Native.Nat.{◌*◌, ◌^◌}
use Rattle.text.specs.Naturals.{natural}
use Rattle.fltext.specs.Limbs.{Becomes}
use Rattle.fltext.proofs.scale.multiply_power.Given as goal

abbrev pub invariant-loop : goal.invariant-loop
invariant-loop l = Becomes (natural l.initial.x * l.b ^ l.counter) l.initial.x l.x
