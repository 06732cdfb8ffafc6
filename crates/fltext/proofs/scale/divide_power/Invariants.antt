-- `fltext::scale::divide_power` meets its contract, one divisor at a time. Assumes nothing.
use Prim.Native.Nat.{◌/◌, ◌%◌, ◌^◌}
use mathlib.Core.Path.{◌≡◌}
use Rattle.text.specs.Naturals.{natural}
use Rattle.fltext.specs.Limbs.{Becomes}
use Rattle.fltext.specs.Packing.{nonzero}
use Rattle.fltext.proofs.scale.divide_power.Given as goal

abbrev pub invariant-loop : goal.invariant-loop
invariant-loop l = ((l.rest ≡ nonzero (natural l.initial.x % l.b ^ l.counter)) × Becomes (natural l.initial.x / l.b ^ l.counter) l.initial.x l.x)
