-- `flspelling::put_fraction` meets its contract: a digit at a time, until the rest is 0. Assumes nothing.
use Prim.Native.Nat.{◌-◌}
use Rattle.flspelling.proofs.FractionLaws.{Going}
use Rattle.flspelling.proofs.put_fraction.Given as goal

abbrev pub invariant-loop : goal.invariant-loop
invariant-loop l = Going l.m l.initial.out.bytes.now l.initial.out.filled l.out.bytes.now l.rest (13 - l.counter) l.out.filled
