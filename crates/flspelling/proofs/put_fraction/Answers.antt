-- `flspelling::put_fraction` meets its contract: a digit at a time, until the rest is 0. Assumes nothing.
use native.Mathlib.Omega.{arith}
use Prim.Native.Nat.{◌+◌, ◌-◌}
use mathlib.Core.Path.{◌≡◌, refl}
use mathlib.Core.List.{[]}
use mathlib.Core.Logic.{inl, inr}
use Rattle.output.proofs.PutsLaws.{puts-nothing}
use Rattle.flspelling.proofs.FractionLaws.{going_on, gone}
use Rattle.flspelling.proofs.put_fraction.Goals as goal

pub loop-init : goal.loop-init
loop-init c = record {
  text = [];
  put = puts-nothing _ _ c.args.out.now.inside;
  ahead = refl;
  small = c.requires;
}

pub glyph-requires : goal.glyph-requires
glyph-requires c = let s = c.loop.invariant.small in omega (arith, s)

pub loop-preserved : goal.loop-preserved
loop-preserved c =
    let e : 13 - (c.loop.counter + 1) ≡ 13 - c.loop.counter - 1 = omega arith in
    rw e (going_on c.loop.invariant _ (omega arith) c.if-rest-eq0.false c.glyph.ensures (record { count = c.put.ensures.filled; buffer = c.put.ensures.bytes }))

pub returns-then-rest-eq0 : goal.returns-then-rest-eq0
returns-then-rest-eq0 c = gone c.loop.invariant (inr c.if-rest-eq0.true)

pub returns : goal.returns
returns c = gone c.loop.invariant (inl (omega arith))
