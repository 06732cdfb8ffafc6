-- `fltext::scale::multiply_power` meets its contract, one factor at a time. Assumes nothing.
use Prim.Native.Nat.{◌+◌, ◌*◌, ◌^◌}
use native.Mathlib.Omega.{arith}
use mathlib.Core.Path.{◌≡◌, ap}
use lib.Dec.{lit<}
use Rattle.text.specs.Naturals.{natural}
use Rattle.fltext.proofs.ScaleLaws.{becomes-same, becomes-as, becomes-step, becomes-room, multiply-none, multiply-more, multiply-le}
use Rattle.fltext.proofs.scale.multiply_power.Goals as goal

pub loop-init : goal.loop-init
loop-init c = (becomes-same _ (multiply-none _ _))

pub multiply_add-requires : goal.multiply_add-requires
multiply_add-requires c =
    let l = c.loop in
    let n = natural c.args.x.now in
    let b = c.args.b in record {
      b_bound = (c.requires.b_nonzero.1, lit< tt);
      c_bound = becomes-room (λ m. m * b + 0) (n * b ^ c.args.n) l.invariant (rw (multiply-more b n l.counter) (multiply-le b n c.requires.b_nonzero.0 (omega arith))) c.requires.n_bound;
    }

pub loop-preserved : goal.loop-preserved
loop-preserved c =
    let l = c.loop in
    let a = c.args in
    (becomes-step (λ m. m * a.b + 0) l.invariant c.multiply_add.ensures (multiply-more a.b (natural a.x.now) l.counter))

pub returns : goal.returns
returns c =
    let l = c.loop in
    let a = c.args in
    let e : l.counter ≡ a.n = omega arith in
    becomes-as l.invariant (ap (λ i. natural a.x.now * a.b ^ i) e)
