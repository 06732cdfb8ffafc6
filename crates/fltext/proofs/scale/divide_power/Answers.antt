-- `fltext::scale::divide_power` meets its contract, one divisor at a time. Assumes nothing.
use Prim.Native.Nat.{◌/◌, ◌%◌, ◌^◌}
use native.Mathlib.Omega.{arith}
use mathlib.Core.Path.{◌≡◌, ap, ap₂, ◌∙◌}
use mathlib.Core.Bool.{not, ◌||◌}
use lib.Dec.{eqb}
use Rattle.text.specs.Naturals.{natural}
use Rattle.fltext.specs.Packing.{nonzero}
use Rattle.fltext.proofs.ScaleLaws.{becomes-same, becomes-as, becomes-step, divide-none, divide-more, rest-none, rest_more}
use Rattle.fltext.proofs.scale.divide_power.Goals as goal

pub loop-init : goal.loop-init
loop-init c = (rest-none _ _, becomes-same _ (divide-none _ _))

pub loop-preserved : goal.loop-preserved
unfolding nonzero
loop-preserved c =
    let l = c.loop in
    let b = c.args.b in
    let n = natural c.args.x.now in (
      ap (λ r. l.rest || not (eqb r 0)) c.divide.ensures.value
          ∙ ap₂ (λ p q. p || nonzero (q % b)) l.invariant.0 l.invariant.1.number
          ∙ rest_more b n l.counter c.requires.0,
      becomes-step (λ m. m / b) l.invariant.1 c.divide.ensures.becomes (divide-more b n l.counter),
    )

pub returns : goal.returns
returns c =
    let l = c.loop in
    let a = c.args in
    let e : l.counter ≡ a.n = omega arith in record {
      value = l.invariant.0 ∙ ap (λ i. nonzero (natural a.x.now % a.b ^ i)) e;
      becomes = becomes-as l.invariant.1 (ap (λ i. natural a.x.now / a.b ^ i) e);
    }
