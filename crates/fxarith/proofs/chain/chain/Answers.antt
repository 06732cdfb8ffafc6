-- `fxarith::chain::chain` meets its contract. Assumes nothing.
use Rattle.std.proofs.Common.{◌≡◌, refl, sym, ap, ◌∙◌, arith, Bool, ◌&&◌, ◌-◌, ◌+◌, drop, w64, FitsSigned}
use mathlib.Core.Bool.{and_assoc}
use Rattle.words.proofs.WordLaws.{back}
use Rattle.bits.proofs.Booleans.{and-true}
use Rattle.fxtable.specs.Domains.{arg}
use Rattle.fxtable.specs.Operations.{chain}
use Rattle.fxtable.specs.Calls.{counted}
use Rattle.fxarith.proofs.ChainLaws.{chain-step, chain-last}
use Rattle.fxarith.proofs.chain.chain.Goals as goal

pub loop-i-init : goal.loop-i-init
loop-i-init g c relation computes = refl

pub loop-i-preserved : goal.loop-i-preserved
unfolding arg
loop-i-preserved g c relation computes =
    let xs = c.args.args in
    let n = c.args.count in
    let l = c.loop-i in
    let next : l.i - 1 + 1 ≡ l.i = omega arith in
    let x : FitsSigned w64 (arg xs (l.i - 1)) = record { sfits = omega arith } in
    let y : FitsSigned w64 (arg xs l.i) = record { sfits = omega arith } in
    let test : c.holds-all.result ≡ relation (arg xs (l.i - 1)) (arg xs l.i) = computes _ _ _ x y (rw (back x, back y) at c.holds-all.ensures) in
    let step : chain relation (drop (l.i - 1) (counted xs n)) ≡ relation (arg xs (l.i - 1)) (arg xs l.i) && chain relation (drop l.i (counted xs n)) =
    rw next at (chain-step xs n c.well_formed.1.0.1.0.1 c.requires.few relation (l.i - 1) (omega arith)) in
    let same : l.i + 1 - 1 ≡ l.i = omega arith in
    rw same
    (l.invariant relation computes
    ∙ ap (λ (t : Bool). l.all && t) (step ∙ ap (λ (t : Bool). t && chain relation (drop l.i (counted xs n))) (sym test))
    ∙ sym (and_assoc l.all c.holds-all.result (chain relation (drop l.i (counted xs n)))))

pub returns : goal.returns
returns g c relation computes =
    let l = c.loop-i in
    sym (l.invariant relation computes
    ∙ ap (λ (t : Bool). l.all && t)
    (chain-last c.args.args c.args.count c.well_formed.1.0.1.0.1 c.requires.few relation (l.i - 1) (omega arith))
    ∙ and-true l.all)
