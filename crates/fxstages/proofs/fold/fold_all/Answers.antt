-- `fxstages::fold::fold_all` meets its contract. Assumes nothing.
use Rattle.std.proofs.Common.{◌≡◌, refl, sym, ap, subst, ◌∙◌, arith, ℤ, ◌+◌, ◌<◌, drop, w64, FitsSigned, to_z}
use Rattle.std.proofs.Math.Facts.{sfits_to_z}
use Rattle.words.proofs.WordLaws.{back, back-word}
use Rattle.fxtable.specs.Domains.{arg}
use Rattle.fxtable.specs.Operations.{fold_from}
use Rattle.fxtable.specs.Calls.{counted}
use Rattle.fxtable.proofs.CallLaws.{arg-counted}
use Rattle.fxstages.proofs.LoopLaws.{counted-length, fold_step, fold-two, rest-none}
use Rattle.fxstages.proofs.fold.fold_all.Goals as goal

pub returns-then-count-eq2 : goal.returns-then-count-eq2
unfolding arg
returns-then-count-eq2 g c step computes =
    let x : FitsSigned w64 (arg c.args.args 0) = record { sfits = omega arith } in
    let y : FitsSigned w64 (arg c.args.args 1) = record { sfits = omega arith } in
    let value : FitsSigned w64 c.f.result = record { sfits = c.f.type_inv } in
    let one = computes _ _ _ c.ranges.first x (rw (back c.ranges.first, back x) at c.f.ensures) in
    let two = computes _ _ _ value y (rw (back value, back y) at c.f-then-count-eq2.ensures) in
    back-word c.f-then-count-eq2.result c.f-then-count-eq2.type_inv
    ∙ two
    ∙ ap (λ (z : ℤ). step z (arg c.args.args 1)) one
    ∙ sym (fold-two c.args.args c.args.count c.well_formed.1.1.0.1.0.1 c.requires.few step c.args.first c.if-count-eq2.true)

pub loop-x-init : goal.loop-x-init
loop-x-init g c step computes = refl

pub loop-x-preserved : goal.loop-x-preserved
unfolding counted arg
loop-x-preserved g c step computes =
    let xs = c.args.args in
    let n = c.args.count in
    let l = c.loop-x in
    let i : l.x-index < n = omega (arith, counted-length xs n c.well_formed.1.1.0.1.0.1 c.requires.few) in
    let here : arg (counted xs n) l.x-index ≡ arg xs l.x-index = arg-counted xs n l.x-index i in
    let item : FitsSigned w64 (arg (counted xs n) l.x-index) = record { sfits = omega arith } in
    let x : FitsSigned w64 (arg xs l.x-index) = subst (FitsSigned w64) here item in
    let value : FitsSigned w64 (to_z w64 l.value-bits) = sfits_to_z l.auto.value in
    let turn = computes _ _ _ value x (rw (here, back x) at c.f-value.ensures) in
    l.invariant step computes
    ∙ fold_step xs n c.well_formed.1.1.0.1.0.1 c.requires.few step (to_z w64 l.value-bits) l.x-index i
    ∙ ap (λ (v : ℤ). fold_from step v (drop (l.x-index + 1) (counted xs n))) (sym (back-word c.f-value.result c.f-value.type_inv ∙ turn))

pub returns : goal.returns
unfolding counted fold_from
returns g c step computes =
    let l = c.loop-x in
    sym (ap (λ (v : ℤ). fold_from step v (counted c.args.args c.args.count)) (sym (back c.ranges.first))
    ∙ l.invariant step computes
    ∙ ap (fold_from step (to_z w64 l.value-bits)) (rest-none c.args.args c.args.count l.x-index (omega (arith, counted-length c.args.args c.args.count c.well_formed.1.1.0.1.0.1 c.requires.few))))
