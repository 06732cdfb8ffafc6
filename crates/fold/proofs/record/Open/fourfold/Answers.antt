-- `fold::record::Open::fourfold` meets its contract. Assumes nothing.
use native.Mathlib.Omega.{arith}
use Prim.Native.Nat.{ℕ, ◌-◌, ◌≤◌, ◌<◌}
use mathlib.Core.Path.{◌≡◌, ap, ap₂, ◌∙◌}
use mathlib.Core.Bool.{true}
use lib.IntN.{nat_abs}
use Rattle.fxtable.proofs.CallLaws.{width-bounds}
use Rattle.fold.specs.declared.Fold.{Fold}
use Rattle.fold.specs.Fold.{is_open}
use Rattle.fold.specs.Inner.{doubled, fourfold}
use Rattle.fold.proofs.OpenLaws.{open-width, open-field}
use Rattle.fold.proofs.FourLaws.{doubled-le}
use Rattle.fold.proofs.record.Open.fourfold.Goals as goal

-- the count of an open record is no more than its field's size, which is below 64
bounds : (f : Fold) → is_open f ≡ true → (nat_abs f.count ≤ nat_abs f.end - nat_abs f.start) × (nat_abs f.end - nat_abs f.start < 64)
bounds f h =
    let o = open-field f h in
    let w = width-bounds f.width (open-width f h) in
    (o.inside, omega (arith, o.below, w))

pub doubled-requires : goal.doubled-requires
doubled-requires c = let b = bounds c.args.self.fold c.args.self.accepted in (omega arith, omega arith)

pub doubled-requires-2 : goal.doubled-requires-2
doubled-requires-2 c =
    let b = bounds c.args.self.fold c.args.self.accepted in
    (omega (arith, c.doubled.ensures, doubled-le c.size-size.result c.count.result (omega arith)), omega arith)

pub returns : goal.returns
unfolding fourfold
returns c =
    c.doubled-2.ensures
    ∙ ap (doubled _) c.doubled.ensures
    ∙ ap₂ (λ (size n : ℕ). doubled size (doubled size n)) c.size-size.ensures c.count.ensures
