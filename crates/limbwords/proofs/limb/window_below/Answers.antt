-- `limbwords::limb::window_below` meets its contract. Assumes nothing.
use Prim.Native.Nat.{ℕ, ◌+◌, ◌*◌, ◌-◌, ◌/◌, ◌%◌, ◌^◌}
use native.Mathlib.Omega.{arith}
use mathlib.Core.Path.{ap, ◌∙◌}
use Rattle.limbwords.specs.Value.{value}
use Rattle.limbwords.proofs.WindowLaws.{bits_from-shift_left-ge, bits_from-shift_left-zero, bits_from-shift_left-lt}
use Rattle.limbwords.proofs.limb.window_below.Goals as goal

pub returns-then-by-at : goal.returns-then-by-at
returns-then-by-at c =
    let a = c.args in
    c.window.ensures ∙ bits_from-shift_left-ge (value a.x.now) a.by a.at c.if-by-at.true

pub returns-then-by-at-ge32 : goal.returns-then-by-at-ge32
returns-then-by-at-ge32 c =
    let a = c.args in
    bits_from-shift_left-zero (value a.x.now) a.by a.at (omega (arith, c.if-by-at-ge32.true))

pub returns : goal.returns
returns c =
    let a = c.args in
    c.join.ensures
    ∙ ap (λ (n : ℕ). (n * 2 ^ 32 + 0) / 2 ^ (32 - (a.by - a.at)) % 2 ^ 32) c.limb.ensures
    ∙ bits_from-shift_left-lt (value a.x.now) a.by a.at (omega (arith, c.if-by-at.false))
    (omega (arith, c.if-by-at-ge32.false))
