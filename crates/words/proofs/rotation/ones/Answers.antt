-- `words::rotation::ones` meets its contract. Assumes nothing.
use native.Mathlib.Omega.{arith}
use mathlib.Core.Path.{◌≡◌, ap, ap₂, ◌∙◌}
use Prim.Native.Nat.{ℕ, ◌+◌, ◌-◌, ◌^◌}
use lib.Pow.{high_ones, pow_mono}
use Rattle.words.proofs.rotation.ones.Goals as goal

pub overflow_sub-result : goal.overflow_sub-result
overflow_sub-result c =
    let a = c.args in
    omega (arith, c.power.ensures, c.power-2.ensures, pow_mono {i = a.start} {j = a.end} c.requires.0)

pub returns : goal.returns
returns c =
    let a = c.args in
    let e : a.end ≡ a.end - a.start + a.start = omega (arith, c.requires) in
    ap₂ (λ (m n : ℕ). m - n) (c.power.ensures ∙ ap (λ (k : ℕ). 2 ^ k) e) c.power-2.ensures ∙ high_ones (a.end - a.start) a.start
