-- `words::field::signed_low` meets its contract. Assumes nothing.
use native.Mathlib.Nat.{mod-lt}
use native.Mathlib.Omega.{arith}
use mathlib.Core.Path.{ap₂, ◌∙◌}
use Prim.Native.Nat.{ℕ, ◌-◌}
use lib.Pow.{pow_pos}
use Rattle.words.proofs.FieldLaws.{low-negative, low-nonnegative}
use Rattle.words.proofs.field.signed_low.Goals as goal

pub overflow_sub-result : goal.overflow_sub-result
overflow_sub-result c = omega (arith, c.power.ensures, pow_pos c.args.size)

pub overflow_sub-result-then-negative : goal.overflow_sub-result-then-negative
overflow_sub-result-then-negative c =
    let a = c.args in
    omega (arith, c.power.ensures, c.low-bits.ensures, mod-lt a.m (pow_pos a.size))

pub returns-then-negative : goal.returns-then-negative
returns-then-negative c =
    ap₂ (λ (p l : ℕ). p - 1 - l) c.power.ensures c.low-bits.ensures
    ∙ low-negative _ _ c.if-negative.true

pub returns-else-negative : goal.returns-else-negative
returns-else-negative c = c.low-bits.ensures ∙ low-nonnegative _ _ c.if-negative.false
