-- `words::field::low` meets its contract: a mask of k ones. Assumes nothing.
use native.Mathlib.Omega.{arith}
use mathlib.Core.Path.{ap, ◌∙◌}
use Prim.Native.Nat.{ℕ, ◌-◌}
use lib.Bits.{bit_and, and_mask}
use lib.Pow.{pow_pos}
use Rattle.words.proofs.field.low.Goals as goal

pub overflow_sub-result : goal.overflow_sub-result
overflow_sub-result c = omega (arith, c.power.ensures, pow_pos c.args.k)

pub returns : goal.returns
returns c = ap (λ (n : ℕ). bit_and c.args.v (n - 1)) c.power.ensures ∙ and_mask c.args.v c.args.k
