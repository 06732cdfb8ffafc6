-- `words::field::low_bits` meets its contract. Assumes nothing.
use mathlib.Core.Path.{ap, ◌∙◌}
use Prim.Native.Nat.{◌^◌}
use lib.IntN.{ℤ}
use Rattle.bits.specs.Division.{mod_ℕ}
use Rattle.bits.proofs.ShiftLaws.{shift_right-zero}
use Rattle.words.proofs.WordLaws.{back}
use Rattle.words.proofs.field.low_bits.Goals as goal

pub returns : goal.returns
returns c =
    c.bits_from.ensures ∙ ap (λ (x : ℤ). mod_ℕ x (2 ^ c.args.size)) (shift_right-zero _ ∙ back c.ranges.x)
