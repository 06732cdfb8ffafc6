-- `words::field::bit_set` meets its contract. Assumes nothing.
use mathlib.Core.Path.{ap, ◌∙◌}
use Prim.Native.Nat.{ℕ, ◌^◌}
use lib.Dec.{eqb}
use lib.IntN.{ℤ}
use Rattle.bits.specs.Division.{mod_ℕ}
use Rattle.bits.specs.Shift.{shift_right}
use Rattle.words.proofs.WordLaws.{back}
use Rattle.words.proofs.FieldLaws.{one_bit}
use Rattle.words.proofs.field.bit_set.Goals as goal

pub returns : goal.returns
returns c =
    ap (λ (n : ℕ). eqb n 1)
    (c.bits_from.ensures ∙ ap (λ (x : ℤ). mod_ℕ (shift_right x c.args.k) (2 ^ 1)) (back c.ranges.x))
    ∙ one_bit c.args.x c.args.k
