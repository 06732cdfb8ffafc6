-- `words::field::bit_field` meets its contract. Assumes nothing.
use mathlib.Core.Path.{ap, ◌∙◌}
use Prim.Native.Nat.{◌-◌, ◌^◌}
use lib.IntN.{ℤ}
use Rattle.bits.specs.Division.{mod_ℕ}
use Rattle.bits.specs.Shift.{shift_right}
use Rattle.words.proofs.WordLaws.{back}
use Rattle.words.proofs.field.bit_field.Goals as goal

pub returns : goal.returns
returns c =
    let a = c.args in
    c.bits_from.ensures ∙ ap (λ (x : ℤ). mod_ℕ (shift_right x a.start) (2 ^ (a.end - a.start))) (back c.ranges.x)
