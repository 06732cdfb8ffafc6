-- `words::field::bits_from` meets its contract. Assumes nothing.
use mathlib.Core.Path.{ap, ◌∙◌}
use Prim.Native.Nat.{◌^◌}
use lib.IntN.{ℤ}
use Rattle.bits.specs.Division.{mod_ℕ}
use Rattle.bits.specs.Shift.{shift_right}
use Rattle.words.proofs.FieldLaws.{together, magnitude-shift_right}
use Rattle.words.proofs.field.bits_from.Goals as goal

pub returns : goal.returns
returns c =
    let b = c.before.before.before in
    c.signed_low.ensures
    ∙ ap (λ (x : ℤ). mod_ℕ x (2 ^ b.args.size))
    (magnitude-shift_right _ _ b.args.start
    ∙ ap (λ (x : ℤ). shift_right x b.args.start)
    (together b.ranges.x c.is_negative.ensures c.magnitude.ensures))
