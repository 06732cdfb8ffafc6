-- `text::long::set_sign` meets its contract. Assumes nothing.
use native.Mathlib.Omega.{arith}
use borrow.Author.Rules.{rules}
use mathlib.Core.Path.{◌≡◌, ap, ◌∙◌}
use lib.IntN.{nat_abs}
use lib.ListN.{length}
use Rattle.words.specs.Sign.{with_sign}
use Rattle.limbwords.specs.Value.{value, limbs_of}
use Rattle.limbwords.proofs.ValueLaws.{length-limbs_of}
use Rattle.text.proofs.ReadingLimbs.{positive-limbs, negative-limbs, signed-limbs}
use Rattle.text.proofs.long.set_sign.Goals as goal
use Rattle.text.proofs.long.set_sign.Goals.{Joined-negative, then-negative, else-negative}

-- the limbs, with the sign or without
placed : (c : Joined-negative) → let a = c.args in
    c.if-negative.x ≡ limbs_of (length a.x.now) (with_sign a.negative (nat_abs (value a.x.now)))
placed c =
    elim c.if-negative.branch [
      | then-negative w ↦ negative-limbs _ _ c.requires.1 w.if-negative.true (w.x-is ∙ w.negate.ensures)
      | else-negative w ↦ w.x-is ∙ positive-limbs _ _ c.requires.1 (λ i. search rules) w.if-negative.false
    ]

same : (c : Joined-negative) → length c.if-negative.x ≡ length c.args.x.now
same c = ap length (placed c) ∙ length-limbs_of _ _

pub shortest_length-requires : goal.shortest_length-requires
shortest_length-requires c = omega (arith, same (goal.at.shortest_length-requires c).Joined-negative)

pub shape_of-x : goal.shape_of-x
shape_of-x c = same (goal.at.shape_of-x c).Joined-negative

pub returns : goal.returns
returns c =
    let s = signed-limbs c.args.negative c.args.x.now c.requires.1 c.requires.0 (placed (goal.at.returns c).Joined-negative) c.shortest_length.ensures in
    record { value = s.0; x_after = s.1.0; upper_bound = s.1.1 }
