-- `fold::record::Open::rotate_and_xor` meets its contract. Assumes nothing.
use native.Mathlib.Omega.{arith}
use Prim.Native.Nat.{ℕ, ◌<◌, ◌^◌}
use mathlib.Core.Path.{◌≡◌, ap, ap₂, ◌∙◌}
use lib.IntN.{ℤ, pos, nat_abs}
use lib.Signed.{mag}
use mir.Syntax.{w64}
use mir.Val.{SFits, to_z, of_z}
use Rattle.bits.specs.Field.{rotate_bit_field}
use Rattle.bits.specs.Logical.{bitwise_xor}
use Rattle.words.proofs.WordLaws.{back, back-word}
use Rattle.fxtable.proofs.CallLaws.{width-bounds}
use Rattle.fold.specs.declared.Fold.{Fold}
use Rattle.fold.specs.Fold.{with_accumulator}
use Rattle.fold.proofs.OpenLaws.{open-width, open-field}
use Rattle.fold.proofs.JoinLaws.{rotated_by, joined-fits}
use Rattle.fold.proofs.record.Open.rotate_and_xor.Goals as goal

pub rotate_bit_field-rotated-requires : goal.rotate_bit_field-rotated-requires
rotate_bit_field-rotated-requires c =
    let f = c.args.self.fold in
    let o = open-field f c.args.self.accepted in
    let w = width-bounds f.width (open-width f c.args.self.accepted) in
    (omega (arith, o.ordered), omega (arith, o.below, w), omega (arith, c.requires.inside))

-- the new accumulator
joined : (f : Fold) (n : ℕ) (y : ℤ) {s e : ℕ} {r x : ℤ} → mag f.accumulator < 2 ^ 63 → mag r < 2 ^ 63 → mag x < 2 ^ 63 → SFits w64 y
    → s ≡ nat_abs f.start → e ≡ nat_abs f.end → r ≡ rotate_bit_field (to_z w64 (of_z w64 f.accumulator)) s e (pos n)
    → x ≡ bitwise_xor (to_z w64 (of_z w64 r)) (to_z w64 (of_z w64 y)) → to_z w64 (of_z w64 x) ≡ bitwise_xor (rotated_by f n) y
joined f n y a r x h s e p q =
    back-word _ x
    ∙ q
    ∙ ap₂ bitwise_xor
    (back-word _ r ∙ p ∙ ap₂ (λ (s e : ℕ). rotate_bit_field (to_z w64 (of_z w64 f.accumulator)) s e (pos n)) s e ∙ ap (λ (z : ℤ). rotate_bit_field z (nat_abs f.start) (nat_abs f.end) (pos n)) (back-word _ a))
    (back h)

pub with_accumulator-requires : goal.with_accumulator-requires
with_accumulator-requires c =
    let f = c.args.self.fold in
    rw (joined f c.args.count c.args.y (omega arith) (omega arith) (omega arith) c.ranges.y c.start.ensures c.end.ensures c.rotate_bit_field-rotated.ensures c.xor.ensures)
    (joined-fits f c.args.self.accepted c.args.count c.args.y c.requires.fixnum)

pub returns : goal.returns
returns c =
    let f = c.args.self.fold in
    c.with_accumulator.ensures
    ∙ ap (with_accumulator f)
    (joined f c.args.count c.args.y (omega arith) (omega arith) (omega arith) c.ranges.y c.start.ensures c.end.ensures c.rotate_bit_field-rotated.ensures c.xor.ensures)
