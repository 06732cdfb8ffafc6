-- `fxbits::fields::rotated` meets its contract. Assumes nothing.
use native.Mathlib.Omega.{arith}
use mathlib.Core.Path.{◌≡◌, refl, ap, ◌∙◌}
use Prim.Native.Nat.{◌-◌, ◌≤◌}
use lib.IntN.{pos, nat_abs}
use Rattle.bits.specs.Field.{rotate_bit_field}
use Rattle.bits.proofs.RangeLaws.{natural-pos}
use Rattle.words.proofs.WordLaws.{back-word}
use Rattle.fxtable.specs.Domains.{arg, domain_at}
use Rattle.fxtable.specs.Table.{rows, row_of}
use Rattle.fxtable.proofs.CallLaws.{done-never}
use Rattle.fxtable.proofs.MeaningLaws.{four-outcome}
use Rattle.fxstages.proofs.ArgumentLaws.{field, rotation}
use Rattle.fxbits.proofs.FieldLaws.{FieldWords, field-words, on-field}
use Rattle.fxbits.proofs.fields.rotated.Goals as goal
use Rattle.fxbits.proofs.fields.rotated.Goals.{After-absolute-c, After-absolute-end, Start}

abbrev start : After-absolute-end → Start
start c = c.before.before.before.before.before

words : (c : After-absolute-end) → FieldWords (start c).args.call.args c.absolute-start.result c.absolute-end.result
unfolding arg rows row_of domain_at
words c =
    field-words (field (start c).args.call.accepted (rw (start c).requires refl) (rw (start c).requires refl)) (omega arith) (omega arith)
    (omega arith) c.absolute-start.ensures c.absolute-end.ensures

count : (c : After-absolute-c)
    → (pos c.absolute-c.result ≡ arg (start c.before.before).args.call.args 3)
    × (c.absolute-c.result ≤ c.absolute-end.result - c.absolute-start.result)
unfolding arg rows row_of domain_at
count c =
    let f = words c.before.before in
    let is = (start c.before.before).requires in
    let a = (start c.before.before).args.call.accepted in
    let r = rotation a (field a (rw is refl) (rw is refl)) (rw is refl) in
    let e = c.absolute-c.ensures ∙ ap nat_abs (back-word (arg (start c.before.before).args.call.args 3) (omega arith)) in
    (ap pos e ∙ natural-pos (arg (start c.before.before).args.call.args 3) r.0, omega (arith, e, f.first, f.last, r.1))

pub rotate_bit_field-requires : goal.rotate_bit_field-requires
rotate_bit_field-requires c = let b = (words c.before.before).bounds in (b.0, b.1, (count c).1)

pub returns : goal.returns
unfolding arg rows row_of
returns c =
    done-never _ c.done.ensures c.rotate_bit_field.type_inv
    (c.rotate_bit_field.ensures
    ∙ ap (rotate_bit_field _ _ _) (count c.before.before).0
    ∙ on-field (words c.before.before.before.before) (λ x s e. rotate_bit_field x s e (arg (start c.before.before.before.before).args.call.args 3)))
    ∙ four-outcome (λ v x s e y. rotate_bit_field x (nat_abs s) (nat_abs e) y) (ap row_of (start c.before.before.before.before).requires) (start c.before.before.before.before).args.call.accepted
