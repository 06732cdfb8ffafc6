-- `fxbits::fields::copied` meets its contract. Assumes nothing.
use native.Mathlib.Omega.{arith}
use mathlib.Core.Path.{refl, ap, ◌∙◌}
use lib.IntN.{nat_abs}
use Rattle.bits.specs.Field.{copy_bit_field}
use Rattle.words.proofs.FieldWords.{copy_bit_field-put}
use Rattle.words.proofs.WordLaws.{back}
use Rattle.fxtable.specs.Domains.{arg, domain_at}
use Rattle.fxtable.specs.Table.{rows, row_of}
use Rattle.fxtable.proofs.CallLaws.{done-never}
use Rattle.fxtable.proofs.MeaningLaws.{four-outcome}
use Rattle.fxstages.proofs.ArgumentLaws.{field}
use Rattle.fxbits.proofs.FieldLaws.{FieldWords, field-words, on-field}
use Rattle.fxbits.proofs.fields.copied.Goals as goal
use Rattle.fxbits.proofs.fields.copied.Goals.{After-absolute-end, Start}

abbrev start : After-absolute-end → Start
start c = c.before.before.before.before.before

words : (c : After-absolute-end) → FieldWords (start c).args.call.args c.absolute-start.result c.absolute-end.result
unfolding arg rows row_of domain_at
words c =
    field-words (field (start c).args.call.accepted (rw (start c).requires refl) (rw (start c).requires refl)) (omega arith) (omega arith)
    (omega arith) c.absolute-start.ensures c.absolute-end.ensures

pub overflow_sub-end : goal.overflow_sub-end
overflow_sub-end c = (words c.before).bounds.0

pub low_bits-source-requires : goal.low_bits-source-requires
low_bits-source-requires c = omega (arith, (words c.before).bounds)

pub copy_bit_field-requires : goal.copy_bit_field-requires
copy_bit_field-requires c = (words c.before.before).bounds

pub returns : goal.returns
unfolding arg rows row_of
returns c =
    done-never _ c.done.ensures c.copy_bit_field.type_inv
    (c.copy_bit_field.ensures
    ∙ copy_bit_field-put _ _ _ _ c.low_bits-source.ensures
    ∙ ap (copy_bit_field _ _ _) (back (record { sfits = omega arith }))
    ∙ on-field (words c.before.before.before.before) (λ x s e. copy_bit_field x s e (arg (start c.before.before.before.before).args.call.args 3)))
    ∙ four-outcome (λ v x s e y. copy_bit_field x (nat_abs s) (nat_abs e) y) (ap row_of (start c.before.before.before.before).requires) (start c.before.before.before.before).args.call.accepted
