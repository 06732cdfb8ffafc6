-- `fxbits::fields::taken` meets its contract. Assumes nothing.
use native.Mathlib.Omega.{arith}
use mathlib.Core.Path.{refl, ap, ◌∙◌}
use lib.IntN.{nat_abs}
use Rattle.bits.specs.Field.{bit_field}
use Rattle.words.proofs.RotateWords.{bit_field-number}
use Rattle.fxtable.specs.Domains.{arg, domain_at}
use Rattle.fxtable.specs.Table.{rows, row_of}
use Rattle.fxtable.proofs.CallLaws.{done-never}
use Rattle.fxtable.proofs.MeaningLaws.{three-outcome}
use Rattle.fxstages.proofs.ArgumentLaws.{field}
use Rattle.fxbits.proofs.FieldLaws.{FieldWords, field-words, on-field, field_lt, field-word}
use Rattle.fxbits.proofs.fields.taken.Goals as goal
use Rattle.fxbits.proofs.fields.taken.Goals.{After-absolute-end, Start}

abbrev start : After-absolute-end → Start
start c = c.before.before.before.before.before

words : (c : After-absolute-end) → FieldWords (start c).args.call.args c.absolute-start.result c.absolute-end.result
unfolding arg rows row_of domain_at
words c =
    field-words (field (start c).args.call.accepted (rw (start c).requires refl) (rw (start c).requires refl)) (omega arith) (omega arith)
    (omega arith) c.absolute-start.ensures c.absolute-end.ensures

pub bit_field-requires : goal.bit_field-requires
bit_field-requires c = (words c).bounds

pub overflow_cast-bit_field : goal.overflow_cast-bit_field
overflow_cast-bit_field c =
    field-word _ c.absolute-start.result (field_lt _ _ _ c.bit_field.ensures) (words c.before).bounds.1

pub returns : goal.returns
unfolding arg rows row_of
returns c =
    done-never _ c.done.ensures (overflow_cast-bit_field c.before).sfits (bit_field-number _ _ _ c.bit_field.ensures ∙ on-field (words c.before.before) bit_field)
    ∙ three-outcome (λ v x s e. bit_field x (nat_abs s) (nat_abs e)) (ap row_of (start c.before.before).requires) (start c.before.before).args.call.accepted
