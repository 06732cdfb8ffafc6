-- `fltext::form::is_hexadecimal` meets its contract. Assumes nothing.
use mathlib.Core.Path.{refl}
use borrow.Author.Rules.{rules}
use borrow.Author.Tests.{eq-eqb, ne_eqb}
use Rattle.text.proofs.ReadingParts.{one_of-true, one_of-false}
use Rattle.fltext.specs.Forms.{is_hex}
use Rattle.fltext.proofs.form.is_hexadecimal.Goals as goal

pub returns-in-120 : goal.returns-in-120
unfolding is_hex
returns-in-120 c =
    rw (← c.byte_at.ensures, eq-eqb _ 48 c.if-byte_at-eq48.true, ← c.byte_at-then-byte_at-eq48.ensures, one_of-true 88 120 _ c.in-120.is) refl

pub returns-in_default : goal.returns-in_default
unfolding is_hex
returns-in_default c =
    rw (← c.byte_at.ensures, eq-eqb _ 48 c.if-byte_at-eq48.true, ← c.byte_at-then-byte_at-eq48.ensures, one_of-false 88 120 c.byte_at-then-byte_at-eq48.result (search rules)) refl

pub returns-else-byte_at-eq48 : goal.returns-else-byte_at-eq48
unfolding is_hex
returns-else-byte_at-eq48 c = rw (← c.byte_at.ensures, ne_eqb _ 48 c.if-byte_at-eq48.false) refl
