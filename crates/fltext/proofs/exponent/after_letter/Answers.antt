-- `fltext::exponent::after_letter` meets its contract. Assumes nothing.
use mathlib.Core.Path.{ap₂, ◌∙◌}
use Rattle.fltext.specs.Inner.{exponent_of}
use Rattle.fltext.proofs.FormLaws.{sign-in, after-sign}
use Rattle.fltext.proofs.exponent.after_letter.Goals as goal

pub returns : goal.returns
returns c = c.of_digits.ensures ∙ ap₂ exponent_of c.is_minus.ensures (after-sign _ c.sign_length.ensures)

pub slice_bounds-of_digits-count : goal.slice_bounds-of_digits-count
slice_bounds-of_digits-count c = sign-in _ c.sign_length.ensures

pub slice_bounds-of_digits-start : goal.slice_bounds-of_digits-start
slice_bounds-of_digits-start c = sign-in _ c.sign_length.ensures
