-- `text::form::read_numeral` meets its contract. Assumes nothing.
use mathlib.Core.Path.{refl, sym, ◌∙◌}
use Rattle.text.proofs.ReadingParts.{negative-is, base-is, start_is, rest-is, too_short, all_digits, base-bounds}
use Rattle.text.proofs.form.read_numeral.Goals as goal
use Rattle.text.proofs.form.read_numeral.Goals.{then-text-start-via-then-text-start, then-text-start-via-else-text-start+then-not-are_digits}

pub returns-then-text-start : goal.returns-then-text-start
returns-then-text-start c =
    let e = c.take_apart-negative.ensures in
    let b = base-is _ e in
    let s = start_is _ e in (
      refl,
      elim c.then-text-start.branch [
        | then-text-start-via-then-text-start w ↦ too_short _ b s w.if-text-start.true
        | then-text-start-via-else-text-start+then-not-are_digits w ↦
            all_digits _ b s w.if-text-start.false ∙ sym w.are_digits.ensures ∙ w.if-not-are_digits.true
      ],
    )

pub invariant_of-result : goal.invariant_of-result
invariant_of-result c =
    let e = c.take_apart-negative.ensures in
    let d = sym c.if-not-are_digits.ensures in
    record { base_bounds = base-bounds _ (base-is _ e) (start_is _ e) c.if-text-start.false d; are_digits = d }

pub returns : goal.returns
returns c =
    let e = c.take_apart-negative.ensures in
    let b = base-is _ e in
    let s = start_is _ e in
    record { integral = all_digits _ b s c.if-text-start.false ∙ sym c.if-not-are_digits.ensures; sign = negative-is _ e; base = b; digits = rest-is _ b s }
