-- `fldecimal::candidate::reads_as` meets its contract. Assumes nothing.
use Rattle.std.proofs.Common.{sym, ap, ◌∙◌, eqb-true, rules}
use Rattle.std.specs.Prelude.{Ok}
use Rattle.fldecimal.proofs.SpellingLaws.{same_bits}
use Rattle.fldecimal.proofs.candidate.reads_as.Goals as goal

pub returns-in-Ok : goal.returns-in-Ok
returns-in-Ok c = λ e.
    sym c.read_flonum.ensures ∙ c.in-Ok.is
    ∙ ap Ok (same_bits (search rules) (search rules) (sym c.bits.ensures ∙ eqb-true _ _ e ∙ c.bits-in-Ok.ensures))
