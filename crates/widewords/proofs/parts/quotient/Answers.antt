-- `widewords::parts::quotient` meets its contract. Assumes nothing.
use Rattle.std.proofs.Common.{ℕ, ◌/◌, ◌^◌, ◌<◌, sym, subst, mod-lt, arith, pow_pos}
use Rattle.widewords.specs.Double.{double_word}
use Rattle.widewords.proofs.PartLaws.{quotient-word}
use Rattle.widewords.proofs.parts.quotient.Goals as goal

pub returns : goal.returns
returns c = quotient-word c.args.width c.args.s c.requires.0 c.requires.1 (omega arith)

pub overflow_add-result : goal.overflow_add-result
overflow_add-result c =
    record { fits = subst (λ (n : ℕ). n < 2 ^ 64) (sym (returns c)) (mod-lt (double_word c.args.s / 2 ^ c.args.width) (pow_pos 64)) }
