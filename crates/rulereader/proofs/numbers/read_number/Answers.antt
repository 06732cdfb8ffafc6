-- `rulereader::numbers::read_number` meets its contract. Assumes nothing.
use Prim.Native.Nat.{◌+◌}
use native.Mathlib.Omega.{arith}
use mathlib.Core.Path.{sym, ap, ◌∙◌}
use Rattle.std.proofs.lemmas.List.{take_rest}
use Rattle.rulereader.specs.Placed.{cut_off}
use Rattle.rulereader.proofs.CutLaws.{nothing_left, ends-early, offends-here}
use Rattle.rulereader.proofs.numbers.read_number.Goals as goal

pub returns-then-at-s : goal.returns-then-at-s
returns-then-at-s c = λ test small. nothing_left c.args.s.now c.args.at c.if-at-s.true test

pub returns-then-is_cut_off : goal.returns-then-is_cut_off
returns-then-is_cut_off c =
    λ test small. ends-early c.args.s.now c.args.at (omega arith) c.if-b-lt-CONTINUED.false test small (sym c.if-is_cut_off.true ∙ c.is_cut_off.ensures ∙ ap (cut_off 8) (take_rest c.args.s.now (c.args.at + 1)))

pub returns-else-is_cut_off : goal.returns-else-is_cut_off
returns-else-is_cut_off c =
    λ test small. offends-here c.args.s.now c.args.at (omega arith) c.if-b-lt-CONTINUED.false test small (sym c.if-is_cut_off.false ∙ c.is_cut_off.ensures ∙ ap (cut_off 8) (take_rest c.args.s.now (c.args.at + 1)))
