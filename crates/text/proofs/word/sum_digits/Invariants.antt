-- `text::word::sum_digits` meets its contract. The invariant: n is the number of the digits so far. Assumes nothing.
use Prim.Native.Nat.{◌^◌, ◌<◌}
use mathlib.Core.Path.{◌≡◌}
use lib.ListN.{take}
use Rattle.text.specs.Numerals.{numeral}
use Rattle.text.proofs.word.sum_digits.Given as goal

abbrev pub invariant-loop-c : goal.invariant-loop-c
invariant-loop-c l = (l.n ≡ numeral l.base (take l.c-index l.text)) × (l.n < 2 ^ 64)
