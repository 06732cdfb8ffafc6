-- How many arguments an accepted call has. Assumes nothing.
use mathlib.Core.List.{List}
use Prim.Native.Nat.{ℕ, ◌≤◌}
use lib.IntN.{ℤ}
use Rattle.fxtable.specs.Inner.{Accepted}
use Rattle.fxtable.proofs.TableLaws.{at-most-four}

pub four_at_most : (w code n : ℕ) (xs : List ℤ) → Accepted w code xs n → n ≤ 4
four_at_most w code n xs a = at-most-four code n a.arity
