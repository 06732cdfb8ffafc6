-- Integers held by two words that wrap. No public call's contract cites it.
--   Held w s x     ==  the words of s are those of x, and x is no larger than three fixnums make it: its high part at w is a fixnum
use Rattle.std.specs.Prelude.{ℕ, ◌^◌, ◌≡◌, true, ℤ}
use Rattle.bits.specs.Testbit.{fits}
use Rattle.bits.specs.Division.{mod_ℕ}
use Rattle.widewords.specs.declared.double.Double.{Double}
use Rattle.widewords.specs.Double.{double_word}
use Rattle.fxtable.specs.Operations.{parts_of}

pub record Held (w : ℕ) (s : Double) (x : ℤ) : Type 0 where
  pub words : double_word s ≡ mod_ℕ x (2 ^ 128)
  pub high : fits w (parts_of w x).1 ≡ true
