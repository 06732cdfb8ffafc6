-- `limbmeasure::is_padding` meets its contract. Assumes nothing.
use Prim.Native.Nat.{ℕ}
use mathlib.Core.Path.{◌≡◌, sym, ap}
use mathlib.Core.Bool.{Bool, cond, not}
use lib.Dec.{eqb, ltb}
use borrow.Author.Tests.{lt-ltb, le-ltb}
use Rattle.limbmeasure.specs.Padding.{continued}
use Rattle.limbmeasure.proofs.is_padding.Goals as goal

by-top : (low high : ℕ) (b : Bool) → ltb low 0x80000000 ≡ b → eqb high (cond (not b) 0xFFFFFFFF 0) ≡ eqb high (continued low)
unfolding continued
by-top low high b e = ap (λ (t : Bool). eqb high (cond (not t) 0xFFFFFFFF 0)) (sym e)

pub returns-then-low-lt2147483648 : goal.returns-then-low-lt2147483648
returns-then-low-lt2147483648 c = by-top _ _ _ (lt-ltb _ _ c.if-low-lt2147483648.true)

pub returns-else-low-lt2147483648 : goal.returns-else-low-lt2147483648
returns-else-low-lt2147483648 c = by-top _ _ _ (le-ltb _ _ c.if-low-lt2147483648.false)
