-- Limbs are refused by 7 exactly where the width is accepted and they are not legal. Assumes nothing.
use Prim.Native.Nat.{ℕ}
use mathlib.Core.Path.{◌≡◌, refl}
use mathlib.Core.Bool.{Bool, true, false, not, ◌&&◌}
use mathlib.Core.List.{List}
use lib.Dec.{eqb}
use Rattle.bits.specs.Testbit.{fits}
use Rattle.fxtable.specs.Domains.{is_width}
use Rattle.outcomes.specs.Outcome.{done, guard, guard_at}
use Rattle.outcomes.specs.Number.{number}
use Rattle.limbwords.specs.Value.{value}
use Rattle.limbstages.specs.Stages.{is_operand, operand}
use Rattle.convert.specs.Convert.{to_fixnum_outcome}

pub refused-limbs : (w : ℕ) (x : List ℕ) → eqb (number (to_fixnum_outcome w x)).refusal 7 ≡ is_width w && not (is_operand x)
unfolding to_fixnum_outcome operand guard guard_at number
refused-limbs w x = go (is_width w) (is_operand x) (fits w (value x))
  where
    go : (a b c : Bool) → eqb (number (guard a 1 (guard b 7 (guard c 6 (done (value x)))))).refusal 7 ≡ a && not b
    go true true true = refl
    go true true false = refl
    go true false c = refl
    go false b c = refl
