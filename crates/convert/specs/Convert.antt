-- The outcome of each conversion: the first refusal in 01's order, or the integer.
--   to_fixnum_outcome w x      ==  the limbs x as a fixnum at width w: refusals 1, 7, 6
--   to_limbs_outcome w n       ==  the fixnum n at width w as limbs: refusals 1, 4; 8 is given where the limbs are written
use Rattle.std.specs.Prelude.{ℕ, List, ℤ}
use Rattle.bits.specs.Testbit.{fits}
use Rattle.fxtable.specs.Domains.{is_width}
use Rattle.limbwords.specs.Value.{value}
use Rattle.outcomes.specs.Outcome.{Outcome, done, guard}
use Rattle.limbstages.specs.Stages.{operand}

unfoldable pub to_fixnum_outcome : ℕ → List ℕ → Outcome ℤ
to_fixnum_outcome w x = guard (is_width w) 1 (operand x (guard (fits w (value x)) 6 (done (value x))))

unfoldable pub to_limbs_outcome : ℕ → ℤ → Outcome ℤ
to_limbs_outcome w n = guard (is_width w) 1 (guard (fits w n) 4 (done n))
