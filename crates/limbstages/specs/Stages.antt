-- The stages of a limb call: what is checked before a result is measured, and the size of a result, each with 01's refusal number.
--   most_limbs                ==  1,024
--   has_limbs xs              ==  whether xs has 1 to 1,024 limbs
--   untrimmed xs o           ==  o, or refusal 7 where it has not: the operand of trim, which may be padded
--   is_operand xs             ==  whether xs has 1 to 1,024 limbs, and they are the shortest of their integer: a legal number of document 01
--   operand xs o             ==  o, or refusal 7 where xs is no such operand
--   natural n o              ==  o, or refusal 5 where n is negative: a distance, a rotation's count, a position of bit-set?
--   is_field, field start end ==  whether 0 <= start <= end <= 32,767; the stage that refuses by 5 where not
--   is_new_bit, new_bit k bit   ==  whether 0 <= k <= 32,766, and the bit is 0 or 1; the stage that refuses by 5 where not
--   sized z                  ==  z, or refusal 6 where it has more than 1,024 limbs
use Rattle.std.specs.Prelude.{ℕ, Bool, ◌&&◌, List, leb, ℤ, pos, length}
use Rattle.std.specs.Int.Signed.{le_z}
use Rattle.bits.specs.Range.{within}
use Rattle.limbwords.specs.Value.{limb_count, is_shortest}
use Rattle.outcomes.specs.Outcome.{Outcome, done, guard}

unfoldable pub most_limbs : ℕ
most_limbs = 1024

unfoldable pub has_limbs : List ℕ → Bool
has_limbs xs = leb 1 (length xs) && leb (length xs) most_limbs

unfoldable pub is_operand : List ℕ → Bool
is_operand xs = has_limbs xs && is_shortest xs

unfoldable pub is_field : ℤ → ℤ → Bool
is_field start end = within (pos 0) start end && le_z end (pos 32767)

unfoldable pub is_new_bit : ℤ → ℤ → Bool
is_new_bit k bit = within (pos 0) k (pos 32766) && within (pos 0) bit (pos 1)

module _ {A : Type 0} where
  unfoldable pub untrimmed : List ℕ → Outcome A → Outcome A
  untrimmed xs o = guard (has_limbs xs) 7 o

  unfoldable pub operand : List ℕ → Outcome A → Outcome A
  operand xs o = guard (is_operand xs) 7 o

  unfoldable pub natural : ℤ → Outcome A → Outcome A
  natural n o = guard (le_z (pos 0) n) 5 o

  unfoldable pub field : ℤ → ℤ → Outcome A → Outcome A
  field start end o = guard (is_field start end) 5 o

  unfoldable pub new_bit : ℤ → ℤ → Outcome A → Outcome A
  new_bit k bit o = guard (is_new_bit k bit) 5 o

unfoldable pub sized : ℤ → Outcome ℤ
sized z = guard (leb (limb_count z) most_limbs) 6 (done z)
