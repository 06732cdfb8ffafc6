-- A list of calls, computed from the definitions. Assumes nothing.
use mathlib.Core.Path.{◌≡◌, refl}
use mathlib.Core.Bool.{true, xor}
use mathlib.Core.List.{List, [], ◌∷◌}
use lib.IntN.{pos, negsuc}
use Rattle.bits.specs.Testbit.{odd, testbit, halvings, bit_length, cons_bit, of_bits, is_negative, fill}
use Rattle.bits.specs.Shift.{floor_div, shift_right}
use Rattle.bits.specs.Division.{mod_ℕ, «mod»}
use Rattle.bits.specs.Field.{in_field, set_field, permute_field, rotate_index, reverse_index, rotate_bit_field, reverse_bit_field}
use Rattle.bits.specs.FieldList.{rotate, reverse, count_call, net_count_from, net_count, is_reverse, odd_reversals}
use Rattle.bits.specs.Range.{within}
use Rattle.outcomes.specs.Outcome.{guard, guard_at, map_done, refusal_of}
use Rattle.outcomes.specs.Buffer.{capacity, laid, fitted, afterwards, count_of}
use Rattle.limbwords.specs.Value.{on_top, value, limbs_of, limb_count, shortest, is_shortest}
use Rattle.limbstages.specs.Buffer.{stored, written, copied}
use Rattle.limbstages.specs.Stages.{most_limbs, has_limbs, is_operand, operand, natural, is_field, field}
use Rattle.limbs.specs.Operations.{rotate_outcome, reverse_outcome}
use Rattle.limb_laws.specs.Replies.{reply_to, limbs_in, has_room}
use Rattle.limb_laws.specs.Lists.{Step, calls_of, outcome_of, reply_of, hand_on, all_fit, run_steps, is_done, net_calls}

-- Rotate by 5, rotate by -1, which is refused and needs no capacity, and reverse, in three buffers.
abbrev three_steps : List Step
three_steps =
    record { call = rotate (pos 5); to = record { buffer = 7 ∷ 7 ∷ 7 ∷ []; first = 1 } }
    ∷ record { call = rotate (negsuc 0); to = record { buffer = []; first = 0 } }
    ∷ record { call = reverse; to = record { buffer = 7 ∷ 7 ∷ []; first = 0 } }
    ∷ []

-- the limbs at the end on the field from 3 to 40, from two limbs; the second list ends at one
pub cases-list :
    (all_fit 3 40 three_steps (0x89ABCDEF ∷ 0xFEDCBA98 ∷ []) ≡ true)
    × (run_steps 3 40 three_steps (0x89ABCDEF ∷ 0xFEDCBA98 ∷ []) ≡ 0xECF56447 ∷ 0xFEDCBACD ∷ [])
    × (net_count is_done 37 (calls_of three_steps) ≡ pos 32)
    × (net_calls 37 (calls_of three_steps) ≡ reverse ∷ rotate (pos 32) ∷ [])
    × (run_steps 3 40 three_steps (0x80000007 ∷ 0 ∷ []) ≡ 0x47 ∷ [])
unfolding odd testbit halvings bit_length cons_bit of_bits is_negative fill floor_div shift_right mod_ℕ «mod» in_field set_field permute_field rotate_index
    reverse_index rotate_bit_field reverse_bit_field on_top value limbs_of limb_count shortest guard guard_at map_done refusal_of count_of capacity laid fitted stored written afterwards
    is_shortest most_limbs has_limbs is_operand operand natural within is_field field rotate_outcome reverse_outcome copied reply_to limbs_in has_room calls_of outcome_of reply_of hand_on all_fit run_steps is_done
    count_call net_count_from net_count is_reverse odd_reversals net_calls xor
cases-list = (refl, refl, refl, refl, refl)
