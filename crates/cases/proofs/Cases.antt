-- Document 01's cases M1 to M14, computed from the definitions of the calls. Assumes nothing.
use mathlib.Core.Path.{◌≡◌, refl}
use mathlib.Core.List.{map}
use Rattle.bits.specs.Testbit.{odd, testbit, halvings, bit_length, cons_bit, of_bits, fits, is_negative, fill}
use Rattle.bits.specs.Logical.{bitwise_not, bitwise}
use Rattle.bits.specs.Shift.{floor_div, shift_left, shift_right, arithmetic_shift}
use Rattle.bits.specs.Division.{div, mod_ℕ, «mod», div0, mod0}
use Rattle.bits.specs.Field.{in_field, set_field, permute_field, rotate_index, reverse_index, rotate_bit_field, reverse_bit_field, copy_bit_field, copy_bit}
use Rattle.bits.specs.Count.{ones_below, ones, bit_count, first_true, first_bit_set}
use Rattle.bits.specs.Range.{within}
use Rattle.fxtable.specs.Calls.{answer}
use Rattle.fxtable.specs.Domains.{least_width, largest_width, is_width, arg, accepts, domain_tests_from, domain_tests}
use Rattle.fxtable.specs.Operations.{results_of, minus, parts_of}
use Rattle.fxtable.specs.Table.{rows, is_code, row_of}
use Rattle.fxtable.specs.Calls as calls
use Rattle.limbwords.specs.Value.{on_top, value, limbs_of, limb_count, shortest, is_shortest}
use Rattle.outcomes.specs.Outcome.{guard, guard_at, map_done, refusal_of}
use Rattle.outcomes.specs.Tests.{all_hold, first_failed_from, first_failed, guard_each}
use Rattle.outcomes.specs.Buffer.{capacity, laid, fitted, afterwards, count_of}
use Rattle.limbstages.specs.Buffer.{stored, written}
use Rattle.outcomes.specs.Number.{number}
use Rattle.limbstages.specs.Stages.{most_limbs, has_limbs, is_operand, operand, natural, is_field, field, sized}
use Rattle.limbs.specs.Operations.{not_outcome, bitwise_outcome, shift_outcome, rotate_outcome, reverse_outcome, bit_count_outcome, length_outcome, first_bit_set_outcome}
use Rattle.cases.specs.Table.{given, stated, table}

pub cases-M : map given table ≡ map stated table
unfolding odd testbit halvings bit_length cons_bit of_bits fits is_negative fill bitwise_not bitwise floor_div shift_left shift_right arithmetic_shift div mod_ℕ «mod» div0 mod0
    in_field set_field permute_field rotate_index reverse_index rotate_bit_field reverse_bit_field copy_bit_field copy_bit ones_below ones bit_count first_true first_bit_set
    answer results_of least_width largest_width is_width arg within accepts domain_tests_from domain_tests minus parts_of
    rows is_code row_of calls.counted calls.is_count calls.fixnum_tests calls.checked calls.outcome calls.fixnum_answer
    on_top value limbs_of limb_count shortest guard guard_at all_hold first_failed_from first_failed guard_each map_done refusal_of capacity laid fitted afterwards count_of stored written number is_shortest most_limbs has_limbs is_operand operand natural is_field field sized
    not_outcome bitwise_outcome shift_outcome rotate_outcome reverse_outcome bit_count_outcome length_outcome first_bit_set_outcome given stated table
cases-M = refl
