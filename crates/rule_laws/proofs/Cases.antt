-- Cases that show what the statements leave out: copy-bit at two widths, and a number that is cut off. Computed; assumes nothing.
use Prim.Native.Nat.{ℕ}
use mathlib.Core.Path.{◌≡◌, refl}
use mathlib.Core.List.{List, [], ◌∷◌}
use lib.IntN.{pos, neg_ℤ}
use Rattle.bits.specs.Testbit.{is_negative, odd, testbit, fits, fill, cons_bit, of_bits}
use Rattle.bits.specs.Shift.{floor_div, shift_right}
use Rattle.bits.specs.Division.{div, «mod», div0, mod0, mod_ℕ}
use Rattle.bits.specs.Field.{in_field, set_field, copy_bit, copy_bit_field}
use Rattle.bits.specs.Range.{within}
use Rattle.outcomes.specs.Outcome.{Outcome, refused, guard, guard_at, on_done}
use Rattle.outcomes.specs.Tests.{all_hold, first_failed_from, first_failed, guard_each}
use Rattle.fxtable.specs.Domains.{least_width, largest_width, is_width, arg, accepts, domain_tests_from, domain_tests}
use Rattle.fxtable.specs.Operations.{results_of, has_two}
use Rattle.fxtable.specs.Table.{rows, is_code, row_of}
use Rattle.fxtable.specs.Calls.{answer, counted, is_count, fixnum_tests, checked, outcome, fixnum_answer, answer_of}
use Rattle.rules.specs.Tree.{Rule}
use Rattle.rules.specs.Leb128.{unsigned, signed, join_z, of_last_z, is_last_z, shortest, continued, decode}
use Rattle.rules.specs.Limits.{is_stored_width, is_tag, is_input, is_constant, is_stored_code}
use Rattle.rules.specs.Parse.{and_then, item, after_tag, read_head, read_forms, after_head, read_form, read_rule, whole, parse}
use Rattle.rules.specs.Evaluate.{fixnum, result_of, evaluate, runs_at}
use Rattle.rules.specs.Answers.{value_of, evaluated, rule_answer}

-- copy-bit of 0, position 23, bit 1
abbrev copy_bit_rule : List ℕ
copy_bit_rule = 2 ∷ 34 ∷ 3 ∷ 0 ∷ 0 ∷ 0 ∷ 23 ∷ 0 ∷ 1 ∷ []

-- at width 24 position 23 is the sign, at 25 it is not
pub cases-copy-bit :
    ((rule_answer 30 (24 ∷ copy_bit_rule) []).value ≡ neg_ℤ (pos 0x800000)) × ((rule_answer 30 (25 ∷ copy_bit_rule) []).value ≡ pos 0x800000)
unfolding rule_answer evaluated value_of evaluate fixnum result_of runs_at on_done guard guard_at
    parse whole read_rule read_form after_head read_forms read_head after_tag item and_then
    is_stored_width is_width least_width largest_width is_tag is_input is_constant is_stored_code is_code is_count row_of rows has_two
    decode unsigned signed join_z of_last_z is_last_z shortest continued
    is_negative odd testbit fits fill cons_bit of_bits floor_div div «mod» div0 mod0 mod_ℕ in_field set_field copy_bit copy_bit_field shift_right within
    all_hold first_failed first_failed_from guard_each arg accepts domain_tests_from domain_tests
    results_of answer counted fixnum_tests checked outcome fixnum_answer answer_of
cases-copy-bit = (refl, refl)

-- a number that is cut off ends early, and with a padding zero it offends where it begins, which is before that end
abbrev offends_at : ℕ → Outcome Rule
offends_at o = refused 10 o

pub cases-cut-off : (parse (30 ∷ 1 ∷ 0x80 ∷ []) ≡ offends_at 3) × (parse (30 ∷ 1 ∷ 0x80 ∷ 0 ∷ []) ≡ offends_at 2)
unfolding parse whole read_rule read_form after_head read_forms read_head after_tag item and_then guard_at
    is_stored_width is_width least_width largest_width is_tag is_input decode unsigned shortest continued
cases-cut-off = (refl, refl)
