-- Cases of stored rules, computed from the definitions: numbers in groups, rules and their bytes, each breach, evaluation. Assumes nothing.
use Prim.Native.Nat.{ℕ, zero, suc}
use mathlib.Core.Path.{◌≡◌, refl}
use mathlib.Core.Bool.{Bool, true, false, xor}
use mathlib.Core.List.{List, [], ◌∷◌}
use lib.IntN.{ℤ, pos, neg_ℤ}
use Rattle.bits.specs.Testbit.{is_negative, odd, testbit, halvings, bit_length, fits, fill, cons_bit, of_bits}
use Rattle.bits.specs.Logical.{bitwise, bitwise_from, bitwise_all, bitwise_ands, bitwise_xors}
use Rattle.bits.specs.Shift.{floor_div, shift_right, shift_left}
use Rattle.bits.specs.Division.{mod_ℕ}
use Rattle.bits.specs.Field.{in_field, set_field, permute_field, rotate_index, rotate_bit_field}
use Rattle.bits.specs.Range.{within}
use Rattle.outcomes.specs.Outcome.{Outcome, done, refused, guard, guard_at, on_done}
use Rattle.outcomes.specs.Tests.{all_hold, first_failed_from, first_failed, guard_each}
use Rattle.fxtable.specs.Domains.{least_width, largest_width, is_width, arg, accepts, domain_tests_from, domain_tests}
use Rattle.fxtable.specs.Operations.{results_of, has_two, minus}
use Rattle.fxtable.specs.Table.{rows, is_code, row_of}
use Rattle.fxtable.specs.Calls.{answer, counted, is_count, fixnum_tests, checked, outcome, fixnum_answer, answer_of}
use Rattle.rules.specs.declared.RuleAnswer.{RuleAnswer}
use Rattle.rules.specs.Tree.{Form, constant, input, call, none, more, Rule, count, size, depth}
use Rattle.rules.specs.Leb128.{got, offends, unsigned, signed, low_z, high_z, join_z, of_last_z, is_last_z, encode, shortest, continued, decode}
use Rattle.rules.specs.Limits.{is_stored_width, is_tag, is_input, is_constant, is_stored_code}
use Rattle.rules.specs.Bytes.{bytes, encode_rule}
use Rattle.rules.specs.Parse.{and_then, item, after_tag, read_head, read_forms, after_head, read_form, rule, read_rule, whole, parse}
use Rattle.rules.specs.Evaluate.{fixnum, result_of, evaluate, runs_at}
use Rattle.rules.specs.Answers.{default_width, read_of, read_answer, bad_rule, value_of, evaluated, rule_answer, lent_answer}

abbrev neg : ℕ → ℤ
neg n = neg_ℤ (pos n)

-- DWARF's examples of both kinds, and each way to offend
pub cases-numbers :
    (encode unsigned 9 2 ≡ 2 ∷ []) × (encode unsigned 9 127 ≡ 127 ∷ [])
    × (encode unsigned 9 128 ≡ 0x80 ∷ 1 ∷ []) × (encode unsigned 9 129 ≡ 0x81 ∷ 1 ∷ [])
    × (encode unsigned 9 12857 ≡ 0xb9 ∷ 0x64 ∷ [])
    × (encode signed 10 (pos 2) ≡ 2 ∷ []) × (encode signed 10 (neg 2) ≡ 0x7e ∷ [])
    × (encode signed 10 (pos 127) ≡ 0xff ∷ 0 ∷ []) × (encode signed 10 (neg 127) ≡ 0x81 ∷ 0x7f ∷ [])
    × (encode signed 10 (pos 128) ≡ 0x80 ∷ 1 ∷ []) × (encode signed 10 (neg 128) ≡ 0x80 ∷ 0x7f ∷ [])
    × (encode signed 10 (pos 129) ≡ 0x81 ∷ 1 ∷ []) × (encode signed 10 (neg 129) ≡ 0xff ∷ 0x7e ∷ [])
    × (decode unsigned 5 9 (0xb9 ∷ 0x64 ∷ 7 ∷ []) ≡ got 12857 (7 ∷ []))
    × (decode signed 5 10 (0xff ∷ 0x7e ∷ 7 ∷ []) ≡ got (neg 129) (7 ∷ []))
    -- more groups than the number needs
    × (decode unsigned 5 9 (0x85 ∷ 0 ∷ []) ≡ offends 5) × (decode signed 5 10 (0x85 ∷ 0 ∷ []) ≡ offends 5)
    × (decode signed 5 10 (0xff ∷ 0x7f ∷ []) ≡ offends 5) × (decode signed 5 10 (0xff ∷ 0 ∷ []) ≡ got (pos 127) [])
    -- a cut off number ends early, unless it has all the groups that it may have
    × (decode unsigned 2 2 (0x85 ∷ []) ≡ offends 0) × (decode unsigned 2 2 (0x85 ∷ 0x85 ∷ []) ≡ offends 2)
unfolding encode decode unsigned signed low_z high_z join_z of_last_z is_last_z shortest continued
cases-numbers =
    (refl, refl, refl, refl, refl, refl, refl, refl, refl, refl, refl, refl, refl, refl, refl, refl, refl, refl, refl, refl, refl)

-- the codes that a rule may hold: those of the table but 18 and 21 to 24
abbrev stored_from : ℕ → ℕ → List Bool
stored_from code zero = []
stored_from code (suc n) = is_stored_code code ∷ stored_from (suc code) n

abbrev times : ℕ → {A : Type 0} → A → List A → List A
times zero x xs = xs
times (suc n) x xs = x ∷ times n x xs

pub cases-codes : stored_from 0 44
    ≡ false ∷ times 17 true (false ∷ true ∷ true ∷ times 4 false (times 17 true (false ∷ false ∷ [])))
unfolding is_stored_code is_code row_of rows has_two
cases-codes = refl

-- (fxxor (fxrotate-bit-field (input 0) 0 29 7) 255), at width 30
abbrev sample : Form
sample =
    call 28 (more (call 40 (more (input 0) (more (constant (pos 0)) (more (constant (pos 29)) (more (constant (pos 7)) none)))))
    (more (constant (pos 255)) none))

abbrev sample_bytes : List ℕ
sample_bytes = 2 ∷ 28 ∷ 2 ∷ 2 ∷ 40 ∷ 4 ∷ 1 ∷ 0 ∷ 0 ∷ 0 ∷ 0 ∷ 29 ∷ 0 ∷ 7 ∷ 0 ∷ 0xff ∷ 1 ∷ []

-- n calls of fxnot around a call of fxand without arguments
abbrev nested : ℕ → List ℕ
nested zero = 2 ∷ 26 ∷ 0 ∷ []
nested (suc n) = 2 ∷ 25 ∷ 1 ∷ nested n

abbrev offends_at : ℕ → Outcome Rule
offends_at o = refused 10 o

pub cases-parse :
    (encode_rule (rule 30 sample) ≡ 30 ∷ sample_bytes) × (parse (30 ∷ sample_bytes) ≡ done (rule 30 sample))
    × (size sample ≡ 7) × (depth sample ≡ 3)
    × (parse (0 ∷ sample_bytes) ≡ done (rule 0 sample)) × (parse (64 ∷ sample_bytes) ≡ done (rule 64 sample))
    -- nothing, and nothing after the width
    × (parse [] ≡ offends_at 0) × (parse (30 ∷ []) ≡ offends_at 1)
    -- widths
    × (parse (23 ∷ sample_bytes) ≡ offends_at 0) × (parse (65 ∷ sample_bytes) ≡ offends_at 0) × (parse (0x9e ∷ 0 ∷ 1 ∷ 0 ∷ []) ≡ offends_at 0)
    -- a tag that is none, an input that is none
    × (parse (30 ∷ 3 ∷ 0 ∷ []) ≡ offends_at 1) × (parse (30 ∷ 0x80 ∷ 0 ∷ []) ≡ offends_at 1) × (parse (30 ∷ 1 ∷ 16 ∷ []) ≡ offends_at 2)
    -- codes 0, 18 and 42; a count that the code does not allow; a code that is not the shortest, whatever its count is
    × (parse (30 ∷ 2 ∷ 0 ∷ 1 ∷ []) ≡ offends_at 2) × (parse (30 ∷ 2 ∷ 18 ∷ 2 ∷ []) ≡ offends_at 2) × (parse (30 ∷ 2 ∷ 42 ∷ 9 ∷ []) ≡ offends_at 2)
    × (parse (30 ∷ 2 ∷ 40 ∷ 3 ∷ []) ≡ offends_at 3) × (parse (30 ∷ 2 ∷ 25 ∷ 0 ∷ []) ≡ offends_at 3) × (parse (30 ∷ 2 ∷ 0x99 ∷ 0 ∷ 9 ∷ []) ≡ offends_at 2)
    -- something after the form
    × (parse (30 ∷ 1 ∷ 0 ∷ 0 ∷ []) ≡ offends_at 3)
    -- the end comes in a number, in a call
    × (parse (30 ∷ 2 ∷ 28 ∷ 2 ∷ 1 ∷ 0 ∷ []) ≡ offends_at 6) × (parse (30 ∷ 0 ∷ 0x80 ∷ 0x80 ∷ []) ≡ offends_at 4)
    -- the first offence is the rule's
    × (parse (30 ∷ 2 ∷ 28 ∷ 2 ∷ 1 ∷ 16 ∷ 3 ∷ []) ≡ offends_at 5)
unfolding encode_rule bytes size depth count parse whole read_rule read_form after_head read_forms read_head after_tag item and_then guard_at
    is_stored_width is_width least_width largest_width is_tag is_input is_constant fits is_stored_code is_code is_count row_of rows has_two
    encode decode unsigned signed low_z high_z join_z of_last_z is_last_z shortest continued
cases-parse =
    (refl, refl, refl, refl, refl, refl, refl, refl, refl, refl, refl, refl, refl, refl, refl, refl, refl, refl, refl, refl, refl, refl, refl, refl)

-- the limits: groups, depth, length
pub cases-limits :
    -- a constant of ten groups: 2^63 - 1, -2^63, and 2^63, which is no signed 64-bit number
    (parse (64 ∷ 0 ∷ times 9 0xff (0 ∷ [])) ≡ done (rule 64 (constant (pos 0x7fffffffffffffff))))
    × (parse (64 ∷ 0 ∷ times 9 0x80 (0x7f ∷ [])) ≡ done (rule 64 (constant (neg 0x8000000000000000))))
    × (parse (64 ∷ 0 ∷ times 9 0x80 (1 ∷ [])) ≡ offends_at 2)
    -- ten continued groups, and nine: a number has one fewer
    × (parse (64 ∷ 0 ∷ times 10 0x80 []) ≡ offends_at 2) × (parse (64 ∷ 0 ∷ times 9 0x80 []) ≡ offends_at 11)
    × (parse (64 ∷ 1 ∷ times 9 0x80 []) ≡ offends_at 2) × (parse (64 ∷ 1 ∷ times 8 0x80 []) ≡ offends_at 10)
    × (parse (64 ∷ 1 ∷ times 8 0x80 (1 ∷ [])) ≡ offends_at 2)
    -- depth 32, and 33
    × (read_answer default_width (0 ∷ nested 31) ≡ record { refusal = 0; offset = 0; width = 30 })
    × (parse (0 ∷ nested 32) ≡ offends_at 97) × (parse (0 ∷ nested 40) ≡ offends_at 97)
    -- 4,096 bytes, and one more, which is looked at first
    × (parse (times 4096 0 []) ≡ offends_at 3) × (parse (times 4097 99 []) ≡ offends_at 4096)
unfolding read_answer read_of runs_at parse whole read_rule read_form after_head read_forms read_head after_tag item and_then guard_at
    is_stored_width is_width least_width largest_width is_tag is_input is_constant fits is_stored_code is_code is_count row_of rows has_two
    decode unsigned signed join_z of_last_z is_last_z shortest continued
cases-limits = (refl, refl, refl, refl, refl, refl, refl, refl, refl, refl, refl, refl, refl)

abbrev inputs : List ℤ
inputs = pos 5 ∷ pos 0x20000000 ∷ times 14 (pos 0) []

abbrev value : ℤ → RuleAnswer
value z = record { refusal = 0; place = 0; offset = 0; value = z }

abbrev refusal : ℕ → ℕ → ℕ → RuleAnswer
refusal k place o = record { refusal = k; place = place; offset = o; value = pos 0 }

pub cases-evaluate :
    (rule_answer 30 (30 ∷ sample_bytes) inputs ≡ value (pos 639)) × (rule_answer 30 (0 ∷ sample_bytes) inputs ≡ value (pos 639))
    -- fx- of the second from the first, in this order; and of the first alone
    × (rule_answer 30 (30 ∷ 2 ∷ 15 ∷ 2 ∷ 0 ∷ 1 ∷ 1 ∷ 0 ∷ []) inputs ≡ value (neg 4))
    -- an input that is no fixnum at 30, where it is named; at 31 it is one
    × (rule_answer 30 (0 ∷ 1 ∷ 1 ∷ []) inputs ≡ refusal 4 0 0) × (rule_answer 31 (0 ∷ 1 ∷ 1 ∷ []) inputs ≡ value (pos 0x20000000))
    × (rule_answer 30 (31 ∷ 1 ∷ 1 ∷ []) inputs ≡ value (pos 0x20000000))
    -- a constant that is no fixnum, behind a call that is refused: the call is met first; and before it
    × (rule_answer 30 (24 ∷ 2 ∷ 28 ∷ 2 ∷ 2 ∷ 38 ∷ 2 ∷ 1 ∷ 0 ∷ 0 ∷ 24 ∷ 0 ∷ 0x80 ∷ 0x80 ∷ 0x80 ∷ 4 ∷ []) inputs ≡ refusal 5 2 0)
    × (rule_answer 30 (24 ∷ 2 ∷ 28 ∷ 2 ∷ 0 ∷ 0x80 ∷ 0x80 ∷ 0x80 ∷ 4 ∷ 2 ∷ 38 ∷ 2 ∷ 1 ∷ 0 ∷ 0 ∷ 24 ∷ []) inputs ≡ refusal 4 0 0)
    -- a result that is no fixnum
    × (rule_answer 30 (24 ∷ 2 ∷ 38 ∷ 2 ∷ 1 ∷ 0 ∷ 0 ∷ 22 ∷ []) inputs ≡ refusal 6 0 0)
    -- a rule that is none is not run
    × (rule_answer 30 (24 ∷ 2 ∷ 28 ∷ 2 ∷ 1 ∷ 1 ∷ 1 ∷ 16 ∷ []) inputs ≡ refusal 10 0 7)
    -- fifteen inputs
    × (lent_answer 30 [] (times 15 (pos 0) []) ≡ refusal 3 0 0) × (lent_answer 30 [] inputs ≡ refusal 10 0 0)
unfolding rule_answer lent_answer evaluated bad_rule value_of evaluate fixnum result_of runs_at on_done guard guard_at
    parse whole read_rule read_form after_head read_forms read_head after_tag item and_then
    is_stored_width is_width least_width largest_width is_tag is_input is_constant is_stored_code is_code is_count row_of rows has_two
    decode unsigned signed join_z of_last_z is_last_z shortest continued
    is_negative odd testbit halvings bit_length fits fill cons_bit of_bits bitwise bitwise_from bitwise_all bitwise_ands bitwise_xors xor floor_div
    shift_right shift_left mod_ℕ in_field set_field permute_field rotate_index rotate_bit_field within all_hold guard_each
    arg accepts domain_tests_from domain_tests results_of answer counted fixnum_tests checked outcome fixnum_answer answer_of
    first_failed first_failed_from minus
cases-evaluate = (refl, refl, refl, refl, refl, refl, refl, refl, refl, refl, refl, refl)
