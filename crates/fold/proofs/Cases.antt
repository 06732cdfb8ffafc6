-- Cases of the fold's calls, computed from the definitions: identifiers, refused openings, records that are not open, pieces. Assumes nothing.
use Prim.Native.Nat.{ℕ}
use mathlib.Core.Path.{◌≡◌, refl}
use mathlib.Core.Bool.{xor}
use mathlib.Core.List.{List, [], ◌∷◌}
use lib.IntN.{ℤ, pos, neg_ℤ}
use Rattle.bits.specs.Testbit.{is_negative, odd, testbit, halvings, bit_length, fits, fill, cons_bit, of_bits}
use Rattle.bits.specs.Logical.{bitwise, bitwise_from, bitwise_all, bitwise_xors}
use Rattle.bits.specs.Shift.{floor_div, shift_right}
use Rattle.bits.specs.Division.{mod_ℕ}
use Rattle.bits.specs.Field.{in_field, set_field, permute_field, rotate_index, rotate_bit_field}
use Rattle.bits.specs.Range.{within}
use Rattle.outcomes.specs.Outcome.{done, refuse, guard, guard_at}
use Rattle.outcomes.specs.Tests.{all_hold, first_failed_from, first_failed, guard_each}
use Rattle.fxtable.specs.Domains.{least_width, largest_width, is_width, arg, accepts, domain_tests_from, domain_tests}
use Rattle.fxtable.specs.Operations.{results_of}
use Rattle.fxtable.specs.Table.{rows, is_code, row_of}
use Rattle.fxtable.specs.Calls.{answer, counted, is_count, fixnum_tests, checked, outcome, fixnum_answer, answer_of}
use Rattle.fold.specs.declared.Fold.{Fold}
use Rattle.fold.specs.Fold.{settings, with_accumulator, rotation, is_open, xored, fold_byte, fold_bytes}
use Rattle.fold.specs.Calls.{zeros, opened, opening, after, folding, read_outcome, identifier, net_count, joined, joining}

abbrev neg : ℕ → ℤ
neg n = neg_ℤ (pos n)

-- "abc"
abbrev abc : List ℕ
abc = 97 ∷ 98 ∷ 99 ∷ []

-- width 24, field 0 to 23, count 5
abbrev at : ℤ → Fold
at a = settings 24 (pos 0) (pos 23) (pos 5) a

-- opening with these fields, in the order of their places, gives this refusal for this place, and a record of zeros
abbrev Refuses : ℕ → ℤ → ℤ → ℤ → ℤ → ℕ → ℕ → Type 0
Refuses w a start end count refusal place =
    opening (settings w start end count a) ≡ record { opened = record { refusal = refusal; place = place }; fold = zeros }

pub cases-identifiers :
    (identifier 24 (pos 0) (pos 23) (pos 5) (pos 0) abc ≡ done (pos 100387))
    -- the rotation comes first, and then the xor
    × (identifier 24 (pos 0) (pos 23) (pos 1) (pos 1) (0 ∷ []) ≡ done (pos 2))
    × (identifier 24 (pos 0) (pos 23) (pos 1) (pos 0) (1 ∷ []) ≡ done (pos 1))
    -- fields inside the width, and negative accumulators
    × (identifier 24 (pos 3) (pos 17) (pos 4) (neg 5) (0xff ∷ 0x80 ∷ 0x01 ∷ []) ≡ done (neg 61443))
    × (identifier 24 (pos 2) (pos 23) (pos 7) (neg 8388608) (0xff ∷ 0x80 ∷ 0x01 ∷ []) ≡ done (neg 4243454))
    × (identifier 64 (pos 0) (pos 63) (pos 13) (neg 9223372036854775808) (1 ∷ 2 ∷ 3 ∷ 4 ∷ 5 ∷ 6 ∷ 7 ∷ 8 ∷ 9 ∷ [])
    ≡ done (neg 9200852938199629799))
    -- a full rotation and an empty field leave the xor of the bytes
    × (identifier 24 (pos 0) (pos 23) (pos 23) (pos 0x123456) abc ≡ done (pos 0x123436))
    × (identifier 24 (pos 7) (pos 7) (pos 0) (pos 0x123456) abc ≡ done (pos 0x123436))
    -- no bytes
    × (identifier 24 (pos 0) (pos 23) (pos 5) (neg 1) [] ≡ done (neg 1))
    -- a refused opening
    × (identifier 24 (pos 0) (pos 24) (pos 5) (pos 0) abc ≡ refuse 9)
    -- chunks
    × (folding (folding (folding (at (pos 0)) (97 ∷ [])).fold []).fold (98 ∷ 99 ∷ []) ≡ after 0 (at (pos 100387)))
unfolding is_negative odd testbit halvings bit_length fits fill cons_bit of_bits bitwise bitwise_from bitwise_all bitwise_xors xor floor_div
    shift_right mod_ℕ in_field set_field permute_field rotate_index rotate_bit_field within guard guard_at all_hold guard_each least_width
    largest_width is_width arg accepts domain_tests_from domain_tests results_of rows is_code row_of answer counted is_count fixnum_tests checked
    outcome fixnum_answer answer_of settings with_accumulator rotation is_open xored fold_byte fold_bytes zeros opened opening after folding
    read_outcome identifier
cases-identifiers = (refl, refl, refl, refl, refl, refl, refl, refl, refl, refl, refl)

pub cases-refused :
    -- the width
    Refuses 23 (pos 0) (pos 0) (pos 5) (pos 1) 1 0
    × Refuses 65 (pos 0) (pos 0) (pos 5) (pos 1) 1 0
    -- a field that is no fixnum, before one that is outside its domain
    × Refuses 24 (pos 8388608) (neg 1) (pos 24) (pos 8388608) 4 1
    × Refuses 24 (pos 0) (pos 8388608) (pos 8388608) (pos 1) 4 2
    × Refuses 24 (pos 0) (neg 1) (neg 8388609) (pos 1) 4 3
    × Refuses 24 (pos 0) (neg 1) (pos 24) (pos 8388608) 4 4
    -- the start, the end, the count
    × Refuses 24 (pos 0) (neg 1) (pos 24) (pos 1) 5 2
    × Refuses 24 (pos 0) (pos 24) (pos 23) (pos 0) 5 2
    × Refuses 24 (pos 0) (pos 3) (pos 24) (neg 1) 5 3
    × Refuses 24 (pos 0) (pos 5) (pos 4) (pos 0) 5 3
    × Refuses 24 (pos 0) (pos 5) (pos 9) (neg 1) 5 4
    × Refuses 24 (pos 0) (pos 5) (pos 9) (pos 5) 5 4
    -- an opening that is done
    × (opening (at (pos 7)) ≡ record { opened = record { refusal = 0; place = 0 }; fold = at (pos 7) })
    -- a record that is not open takes no chunk, empty or not, no piece and no reading
    × (folding zeros abc ≡ after 9 zeros)
    × (folding (at (pos 8388608)) [] ≡ after 9 (at (pos 8388608)))
    × (joining zeros (pos 0) 0 ≡ after 9 zeros)
    × (read_outcome zeros ≡ refuse 9)
unfolding fits within guard guard_at all_hold first_failed_from first_failed guard_each least_width largest_width is_width arg accepts
    domain_tests_from domain_tests rows is_code row_of answer counted is_count fixnum_tests checked outcome fixnum_answer answer_of settings
    rotation is_open zeros opened opening after folding read_outcome joining
cases-refused = (refl, refl, refl, refl, refl, refl, refl, refl, refl, refl, refl, refl, refl, refl, refl, refl, refl)

pub cases-pieces :
    -- "ab", and the piece "cdef"
    (joining (at (pos 3138)) (pos 3153094) 4 ≡ after 0 (at (pos 1056078)))
    -- a net count of 0: of 23 bytes, and of any number of bytes where the count is the size
    × (joining (at (pos 3138)) (pos 1) 23 ≡ after 0 (at (pos 3139)))
    × (joining (settings 24 (pos 0) (pos 23) (pos 23) (pos 6)) (pos 1) 18446744073709551614 ≡ after 0 (settings 24 (pos 0) (pos 23) (pos 23) (pos 7)))
    -- a field that does not begin at 0: five rotations by 4 are one by 6
    × (joining (settings 24 (pos 3) (pos 17) (pos 4) (pos 74565)) (pos 1154) 5 ≡ after 0 (settings 24 (pos 3) (pos 17) (pos 4) (pos 54695)))
    -- an empty field
    × (joining (settings 24 (pos 7) (pos 7) (pos 0) (pos 6)) (neg 1) 5 ≡ after 0 (settings 24 (pos 7) (pos 7) (pos 0) (neg 7)))
    -- a piece that is no fixnum
    × (joining (at (pos 3138)) (pos 8388608) 4 ≡ after 4 (at (pos 3138)))
unfolding is_negative odd testbit halvings bit_length fits fill cons_bit of_bits bitwise bitwise_from bitwise_all bitwise_xors xor floor_div
    shift_right mod_ℕ in_field set_field permute_field rotate_index rotate_bit_field within guard guard_at all_hold guard_each least_width
    largest_width is_width arg accepts domain_tests_from domain_tests results_of rows is_code row_of answer counted is_count fixnum_tests checked
    outcome fixnum_answer answer_of settings with_accumulator rotation is_open after net_count joined joining
cases-pieces = (refl, refl, refl, refl, refl, refl)
