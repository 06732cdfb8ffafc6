-- Each exception of the statement of two widths is real: calls that widths 24 and 25 answer differently, computed from the definitions.
-- Assumes nothing.
use Prim.Native.Nat.{ℕ}
use mathlib.Core.Path.{◌≡◌, refl}
use mathlib.Core.List.{[], ◌∷◌}
use lib.IntN.{ℤ, pos, neg_ℤ}
use Rattle.bits.specs.Testbit.{odd, testbit, cons_bit, of_bits, fits}
use Rattle.bits.specs.Shift.{floor_div, shift_right}
use Rattle.bits.specs.Division.{div, mod_ℕ, «mod», div0, mod0}
use Rattle.bits.specs.Field.{in_field, set_field, copy_bit_field, copy_bit}
use Rattle.bits.specs.Range.{within}
use Rattle.outcomes.specs.Outcome.{done, guard, guard_at}
use Rattle.outcomes.specs.Tests.{all_hold, first_failed_from, first_failed, guard_each}
use Rattle.fxtable.specs.Domains.{least_width, largest_width, is_width, arg, accepts, domain_tests_from, domain_tests}
use Rattle.fxtable.specs.Operations.{results_of, parts_of}
use Rattle.fxtable.specs.Table.{rows, is_code, row_of}
use Rattle.fxtable.specs.Calls.{answer, counted, is_count, fixnum_tests, checked, outcome, fixnum_answer}

abbrev GivesTwo : ℕ → ℕ → ℤ → ℤ → ℤ → ℤ → ℤ → Type 0
GivesTwo w code x y z first second = fixnum_answer w code (x ∷ y ∷ z ∷ []) 3 ≡ answer (done (first, second))

abbrev neg : ℕ → ℤ
neg n = neg_ℤ (pos n)

pub cases-widths :
    GivesTwo 24 22 (pos 8388607) (pos 1) (pos 0) (neg 8388608) (pos 1) × GivesTwo 25 22 (pos 8388607) (pos 1) (pos 0) (pos 8388608) (pos 0)
    × GivesTwo 24 23 (neg 8388608) (pos 1) (pos 0) (pos 8388607) (neg 1) × GivesTwo 25 23 (neg 8388608) (pos 1) (pos 0) (neg 8388609) (pos 0)
    × GivesTwo 24 24 (pos 4096) (pos 4096) (pos 0) (pos 0) (pos 1) × GivesTwo 25 24 (pos 4096) (pos 4096) (pos 0) (neg 16777216) (pos 1)
    × GivesTwo 24 34 (pos 0) (pos 23) (pos 1) (neg 8388608) (pos 0) × GivesTwo 25 34 (pos 0) (pos 23) (pos 1) (pos 8388608) (pos 0)
    × GivesTwo 24 34 (neg 1) (pos 23) (pos 0) (pos 8388607) (pos 0) × GivesTwo 25 34 (neg 1) (pos 23) (pos 0) (neg 8388609) (pos 0)
unfolding odd testbit cons_bit of_bits fits floor_div shift_right div mod_ℕ «mod» div0 mod0 in_field set_field copy_bit_field copy_bit within
    guard guard_at all_hold first_failed_from first_failed guard_each answer least_width largest_width is_width arg accepts domain_tests_from domain_tests
    results_of parts_of rows is_code row_of counted is_count fixnum_tests checked outcome fixnum_answer
cases-widths = (refl, refl, refl, refl, refl, refl, refl, refl, refl, refl)
