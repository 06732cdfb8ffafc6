-- The calls on samples, computed from the definitions: bits in, bits out. Assumes nothing.
use Rattle.std.proofs.Common.{◌≡◌, ℕ, List, [], ◌∷◌, map, pos, negsuc, refl}
use lib.Ieee.{Float, binary64, round, of_int, of_bits, to_bits, is_nan, lt}
use Rattle.bits.specs.Testbit.{fits}
use Rattle.fxtable.specs.Domains.{least_width, largest_width, is_width}
use Rattle.outcomes.specs.Outcome.{guard, guard_at}
use Rattle.flonum.specs.declared.answer.FlatAnswer.{FlatAnswer}
use Rattle.flonum.specs.declared.extremes.ExtremesAnswer.{ExtremesAnswer}
use Rattle.flonum.specs.Rounding.{rounded_up, magnitude, rounded, flfloor, flceiling, fltruncate, flround, clear_sign}
use Rattle.flonum.specs.Extremes.{above, kept, extend, extend_all, extremes}
use Rattle.flonum.specs.Calls.{flat, flonum_answer, fixnum_to_flonum, truth, is_count, extremes_of, extremes_answer}

abbrev on_bits : (Float → Float) → List ℕ → List ℕ
on_bits f bs = map (λ (b : ℕ). to_bits binary64 (f (of_bits binary64 b))) bs

-- 0.5, 1.5 and 2.5 with either sign; the flonums next to 0.5 and -0.5 toward zero; -0.0 and 0.0; 2^52 - 1/2 and 2^52 + 1; the smallest with either sign; the largest
abbrev samples : List ℕ
samples = 0x3FE0000000000000 ∷ 0xBFE0000000000000 ∷ 0x3FF8000000000000 ∷ 0xBFF8000000000000 ∷ 0x4004000000000000 ∷ 0xC004000000000000 ∷ 0x3FDFFFFFFFFFFFFF ∷ 0xBFDFFFFFFFFFFFFF ∷ 0x8000000000000000 ∷ 0x0000000000000000 ∷ 0x432FFFFFFFFFFFFF ∷ 0x4330000000000001 ∷ 0x0000000000000001 ∷ 0x8000000000000001 ∷ 0x7FEFFFFFFFFFFFFF ∷ []

pub cases-flfloor : on_bits flfloor samples ≡ 0x0000000000000000 ∷ 0xBFF0000000000000 ∷ 0x3FF0000000000000 ∷ 0xC000000000000000 ∷ 0x4000000000000000 ∷ 0xC008000000000000 ∷ 0x0000000000000000 ∷ 0xBFF0000000000000 ∷ 0x8000000000000000 ∷ 0x0000000000000000 ∷ 0x432FFFFFFFFFFFFE ∷ 0x4330000000000001 ∷ 0x0000000000000000 ∷ 0xBFF0000000000000 ∷ 0x7FEFFFFFFFFFFFFF ∷ []
unfolding flfloor rounded magnitude rounded_up round of_bits to_bits
cases-flfloor = refl

pub cases-flceiling : on_bits flceiling samples ≡ 0x3FF0000000000000 ∷ 0x8000000000000000 ∷ 0x4000000000000000 ∷ 0xBFF0000000000000 ∷ 0x4008000000000000 ∷ 0xC000000000000000 ∷ 0x3FF0000000000000 ∷ 0x8000000000000000 ∷ 0x8000000000000000 ∷ 0x0000000000000000 ∷ 0x4330000000000000 ∷ 0x4330000000000001 ∷ 0x3FF0000000000000 ∷ 0x8000000000000000 ∷ 0x7FEFFFFFFFFFFFFF ∷ []
unfolding flceiling rounded magnitude rounded_up round of_bits to_bits
cases-flceiling = refl

pub cases-fltruncate : on_bits fltruncate samples ≡ 0x0000000000000000 ∷ 0x8000000000000000 ∷ 0x3FF0000000000000 ∷ 0xBFF0000000000000 ∷ 0x4000000000000000 ∷ 0xC000000000000000 ∷ 0x0000000000000000 ∷ 0x8000000000000000 ∷ 0x8000000000000000 ∷ 0x0000000000000000 ∷ 0x432FFFFFFFFFFFFE ∷ 0x4330000000000001 ∷ 0x0000000000000000 ∷ 0x8000000000000000 ∷ 0x7FEFFFFFFFFFFFFF ∷ []
unfolding fltruncate rounded magnitude rounded_up round of_bits to_bits
cases-fltruncate = refl

pub cases-flround : on_bits flround samples ≡ 0x0000000000000000 ∷ 0x8000000000000000 ∷ 0x4000000000000000 ∷ 0xC000000000000000 ∷ 0x4000000000000000 ∷ 0xC000000000000000 ∷ 0x0000000000000000 ∷ 0x8000000000000000 ∷ 0x8000000000000000 ∷ 0x0000000000000000 ∷ 0x4330000000000000 ∷ 0x4330000000000001 ∷ 0x0000000000000000 ∷ 0x8000000000000000 ∷ 0x7FEFFFFFFFFFFFFF ∷ []
unfolding flround rounded magnitude rounded_up round of_bits to_bits
cases-flround = refl

-- a NaN of any payload and sign, and infinities
abbrev specials : List ℕ
specials = 0x7FF0000000000001 ∷ 0xFFF8000000000000 ∷ 0xFFFFFFFFFFFFFFFF ∷ 0x7FF0000000000000 ∷ 0xFFF0000000000000 ∷ []

pub cases-specials : on_bits flround specials ≡ 0x7FF8000000000000 ∷ 0x7FF8000000000000 ∷ 0x7FF8000000000000 ∷ 0x7FF0000000000000 ∷ 0xFFF0000000000000 ∷ []
unfolding flround rounded of_bits to_bits
cases-specials = refl

pub cases-flabs : on_bits clear_sign (0xFFF8000000000001 ∷ 0xFFF0000000000000 ∷ 0x8000000000000000 ∷ 0xC004000000000000 ∷ []) ≡ 0x7FF8000000000000 ∷ 0x7FF0000000000000 ∷ 0 ∷ 0x4004000000000000 ∷ []
unfolding clear_sign of_bits to_bits
cases-flabs = refl

pub cases-questions : map (λ (b : ℕ). (flat (truth (is_nan (of_bits binary64 b)))).fixnum) specials ≡ pos 1 ∷ pos 1 ∷ pos 1 ∷ pos 0 ∷ pos 0 ∷ []
unfolding flat truth is_nan of_bits
cases-questions = refl

-- refusal, kind and bits
abbrev told : FlatAnswer → List ℕ
told a = a.refusal ∷ a.kind ∷ to_bits binary64 a.flonum ∷ []

-- the ends of width 24; widths outside; 0; 2^53 + 1 and 2^53 + 3, which are ties; the ends of width 64; a tie below 2^63, and the number before it
pub cases-fixnum->flonum :
    (told (flat (fixnum_to_flonum 24 (pos 8388607))) ≡ 0 ∷ 2 ∷ 0x415FFFFFC0000000 ∷ [])
    × (told (flat (fixnum_to_flonum 24 (pos 8388608))) ≡ 4 ∷ 0 ∷ 0 ∷ [])
    × (told (flat (fixnum_to_flonum 24 (negsuc 8388607))) ≡ 0 ∷ 2 ∷ 0xC160000000000000 ∷ [])
    × (told (flat (fixnum_to_flonum 24 (negsuc 8388608))) ≡ 4 ∷ 0 ∷ 0 ∷ [])
    × (told (flat (fixnum_to_flonum 23 (pos 0))) ≡ 1 ∷ 0 ∷ 0 ∷ [])
    × (told (flat (fixnum_to_flonum 65 (pos 0))) ≡ 1 ∷ 0 ∷ 0 ∷ [])
    × (told (flat (fixnum_to_flonum 64 (pos 0))) ≡ 0 ∷ 2 ∷ 0 ∷ [])
    × (told (flat (fixnum_to_flonum 64 (pos 9007199254740993))) ≡ 0 ∷ 2 ∷ 0x4340000000000000 ∷ [])
    × (told (flat (fixnum_to_flonum 64 (pos 9007199254740995))) ≡ 0 ∷ 2 ∷ 0x4340000000000002 ∷ [])
    × (told (flat (fixnum_to_flonum 64 (negsuc 9007199254740992))) ≡ 0 ∷ 2 ∷ 0xC340000000000000 ∷ [])
    × (told (flat (fixnum_to_flonum 64 (pos 9223372036854775807))) ≡ 0 ∷ 2 ∷ 0x43E0000000000000 ∷ [])
    × (told (flat (fixnum_to_flonum 64 (negsuc 9223372036854775807))) ≡ 0 ∷ 2 ∷ 0xC3E0000000000000 ∷ [])
    × (told (flat (fixnum_to_flonum 64 (pos 9223372036854775295))) ≡ 0 ∷ 2 ∷ 0x43DFFFFFFFFFFFFF ∷ [])
    × (told (flat (fixnum_to_flonum 64 (pos 9223372036854775296))) ≡ 0 ∷ 2 ∷ 0x43E0000000000000 ∷ [])
unfolding flat flonum_answer fixnum_to_flonum is_width least_width largest_width fits guard guard_at of_int to_bits
cases-fixnum->flonum = (refl, refl, refl, refl, refl, refl, refl, refl, refl, refl, refl, refl, refl, refl)

abbrev pair : ExtremesAnswer → List ℕ
pair a = a.refusal ∷ to_bits binary64 a.values.smallest ∷ to_bits binary64 a.values.largest ∷ []

abbrev asked : List ℕ → ℕ → List ℕ
asked bs n = pair (extremes_answer (map (of_bits binary64) bs) n)

-- zeros in both orders; equal numbers; a NaN past the count, and one that counts; counts of 0 and 5
pub cases-flextremes :
    (asked (0x8000000000000000 ∷ 0 ∷ 0 ∷ 0 ∷ []) 2 ≡ 0 ∷ 0x8000000000000000 ∷ 0x8000000000000000 ∷ [])
    × (asked (0 ∷ 0x8000000000000000 ∷ 0 ∷ 0 ∷ []) 2 ≡ 0 ∷ 0 ∷ 0 ∷ [])
    × (asked (0x3FF0000000000000 ∷ 0xBFF0000000000000 ∷ 0x4000000000000000 ∷ 0xBFF0000000000000 ∷ []) 4 ≡ 0 ∷ 0xBFF0000000000000 ∷ 0x4000000000000000 ∷ [])
    × (asked (0x3FF0000000000000 ∷ 0x7FF0000000000000 ∷ 0xFFF0000000000001 ∷ 0 ∷ []) 2 ≡ 0 ∷ 0x3FF0000000000000 ∷ 0x7FF0000000000000 ∷ [])
    × (asked (0x3FF0000000000000 ∷ 0x7FF0000000000000 ∷ 0xFFF0000000000001 ∷ 0 ∷ []) 3 ≡ 0 ∷ 0x7FF8000000000000 ∷ 0x7FF8000000000000 ∷ [])
    × (asked (0x3FF0000000000000 ∷ 0 ∷ 0 ∷ 0 ∷ []) 0 ≡ 3 ∷ 0 ∷ 0 ∷ [])
    × (asked (0x3FF0000000000000 ∷ 0 ∷ 0 ∷ 0 ∷ []) 5 ≡ 3 ∷ 0 ∷ 0 ∷ [])
unfolding extremes_answer extremes_of is_count extremes extend_all extend kept above is_nan lt guard guard_at of_bits to_bits
cases-flextremes = (refl, refl, refl, refl, refl, refl, refl)
