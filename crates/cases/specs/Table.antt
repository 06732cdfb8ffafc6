-- 01's cases M1 to M14 as one table, for both parts. A row without a width stands there at width 24 and, where the limb part has
-- the operation, on limbs as well.
--   Row          ==  a call and its result
--   Reply        ==  all that a call gives back: an answer; an answer and the buffer afterwards; a number
--   given row    ==  what the call of the row gives back, by the definitions that the contracts cite
--   stated row   ==  what the row says
use Rattle.std.specs.Prelude.{ℕ, ◌&&◌, List, [], ◌∷◌, ◌++◌, ℤ, pos, neg_ℤ, length, drop}
use Rattle.fxtable.specs.declared.answer.Answer.{Answer}
use Rattle.fxtable.specs.Calls.{fixnum_answer}
use Rattle.limbstages.specs.declared.Written.{Written}
use Rattle.outcomes.specs.declared.number.Number.{Number}
use Rattle.outcomes.specs.Outcome.{Outcome}
use Rattle.outcomes.specs.Buffer.{afterwards}
use Rattle.limbstages.specs.Buffer.{stored, written}
use Rattle.outcomes.specs.Number.{number}
use Rattle.limbs.specs.Operations.{not_outcome, bitwise_outcome, shift_outcome, rotate_outcome, reverse_outcome, bit_count_outcome, length_outcome, first_bit_set_outcome}

-- fixnum: width, code, all arguments, refusal number, both results; writes: a limb call, the limbs of its result; counts: a limb call, the
-- number that it answers
pub data Row : Type 0 where
  fixnum : ℕ → ℕ → List ℤ → ℕ → ℤ → ℤ → Row
  writes : Outcome ℤ → List ℕ → Row
  counts : Outcome ℤ → ℤ → Row

pub data Reply : Type 0 where
  answered : Answer → Reply
  wrote : Written → List ℕ → Reply
  counted : Number → Reply

-- A limb call writes from limb 1 on into a buffer of four limbs, all 7.
abbrev sevens : List ℕ
sevens = 7 ∷ 7 ∷ 7 ∷ []

unfoldable pub given : Row → Reply
given (fixnum w code xs refusal first second) = answered (fixnum_answer w code xs (length xs))
given (writes outcome xs) = wrote (written outcome (7 ∷ sevens) 1) (afterwards (stored outcome (7 ∷ sevens) 1) (7 ∷ sevens) 1)
given (counts outcome n) = counted (number outcome)

-- No row is refused for an argument. The limbs before a result and after it stay the same.
unfoldable pub stated : Row → Reply
stated (fixnum w code xs refusal first second) = answered (record { refusal = refusal; first = first; second = second; place = 0 })
stated (writes outcome xs) = wrote (record { refusal = 0; length = length xs }) (7 ∷ xs ++ drop (length xs) sevens)
stated (counts outcome n) = counted (record { refusal = 0; value = n })

abbrev minus : ℕ → ℤ
minus n = neg_ℤ (pos n)

-- On limbs -n is the limb 2^32 - n.
unfoldable pub table : List Row
table =
    -- M1 rotate 0x1234, 4, 12, 4
    fixnum 24 40 (pos 0x1234 ∷ pos 4 ∷ pos 12 ∷ pos 4 ∷ []) 0 (pos 0x1324) (pos 0)
    ∷ writes (rotate_outcome (0x1234 ∷ []) (pos 4) (pos 12) (pos 4)) (0x1324 ∷ [])
    -- M2 reverse 82, 1, 4
    ∷ fixnum 24 41 (pos 82 ∷ pos 1 ∷ pos 4 ∷ []) 0 (pos 88) (pos 0)
    ∷ writes (reverse_outcome (82 ∷ []) (pos 1) (pos 4)) (88 ∷ [])
    -- M3 first-bit-set of 0; of -4
    ∷ fixnum 24 32 (pos 0 ∷ []) 0 (minus 1) (pos 0)
    ∷ fixnum 24 32 (minus 4 ∷ []) 0 (pos 2) (pos 0)
    ∷ counts (first_bit_set_outcome (0 ∷ [])) (minus 1)
    ∷ counts (first_bit_set_outcome (0xFFFFFFFC ∷ [])) (pos 2)
    -- M4 bit-count of -2; of -1
    ∷ fixnum 24 30 (minus 2 ∷ []) 0 (minus 2) (pos 0)
    ∷ fixnum 24 30 (minus 1 ∷ []) 0 (minus 1) (pos 0)
    ∷ counts (bit_count_outcome (0xFFFFFFFE ∷ [])) (minus 2)
    ∷ counts (bit_count_outcome (0xFFFFFFFF ∷ [])) (minus 1)
    -- M5 shift -23 by -2
    ∷ fixnum 24 37 (minus 23 ∷ minus 2 ∷ []) 0 (minus 6) (pos 0)
    ∷ writes (shift_outcome (0xFFFFFFE9 ∷ []) (minus 2)) (0xFFFFFFFA ∷ [])
    -- M6 length of -256; of -257
    ∷ fixnum 24 31 (minus 256 ∷ []) 0 (pos 8) (pos 0)
    ∷ fixnum 24 31 (minus 257 ∷ []) 0 (pos 9) (pos 0)
    ∷ counts (length_outcome (0xFFFFFF00 ∷ [])) (pos 8)
    ∷ counts (length_outcome (0xFFFFFEFF ∷ [])) (pos 9)
    -- M7 fx- of -8,388,608
    ∷ fixnum 24 15 (minus 8388608 ∷ []) 5 (pos 0) (pos 0)
    -- M8 +/carry 8,388,607, 1, 0
    ∷ fixnum 24 22 (pos 8388607 ∷ pos 1 ∷ pos 0 ∷ []) 0 (minus 8388608) (pos 1)
    -- M9 */carry 8,388,607 three times
    ∷ fixnum 24 24 (pos 8388607 ∷ pos 8388607 ∷ pos 8388607 ∷ []) 0 (minus 8388608) (pos 4194304)
    -- M10 -7 by 2: div, mod; div0, mod0
    ∷ fixnum 24 16 (minus 7 ∷ pos 2 ∷ []) 0 (minus 4) (pos 0)
    ∷ fixnum 24 17 (minus 7 ∷ pos 2 ∷ []) 0 (pos 1) (pos 0)
    ∷ fixnum 24 19 (minus 7 ∷ pos 2 ∷ []) 0 (minus 3) (pos 0)
    ∷ fixnum 24 20 (minus 7 ∷ pos 2 ∷ []) 0 (minus 1) (pos 0)
    -- M11 copy-bit 0, 23, 1
    ∷ fixnum 24 34 (pos 0 ∷ pos 23 ∷ pos 1 ∷ []) 0 (minus 8388608) (pos 0)
    -- M12 -8,388,608 by -1: div; mod
    ∷ fixnum 24 16 (minus 8388608 ∷ minus 1 ∷ []) 6 (pos 0) (pos 0)
    ∷ fixnum 24 17 (minus 8388608 ∷ minus 1 ∷ []) 0 (pos 0) (pos 0)
    -- M13 not of limbs 0x80000000, 0
    ∷ writes (not_outcome (0x80000000 ∷ 0 ∷ [])) (0x7FFFFFFF ∷ 0xFFFFFFFF ∷ [])
    -- M14 and of limb 0xFFFFFFFF with limbs 0, 1
    ∷ writes (bitwise_outcome ◌&&◌ (0xFFFFFFFF ∷ []) (0 ∷ 1 ∷ [])) (0 ∷ 1 ∷ [])
    ∷ []
