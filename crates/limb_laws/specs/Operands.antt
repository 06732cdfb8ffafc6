-- Which limbs the calls accept, and what they write. and, ior and xor are one call here, by the Boolean operation.
--   Call               ==  a call that writes limbs, with its operands and its numbers
--   Question           ==  a call that answers a number; `word` is the integer as one signed word, which conversion to a fixnum asks for
--   operands_of call    ==  its operands; of a question, operands_in
--   outcome_of call     ==  its outcome, as the contract of the call has it; of a question, outcome_in
--   are_legal xs        ==  whether each of them is a legal operand
--   AllWords xs        ==  each limb of each of them has 32 bits
--   OperandStatement   ==  what a user who hands results on relies on
use Rattle.std.specs.Prelude.{ℕ, ◌≡◌, Bool, true, false, not, ◌&&◌, List, [], ◌∷◌, map, eqb, ℤ}
use Rattle.outcomes.specs.Outcome.{Outcome}
use Rattle.outcomes.specs.Number.{number}
use Rattle.limbwords.specs.Value.{value}
use Rattle.limbstages.specs.Stages.{is_operand}
use Rattle.limbs.specs.Operations as operations
use Rattle.limb_laws.specs.Replies.{Output, reply_to, limbs_in, Words, Legal}

pub data Call : Type 0 where
  bitwise_not : List ℕ → Call
  bitwise : (Bool → Bool → Bool) → List ℕ → List ℕ → Call
  bitwise_if : List ℕ → List ℕ → List ℕ → Call
  copy_bit : List ℕ → ℤ → ℤ → Call
  bit_field : List ℕ → ℤ → ℤ → Call
  copy_bit_field : List ℕ → ℤ → ℤ → List ℕ → Call
  shift : List ℕ → ℤ → Call
  shift_left : List ℕ → ℤ → Call
  shift_right : List ℕ → ℤ → Call
  rotate : List ℕ → ℤ → ℤ → ℤ → Call
  reverse : List ℕ → ℤ → ℤ → Call

pub data Question : Type 0 where
  bit_count : List ℕ → Question
  bit_length : List ℕ → Question
  first_bit_set : List ℕ → Question
  bit_set : List ℕ → ℤ → Question
  word : List ℕ → Question

unfoldable pub operands_of : Call → List (List ℕ)
operands_of (bitwise_not x) = x ∷ []
operands_of (bitwise op x y) = x ∷ y ∷ []
operands_of (bitwise_if x y z) = x ∷ y ∷ z ∷ []
operands_of (copy_bit x position bit) = x ∷ []
operands_of (bit_field x start end) = x ∷ []
operands_of (copy_bit_field x start end y) = x ∷ y ∷ []
operands_of (shift x distance) = x ∷ []
operands_of (shift_left x distance) = x ∷ []
operands_of (shift_right x distance) = x ∷ []
operands_of (rotate x start end count) = x ∷ []
operands_of (reverse x start end) = x ∷ []

unfoldable pub operands_in : Question → List (List ℕ)
operands_in (bit_count x) = x ∷ []
operands_in (bit_length x) = x ∷ []
operands_in (first_bit_set x) = x ∷ []
operands_in (bit_set x position) = x ∷ []
operands_in (word x) = x ∷ []

unfoldable pub outcome_of : Call → Outcome ℤ
outcome_of (bitwise_not x) = operations.not_outcome x
outcome_of (bitwise op x y) = operations.bitwise_outcome op x y
outcome_of (bitwise_if x y z) = operations.if_outcome x y z
outcome_of (copy_bit x position bit) = operations.copy_bit_outcome x position bit
outcome_of (bit_field x start end) = operations.bit_field_outcome x start end
outcome_of (copy_bit_field x start end y) = operations.copy_bit_field_outcome x start end y
outcome_of (shift x distance) = operations.shift_outcome x distance
outcome_of (shift_left x distance) = operations.shift_left_outcome x distance
outcome_of (shift_right x distance) = operations.shift_right_outcome x distance
outcome_of (rotate x start end count) = operations.rotate_outcome x start end count
outcome_of (reverse x start end) = operations.reverse_outcome x start end

unfoldable pub outcome_in : Question → Outcome ℤ
outcome_in (bit_count x) = operations.bit_count_outcome x
outcome_in (bit_length x) = operations.length_outcome x
outcome_in (first_bit_set x) = operations.first_bit_set_outcome x
outcome_in (bit_set x position) = operations.bit_set_outcome x position
outcome_in (word x) = operations.word_outcome x

unfoldable pub are_legal : List (List ℕ) → Bool
are_legal [] = true
are_legal (x ∷ xs) = is_operand x && are_legal xs

unfoldable pub AllWords : List (List ℕ) → Type 0
AllWords [] = Unit {0}
AllWords (x ∷ xs) = Words x × AllWords xs

pub record OperandStatement : Type 0 where
  -- a call is refused by 7 exactly where one of its operands is not legal, whatever its numbers and its output are
  pub calls : (call : Call) (p : Output) → eqb (reply_to (outcome_of call) p).answer.refusal 7 ≡ not (are_legal (operands_of call))
  pub questions : (question : Question) → eqb (number (outcome_in question)).refusal 7 ≡ not (are_legal (operands_in question))
  -- what a done call has written is legal, so every call accepts it
  pub results : (call : Call) (p : Output) → (reply_to (outcome_of call) p).answer.refusal ≡ 0 → Legal (limbs_in (reply_to (outcome_of call) p) p)
  -- calls that are not refused by 7, and whose operands have the same values, have the same operands, limb by limb
  pub spellings : (call call' : Call) (p p' : Output) → AllWords (operands_of call) → AllWords (operands_of call')
      → eqb (reply_to (outcome_of call) p).answer.refusal 7 ≡ false → eqb (reply_to (outcome_of call') p').answer.refusal 7 ≡ false
      → map value (operands_of call) ≡ map value (operands_of call') → operands_of call ≡ operands_of call'
