-- A call is refused by 7 exactly where one of its operands is not legal, and what a done call has written is legal. Assumes nothing.
use Prim.Native.Nat.{ℕ, ◌-◌}
use native.Mathlib.Omega.{arith}
use mathlib.Core.Path.{◌≡◌, refl, sym, ap, ap₂, ◌∙◌}
use mathlib.Core.Bool.{Bool, true, false, cond, not, ◌&&◌}
use mathlib.Core.List.{List, [], ◌∷◌, map}
use lib.Dec.{eqb, leb}
use lib.IntN.{ℤ, pos}
use lib.ListN.{length}
use lib.Signed.{le_z}
use borrow.Author.Tests.{not-false}
use Rattle.bits.specs.Testbit.{fits}
use Rattle.bits.proofs.Booleans.{both_left, both_right}
use Rattle.outcomes.specs.Outcome.{Outcome, refused, done, guard, guard_at, map_done, refusal_of}
use Rattle.outcomes.specs.Buffer.{fitted}
use Rattle.outcomes.specs.Number.{number}
use Rattle.limbwords.specs.Value.{value, limb_count}
use Rattle.limbstages.specs.Buffer.{stored, written}
use Rattle.limbstages.specs.Stages.{most_limbs, is_operand, operand, natural, is_field, field, is_new_bit, new_bit, sized}
use Rattle.limbs.specs.Operations.{not_outcome, bitwise_outcome, if_outcome, copy_bit_outcome, bit_field_outcome, copy_bit_field_outcome, shift_outcome, shift_left_outcome, shift_right_outcome, rotate_outcome, reverse_outcome, bit_count_outcome, length_outcome, first_bit_set_outcome, bit_set_outcome, word_outcome}
use Rattle.limb_laws.specs.Replies.{Output, reply_to, Legal}
use Rattle.limb_laws.specs.Operands.{Call, Question, operands_of, operands_in, outcome_of, outcome_in, are_legal, AllWords, OperandStatement}
use Rattle.limb_laws.specs.Operands.Call.{bitwise_not, bitwise, bitwise_if, copy_bit, bit_field, copy_bit_field, shift, shift_left, shift_right, rotate, reverse}
use Rattle.limb_laws.specs.Operands.Question.{bit_count, bit_length, first_bit_set, bit_set, word}
use Rattle.limb_laws.proofs.LegalLaws.{legal-unique, refusal-by-room}
use Rattle.limb_laws.proofs.Results.{result-legal}

-- whether an outcome is refused by 7
abbrev seven : Outcome ℤ → Bool
seven o = eqb (refusal_of o) 7

-- the stage of an operand, and a stage with another number
operand-seven : (x : List ℕ) (xs : List (List ℕ)) (o : Outcome ℤ) → seven o ≡ not (are_legal xs) → seven (operand x o) ≡ not (are_legal (x ∷ xs))
unfolding operand are_legal guard guard_at refusal_of
operand-seven x xs o e = go (is_operand x)
  where
    go : (b : Bool) → seven (guard b 7 o) ≡ not (b && are_legal xs)
    go true = e
    go false = refl

no_seven : (t : Bool) (k : ℕ) (o : Outcome ℤ) → eqb k 7 ≡ false → seven o ≡ false → seven (guard t k o) ≡ false
unfolding guard guard_at refusal_of
no_seven true k o e f = f
no_seven false k o e f = e

-- what comes after the operands
natural-seven : (n z : ℤ) → seven (natural n (done z)) ≡ false
unfolding natural refusal_of
natural-seven n z = no_seven (le_z (pos 0) n) 5 (done z) refl refl

field-seven : (start end : ℤ) (o : Outcome ℤ) → seven o ≡ false → seven (field start end o) ≡ false
unfolding field
field-seven start end o e = no_seven (is_field start end) 5 o refl e

sized-seven : (z : ℤ) → seven (sized z) ≡ false
unfolding sized refusal_of
sized-seven z = no_seven (leb (limb_count z) most_limbs) 6 (done z) refl refl

-- every call
outcome-seven : (call : Call) → seven (outcome_of call) ≡ not (are_legal (operands_of call))
unfolding outcome_of operands_of refusal_of are_legal natural new_bit not_outcome bitwise_outcome if_outcome copy_bit_outcome bit_field_outcome copy_bit_field_outcome shift_outcome shift_left_outcome
    shift_right_outcome rotate_outcome reverse_outcome
outcome-seven (bitwise_not x) = operand-seven x [] _ refl
outcome-seven (bitwise op x y) = operand-seven x (y ∷ []) _ (operand-seven y [] _ refl)
outcome-seven (bitwise_if x y z) = operand-seven x (y ∷ z ∷ []) _ (operand-seven y (z ∷ []) _ (operand-seven z [] _ refl))
outcome-seven (copy_bit x position bit) = operand-seven x [] _ (no_seven (is_new_bit position bit) 5 _ refl refl)
outcome-seven (bit_field x start end) = operand-seven x [] _ (field-seven start end _ refl)
outcome-seven (copy_bit_field x start end y) = operand-seven x (y ∷ []) _ (operand-seven y [] _ (field-seven start end _ refl))
outcome-seven (shift x distance) = operand-seven x [] _ (sized-seven _)
outcome-seven (shift_left x distance) = operand-seven x [] _ (no_seven (le_z (pos 0) distance) 5 _ refl (sized-seven _))
outcome-seven (shift_right x distance) = operand-seven x [] _ (natural-seven distance _)
outcome-seven (rotate x start end count) = operand-seven x [] _ (field-seven start end _ (natural-seven count _))
outcome-seven (reverse x start end) = operand-seven x [] _ (field-seven start end _ refl)

question-seven : (question : Question) → seven (outcome_in question) ≡ not (are_legal (operands_in question))
unfolding outcome_in operands_in refusal_of are_legal natural bit_count_outcome length_outcome first_bit_set_outcome bit_set_outcome word_outcome
question-seven (bit_count x) = operand-seven x [] _ refl
question-seven (bit_length x) = operand-seven x [] _ refl
question-seven (first_bit_set x) = operand-seven x [] _ refl
question-seven (bit_set x position) = operand-seven x [] _ (natural-seven position _)
question-seven (word x) = operand-seven x [] _ (no_seven (fits 64 (value x)) 6 _ refl refl)

-- the answer of a call that writes, and of one that does not
written-seven : (o : Outcome ℤ) (p : Output) → eqb (reply_to o p).answer.refusal 7 ≡ seven o
unfolding reply_to written stored map_done refusal_of fitted
written-seven (refused k detail) p = refl
written-seven (done z) p =
    ap (λ (n : ℕ). eqb n 7) (refusal-by-room p z) ∙ go (leb (limb_count z) (length p.buffer - p.first))
  where
    go : (t : Bool) → eqb (cond t 0 8) 7 ≡ false
    go true = refl
    go false = refl

number-seven : (o : Outcome ℤ) → eqb (number o).refusal 7 ≡ seven o
unfolding number refusal_of
number-seven (refused k detail) = refl
number-seven (done z) = refl

-- ---- operands with the same values

same-spellings : (xs ys : List (List ℕ)) → AllWords xs → AllWords ys → are_legal xs ≡ true → are_legal ys ≡ true → map value xs ≡ map value ys → xs ≡ ys
unfolding AllWords are_legal
same-spellings [] [] u v l m e = refl
same-spellings [] (y ∷ ys) u v l m e = absurd (omega (arith, ap length e))
same-spellings (x ∷ xs) [] u v l m e = absurd (omega (arith, ap length e))
same-spellings (x ∷ xs) (y ∷ ys) u v l m e =
    let first : value x ≡ value y = cc e in
    let others : map value xs ≡ map value ys = cc e in
    let legal : Legal x = record { words = u.0; accepted = both_left (is_operand x) (are_legal xs) l } in
    let legal' : Legal y = record { words = v.0; accepted = both_left (is_operand y) (are_legal ys) m } in
    ap₂ ◌∷◌ (legal-unique x y legal legal' first)
    (same-spellings xs ys u.1 v.1 (both_right (is_operand x) (are_legal xs) l) (both_right (is_operand y) (are_legal ys) m) others)

-- a call that is not refused by 7 has legal operands
not-seven : (call : Call) (p : Output) → eqb (reply_to (outcome_of call) p).answer.refusal 7 ≡ false → are_legal (operands_of call) ≡ true
not-seven call p e = not-false _ (sym (written-seven (outcome_of call) p ∙ outcome-seven call) ∙ e)

pub operands-legal : OperandStatement
operands-legal = record {
  calls = λ call p. written-seven (outcome_of call) p ∙ outcome-seven call;
  questions = λ question. number-seven (outcome_in question) ∙ question-seven question;
  results = result-legal;
  spellings = λ call call' p p' u v e f. same-spellings (operands_of call) (operands_of call') u v (not-seven call p e) (not-seven call' p' f);
}
