-- Cases of every row of the table, and document 01's cases for programs, computed from the definitions. The answers are those of
-- document 01 and of R6RS. Assumes nothing.
use Prim.Native.Nat.{ℕ, zero, suc, ◌+◌, ◌-◌, ◌/◌}
use mathlib.Core.Path.{◌≡◌, refl}
use mathlib.Core.Bool.{Bool, true, false, not, ◌&&◌, ◌||◌, xor, beq}
use mathlib.Core.List.{List, [], ◌∷◌}
use lib.Dec.{eqb, leb}
use lib.IntN.{ℤ, pos, negsuc, neg_ℤ}
use lib.ListN.{length}
use Rattle.bits.specs.Testbit.{odd, testbit, halvings, bit_length, cons_bit, of_bits, fits, is_negative, fill}
use Rattle.bits.specs.Logical.{bitwise, bitwise_not, bitwise_and, bitwise_ior, bitwise_xor, bitwise_if, bitwise_from, bitwise_all, bitwise_ands, bitwise_iors, bitwise_xors}
use Rattle.bits.specs.Count.{ones_below, ones, bit_count, first_true, first_bit_set}
use Rattle.bits.specs.Shift.{floor_div, shift_left, shift_right, arithmetic_shift}
use Rattle.bits.specs.Division.{div, mod_ℕ, «mod», div0, mod0}
use Rattle.bits.specs.Field.{in_field, rotate_index, reverse_index, set_field, permute_field, bit_field, copy_bit, copy_bit_field, rotate_bit_field, reverse_bit_field}
use Rattle.bits.specs.Range.{within}
use Rattle.outcomes.specs.Outcome.{Outcome, refused, done, refuse, guard, guard_at}
use Rattle.outcomes.specs.Tests.{all_hold, first_failed_from, first_failed, guard_each}
use Rattle.fxtable.specs.declared.answer.Answer.{Answer}
use Rattle.fxtable.specs.Calls.{answer, counted, is_count, fixnum_tests, checked, outcome, fixnum_answer}
use Rattle.fxtable.specs.Domains.{least_width, largest_width, is_width, arg, accepts, domain_tests_from, domain_tests}
use Rattle.fxtable.specs.Operations.{results_of, has_two, parts_of, truth, equal, greater, greater_or_equal, chain_from, chain, is_zero, is_positive, is_below_zero, is_odd, is_even, fold_from, larger, smaller, largest, smallest, minus}
use Rattle.fxtable.specs.Table.{rows, no_row, is_code, row_of}

abbrev neg : ℕ → ℤ
neg n = neg_ℤ (pos n)

abbrev same : ℤ → ℤ → Bool
same (pos a) (pos b) = eqb a b
same (negsuc a) (negsuc b) = eqb a b
same (pos a) (negsuc b) = false
same (negsuc a) (pos b) = false

abbrev same_answer : Answer → Answer → Bool
same_answer a b = eqb a.refusal b.refusal && (same a.first b.first && (same a.second b.second && eqb a.place b.place))

abbrev all : List Bool → Bool
all [] = true
all (t ∷ ts) = t && all ts

abbrev all_from : (ℕ → Bool) → ℕ → ℕ → Bool
all_from p a zero = true
all_from p a (suc k) = p a && all_from p (suc a) k

abbrev gives : ℕ → ℕ → List ℤ → ℕ → Outcome (ℤ × ℤ) → Bool
gives w code xs n o = same_answer (fixnum_answer w code xs n) (answer o)

-- whether the call is refused so, for the argument at that place
abbrev refused_at : ℕ → ℕ → List ℤ → ℕ → ℕ → Bool
refused_at w code xs k place = (let a = fixnum_answer w code xs (length xs) in eqb a.refusal k && eqb a.place place)

-- a refusal for no argument, or 0
abbrev refusal : ℕ → ℕ → List ℤ → ℕ → Bool
refusal w code xs k = refused_at w code xs k 0

-- an argument outside its domain
abbrev outside : ℕ → ℕ → List ℤ → ℕ → Bool
outside w code xs place = refused_at w code xs 5 place

-- whether the code's answers at width 24 are these
abbrev answers : ℕ → List (List ℤ × Outcome (ℤ × ℤ)) → Bool
answers code [] = true
answers code (c ∷ cs) = gives 24 code c.0 (length c.0) c.1 && answers code cs

-- whether they are, and no other code's are
abbrev unique : ℕ → List (List ℤ × Outcome (ℤ × ℤ)) → Bool
unique code cases = answers code cases && all_from (λ c. eqb c code || not (answers c cases)) 1 41

-- whether the codes from a to b take at least and at most so many arguments; counts up to 5 are tried
abbrev takes : ℕ → ℕ → ℕ → ℕ → Bool
takes a b least most =
    all_from (λ code. all_from (λ n. beq (eqb (fixnum_answer 24 code (pos 0 ∷ pos 0 ∷ pos 0 ∷ pos 0 ∷ []) n).refusal 3) (not (leb least n && leb n most))) 0 6)
    a (suc b - a)

-- answers of each code, which no other code gives
abbrev row_answers : List Bool
row_answers =
    unique 1 ((pos 5 ∷ pos 5 ∷ [], done (pos 1, pos 0)) ∷ (pos 5 ∷ pos 6 ∷ [], done (pos 0, pos 0)) ∷ (pos 6 ∷ pos 5 ∷ [], done (pos 0, pos 0)) ∷ (pos 5 ∷ pos 5 ∷ pos 5 ∷ pos 6 ∷ [], done (pos 0, pos 0)) ∷ [])  -- fx=?
    ∷ unique 2 ((pos 6 ∷ pos 5 ∷ [], done (pos 1, pos 0)) ∷ (pos 5 ∷ pos 5 ∷ [], done (pos 0, pos 0)) ∷ (pos 5 ∷ pos 6 ∷ [], done (pos 0, pos 0)) ∷ (pos 4 ∷ pos 3 ∷ pos 2 ∷ pos 2 ∷ [], done (pos 0, pos 0)) ∷ [])  -- fx>?
    ∷ unique 3 ((pos 5 ∷ pos 6 ∷ [], done (pos 1, pos 0)) ∷ (pos 5 ∷ pos 5 ∷ [], done (pos 0, pos 0)) ∷ (pos 6 ∷ pos 5 ∷ [], done (pos 0, pos 0)) ∷ (pos 1 ∷ pos 2 ∷ pos 3 ∷ pos 3 ∷ [], done (pos 0, pos 0)) ∷ [])  -- fx<?
    ∷ unique 4 ((pos 6 ∷ pos 5 ∷ [], done (pos 1, pos 0)) ∷ (pos 5 ∷ pos 5 ∷ [], done (pos 1, pos 0)) ∷ (pos 5 ∷ pos 6 ∷ [], done (pos 0, pos 0)) ∷ (pos 4 ∷ pos 3 ∷ pos 3 ∷ pos 4 ∷ [], done (pos 0, pos 0)) ∷ [])  -- fx>=?
    ∷ unique 5 ((pos 5 ∷ pos 6 ∷ [], done (pos 1, pos 0)) ∷ (pos 5 ∷ pos 5 ∷ [], done (pos 1, pos 0)) ∷ (pos 6 ∷ pos 5 ∷ [], done (pos 0, pos 0)) ∷ (pos 1 ∷ pos 2 ∷ pos 2 ∷ pos 1 ∷ [], done (pos 0, pos 0)) ∷ [])  -- fx<=?
    ∷ unique 6 ((pos 0 ∷ [], done (pos 1, pos 0)) ∷ (pos 3 ∷ [], done (pos 0, pos 0)) ∷ (neg 4 ∷ [], done (pos 0, pos 0)) ∷ [])  -- fxzero?
    ∷ unique 7 ((pos 3 ∷ [], done (pos 1, pos 0)) ∷ (pos 0 ∷ [], done (pos 0, pos 0)) ∷ (neg 3 ∷ [], done (pos 0, pos 0)) ∷ [])  -- fxpositive?
    ∷ unique 8 ((neg 4 ∷ [], done (pos 1, pos 0)) ∷ (pos 0 ∷ [], done (pos 0, pos 0)) ∷ (pos 4 ∷ [], done (pos 0, pos 0)) ∷ [])  -- fxnegative?
    ∷ unique 9 ((neg 3 ∷ [], done (pos 1, pos 0)) ∷ (pos 3 ∷ [], done (pos 1, pos 0)) ∷ (pos 4 ∷ [], done (pos 0, pos 0)) ∷ [])  -- fxodd?
    ∷ unique 10 ((neg 4 ∷ [], done (pos 1, pos 0)) ∷ (pos 0 ∷ [], done (pos 1, pos 0)) ∷ (pos 3 ∷ [], done (pos 0, pos 0)) ∷ [])  -- fxeven?
    ∷ unique 11 ((neg 7 ∷ pos 4 ∷ pos 9 ∷ pos 2 ∷ [], done (pos 9, pos 0)) ∷ [])  -- fxmax
    ∷ unique 12 ((pos 9 ∷ pos 4 ∷ neg 7 ∷ pos 2 ∷ [], done (neg 7, pos 0)) ∷ [])  -- fxmin
    ∷ unique 13 ((pos 9 ∷ pos 5 ∷ [], done (pos 14, pos 0)) ∷ [])  -- fx+
    ∷ unique 14 ((pos 9 ∷ neg 4 ∷ [], done (neg 36, pos 0)) ∷ [])  -- fx*
    ∷ unique 15 ((pos 9 ∷ pos 4 ∷ [], done (pos 5, pos 0)) ∷ (pos 4 ∷ pos 9 ∷ [], done (neg 5, pos 0)) ∷ (pos 7 ∷ [], done (neg 7, pos 0)) ∷ [])  -- fx-
    ∷ unique 16 ((neg 7 ∷ pos 2 ∷ [], done (neg 4, pos 0)) ∷ (pos 7 ∷ neg 2 ∷ [], done (neg 3, pos 0)) ∷ [])  -- fxdiv
    ∷ unique 17 ((neg 7 ∷ neg 5 ∷ [], done (pos 3, pos 0)) ∷ (pos 7 ∷ neg 5 ∷ [], done (pos 2, pos 0)) ∷ [])  -- fxmod
    ∷ unique 18 ((neg 7 ∷ pos 2 ∷ [], done (neg 4, pos 1)) ∷ [])  -- fxdiv-and-mod
    ∷ unique 19 ((neg 7 ∷ pos 2 ∷ [], done (neg 3, pos 0)) ∷ (pos 7 ∷ neg 5 ∷ [], done (neg 1, pos 0)) ∷ [])  -- fxdiv0
    ∷ unique 20 ((neg 7 ∷ pos 5 ∷ [], done (neg 2, pos 0)) ∷ (pos 8 ∷ pos 5 ∷ [], done (neg 2, pos 0)) ∷ [])  -- fxmod0
    ∷ unique 21 ((neg 7 ∷ pos 2 ∷ [], done (neg 3, neg 1)) ∷ [])  -- fxdiv0-and-mod0
    ∷ unique 22 ((pos 8388607 ∷ pos 8388607 ∷ pos 2 ∷ [], done (pos 0, pos 1)) ∷ (pos 1 ∷ pos 2 ∷ pos 3 ∷ [], done (pos 6, pos 0)) ∷ [])  -- fx+/carry
    ∷ unique 23 ((pos 10 ∷ pos 3 ∷ pos 2 ∷ [], done (pos 5, pos 0)) ∷ (neg 8388608 ∷ pos 1 ∷ pos 0 ∷ [], done (pos 8388607, neg 1)) ∷ [])  -- fx-/carry
    ∷ unique 24 ((pos 8388607 ∷ pos 8388607 ∷ pos 8388607 ∷ [], done (neg 8388608, pos 4194304)) ∷ (pos 3 ∷ pos 5 ∷ pos 2 ∷ [], done (pos 17, pos 0)) ∷ [])  -- fx*/carry
    ∷ unique 25 ((pos 5 ∷ [], done (neg 6, pos 0)) ∷ [])  -- fxnot
    ∷ unique 26 ((pos 12 ∷ pos 10 ∷ [], done (pos 8, pos 0)) ∷ ([], done (neg 1, pos 0)) ∷ [])  -- fxand
    ∷ unique 27 ((pos 12 ∷ pos 10 ∷ [], done (pos 14, pos 0)) ∷ ([], done (pos 0, pos 0)) ∷ [])  -- fxior
    ∷ unique 28 ((pos 12 ∷ pos 10 ∷ [], done (pos 6, pos 0)) ∷ ([], done (pos 0, pos 0)) ∷ [])  -- fxxor
    ∷ unique 29 ((pos 12 ∷ pos 10 ∷ pos 3 ∷ [], done (pos 11, pos 0)) ∷ (neg 1 ∷ pos 5 ∷ pos 9 ∷ [], done (pos 5, pos 0)) ∷ [])  -- fxif
    ∷ unique 30 ((neg 2 ∷ [], done (neg 2, pos 0)) ∷ (pos 11 ∷ [], done (pos 3, pos 0)) ∷ [])  -- fxbit-count
    ∷ unique 31 ((neg 256 ∷ [], done (pos 8, pos 0)) ∷ (neg 257 ∷ [], done (pos 9, pos 0)) ∷ (pos 5 ∷ [], done (pos 3, pos 0)) ∷ [])  -- fxlength
    ∷ unique 32 ((neg 4 ∷ [], done (pos 2, pos 0)) ∷ (pos 0 ∷ [], done (neg 1, pos 0)) ∷ [])  -- fxfirst-bit-set
    ∷ unique 33 ((pos 4 ∷ pos 2 ∷ [], done (pos 1, pos 0)) ∷ (pos 4 ∷ pos 0 ∷ [], done (pos 0, pos 0)) ∷ (neg 1 ∷ pos 23 ∷ [], done (pos 1, pos 0)) ∷ [])  -- fxbit-set?
    ∷ unique 34 ((pos 0 ∷ pos 23 ∷ pos 1 ∷ [], done (neg 8388608, pos 0)) ∷ (pos 7 ∷ pos 1 ∷ pos 0 ∷ [], done (pos 5, pos 0)) ∷ [])  -- fxcopy-bit
    ∷ unique 35 ((pos 182 ∷ pos 2 ∷ pos 6 ∷ [], done (pos 13, pos 0)) ∷ [])  -- fxbit-field
    ∷ unique 36 ((pos 0 ∷ pos 1 ∷ pos 4 ∷ pos 5 ∷ [], done (pos 10, pos 0)) ∷ [])  -- fxcopy-bit-field
    ∷ unique 37 ((neg 23 ∷ neg 2 ∷ [], done (neg 6, pos 0)) ∷ (neg 23 ∷ pos 2 ∷ [], done (neg 92, pos 0)) ∷ [])  -- fxarithmetic-shift
    ∷ unique 38 ((neg 23 ∷ pos 2 ∷ [], done (neg 92, pos 0)) ∷ (neg 23 ∷ neg 2 ∷ [], refused 5 2) ∷ [])  -- fxarithmetic-shift-left
    ∷ unique 39 ((neg 23 ∷ pos 2 ∷ [], done (neg 6, pos 0)) ∷ [])  -- fxarithmetic-shift-right
    ∷ unique 40 ((pos 4660 ∷ pos 4 ∷ pos 12 ∷ pos 4 ∷ [], done (pos 4900, pos 0)) ∷ [])  -- fxrotate-bit-field
    ∷ unique 41 ((pos 82 ∷ pos 1 ∷ pos 4 ∷ [], done (pos 88, pos 0)) ∷ [])  -- fxreverse-bit-field
    ∷ []

-- how many arguments each code takes
abbrev row_counts : List Bool
row_counts =
    takes 1 5 2 4
    ∷ takes 6 10 1 1
    ∷ takes 11 12 1 4
    ∷ takes 13 14 2 2
    ∷ takes 15 15 1 2
    ∷ takes 16 21 2 2
    ∷ takes 22 24 3 3
    ∷ takes 25 25 1 1
    ∷ takes 26 28 0 4
    ∷ takes 29 29 3 3
    ∷ takes 30 32 1 1
    ∷ takes 33 33 2 2
    ∷ takes 34 35 3 3
    ∷ takes 36 36 4 4
    ∷ takes 37 39 2 2
    ∷ takes 40 40 4 4
    ∷ takes 41 41 3 3
    ∷ []

-- codes 18 and 21 to 24 have two results, and no other number has
abbrev row_results : List Bool
row_results = all_from (λ code. beq (has_two (row_of code).results) (eqb code 18 || (leb 21 code && leb code 24))) 0 43 ∷ []

-- both sides of each limit of a domain, at a width
abbrev row_limits : ℕ → List Bool
row_limits w =
    outside w 16 (pos 7 ∷ pos 0 ∷ []) 2
    ∷ refusal w 16 (pos 7 ∷ pos 1 ∷ []) 0
    ∷ refusal w 16 (pos 7 ∷ neg 1 ∷ []) 0
    ∷ outside w 17 (pos 7 ∷ pos 0 ∷ []) 2
    ∷ refusal w 17 (pos 7 ∷ pos 1 ∷ []) 0
    ∷ refusal w 17 (pos 7 ∷ neg 1 ∷ []) 0
    ∷ outside w 18 (pos 7 ∷ pos 0 ∷ []) 2
    ∷ refusal w 18 (pos 7 ∷ pos 1 ∷ []) 0
    ∷ refusal w 18 (pos 7 ∷ neg 1 ∷ []) 0
    ∷ outside w 19 (pos 7 ∷ pos 0 ∷ []) 2
    ∷ refusal w 19 (pos 7 ∷ pos 1 ∷ []) 0
    ∷ refusal w 19 (pos 7 ∷ neg 1 ∷ []) 0
    ∷ outside w 20 (pos 7 ∷ pos 0 ∷ []) 2
    ∷ refusal w 20 (pos 7 ∷ pos 1 ∷ []) 0
    ∷ refusal w 20 (pos 7 ∷ neg 1 ∷ []) 0
    ∷ outside w 21 (pos 7 ∷ pos 0 ∷ []) 2
    ∷ refusal w 21 (pos 7 ∷ pos 1 ∷ []) 0
    ∷ refusal w 21 (pos 7 ∷ neg 1 ∷ []) 0
    ∷ outside w 34 (pos 7 ∷ neg 1 ∷ pos 1 ∷ []) 2
    ∷ refusal w 34 (pos 7 ∷ pos 0 ∷ pos 1 ∷ []) 0
    ∷ refusal w 34 (pos 7 ∷ pos (w - 1) ∷ pos 1 ∷ []) 0
    ∷ outside w 34 (pos 7 ∷ pos w ∷ pos 1 ∷ []) 2
    ∷ outside w 33 (pos 7 ∷ neg 1 ∷ []) 2
    ∷ refusal w 33 (pos 7 ∷ pos 0 ∷ []) 0
    ∷ refusal w 33 (pos 7 ∷ pos (w - 1) ∷ []) 0
    ∷ outside w 33 (pos 7 ∷ pos w ∷ []) 2
    ∷ outside w 34 (pos 7 ∷ pos 3 ∷ neg 1 ∷ []) 3
    ∷ refusal w 34 (pos 7 ∷ pos 3 ∷ pos 0 ∷ []) 0
    ∷ refusal w 34 (pos 7 ∷ pos 3 ∷ pos 1 ∷ []) 0
    ∷ outside w 34 (pos 7 ∷ pos 3 ∷ pos 2 ∷ []) 3
    ∷ outside w 35 (pos 7 ∷ neg 1 ∷ pos 4 ∷ []) 2
    ∷ refusal w 35 (pos 7 ∷ pos 0 ∷ pos (w - 1) ∷ []) 0
    ∷ outside w 35 (pos 7 ∷ pos 0 ∷ pos w ∷ []) 3
    ∷ outside w 35 (pos 7 ∷ pos 5 ∷ pos 4 ∷ []) 3
    ∷ refusal w 35 (pos 7 ∷ pos (w - 1) ∷ pos (w - 1) ∷ []) 0
    ∷ outside w 35 (pos 7 ∷ pos w ∷ pos w ∷ []) 2
    ∷ outside w 36 (pos 7 ∷ neg 1 ∷ pos 4 ∷ pos 9 ∷ []) 2
    ∷ refusal w 36 (pos 7 ∷ pos 0 ∷ pos (w - 1) ∷ pos 9 ∷ []) 0
    ∷ outside w 36 (pos 7 ∷ pos 0 ∷ pos w ∷ pos 9 ∷ []) 3
    ∷ outside w 36 (pos 7 ∷ pos 5 ∷ pos 4 ∷ pos 9 ∷ []) 3
    ∷ refusal w 36 (pos 7 ∷ pos (w - 1) ∷ pos (w - 1) ∷ pos 9 ∷ []) 0
    ∷ outside w 36 (pos 7 ∷ pos w ∷ pos w ∷ pos 9 ∷ []) 2
    ∷ outside w 41 (pos 7 ∷ neg 1 ∷ pos 4 ∷ []) 2
    ∷ refusal w 41 (pos 7 ∷ pos 0 ∷ pos (w - 1) ∷ []) 0
    ∷ outside w 41 (pos 7 ∷ pos 0 ∷ pos w ∷ []) 3
    ∷ outside w 41 (pos 7 ∷ pos 5 ∷ pos 4 ∷ []) 3
    ∷ refusal w 41 (pos 7 ∷ pos (w - 1) ∷ pos (w - 1) ∷ []) 0
    ∷ outside w 41 (pos 7 ∷ pos w ∷ pos w ∷ []) 2
    ∷ outside w 40 (pos 7 ∷ neg 1 ∷ pos 4 ∷ pos 0 ∷ []) 2
    ∷ refusal w 40 (pos 7 ∷ pos 0 ∷ pos (w - 1) ∷ pos 0 ∷ []) 0
    ∷ outside w 40 (pos 7 ∷ pos 0 ∷ pos w ∷ pos 0 ∷ []) 3
    ∷ outside w 40 (pos 7 ∷ pos 5 ∷ pos 4 ∷ pos 0 ∷ []) 3
    ∷ outside w 40 (pos 7 ∷ pos 4 ∷ pos 12 ∷ neg 1 ∷ []) 4
    ∷ refusal w 40 (pos 7 ∷ pos 4 ∷ pos 12 ∷ pos 0 ∷ []) 0
    ∷ refusal w 40 (pos 7 ∷ pos 4 ∷ pos 12 ∷ pos 8 ∷ []) 0
    ∷ outside w 40 (pos 7 ∷ pos 4 ∷ pos 12 ∷ pos 9 ∷ []) 4
    ∷ refusal w 40 (pos 7 ∷ pos 4 ∷ pos 4 ∷ pos 0 ∷ []) 0
    ∷ outside w 40 (pos 7 ∷ pos 4 ∷ pos 4 ∷ pos 1 ∷ []) 4
    ∷ refusal w 40 (pos 7 ∷ pos 0 ∷ pos (w - 1) ∷ pos (w - 1) ∷ []) 0
    ∷ outside w 40 (pos 7 ∷ pos (w - 1) ∷ pos (w - 1) ∷ neg 1 ∷ []) 4
    ∷ outside w 37 (pos 0 ∷ (neg_ℤ (pos w)) ∷ []) 2
    ∷ refusal w 37 (pos 0 ∷ (neg_ℤ (pos (w - 1))) ∷ []) 0
    ∷ refusal w 37 (pos 0 ∷ pos (w - 1) ∷ []) 0
    ∷ outside w 37 (pos 0 ∷ pos w ∷ []) 2
    ∷ outside w 38 (pos 0 ∷ neg 1 ∷ []) 2
    ∷ refusal w 38 (pos 0 ∷ pos 0 ∷ []) 0
    ∷ refusal w 38 (pos 0 ∷ pos (w - 1) ∷ []) 0
    ∷ outside w 38 (pos 0 ∷ pos w ∷ []) 2
    ∷ outside w 39 (pos 0 ∷ neg 1 ∷ []) 2
    ∷ refusal w 39 (pos 0 ∷ pos 0 ∷ []) 0
    ∷ refusal w 39 (pos 0 ∷ pos (w - 1) ∷ []) 0
    ∷ outside w 39 (pos 0 ∷ pos w ∷ []) 2
    ∷ []

-- both sides of the range of a width w, from -h to h - 1: an argument, and an exact result
abbrev row_ranges : ℕ → ℕ → List Bool
row_ranges w h =
    refusal w 16 (neg h ∷ neg 1 ∷ []) 6
    ∷ refusal w 17 (neg h ∷ neg 1 ∷ []) 0
    ∷ refusal w 18 (neg h ∷ neg 1 ∷ []) 6
    ∷ refusal w 19 (neg h ∷ neg 1 ∷ []) 6
    ∷ refusal w 20 (neg h ∷ neg 1 ∷ []) 0
    ∷ refusal w 21 (neg h ∷ neg 1 ∷ []) 6
    ∷ refusal w 15 (neg h ∷ []) 5
    ∷ refusal w 15 (neg h ∷ pos 1 ∷ []) 5
    ∷ refusal w 13 (pos (h - 1) ∷ pos 1 ∷ []) 6
    ∷ refusal w 14 (pos (h / 2) ∷ pos 2 ∷ []) 6
    ∷ refusal w 13 (pos (h - 1) ∷ pos 0 ∷ []) 0
    ∷ refusal w 14 (neg (h / 2) ∷ pos 2 ∷ []) 0
    ∷ refusal w 15 (neg h ∷ neg 1 ∷ []) 0
    ∷ refusal w 37 (pos 1 ∷ pos (w - 1) ∷ []) 6
    ∷ refusal w 38 (pos 1 ∷ pos (w - 1) ∷ []) 6
    ∷ refusal w 37 (neg 1 ∷ pos (w - 1) ∷ []) 0
    ∷ refusal w 38 (pos 1 ∷ pos (w - 2) ∷ []) 0
    ∷ refused_at w 25 (pos h ∷ []) 4 1
    ∷ refused_at w 25 (neg (h + 1) ∷ []) 4 1
    ∷ refusal w 25 (pos (h - 1) ∷ []) 0
    ∷ refusal w 25 (neg h ∷ []) 0
    -- the exact sums 2^w - h, -3 h, 2^w, 3 h - 2, (h - 1) h and h h + h - 1 in two parts
    ∷ gives w 22 (pos (h - 1) ∷ pos 1 ∷ pos 0 ∷ []) 3 (done (neg h, pos 1))
    ∷ gives w 22 (neg h ∷ neg h ∷ neg h ∷ []) 3 (done (neg h, neg 1))
    ∷ gives w 23 (pos 0 ∷ neg h ∷ neg h ∷ []) 3 (done (pos 0, pos 1))
    ∷ gives w 23 (pos (h - 2) ∷ neg h ∷ neg h ∷ []) 3 (done (pos (h - 2), pos 1))
    ∷ gives w 24 (pos (h - 1) ∷ pos (h - 1) ∷ pos (h - 1) ∷ []) 3 (done (neg h, pos (h / 2)))
    ∷ gives w 24 (neg h ∷ neg h ∷ pos (h - 1) ∷ []) 3 (done (pos (h - 1), pos (h / 2)))
    ∷ []

-- document 01's cases for programs, and the order of the refusals
abbrev programs : List Bool
programs =
    gives 24 37 (pos 1 ∷ pos 22 ∷ []) 2 (done (pos 4194304, pos 0))
    ∷ gives 24 37 (pos 1 ∷ pos 23 ∷ []) 2 (refuse 6)
    ∷ gives 24 37 (pos 1 ∷ pos 24 ∷ []) 2 (refused 5 2)
    ∷ gives 24 37 (neg 1 ∷ pos 23 ∷ []) 2 (done (neg 8388608, pos 0))
    ∷ gives 23 25 (pos 0 ∷ []) 1 (refuse 1)
    ∷ gives 65 25 (pos 0 ∷ []) 1 (refuse 1)
    -- 1 before 2, 2 before 3, 3 before 4, 4 before 5, 5 before 6
    ∷ gives 23 0 (pos 0 ∷ []) 1 (refuse 1)
    ∷ gives 24 0 (pos 0 ∷ []) 5 (refuse 2)
    ∷ gives 24 42 (pos 0 ∷ []) 5 (refuse 2)
    ∷ gives 24 16 (pos 8388608 ∷ []) 1 (refuse 3)
    ∷ gives 24 16 (pos 8388608 ∷ pos 0 ∷ []) 2 (refused 4 1)
    ∷ gives 24 40 (pos 1 ∷ pos 5 ∷ pos 4 ∷ pos 8388608 ∷ []) 4 (refused 4 4)
    ∷ gives 24 16 (neg 8388608 ∷ pos 0 ∷ []) 2 (refused 5 2)
    -- a full rotation, and an empty field
    ∷ gives 24 40 (neg 4661 ∷ pos 4 ∷ pos 12 ∷ pos 8 ∷ []) 4 (done (neg 4661, pos 0))
    ∷ gives 24 40 (pos 1 ∷ pos 4 ∷ pos 12 ∷ pos 9 ∷ []) 4 (refused 5 4)
    ∷ gives 24 40 (neg 4661 ∷ pos 4 ∷ pos 4 ∷ pos 0 ∷ []) 4 (done (neg 4661, pos 0))
    ∷ gives 24 40 (pos 1 ∷ pos 4 ∷ pos 4 ∷ pos 1 ∷ []) 4 (refused 5 4)
    -- fx- against fx+ and fx*
    ∷ gives 24 15 (neg 8388608 ∷ pos 1 ∷ []) 2 (refuse 5)
    ∷ gives 24 13 (pos 8388607 ∷ pos 1 ∷ []) 2 (refuse 6)
    ∷ gives 24 14 (pos 4194304 ∷ pos 2 ∷ []) 2 (refuse 6)
    ∷ []

-- of several arguments, the first gives the place: each tested against those before it, and those past the count not at all
abbrev places : List Bool
places =
    gives 24 26 (pos 1 ∷ pos 8388608 ∷ neg 8388609 ∷ pos 2 ∷ []) 4 (refused 4 2)
    ∷ gives 24 26 (pos 1 ∷ pos 2 ∷ neg 8388609 ∷ pos 8388608 ∷ []) 4 (refused 4 3)
    ∷ gives 24 26 (pos 1 ∷ pos 2 ∷ pos 3 ∷ pos 8388608 ∷ []) 3 (done (pos 0, pos 0))
    ∷ gives 24 36 (pos 1 ∷ neg 1 ∷ pos 24 ∷ pos 8388608 ∷ []) 4 (refused 4 4)
    ∷ gives 24 40 (pos 1 ∷ pos 24 ∷ pos 24 ∷ neg 1 ∷ []) 4 (refused 5 2)
    ∷ gives 24 40 (pos 1 ∷ neg 2 ∷ neg 1 ∷ pos 0 ∷ []) 4 (refused 5 2)
    ∷ gives 24 40 (pos 1 ∷ pos 12 ∷ pos 4 ∷ pos 9 ∷ []) 4 (refused 5 3)
    ∷ gives 24 40 (pos 1 ∷ pos 0 ∷ pos 24 ∷ pos 25 ∷ []) 4 (refused 5 3)
    ∷ gives 24 40 (pos 1 ∷ pos 12 ∷ pos 12 ∷ neg 1 ∷ []) 4 (refused 5 4)
    ∷ gives 24 34 (pos 1 ∷ pos 24 ∷ pos 2 ∷ []) 3 (refused 5 2)
    ∷ []

-- the widths at which limits are tried: the narrowest, the widest, and the two beside it
abbrev limits : ℕ → ℕ → Bool
limits w h = all (row_limits w) && all (row_ranges w h)

pub cases_rows : (all row_answers ≡ true) × (all row_counts ≡ true) × (all row_results ≡ true) × (all programs ≡ true) × (all places ≡ true)
    × (limits 24 8388608 ≡ true) × (limits 62 2305843009213693952 ≡ true) × (limits 63 4611686018427387904 ≡ true) × (limits 64 9223372036854775808 ≡ true)
unfolding xor odd testbit halvings bit_length cons_bit of_bits fits is_negative fill bitwise bitwise_not bitwise_and bitwise_ior bitwise_xor bitwise_if bitwise_from bitwise_all bitwise_ands bitwise_iors bitwise_xors
    ones_below ones bit_count first_true first_bit_set floor_div shift_left shift_right arithmetic_shift div mod_ℕ «mod» div0 mod0
    in_field rotate_index reverse_index set_field permute_field bit_field copy_bit copy_bit_field rotate_bit_field reverse_bit_field
    guard guard_at all_hold first_failed_from first_failed guard_each answer least_width largest_width is_width arg within accepts domain_tests_from domain_tests results_of has_two parts_of
    truth equal greater greater_or_equal chain_from chain is_zero is_positive is_below_zero is_odd is_even fold_from larger smaller largest smallest minus
    rows no_row is_code row_of counted is_count fixnum_tests checked outcome fixnum_answer
cases_rows = (refl, refl, refl, refl, refl, refl, refl, refl, refl)
