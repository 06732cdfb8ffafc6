-- 01's table of fixnum operations: for each code the argument counts it allows, the domains of its arguments, the refusal
-- that it gives where the exact first result is no fixnum (its overflow), and its results.
--   rows             ==  the rows of codes 1, 2, ..
--   is_code code      ==  whether the table has the code
--   row_of code       ==  the row of a code
--   signature_of code ==  what the code says of its arguments and results, as `table::signature_of` answers it
use Rattle.std.specs.Prelude.{ℕ, Bool, ◌&&◌, List, [], ◌∷◌, leb, pos, nat_abs, ◌+ℤ◌, ◌-ℤ◌, ◌*ℤ◌, get_or, length}
use Rattle.std.specs.Int.Signed.{lt_z, le_z}
use Rattle.bits.specs.Testbit.{testbit, bit_length}
use Rattle.bits.specs.Logical.{bitwise_not, bitwise_ands, bitwise_iors, bitwise_xors, bitwise_if}
use Rattle.bits.specs.Count.{bit_count, first_bit_set}
use Rattle.bits.specs.Division.{div, «mod», div0, mod0}
use Rattle.bits.specs.Shift.{arithmetic_shift, shift_left, shift_right}
use Rattle.bits.specs.Field.{bit_field, copy_bit_field, rotate_bit_field, reverse_bit_field}
use Rattle.fxtable.specs.declared.domains.Domain.{Domain}
use Rattle.fxtable.specs.declared.domains.Domain.TheVariants.{Fixnum, Divisor, Position, FieldEnd, NewBit, SignedDistance, Distance, Rotation}
use Rattle.fxtable.specs.declared.table.Signature.{Signature}
use Rattle.fxtable.specs.Domains.{arg, domain_at}
use Rattle.fxtable.specs.Operations.{Results, has_two, every, one, two, three, four, pair, question, equal, greater, greater_or_equal}
use Rattle.fxtable.specs.Operations.{chain, is_zero, is_positive, is_below_zero, is_odd, is_even, largest, smallest, minus, carry, copy_bit_at}

-- The refusal for overflow: 5, R6RS's assertion, for code 15; 6, its restriction, for others; 0 where the first result is always a fixnum.
pub record Row : Type 0 where
  pub least : ℕ
  pub most : ℕ
  pub domains : List Domain
  pub overflow : ℕ
  pub results : Results

abbrev pub row : ℕ → ℕ → List Domain → ℕ → Results → Row
row least most domains overflow results = record { least = least; most = most; domains = domains; overflow = overflow; results = results }

abbrev divide : List Domain
divide = Fixnum ∷ Divisor ∷ []

abbrev field : List Domain
field = Fixnum ∷ Position ∷ FieldEnd ∷ []

unfoldable pub rows : List Row
rows =
    row 2 4 [] 0 (question (chain equal))  -- 1 fx=?
    ∷ row 2 4 [] 0 (question (chain greater))  -- 2 fx>?
    ∷ row 2 4 [] 0 (question (chain lt_z))  -- 3 fx<?
    ∷ row 2 4 [] 0 (question (chain greater_or_equal))  -- 4 fx>=?
    ∷ row 2 4 [] 0 (question (chain le_z))  -- 5 fx<=?
    ∷ row 1 1 [] 0 (question is_zero)  -- 6 fxzero?
    ∷ row 1 1 [] 0 (question is_positive)  -- 7 fxpositive?
    ∷ row 1 1 [] 0 (question is_below_zero)  -- 8 fxnegative?
    ∷ row 1 1 [] 0 (question is_odd)  -- 9 fxodd?
    ∷ row 1 1 [] 0 (question is_even)  -- 10 fxeven?
    ∷ row 1 4 [] 0 (every largest)  -- 11 fxmax
    ∷ row 1 4 [] 0 (every smallest)  -- 12 fxmin
    ∷ row 2 2 [] 6 (two ◌+ℤ◌)  -- 13 fx+
    ∷ row 2 2 [] 6 (two ◌*ℤ◌)  -- 14 fx*
    ∷ row 1 2 [] 5 (every minus)  -- 15 fx-
    ∷ row 2 2 divide 6 (two div)  -- 16 fxdiv
    ∷ row 2 2 divide 0 (two «mod»)  -- 17 fxmod
    ∷ row 2 2 divide 6 (pair div «mod»)  -- 18 fxdiv-and-mod
    ∷ row 2 2 divide 6 (two div0)  -- 19 fxdiv0
    ∷ row 2 2 divide 0 (two mod0)  -- 20 fxmod0
    ∷ row 2 2 divide 6 (pair div0 mod0)  -- 21 fxdiv0-and-mod0
    ∷ row 3 3 [] 0 (carry (λ x y z. (x +ℤ y) +ℤ z))  -- 22 fx+/carry
    ∷ row 3 3 [] 0 (carry (λ x y z. (x -ℤ y) -ℤ z))  -- 23 fx-/carry
    ∷ row 3 3 [] 0 (carry (λ x y z. (x *ℤ y) +ℤ z))  -- 24 fx*/carry
    ∷ row 1 1 [] 0 (one bitwise_not)  -- 25 fxnot
    ∷ row 0 4 [] 0 (every bitwise_ands)  -- 26 fxand
    ∷ row 0 4 [] 0 (every bitwise_iors)  -- 27 fxior
    ∷ row 0 4 [] 0 (every bitwise_xors)  -- 28 fxxor
    ∷ row 3 3 [] 0 (three bitwise_if)  -- 29 fxif
    ∷ row 1 1 [] 0 (one bit_count)  -- 30 fxbit-count
    ∷ row 1 1 [] 0 (one (λ x. pos (bit_length x)))  -- 31 fxlength
    ∷ row 1 1 [] 0 (one first_bit_set)  -- 32 fxfirst-bit-set
    ∷ row 2 2 (Fixnum ∷ Position ∷ []) 0 (question (λ xs. testbit (arg xs 0) (nat_abs (arg xs 1))))  -- 33 fxbit-set?
    ∷ row 3 3 (Fixnum ∷ Position ∷ NewBit ∷ []) 0 copy_bit_at  -- 34 fxcopy-bit
    ∷ row 3 3 field 0 (three (λ x start end. bit_field x (nat_abs start) (nat_abs end)))  -- 35 fxbit-field
    ∷ row 4 4 field 0 (four (λ x start end y. copy_bit_field x (nat_abs start) (nat_abs end) y))  -- 36 fxcopy-bit-field
    ∷ row 2 2 (Fixnum ∷ SignedDistance ∷ []) 6 (two arithmetic_shift)  -- 37 fxarithmetic-shift
    ∷ row 2 2 (Fixnum ∷ Distance ∷ []) 6 (two (λ x k. shift_left x (nat_abs k)))  -- 38 fxarithmetic-shift-left
    ∷ row 2 2 (Fixnum ∷ Distance ∷ []) 0 (two (λ x k. shift_right x (nat_abs k)))  -- 39 fxarithmetic-shift-right
    ∷ row 4 4 (Fixnum ∷ Position ∷ FieldEnd ∷ Rotation ∷ []) 0 (four (λ x start end c. rotate_bit_field x (nat_abs start) (nat_abs end) c))  -- 40 fxrotate-bit-field
    ∷ row 3 3 field 0 (three (λ x start end. reverse_bit_field x (nat_abs start) (nat_abs end)))  -- 41 fxreverse-bit-field
    ∷ []

unfoldable pub is_code : ℕ → Bool
is_code code = leb 1 code && leb code (length rows)

-- for a number that is no code: a row that allows no count
unfoldable pub no_row : Row
no_row = row 1 0 [] 0 (every (λ xs. pos 0))

unfoldable pub row_of : ℕ → Row
row_of code = get_or (no_row ∷ rows) code no_row

abbrev pub signature_from : ℕ → ℕ → Domain → Domain → Domain → Bool → Signature
signature_from least most second third fourth double = record { least = least; most = most; second = second; third = third; fourth = fourth; double = double }

unfoldable pub signature_of : ℕ → Signature
signature_of code =
    let r = row_of code in
    signature_from r.least r.most (domain_at r.domains 1) (domain_at r.domains 2) (domain_at r.domains 3) (has_two r.results)
