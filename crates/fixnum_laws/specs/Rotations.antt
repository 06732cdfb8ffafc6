-- Code 40 beside R6RS's own rule for its count, which is below the size of the field. Code 40 takes one count more: the size.
--   field_tests w xs                ==  for the number, the start and the end: whether it lies in its domain
--   legal_field w xs                ==  whether arguments 1 and 2 are the start and the end of a field at the width
--   below_size xs                   ==  R6RS's rule: 0 <= count < end - start
--   is_size xs                      ==  whether the count is end - start
--   strict_answer w args n          ==  what code 40 would answer under that rule
--   is_full_rotation w args n        ==  whether a call of code 40, of fixnums and a field at the width, has the count end - start
use Rattle.std.specs.Prelude.{ℕ, Bool, ◌&&◌, List, [], ◌∷◌, ◌++◌, ℤ, pos, ◌-ℤ◌}
use Rattle.std.specs.Int.Signed.{le_z, lt_z}
use Rattle.outcomes.specs.Outcome.{guard}
use Rattle.outcomes.specs.Tests.{all_hold, guard_each}
use Rattle.fxtable.specs.declared.answer.Answer.{Answer}
use Rattle.fxtable.specs.declared.domains.Domain.TheVariants.{Fixnum, Position, FieldEnd}
use Rattle.fxtable.specs.Domains.{is_width, arg, domain_tests}
use Rattle.fxtable.specs.Operations.{equal}
use Rattle.fxtable.specs.Calls.{answer, counted, is_count, fixnum_tests, all_fixnums, outcome}

unfoldable pub field_tests : ℕ → List ℤ → List Bool
field_tests w xs = domain_tests (Fixnum ∷ Position ∷ FieldEnd ∷ []) w xs

unfoldable pub legal_field : ℕ → List ℤ → Bool
legal_field w xs = all_hold (field_tests w xs)

unfoldable pub below_size : List ℤ → Bool
below_size xs = le_z (pos 0) (arg xs 3) && lt_z (arg xs 3) (arg xs 2 -ℤ arg xs 1)

unfoldable pub is_size : List ℤ → Bool
is_size xs = equal (arg xs 3) (arg xs 2 -ℤ arg xs 1)

unfoldable pub strict_answer : ℕ → List ℤ → ℕ → Answer
strict_answer w args n =
    answer
    (guard (is_width w) 1
    (guard (is_count 40 n) 3
    (guard_each (fixnum_tests w (counted args n)) 4
    (guard_each (field_tests w (counted args n) ++ (below_size (counted args n) ∷ [])) 5
    (outcome w 40 (counted args n))))))

unfoldable pub is_full_rotation : ℕ → List ℤ → ℕ → Bool
is_full_rotation w args n =
    is_width w && (is_count 40 n && (all_fixnums w (counted args n) && (legal_field w (counted args n) && is_size (counted args n))))
