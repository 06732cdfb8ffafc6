-- The answer of a fixnum call, on every input: 01's refusals in their order, and then the results.
--   counted args count                 ==  the arguments: the slots up to the count
--   fixnum_tests w xs                   ==  for each argument, whether it is a fixnum
--   all_fixnums w xs                    ==  whether all are
--   checked overflow w results         ==  the results, or the overflow refusal where the first is no fixnum; 0: it always is one
--   outcome w code xs                  ==  what an operation comes to, on arguments that no stage refuses
--   answer o                           ==  refusal 0 and the two results; or the refusal number, zero results, and the place of the argument
--                                          that the refusal is for, counted from 1, or 0 where it is for none
--   fixnum_answer w code args count     ==  the answer of the call. Stages 4 and 5 give the place of the first argument that fails
--   answer_of w code xs                 ==  the answer to the arguments xs, all of them counted
use Rattle.std.specs.Prelude.{ℕ, Bool, ◌&&◌, ◌||◌, List, map, leb, eqb, ℤ, pos, length, take}
use Rattle.bits.specs.Testbit.{fits}
use Rattle.outcomes.specs.Outcome.{Outcome, refused, done, guard}
use Rattle.outcomes.specs.Tests.{all_hold, guard_each}
use Rattle.fxtable.specs.declared.answer.Answer.{Answer}
use Rattle.fxtable.specs.Domains.{is_width, domain_tests}
use Rattle.fxtable.specs.Operations.{results_of}
use Rattle.fxtable.specs.Table.{is_code, row_of}

unfoldable pub counted : List ℤ → ℕ → List ℤ
counted args count = take count args

unfoldable pub is_count : ℕ → ℕ → Bool
is_count code count = leb (row_of code).least count && leb count (row_of code).most

unfoldable pub fixnum_tests : ℕ → List ℤ → List Bool
fixnum_tests w xs = map (fits w) xs

unfoldable pub all_fixnums : ℕ → List ℤ → Bool
all_fixnums w xs = all_hold (fixnum_tests w xs)

unfoldable pub checked : ℕ → ℕ → ℤ × ℤ → Outcome (ℤ × ℤ)
checked overflow w results = guard (eqb overflow 0 || fits w results.0) overflow (done results)

unfoldable pub outcome : ℕ → ℕ → List ℤ → Outcome (ℤ × ℤ)
outcome w code xs = checked (row_of code).overflow w (results_of (row_of code).results w xs)

unfoldable pub answer : Outcome (ℤ × ℤ) → Answer
answer (refused k place) = record { refusal = k; first = pos 0; second = pos 0; place = place }
answer (done results) = record { refusal = 0; first = results.0; second = results.1; place = 0 }

unfoldable pub fixnum_answer : ℕ → ℕ → List ℤ → ℕ → Answer
fixnum_answer w code args count =
    answer
    (guard (is_width w) 1
    (guard (is_code code) 2
    (guard (is_count code count) 3
    (guard_each (fixnum_tests w (counted args count)) 4
    (guard_each (domain_tests (row_of code).domains w (counted args count)) 5
    (outcome w code (counted args count)))))))

unfoldable pub answer_of : ℕ → ℕ → List ℤ → Answer
answer_of w code xs = fixnum_answer w code xs (length xs)
