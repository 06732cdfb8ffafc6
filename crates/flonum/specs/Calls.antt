-- What each flonum call answers.
--   flat a                      ==  an answer's refusal number, kind and values: one of the kinds 0 refused, 1 a fixnum, 2 a flonum; what it does not have is 0
--   flonum_answer o              ==  the answer of a call whose value is a flonum
--   fixnum_to_flonum w n          ==  fixnum->flonum: nearest, at a tie to the even one
--   truth b                     ==  the answer to a question
--   is_count n                   ==  1 <= n <= 4
--   extremes_of o                ==  refusal 0 and the two; or the refusal number, and positive zeros
--   extremes_answer xs n         ==  the smallest and the largest of the first n of xs
use Rattle.std.specs.Prelude.{ℕ, Bool, false, cond, ◌&&◌, List, [], take, ℤ, pos, nat_le, Float}
use Rattle.std.specs.Float.{fin, binary64}
use Rattle.std.specs.Float.Ieee.{of_int}
use Rattle.bits.specs.Testbit.{fits}
use Rattle.outcomes.specs.Outcome.{Outcome, refused, done, guard}
use Rattle.fxtable.specs.Domains.{is_width}
use Rattle.flonum.specs.declared.answer.Answer.{Answer}
use Rattle.flonum.specs.declared.answer.Answer.TheVariants.{Refused, Fixnum, Flonum}
use Rattle.flonum.specs.declared.answer.FlatAnswer.{FlatAnswer}
use Rattle.flonum.specs.declared.extremes.Extremes.{Extremes}
use Rattle.flonum.specs.declared.extremes.ExtremesAnswer.{ExtremesAnswer}
use Rattle.flonum.specs.Extremes.{extremes}

unfoldable pub flat : Answer → FlatAnswer
flat (Refused k) = record { refusal = k; kind = 0; fixnum = pos 0; flonum = fin false 0 (pos 0) }
flat (Fixnum n) = record { refusal = 0; kind = 1; fixnum = n; flonum = fin false 0 (pos 0) }
flat (Flonum x) = record { refusal = 0; kind = 2; fixnum = pos 0; flonum = x }

unfoldable pub flonum_answer : Outcome Float → Answer
flonum_answer (refused k detail) = Refused k
flonum_answer (done x) = Flonum x

unfoldable pub fixnum_to_flonum : ℕ → ℤ → Answer
fixnum_to_flonum w n = flonum_answer (guard (is_width w) 1 (guard (fits w n) 4 (done (of_int binary64 n))))

unfoldable pub truth : Bool → Answer
truth b = Fixnum (cond b (pos 1) (pos 0))

unfoldable pub is_count : ℕ → Bool
is_count n = nat_le 1 n && nat_le n 4

unfoldable pub extremes_of : Outcome Extremes → ExtremesAnswer
extremes_of (refused k detail) = record { refusal = k; values = extremes [] }
extremes_of (done e) = record { refusal = 0; values = e }

unfoldable pub extremes_answer : List Float → ℕ → ExtremesAnswer
extremes_answer xs n = extremes_of (guard (is_count n) 3 (done (extremes (take n xs))))
