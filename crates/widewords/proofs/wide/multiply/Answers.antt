-- `widewords::wide::multiply` meets its contract. Assumes nothing.
use Rattle.std.proofs.Common.{ap, arith}
use Rattle.words.specs.Sign.{with_sign}
use Rattle.widewords.specs.Wide.{wide_value}
use Rattle.widewords.proofs.Columns.{Halves, word-halves, columns-product}
use Rattle.widewords.proofs.wide.multiply.Goals as goal

known : (c : goal.Start) → Halves c.args.a c.args.b
known c = word-halves c.args.a c.args.b (omega arith) (omega arith)

pub overflow_mul-first : goal.overflow_mul-first
overflow_mul-first c = record { fits = omega (arith, known c) }

pub overflow_mul-second : goal.overflow_mul-second
overflow_mul-second c = record { fits = omega (arith, known c) }

pub overflow_add-second : goal.overflow_add-second
overflow_add-second c = record { fits = omega (arith, known c) }

pub overflow_mul-third : goal.overflow_mul-third
overflow_mul-third c = record { fits = omega (arith, known c) }

pub overflow_add-third : goal.overflow_add-third
overflow_add-third c = record { fits = omega (arith, known c) }

pub overflow_mul-result : goal.overflow_mul-result
overflow_mul-result c = record { fits = omega (arith, known c) }

pub overflow_add-result : goal.overflow_add-result
overflow_add-result c = record { fits = omega (arith, known c) }

pub overflow_add-result-2 : goal.overflow_add-result-2
overflow_add-result-2 c = record { fits = omega (arith, known c) }

pub returns : goal.returns
unfolding wide_value
returns c = ap (with_sign c.args.negative) (columns-product c.args.a c.args.b)
