-- `flonum::rounding::rounded_up` meets its contract. Assumes nothing.
use Rattle.std.proofs.Common.{◌≡◌, ◌*◌, ◌/◌, ◌^◌, ◌<◌, ltb, sym, ap, ◌∙◌, arith}
use lib.Ieee.{Float, lt}
use lib.Ieee.Positive.{num, den}
use Rattle.flonum.proofs.Values.{holds, fails, whole-lt}
use Rattle.flonum.proofs.Magnitudes.{up-when, up-unless}
use Rattle.flonum.proofs.RoundingLaws.{up-test}
use Rattle.flonum.proofs.rounding.rounded_up.Goals as goal
use Rattle.flonum.proofs.rounding.rounded_up.Goals.{After-rounded_down-q, After-whole}

down_lt : (c : After-rounded_down-q) → c.rounded_down-q.result < 2 ^ 52
down_lt c = let h : num c.args.a / den c.args.a < 2 ^ 52 = whole-lt c.args.a c.requires in let e = c.rounded_down-q.ensures in omega arith

-- what the test compares
test : (c : After-whole) → let a = c.args.a in lt c.whole.result a ≡ ltb (c.rounded_down-q.result * den a) (num a * 1)
test c =
    let d = c.rounded_down-q in
    ap (λ (x : Float). lt x c.args.a) c.whole.ensures ∙ up-test c.args.a d.result c.requires d.ensures

pub whole-requires : goal.whole-requires
whole-requires c = omega (arith, down_lt c)

pub overflow_add-result : goal.overflow_add-result
overflow_add-result c = record { fits = omega (arith, down_lt c.before.before) }

pub returns-then-whole-a : goal.returns-then-whole-a
returns-then-whole-a c = up-when _ _ _ c.rounded_down-q.ensures (holds (sym (test c.before) ∙ c.if-whole-a.true))

pub returns-else-whole-a : goal.returns-else-whole-a
returns-else-whole-a c = up-unless _ _ _ c.rounded_down-q.ensures (fails (sym (test c.before) ∙ c.if-whole-a.false))
