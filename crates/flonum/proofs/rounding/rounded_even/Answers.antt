-- `flonum::rounding::rounded_even` meets its contract. Assumes nothing.
use Rattle.std.proofs.Common.{◌≡◌, ◌+◌, ◌*◌, ◌/◌, ◌^◌, ◌<◌, ltb, sym, ap, ◌∙◌, arith}
use lib.Ieee.{Float, binary64, lt, mul, of_bits}
use lib.Ieee.Positive.{num, den}
use Rattle.flonum.proofs.Values.{holds, fails, whole-lt}
use Rattle.flonum.proofs.Magnitudes.{even-less, even-more, even-same}
use Rattle.flonum.proofs.RoundingLaws.{middle, below-middle, above-middle}
use Rattle.flonum.proofs.rounding.rounded_even.Goals as goal
use Rattle.flonum.proofs.rounding.rounded_even.Goals.{After-rounded_down-q, After-whole-middle}

down_lt : (c : After-rounded_down-q) → c.rounded_down-q.result < 2 ^ 52
down_lt c = let h : num c.args.a / den c.args.a < 2 ^ 52 = whole-lt c.args.a c.requires in let e = c.rounded_down-q.ensures in omega arith

-- what the tests compare
module _ (c : After-whole-middle) where
  abbrev half : Float
  half = mul binary64 c.whole-middle.result (of_bits binary64 0x3fe0_0000_0000_0000)

  middle-is : half ≡ middle c.rounded_down-q.result
  middle-is = ap (λ (x : Float). mul binary64 x (of_bits binary64 0x3fe0_0000_0000_0000)) c.whole-middle.ensures

  below : let a = c.args.a in lt a half ≡ ltb (num a * 2) ((2 * c.rounded_down-q.result + 1) * den a)
  below =
      let d = c.rounded_down-q in
      ap (lt c.args.a) middle-is ∙ below-middle c.args.a d.result c.requires d.ensures

  above : let a = c.args.a in lt half a ≡ ltb ((2 * c.rounded_down-q.result + 1) * den a) (num a * 2)
  above =
      let d = c.rounded_down-q in
      ap (λ (x : Float). lt x c.args.a) middle-is ∙ above-middle c.args.a d.result c.requires d.ensures

pub overflow_mul-q : goal.overflow_mul-q
overflow_mul-q c = record { fits = omega (arith, down_lt c) }

pub overflow_add-q : goal.overflow_add-q
overflow_add-q c = record { fits = omega (arith, down_lt c) }

pub whole-middle-requires : goal.whole-middle-requires
whole-middle-requires c = omega (arith, down_lt c)

pub overflow_add-result : goal.overflow_add-result
overflow_add-result c = record { fits = omega (arith, down_lt c.before.before.before) }

pub overflow_add-result-else-middle-a : goal.overflow_add-result-else-middle-a
overflow_add-result-else-middle-a c = record { fits = omega (arith, down_lt c.before.before.before) }

pub returns-then-a-middle : goal.returns-then-a-middle
returns-then-a-middle c = even-less _ _ _ c.rounded_down-q.ensures (holds (sym (below c.before) ∙ c.if-a-middle.true))

pub returns-then-middle-a : goal.returns-then-middle-a
returns-then-middle-a c = even-more _ _ _ c.rounded_down-q.ensures (holds (sym (above c.before.before) ∙ c.if-middle-a.true))

pub returns-else-middle-a : goal.returns-else-middle-a
returns-else-middle-a c = even-same _ _ _ c.rounded_down-q.ensures (fails (sym (below c.before.before) ∙ c.if-a-middle.false)) (fails (sym (above c.before.before) ∙ c.if-middle-a.false))
