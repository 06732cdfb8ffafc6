-- `flonum::rounding::rounded` meets its contract. Assumes nothing.
use Rattle.std.proofs.Common.{sym, ap, ◌∙◌, arith, rules}
use lib.Ieee.{neg, of_bits}
use Rattle.flonum.specs.Rounding.{rounded}
use Rattle.flonum.proofs.Values.{holds, fails}
use Rattle.flonum.proofs.NanLaws.{its-nan, no_nan}
use Rattle.flonum.proofs.RoundingLaws.{neg-above, small-rounds, negative-rounds, large-rounds, low-rounds, zero-rounds}
use Rattle.flonum.proofs.rounding.rounded.Goals as goal

pub returns-then-is_nan : goal.returns-then-is_nan
unfolding rounded
returns-then-is_nan c =
    c.the_nan.ensures ∙ ap (rounded c.args.way) (sym (its-nan c.is_nan.result c.args.x c.is_nan.ensures.value c.if-is_nan.true))

pub magnitude-requires : goal.magnitude-requires
unfolding of_bits
magnitude-requires c = (holds c.if-x.true, holds c.if-x-2.true)

pub whole-requires : goal.whole-requires
whole-requires c = let h = c.magnitude.ensures.1 in omega arith

pub magnitude-requires-then-a : goal.magnitude-requires-then-a
unfolding of_bits
magnitude-requires-then-a c = (neg-above c.args.x (holds c.if-x-3.true), holds c.if-a.true)

pub whole-requires-then-a : goal.whole-requires-then-a
whole-requires-then-a c = let h = c.magnitude-then-a.ensures.1 in omega arith

pub returns-then-x-2 : goal.returns-then-x-2
unfolding of_bits
returns-then-x-2 c =
    c.whole.ensures ∙ small-rounds c.args.way c.args.x c.magnitude.result (holds c.if-x.true, holds c.if-x-2.true) c.magnitude.ensures.0

pub returns-else-x-2 : goal.returns-else-x-2
unfolding of_bits
returns-else-x-2 c =
    large-rounds c.args.way c.args.x (search rules) (holds c.if-x.true) (fails c.if-x-2.false)

pub returns-then-a : goal.returns-then-a
unfolding of_bits
returns-then-a c =
    ap neg c.whole-then-a.ensures ∙ negative-rounds c.args.way c.args.x c.magnitude-then-a.result (neg-above c.args.x (holds c.if-x-3.true), holds c.if-a.true) c.magnitude-then-a.ensures.0

pub returns-else-a : goal.returns-else-a
unfolding of_bits
returns-else-a c =
    low-rounds c.args.way c.args.x (search rules) (holds c.if-x-3.true) (fails c.if-a.false)

pub returns-else-x-3 : goal.returns-else-x-3
unfolding of_bits
returns-else-x-3 c =
    zero-rounds c.args.way c.args.x (search rules) (no_nan c.is_nan.result c.args.x c.is_nan.ensures.value c.if-is_nan.false) (fails c.if-x.false) (fails c.if-x-3.false)
