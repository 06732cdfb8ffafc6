-- `widewords::division::divide` meets its contract. Assumes nothing.
use Rattle.std.proofs.Common.{◌≡◌, ℕ, ◌%◌, ◌^◌, ◌<◌, ◌≤◌, Bool, true, false, nat_abs, sym, ap, ◌∙◌, subst, le_of_lt, mod-lt, div-le_self, arith}
use mathlib.Core.Bool.{xor}
use lib.Signed.{nat_abs-le}
use Rattle.bits.specs.Testbit.{is_negative}
use Rattle.widewords.specs.Division.{Allowed, Divided}
use Rattle.words.proofs.WordLaws.{back}
use Rattle.widewords.proofs.DivisionWords.{remainder, answer, divided}
use Rattle.widewords.proofs.division.divide.Goals as goal
use Rattle.widewords.proofs.division.divide.Goals.{After-absolute-b, After-rounds_up}

-- the absolute value of y, which is not 0
b-is : (c : After-absolute-b) → c.absolute-b.result ≡ nat_abs c.args.y
b-is c = c.absolute-b.ensures ∙ ap nat_abs (back c.ranges.y)

positive : (c : After-absolute-b) → 0 < c.absolute-b.result
positive c = subst (λ (n : ℕ). 0 < n) (sym (b-is c)) c.requires

-- the answer, rounded as `rounds_up` says
rounded : (c : After-rounds_up) (up : Bool) → c.rounds_up.result ≡ up
    → Divided c.args.nearest c.args.x
    c.args.y
    (answer up c.is_negative-x_negative.result c.is_negative.result
    c.absolute-a.result c.absolute-b.result)
rounded c up e =
    divided c.args.nearest up c.ranges.y c.requires
    (c.is_negative-x_negative.ensures ∙ ap is_negative (back c.ranges.x))
    (c.is_negative.ensures ∙ ap is_negative (back c.ranges.y))
    (c.absolute-a.ensures ∙ ap nat_abs (back c.ranges.x))
    (b-is c.before)
    (subst (λ (u : Bool). Allowed c.args.nearest c.absolute-b.result
    (remainder u c.is_negative-x_negative.result (c.absolute-a.result % c.absolute-b.result)
    c.absolute-b.result))
    e c.rounds_up.ensures)

pub nonzero_div-q : goal.nonzero_div-q
nonzero_div-q c = positive c

pub nonzero_rem-r : goal.nonzero_rem-r
nonzero_rem-r c = positive c

pub rounds_up-requires : goal.rounds_up-requires
rounds_up-requires c = mod-lt _ (positive c)

pub overflow_add-result : goal.overflow_add-result
overflow_add-result c =
    let n : c.absolute-a.result ≤ 2 ^ 63 =
    subst (λ (m : ℕ). m ≤ 2 ^ 63) (sym (c.absolute-a.ensures ∙ ap nat_abs (back c.ranges.x))) (nat_abs-le c.args.x c.ranges.x.sfits) in
    record { fits = omega (arith, n, div-le_self c.absolute-a.result c.absolute-b.result) }

pub overflow_sub-result : goal.overflow_sub-result
overflow_sub-result c = le_of_lt (mod-lt _ (positive c.before.before))

pub returns-then-rounds_up : goal.returns-then-rounds_up
unfolding xor
returns-then-rounds_up c = rounded c.before true c.if-rounds_up.true

pub returns-else-rounds_up : goal.returns-else-rounds_up
unfolding xor
returns-else-rounds_up c = rounded c.before false c.if-rounds_up.false
