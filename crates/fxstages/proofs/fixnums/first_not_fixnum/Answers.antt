-- `fxstages::fixnums::first_not_fixnum` meets its contract. Assumes nothing.
use mathlib.Core.Path.{◌≡◌, sym, ◌∙◌}
use mathlib.Core.Bool.{Bool, true, false, cond}
use Rattle.outcomes.specs.Tests.{first_failed_from, first_failed}
use Rattle.fxtable.specs.Calls.{counted, fixnum_tests}
use Rattle.fxstages.proofs.FixnumLaws.{not-fixnum}
use Rattle.fxstages.proofs.fixnums.first_not_fixnum.Goals as goal
use Rattle.fxstages.proofs.fixnums.first_not_fixnum.Goals.{After-passes-4, Else-not-passes, Else-not-passes-2, Else-not-passes-3}

-- the arguments that have passed
first-ok : (c : Else-not-passes) → c.passes.result ≡ true
first-ok c = c.if-not-passes.false

second-ok : (c : Else-not-passes-2) → c.passes-2.result ≡ true
second-ok c = c.if-not-passes-2.false

third-ok : (c : Else-not-passes-3) → c.passes-3.result ≡ true
third-ok c = c.if-not-passes-3.false

pub returns-then-not-passes : goal.returns-then-not-passes
unfolding first_failed first_failed_from
returns-then-not-passes c =
    let no = sym c.passes.ensures ∙ c.if-not-passes.true in
    sym (not-fixnum c.args.width c.args.args c.args.count c.requires.1 ∙ rw no)

pub returns-then-not-passes-2 : goal.returns-then-not-passes-2
unfolding first_failed first_failed_from
returns-then-not-passes-2 c =
    let first = sym c.passes.ensures ∙ first-ok c.before.before in
    let no = sym c.passes-2.ensures ∙ c.if-not-passes-2.true in
    sym (not-fixnum c.args.width c.args.args c.args.count c.requires.1 ∙ rw (first, no))

pub returns-then-not-passes-3 : goal.returns-then-not-passes-3
unfolding first_failed first_failed_from
returns-then-not-passes-3 c =
    let first = sym c.passes.ensures ∙ first-ok c.before.before.before.before in
    let second = sym c.passes-2.ensures ∙ second-ok c.before.before in
    let no = sym c.passes-3.ensures ∙ c.if-not-passes-3.true in
    sym (not-fixnum c.args.width c.args.args c.args.count c.requires.1 ∙ rw (first, second, no))

-- three arguments have passed, and the test of the last has said b
last : (c : After-passes-4) (b : Bool) → c.passes-4.result ≡ b
    → (first_failed (fixnum_tests c.args.width (counted c.args.args c.args.count)) ≡ cond b 0 4)
unfolding first_failed first_failed_from
last c b q =
    let first = sym c.passes.ensures ∙ first-ok c.before.before.before.before.before in
    let second = sym c.passes-2.ensures ∙ second-ok c.before.before.before in
    let third = sym c.passes-3.ensures ∙ third-ok c.before in
    not-fixnum c.args.width c.args.args c.args.count c.requires.1 ∙ rw (first, second, third, sym c.passes-4.ensures ∙ q)

pub returns-then-not-passes-4 : goal.returns-then-not-passes-4
returns-then-not-passes-4 c = sym (last c.before false (c.if-not-passes-4.true))

pub returns : goal.returns
returns c = sym (last c.before true (c.if-not-passes-4.false))
