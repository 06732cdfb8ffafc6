-- `fxstages::domains::first_outside` meets its contract. Assumes nothing.
use native.Mathlib.Omega.{arith}
use mathlib.Core.Path.{◌≡◌, sym, ◌∙◌}
use mathlib.Core.Bool.{Bool, true, false, cond}
use Rattle.outcomes.specs.Tests.{first_failed_from, first_failed}
use Rattle.fxtable.specs.Domains.{domain_tests}
use Rattle.fxtable.specs.Table.{row_of}
use Rattle.fxtable.specs.Calls.{counted}
use Rattle.fxstages.proofs.DomainLaws.{signature-domains, no_second, no_third, in_order}
use Rattle.fxstages.proofs.domains.first_outside.Goals as goal
use Rattle.fxstages.proofs.domains.first_outside.Goals.{After-accepts-3, Else-not-accepts, Else-not-accepts-2}

second-ok : (c : Else-not-accepts) → c.accepts.result ≡ true
second-ok c = c.if-not-accepts.false

third-ok : (c : Else-not-accepts-2) → c.accepts-2.result ≡ true
third-ok c = c.if-not-accepts-2.false

pub accepts-requires : goal.accepts-requires
accepts-requires c = record { width_value = (c.requires.width_value, omega arith); args_value = λ e. absurd (no_second _ c.signature_of-s.ensures e) }

pub returns-then-not-accepts : goal.returns-then-not-accepts
unfolding first_failed first_failed_from
returns-then-not-accepts c =
    let no = sym c.accepts.ensures ∙ c.if-not-accepts.true in
    sym (signature-domains _ c.signature_of-s.ensures c.args.width c.args.args c.args.count c.requires.count_value ∙ rw no)

pub accepts-requires-2 : goal.accepts-requires-2
accepts-requires-2 c = record { width_value = (c.requires.width_value, omega arith); args_value = λ e. absurd (no_third _ c.signature_of-s.ensures e) }

pub returns-then-not-accepts-2 : goal.returns-then-not-accepts-2
unfolding first_failed first_failed_from
returns-then-not-accepts-2 c =
    let yes = sym c.accepts.ensures ∙ second-ok c.before.before in
    let no = sym c.accepts-2.ensures ∙ c.if-not-accepts-2.true in
    sym (signature-domains _ c.signature_of-s.ensures c.args.width c.args.args c.args.count c.requires.count_value ∙ rw (yes, no))

pub accepts-requires-3 : goal.accepts-requires-3
accepts-requires-3 c =
    record {
      width_value = (c.requires.width_value, omega arith);
      args_value = in_order _ c.signature_of-s.ensures _ _
          (sym c.accepts.ensures ∙ second-ok c.before.before) (sym c.accepts-2.ensures ∙ third-ok c);
    }

-- arguments 1 and 2 lie in their domains, and argument 3 as b says
last : (c : After-accepts-3) (b : Bool) → c.accepts-3.result ≡ b
    → first_failed (domain_tests (row_of c.args.code).domains c.args.width (counted c.args.args c.args.count))
    ≡ cond b 0 4
unfolding first_failed first_failed_from
last c b q =
    let yes = sym c.accepts.ensures ∙ second-ok c.before.before.before in
    let too = sym c.accepts-2.ensures ∙ third-ok c.before in
    signature-domains _ c.signature_of-s.ensures c.args.width c.args.args c.args.count c.requires.count_value ∙ rw (yes, too, sym c.accepts-3.ensures ∙ q)

pub returns-then-not-accepts-3 : goal.returns-then-not-accepts-3
returns-then-not-accepts-3 c = sym (last c.before false (c.if-not-accepts-3.true))

pub returns : goal.returns
returns c = sym (last c.before true (c.if-not-accepts-3.false))
