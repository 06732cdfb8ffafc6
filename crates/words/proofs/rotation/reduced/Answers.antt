-- `words::rotation::reduced` meets its contract. Assumes nothing.
use Prim.Native.Nat.{◌%◌}
use mathlib.Core.Path.{sym, ap}
use mathlib.Core.Bool.{Bool, cond}
use borrow.Author.Tests.{eq-eqb, ne_eqb}
use Rattle.words.proofs.rotation.reduced.Goals as goal

pub returns-then-size-eq0 : goal.returns-then-size-eq0
returns-then-size-eq0 c = let a = c.args in sym (ap (λ (b : Bool). cond b 0 (a.count % a.size)) (eq-eqb a.size 0 c.if-size-eq0.true))

pub returns-else-size-eq0 : goal.returns-else-size-eq0
returns-else-size-eq0 c = let a = c.args in sym (ap (λ (b : Bool). cond b 0 (a.count % a.size)) (ne_eqb a.size 0 c.if-size-eq0.false))
