-- `fxbits::bit::bit` meets its contract. Assumes nothing.
use native.Mathlib.Omega.{arith}
use mathlib.Core.Path.{◌≡◌, refl, ap, ◌∙◌}
use Prim.Native.Nat.{ℕ, ◌<◌, ◌≤◌, ◌^◌}
use lib.Dec.{lit<}
use lib.IntN.{ℤ, pos, nat_abs}
use mir.Syntax.{w64}
use mir.Val.{to_z, of_z}
use Rattle.bits.specs.Testbit.{testbit}
use Rattle.bits.specs.Division.{mod0}
use Rattle.bits.specs.Field.{copy_bit}
use Rattle.words.proofs.WordLaws.{back-word}
use Rattle.outcomes.specs.Outcome.{done}
use Rattle.fxtable.specs.Calls.{answer, counted, outcome}
use Rattle.fxtable.specs.Domains.{arg, domain_at}
use Rattle.fxtable.specs.Operations.{truth}
use Rattle.fxtable.specs.Table.{rows, row_of}
use Rattle.fxtable.proofs.CallLaws.{width-bounds, done-cong, done-word, never-checked}
use Rattle.fxtable.proofs.MeaningLaws.{two-outcome, three-outcome}
use Rattle.fxstages.proofs.DomainLaws.{domain_of}
use Rattle.fxstages.proofs.ArgumentLaws.{fixnum-at, new-bit}
use Rattle.bits.proofs.RangeLaws.{natural-pos}
use Rattle.fxbits.proofs.FieldLaws.{position-call, copy-below, copy-sign}
use Rattle.fxbits.proofs.bit.bit.Goals as goal
use Rattle.fxbits.proofs.bit.bit.Goals.{After-absolute-bit, After-absolute-k, Start}

abbrev start : After-absolute-k → Start
start c = c.before.before.before

-- the number, and the position
number : (c : After-absolute-k) → to_z w64 (of_z w64 (arg (start c).args.call.args 0)) ≡ arg (start c).args.call.args 0
unfolding arg
number c = back-word (arg (start c).args.call.args 0) (omega arith)

position : (c : After-absolute-k) → c.absolute-k.result ≡ nat_abs (arg (start c).args.call.args 1)
unfolding arg
position c = c.absolute-k.ensures ∙ ap nat_abs (back-word (arg (start c).args.call.args 1) (omega arith))

bounds : (c : After-absolute-k) → (c.absolute-k.result < (start c).args.call.width) × (24 ≤ (start c).args.call.width) × ((start c).args.call.width ≤ 64)
bounds c =
    let b = width-bounds (start c).args.call.width (start c).args.call.accepted.width in
    (omega (arith, position c, position-call (start c).requires (start c).args.call.accepted), b.0, b.1)

-- the new bit
abbrev at : After-absolute-bit → After-absolute-k
at c = c.before.before.before

code : (c : After-absolute-bit) → (start (at c)).args.call.code ≡ 34
code c = omega arith

new : (c : After-absolute-bit) → (pos c.absolute-bit.result ≡ arg (start (at c)).args.call.args 2) × (c.absolute-bit.result ≤ 1)
unfolding arg rows row_of domain_at
new c =
    let b = new-bit (start (at c)).args.call.accepted (ap (λ (k : ℕ). domain_of k 2) (code c)) in
    let e = c.absolute-bit.ensures ∙ ap nat_abs (back-word (arg (start (at c)).args.call.args 2) (omega arith)) in
    (ap pos e ∙ natural-pos (arg (start (at c)).args.call.args 2) b.0, omega (arith, e, b.1))

-- what the call answers, of the words
copied : {x y b c : ℤ} {j k : ℕ} (w : ℕ) → x ≡ y → j ≡ k → b ≡ c → mod0 (copy_bit x j b) (pos (2 ^ w)) ≡ mod0 (copy_bit y k c) (pos (2 ^ w))
copied w p q r = cc

copy-answer : (c : After-absolute-bit)
    → answer (done (mod0 (copy_bit (to_z w64 (of_z w64 (arg (start (at c)).args.call.args 0))) (at c).absolute-k.result (pos c.absolute-bit.result)) (pos (2 ^ (start (at c)).args.call.width)), pos 0))
    ≡ answer (outcome (start (at c)).args.call.width (start (at c)).args.call.code (counted (start (at c)).args.call.args (start (at c)).args.call.count))
unfolding rows row_of
copy-answer c =
    done-cong (copied (start (at c)).args.call.width (number (at c)) (position (at c)) (new c).0) refl
    ∙ never-checked _ _
    ∙ three-outcome (λ v x k b. mod0 (copy_bit x (nat_abs k) b) (pos (2 ^ v))) (ap row_of (code c)) (start (at c)).args.call.accepted

pub bit_set-requires : goal.bit_set-requires
bit_set-requires c = omega (arith, bounds c.before)

pub returns-then-call-eq33 : goal.returns-then-call-eq33
unfolding arg rows row_of
returns-then-call-eq33 c =
    c.question.ensures
    ∙ done-cong (ap truth (cc (c.bit_set.ensures, number c.before.before.before, position c.before.before.before))) refl
    ∙ never-checked _ _
    ∙ two-outcome (λ v x k. truth (testbit x (nat_abs k))) (ap row_of c.if-call-eq33.true) (start c.before.before.before).args.call.accepted

pub overflow_sub-call : goal.overflow_sub-call
overflow_sub-call c = omega (arith, bounds (at c))

pub copy_bit_field-requires : goal.copy_bit_field-requires
copy_bit_field-requires c = omega (arith, bounds (at c.before))

pub extend-requires : goal.extend-requires
extend-requires c = omega (arith, bounds (at c.before))

pub returns-then-k-call : goal.returns-then-k-call
unfolding arg rows row_of
returns-then-k-call c =
    done-word c.done.ensures c.copy_bit_field.type_inv
    (c.copy_bit_field.ensures
    ∙ copy-below (start (at c.before.before.before)).args.call.width _ _ _ c.if-k-call.true
    (rw (number (at c.before.before.before)) (fixnum-at (start (at c.before.before.before)).args.call.accepted 0 (rw (code c.before.before.before) (lit< tt)))))
    ∙ copy-answer c.before.before.before

pub returns-else-k-call : goal.returns-else-k-call
unfolding arg
returns-else-k-call c =
    done-word c.done-else-k-call.ensures c.extend.type_inv
    (c.extend.ensures
    ∙ copy-sign (start (at c.before.before.before)).args.call.width _ _ _ (omega (arith, bounds (at c.before.before.before), c.if-k-call.false)) (new c.before.before.before).1)
    ∙ copy-answer c.before.before.before
