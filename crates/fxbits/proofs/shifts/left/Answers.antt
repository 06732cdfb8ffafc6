-- `fxbits::shifts::left` meets its contract. Assumes nothing.
use mathlib.Core.Path.{refl, ap, ◌∙◌}
use Prim.Native.Nat.{ℕ, ◌*◌}
use Rattle.words.specs.Sign.{with_sign}
use Rattle.outcomes.specs.Refusal.{code_of}
use Rattle.outcomes.specs.declared.refusal.Refusal.{Refusal}
use Rattle.words.proofs.SignedLaws.{rejoin}
use Rattle.fxtable.proofs.CallLaws.{number-positive, checked-as, checked-cong}
use Rattle.fxbits.proofs.ShiftLaws.{left-product}
use Rattle.fxbits.proofs.shifts.left.Goals as goal

pub exact-requires : goal.exact-requires
exact-requires c = record { width_value = c.requires.0; number = number-positive Refusal.Overflow }

pub returns : goal.returns
unfolding code_of
returns c =
    let b = c.is_negative in
    let n = c.absolute in
    checked-as _ _ c.exact.ensures
    ∙ checked-cong 6 c.args.width
    (c.multiply.ensures
    ∙ ap (λ (m : ℕ). with_sign b.result (n.result * m)) c.power.ensures
    ∙ left-product c.args.x b.result n.result c.args.k (rejoin c.ranges.x b.ensures n.ensures)) refl
