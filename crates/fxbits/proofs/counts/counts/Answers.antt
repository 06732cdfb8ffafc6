-- `fxbits::counts::counts` meets its contract. Assumes nothing.
use native.Mathlib.Omega.{arith}
use mathlib.Core.Path.{◌≡◌, ap, ◌∙◌}
use mathlib.Core.List.{List, []}
use Prim.Native.Nat.{ℕ, ◌<◌, ◌^◌}
use lib.IntN.{ℤ, pos}
use lib.Signed.{mag}
use mir.Syntax.{w64}
use mir.Val.{SFits, to_z, of_z}
use Rattle.bits.specs.Testbit.{bit_length}
use Rattle.bits.specs.Count.{bit_count, first_bit_set}
use Rattle.words.proofs.WordLaws.{back}
use Rattle.fxtable.specs.declared.answer.Answer.{Answer}
use Rattle.outcomes.specs.Outcome.{done}
use Rattle.fxtable.specs.Calls.{answer, counted, outcome}
use Rattle.fxtable.specs.Domains.{arg}
use Rattle.fxtable.specs.Operations.{one}
use Rattle.fxtable.specs.Table.{rows, row, row_of}
use Rattle.fxtable.specs.Inner.{Accepted}
use Rattle.fxtable.proofs.CallLaws.{done-never}
use Rattle.fxtable.proofs.MeaningLaws.{one-outcome}
use Rattle.fxbits.proofs.counts.counts.Goals as goal

-- a count of the first argument's bits, as the answer of its code
count-answer : (f : ℤ → ℤ) {w code n : ℕ} {xs : List ℤ} {r : Answer} {y : ℤ} → r ≡ answer (done (to_z w64 (of_z w64 y), pos 0))
    → y ≡ f (to_z w64 (of_z w64 (arg xs 0))) → mag y < 2 ^ 63 → SFits w64 (arg xs 0) → row_of code ≡ row 1 1 [] 0 (one f) → Accepted w code xs n
    → r ≡ answer (outcome w code (counted xs n))
count-answer f d e h k o a = done-never _ d h (e ∙ ap f (back k)) ∙ one-outcome (λ v x. f x) o a

pub returns-in-30 : goal.returns-in-30
unfolding rows row_of arg
returns-in-30 c =
    count-answer bit_count c.done.ensures c.bit_count.ensures c.bit_count.type_inv
    (record { sfits = omega arith }) (ap row_of c.in-30.is) c.args.call.accepted

pub returns-in-31 : goal.returns-in-31
unfolding rows row_of arg
returns-in-31 c =
    count-answer (λ z. pos (bit_length z)) c.done-in-31.ensures c.length.ensures c.length.type_inv
    (record { sfits = omega arith }) (ap row_of c.in-31.is) c.args.call.accepted

pub returns-in_default : goal.returns-in_default
unfolding rows row_of arg
returns-in_default c =
    let last : c.args.call.code ≡ 32 = omega arith in
    count-answer first_bit_set c.done-in_default.ensures c.first_bit_set.ensures c.first_bit_set.type_inv
    (record { sfits = omega arith }) (ap row_of last) c.args.call.accepted
