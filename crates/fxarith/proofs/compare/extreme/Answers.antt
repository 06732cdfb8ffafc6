-- `fxarith::compare::extreme` meets its contract. Assumes nothing.
use Rattle.std.proofs.Common.{rules, ◌≡◌, sym, ap, ◌∙◌, arith, ℕ, ◌<◌, ◌^◌, List, [], ℤ, w64, to_z, of_z}
use lib.Signed.{mag}
use Rattle.words.proofs.WordLaws.{back-word}
use Rattle.fxtable.specs.Domains.{arg}
use Rattle.fxtable.specs.Operations.{every, fold_from, larger, smaller, largest, smallest}
use Rattle.fxtable.specs.Table.{row, rows, row_of}
use Rattle.fxtable.specs.Calls.{counted}
use Rattle.fxtable.specs.Inner.{Accepted}
use Rattle.fxtable.proofs.CallLaws.{between, arg-counted}
use Rattle.fxtable.proofs.MeaningLaws.{arity-row}
use Rattle.fxstages.proofs.LoopLaws.{fold-answer}
use Rattle.fxarith.proofs.compare.extreme.Goals as goal

-- the fold starts from the first argument, which is the first slot
from_first : (step : ℤ → ℤ → ℤ) {w code n : ℕ} {xs : List ℤ} → Accepted w code xs n → mag (arg xs 0) < 2 ^ 63
    → row_of code ≡ row 1 4 [] 0 (every (λ ys. fold_from step (arg ys 0) ys))
    → fold_from step (arg (counted xs n) 0) (counted xs n) ≡ fold_from step (to_z w64 (of_z w64 (arg xs 0))) (counted xs n)
unfolding arg
from_first step {n = n} {xs = xs} a h e =
    ap (λ (x : ℤ). fold_from step x (counted xs n))
    (arg-counted xs n 0 (between 1 n 4 (arity-row e a)).0 ∙ sym (back-word (arg xs 0) h))

pub returns-then-call-eq11 : goal.returns-then-call-eq11
unfolding rows row_of arg larger largest
returns-then-call-eq11 c =
    let e = ap row_of c.if-call-eq11.true in
    fold-answer largest larger _ _ _ _ e (from_first larger c.args.call.accepted (omega arith) e) c.done.ensures c.fold_all.type_inv
    (rw c.slots-args.ensures at (c.fold_all.ensures larger (λ x y r h k p. search rules)))

pub returns-else-call-eq11 : goal.returns-else-call-eq11
unfolding rows row_of arg smaller smallest
returns-else-call-eq11 c =
    let k : c.args.call.code ≡ 12 = omega arith in
    let e = ap row_of k in
    fold-answer smallest smaller _ _ _ _ e (from_first smaller c.args.call.accepted (omega arith) e) c.done-else-call-eq11.ensures c.fold_all-else-call-eq11.type_inv
    (rw c.slots-args.ensures at (c.fold_all-else-call-eq11.ensures smaller (λ x y r h k p. search rules)))
