-- `limbstages::check::natural` meets its contract. Assumes nothing.
use Prim.Native.Nat.{ℕ, zero-le}
use native.Mathlib.Omega.{arith}
use mathlib.Core.Path.{◌≡◌, refl, sym, ap, ◌∙◌}
use lib.IntN.{ℤ, pos, negsuc, nat_abs}
use mir.Syntax.{w64}
use mir.Val.{SFits}
use borrow.Author.Tests.{le-leb}
use Rattle.std.specs.Prelude.{Result, Ok, Err}
use Rattle.std.specs.Int.{FitsUnsignedBits}
use Rattle.std.specs.Result.{OkIff, result_or}
use Rattle.words.proofs.WordLaws.{back}
use Rattle.outcomes.specs.declared.refusal.Refusal.{Refusal}
use Rattle.outcomes.specs.Outcome.{done}
use Rattle.outcomes.specs.Refusal.{outcome_of, code_of}
use Rattle.outcomes.proofs.OutcomeLaws.{passed, failed}
use Rattle.limbstages.specs.Stages.{natural}
use Rattle.limbstages.proofs.check.natural.Goals as goal

converted : {E : Type 0} (n : ℤ) (r : Result ℕ E) → SFits w64 n → OkIff r (FitsUnsignedBits 64 n) (nat_abs n)
    → outcome_of (result_or r (Err Refusal.Domain)) ≡ natural n (done (nat_abs n))
unfolding outcome_of code_of natural
converted (pos k) (Ok m) f h = ap done h.1 ∙ sym (passed 5 _ (le-leb 0 k zero-le))
converted (pos k) (Err e) f h = absurd (h (omega (arith, f.sfits)))
converted (negsuc k) (Ok m) f h = absurd h.0
converted (negsuc k) (Err e) f h = sym (failed 5 _ refl)

pub returns : goal.returns
returns c =
    let f = c.ranges.n in
    ap outcome_of c.or.ensures ∙ converted c.args.n c.try_from.result f (rw (back f) at c.try_from.ensures)
