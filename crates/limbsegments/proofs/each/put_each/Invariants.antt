-- `limbsegments::each::put_each` meets its contract, turn by turn. Assumes nothing.
use Prim.Native.Nat.{ℕ, ◌<◌}
use lib.ListN.{length}
use mathlib.Core.Path.{◌≡◌}
use Rattle.outcomes.specs.Puts.{Puts}
use Rattle.limbsegments.proofs.each.put_each.Given as goal

abbrev pub invariant-loop-j : goal.invariant-loop-j
invariant-loop-j g l =
    (f : ℕ → ℕ) → ((j v : ℕ) → j < length l.initial.part → goal.F-post g l.limb_at j v → v ≡ f j) → Puts 0 f l.initial.part l.part 0 l.j
