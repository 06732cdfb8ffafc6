-- `limbstages::run::store_limbs` meets its contract. Assumes nothing.
use mathlib.Core.Bool.{not}
use mathlib.Core.Path.{ap}
use native.Mathlib.Omega.{arith}
use Prim.Native.Nat.{◌-◌, ◌≤◌}
use lib.ListN.{length}
use Rattle.limbwords.specs.Value.{value}
use Rattle.limbwords.proofs.ValueLaws.{limb_count-positive}
use Rattle.limbstages.proofs.WritesLaws.{no-capacity, has-capacity, first-within, limbs-filled}
use borrow.Author.Rules.{rules}
use Rattle.limbstages.proofs.run.store_limbs.Goals as goal
use Rattle.limbstages.proofs.run.store_limbs.Goals.{Else-not-has_capacity}

capacity : (c : Else-not-has_capacity) → c.args.count ≤ length c.args.out.now - c.args.first
capacity c = has-capacity c.has_capacity.ensures (ap not c.if-not-has_capacity.false)

within : (c : Else-not-has_capacity) → c.args.first ≤ length c.args.out.now
within c = first-within _ c.requires.count_value (capacity c)

pub has_capacity-requires : goal.has_capacity-requires
has_capacity-requires c = omega (arith, c.requires.count_value, limb_count-positive (value c.args.x.now))

pub returns-then-not-has_capacity : goal.returns-then-not-has_capacity
returns-then-not-has_capacity c = no-capacity _ _ _ c.requires.count_value c.has_capacity.ensures (ap not c.if-not-has_capacity.true)

pub offset_bounds-out-at : goal.offset_bounds-out-at
offset_bounds-out-at c = let l = within c in search rules

pub slice_bounds-copy-end : goal.slice_bounds-copy-end
slice_bounds-copy-end c = omega (arith, capacity c, within c)

pub returns : goal.returns
returns c = limbs-filled _ _ _ c.requires.count_value (capacity (goal.at.returns c).Else-not-has_capacity) _ c.copy.ensures
