-- `fltext::rounding::nearest_bits` meets its contract, one half after another. Assumes nothing.
use Prim.Native.Nat.{◌%◌}
use native.Mathlib.Omega.{arith}
use borrow.Author.Rules.{rules}
use mathlib.Core.Path.{◌≡◌, ap, ◌∙◌}
use mathlib.Core.Bool.{not, ◌||◌}
use lib.Dec.{eqb, lit<}
use Rattle.text.specs.Naturals.{natural}
use Rattle.fltext.specs.Packing.{nonzero, rounded_up, packed}
use Rattle.fltext.proofs.HalvingLaws.{halved_none, halved-count, halved-less, halved-more, halved-all}
use Rattle.fltext.proofs.rounding.nearest_bits.Goals as goal
use Rattle.fltext.proofs.rounding.nearest_bits.Goals.{After-divide-half, Joined-below, then-below, else-below}

pub loop-negative-init : goal.loop-negative-init
loop-negative-init c = halved_none _ _

-- the bit that was taken off
half : (c : After-divide-half) → not (eqb c.divide-half.result 0) ≡ nonzero (natural c.loop-negative.x % 2)
unfolding nonzero
half c = ap (λ n. not (eqb n 0)) c.divide-half.ensures.value

-- which becomes one of those below the next
below : (c : Joined-below) → let l = c.loop-negative in
    c.if-below.below ≡ l.below || nonzero (natural l.x % 2)
unfolding nonzero
below c =
    elim c.if-below.branch [ then-below w ↦ w.below-is ∙ rw w.if-below.true | else-below w ↦ w.below-is ∙ rw w.if-below.false (ap (λ n. not (eqb n 0)) c.divide-half.ensures.value) ]

pub shape_of-x-then-q-lt9007199254740992 : goal.shape_of-x-then-q-lt9007199254740992
shape_of-x-then-q-lt9007199254740992 c =
    c.divide-half.ensures.becomes.size ∙ c.loop-negative.invariant.limbs.size

pub returns-then-q-lt9007199254740992 : goal.returns-then-q-lt9007199254740992
returns-then-q-lt9007199254740992 c =
    let l = c.loop-negative in
    let a = c.args in
    c.pack.ensures
    ∙ ap (packed a.negative l.k) (c.rounded_up.ensures.value ∙ ap (λ h. rounded_up c.capped-q.result h l.below) (half (goal.at.returns-then-q-lt9007199254740992 c).After-divide-half))
    ∙ halved-all l.invariant c.divide-half.ensures.becomes c.capped-q.ensures c.if-q-lt9007199254740992.true a.negative

pub overflow_add-k : goal.overflow_add-k
overflow_add-k c =
    omega (arith, halved-count c.loop-negative.invariant (λ i. search rules), c.requires)

pub loop-negative-smaller : goal.loop-negative-smaller
loop-negative-smaller c =
    halved-less c.loop-negative.invariant c.divide-half.ensures.becomes c.capped-q.ensures c.if-q-lt9007199254740992.false

pub loop-negative-preserved : goal.loop-negative-preserved
loop-negative-preserved c =
    halved-more c.loop-negative.invariant c.divide-half.ensures.becomes c.capped-q.ensures c.if-q-lt9007199254740992.false (below c)

pub divide-half-requires : goal.divide-half-requires
divide-half-requires c = (lit< tt, lit< tt)

pub rounded_up-requires : goal.rounded_up-requires
rounded_up-requires c = c.if-q-lt9007199254740992.true

pub pack-requires : goal.pack-requires
pack-requires c = c.rounded_up.ensures.upper_bound
