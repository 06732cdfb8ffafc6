-- `limbcount::count::bit_count` meets its contract. The invariant: n is the ones of the first j limbs of the magnitude. Assumes nothing.
use Prim.Native.Nat.{◌+◌}
use native.Mathlib.Omega.{arith}
use mathlib.Core.Path.{◌≡◌, refl, ap, ◌∙◌}
use lib.ListN.{length}
use mir.Syntax.{w64}
use mir.ValLaws.{to_z-of_z}
use borrow.Author.Rules.{rules}
use Rattle.bits.specs.Count.{ones_below}
use Rattle.limbcount.proofs.CountLimbs.{ones_of, ones_of-all, ones_of-le, ones_of-two, ones_of-last}
use Rattle.limbcount.proofs.count.bit_count.Goals as goal
use Rattle.limbcount.proofs.count.bit_count.Goals.{After-ones_of-n, After-ones_of-n-then-j-x, Joined-j-x, then-j-x, else-j-x}

pub padding-sign-requires : goal.padding-sign-requires
padding-sign-requires c = c.requires.0

pub loop-j-init : goal.loop-j-init
unfolding ones_below
loop-j-init c = (refl, omega arith)

-- the ones of two limbs more
next : (c : After-ones_of-n) → let l = c.loop-j in
    l.n + c.ones_of-n.result ≡ ones_of c.args.x.now (l.j + 2)
next c =
    ones_of-two _ _ c.padding-sign.ensures c.requires.0 _ (λ i. (c.type_inv.x i).fits) c.loop-j.invariant.0 (omega arith) c.ones_of-n.ensures

pub overflow_add-n : goal.overflow_add-n
overflow_add-n c =
    omega (arith, next c, ones_of-le c.args.x.now (c.loop-j.j + 2))

pub loop-j-preserved : goal.loop-j-preserved
loop-j-preserved c = (next c, omega arith)

-- all limbs, where the last one was alone
last : (c : After-ones_of-n-then-j-x) → let xs = c.args.x.now in
    c.loop-j.n + c.ones_of-n-then-j-x.result ≡ ones_of xs (length xs)
last c =
    ones_of-last _ _ c.padding-sign.ensures c.requires.0 _ (λ i. (c.type_inv.x i).fits) c.loop-j.invariant.0 (omega arith) c.ones_of-n-then-j-x.ensures

pub overflow_add-n-then-j-x : goal.overflow_add-n-then-j-x
overflow_add-n-then-j-x c = let xs = c.args.x.now in omega (arith, last c, ones_of-le xs (length xs))

-- all limbs
all : (c : Joined-j-x) → let xs = c.args.x.now in
    c.if-j-x.n ≡ ones_of xs (length xs)
all c =
    let xs = c.args.x.now in
    elim c.if-j-x.branch [
      | then-j-x w ↦
          w.n-is
          ∙ ones_of-last _ _ c.padding-sign.ensures c.requires.0 _ (λ i. search rules) c.loop-j.invariant.0 (omega arith) w.ones_of-n-then-j-x.ensures
      | else-j-x w ↦ w.n-is ∙ c.loop-j.invariant.0 ∙ ap (ones_of xs) (omega arith)
    ]

pub from_magnitude-requires : goal.from_magnitude-requires
from_magnitude-requires c = let xs = c.args.x.now in omega (arith, all c, ones_of-le xs (length xs))

pub returns : goal.returns
returns c =
    to_z-of_z w64 _ (record { sfits = c.from_magnitude.type_inv })
    ∙ c.from_magnitude.ensures
    ∙ ones_of-all _ _ c.padding-sign.ensures c.requires.0 (all (goal.at.returns c).Joined-j-x)
