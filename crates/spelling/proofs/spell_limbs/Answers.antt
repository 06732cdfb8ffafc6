-- `spelling::spell_limbs` meets its contract: no room, or the digits after a sign or none. Assumes nothing.
use native.Mathlib.Omega.{arith}
use borrow.Author.Rules.{rules}
use mathlib.Core.List.{[], ◌∷◌}
use mathlib.Core.Logic.{⊎_elim}
use lib.ListN.{length-set}
use Rattle.spelling.proofs.BufferLaws.{part_length, spells-none, spells-nonnegative, spells-negative}
use Rattle.spelling.proofs.spell_limbs.Goals as goal

pub returns-then-n-eq0 : goal.returns-then-n-eq0
returns-then-n-eq0 c =
    spells-none _ _
    (λ h l. ⊎_elim (λ e. omega (arith, e)) (λ w. omega (arith, w)) c.then-n-eq0.either)

pub returns-then-out-n : goal.returns-then-out-n
returns-then-out-n c = spells-none _ _ (λ h l. omega arith)

pub returns-then-x-n-lt2147483648 : goal.returns-then-x-n-lt2147483648
returns-then-x-n-lt2147483648 c =
    let p = c.put_natural in
    spells-nonnegative _ _ (λ i. search rules) (omega arith) (omega arith) _ _
    c.if-x-n-lt2147483648.true
    p.ensures.value.0
    p.ensures.out_after

pub slice_bounds-put_natural-count : goal.slice_bounds-put_natural-count
slice_bounds-put_natural-count c = simp length-set (omega arith)

pub slice_bounds-put_natural-start : goal.slice_bounds-put_natural-start
slice_bounds-put_natural-start c = simp length-set (omega arith)

pub put_natural-requires-2 : goal.put_natural-requires-2
put_natural-requires-2 c =
    (omega arith, omega (arith, part_length c.args.out.now (45 ∷ []) (omega arith)))

pub overflow_add-result : goal.overflow_add-result
overflow_add-result c =
    omega (arith, part_length c.args.out.now (45 ∷ []) (omega arith))

pub returns : goal.returns
returns c =
    let p = c.put_natural-2 in
    spells-negative _ _ (λ i. search rules) (omega arith) (omega arith) _ _ _
    c.if-x-n-lt2147483648.false
    c.negate.ensures
    p.ensures.value.0
    p.ensures.out_after
