-- `spelling::put_natural` meets its contract: two bytes, and the digits in the part after them. Assumes nothing.
use Prim.Native.Nat.{ℕ, ◌+◌}
use native.Mathlib.Omega.{arith}
use mathlib.Core.Path.{ap, ◌∙◌}
use mathlib.Core.List.{[], ◌∷◌, ◌++◌}
use lib.ListN.{drop, length-set}
use Rattle.spelling.specs.Spellings.{digits}
use Rattle.text.specs.Naturals.{natural}
use Rattle.spelling.proofs.BufferLaws.{part_length, part-back}
use Rattle.spelling.proofs.put_natural.Goals as goal

pub bounds-out-1 : goal.bounds-out-1
bounds-out-1 c = simp length-set (omega arith)

pub slice_bounds-put_nibbles-count : goal.slice_bounds-put_nibbles-count
slice_bounds-put_nibbles-count c = simp length-set (omega arith)

pub slice_bounds-put_nibbles-start : goal.slice_bounds-put_nibbles-start
slice_bounds-put_nibbles-start c = simp length-set (omega arith)

pub put_nibbles-requires : goal.put_nibbles-requires
put_nibbles-requires c =
    let out = c.args.out.now in
    (omega arith, omega (arith, part_length out (48 ∷ 120 ∷ []) (omega arith)))

pub returns : goal.returns
returns c =
    let out = c.args.out.now in
    let k = c.hex_length-k in
    let n = natural c.args.x.now in
    record { value = (ap (λ (n : ℕ). n + 2) k.ensures.0, omega arith); out_after = part-back out (48 ∷ 120 ∷ []) (omega arith) c.put_nibbles.new.out (digits 16 k.result n) k.result c.put_nibbles.ensures ∙ ap (λ (m : ℕ). 48 ∷ 120 ∷ (digits 16 m n ++ drop (k.result + 2) out)) k.ensures.0 }
