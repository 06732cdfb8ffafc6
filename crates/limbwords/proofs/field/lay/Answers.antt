-- `limbwords::field::lay` meets its contract. Assumes nothing.
use Prim.Native.Nat.{◌+◌, ◌*◌}
use mathlib.Core.Path.{ap, ◌∙◌}
use mathlib.Core.Bool.{cond}
use lib.Dec.{ltb}
use lib.IntN.{pos}
use Rattle.bits.specs.Testbit.{testbit}
use Rattle.limbwords.proofs.FieldLimbs.{choose-field}
use Rattle.limbwords.proofs.field.lay.Goals as goal

pub returns : goal.returns
returns c t h =
    let a = c.args in
    let i = 32 * a.j + t in
    c.splice_at-2.ensures t h
    ∙ ap (cond (ltb i a.start) (testbit (pos a.outside) t)) (c.splice_at.ensures t h)
    ∙ choose-field a.start a.end i (testbit (pos a.inside) t) (testbit (pos a.outside) t)
