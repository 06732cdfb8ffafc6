-- `limbwords::field::mirror` meets its contract. Assumes nothing.
use Prim.Native.Nat.{ℕ, ◌-◌}
use native.Mathlib.Omega.{arith}
use mathlib.Core.Path.{◌≡◌, ap, ◌∙◌}
use mathlib.Core.Bool.{Bool, not, ◌&&◌}
use borrow.Author.Tests.{le-ltb}
use lib.IntN.{pos}
use Rattle.bits.specs.Testbit.{testbit}
use Rattle.words.proofs.FieldWords.{testbit-mod-lt, testbit-times}
use Rattle.limbwords.proofs.field.mirror.Goals as goal

pub returns : goal.returns
returns c t h =
    let w = c.from.result in
    let same : 63 - t - 32 ≡ 31 - t = omega arith in
    testbit-mod-lt c.reverse_word.result 32 t h
    ∙ c.reverse_word.ensures t (omega arith)
    ∙ testbit-times w 32 (63 - t)
    ∙ ap (λ (b : Bool). not b && testbit (pos w) (63 - t - 32)) (le-ltb (63 - t) 32 (omega arith))
    ∙ ap (testbit (pos w)) same
    ∙ ap (λ (n : ℕ). testbit (pos n) (31 - t)) c.from.ensures
