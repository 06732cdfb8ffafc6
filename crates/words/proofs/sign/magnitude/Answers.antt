-- `words::sign::magnitude` meets its contract. Assumes nothing.
use mathlib.Core.Path.{◌≡◌, sym, ap, ◌∙◌}
use Prim.Native.Nat.{◌-◌}
use lib.IntN.{pos, nat_abs}
use lib.Signed.{mag}
use mir.Syntax.{w64}
use mir.Val.{to_z, of_z}
use Rattle.words.proofs.WordLaws.{back, is_negative-word, not-word, negative-mag, nonnegative-mag, cast-word}
use Rattle.words.proofs.sign.magnitude.Goals as goal

complement : (c : goal.Then-x-lt0) → to_z w64 (18446744073709551615 - of_z w64 c.args.x) ≡ pos (mag c.args.x)
complement c = not-word c.ranges.x ∙ negative-mag _ (sym (is_negative-word c.ranges.x) ∙ c.if-x-lt0.true)

itself : (c : goal.Else-x-lt0) → to_z w64 (of_z w64 c.args.x) ≡ pos (mag c.args.x)
itself c = back c.ranges.x ∙ nonnegative-mag _ (sym (is_negative-word c.ranges.x) ∙ c.if-x-lt0.false)

pub overflow_cast-result : goal.overflow_cast-result
overflow_cast-result c = cast-word (complement c) c.ranges.x.sfits

pub overflow_cast-result-else-x-lt0 : goal.overflow_cast-result-else-x-lt0
overflow_cast-result-else-x-lt0 c = cast-word (itself c) c.ranges.x.sfits

pub returns-then-x-lt0 : goal.returns-then-x-lt0
returns-then-x-lt0 c = ap nat_abs (complement c)

pub returns-else-x-lt0 : goal.returns-else-x-lt0
returns-else-x-lt0 c = ap nat_abs (itself c)
