-- Records as the code makes and tests them: a field's words, another accumulator, and a record that is not open. Assumes nothing.
use Prim.Native.Nat.{◌<◌, ◌^◌}
use native.Mathlib.Omega.{arith}
use mathlib.Core.Path.{◌≡◌, refl, ap, ◌∙◌}
use mathlib.Core.Bool.{false}
use borrow.Author.Tests.{ne_eqb}
use lib.IntN.{ℤ}
use lib.Signed.{mag}
use mir.Syntax.{w64}
use mir.Val.{SFits, to_z, of_z}
use Rattle.outcomes.specs.declared.refusal.Refusal.{Refusal}
use Rattle.outcomes.specs.Refusal.{code_of}
use Rattle.words.proofs.WordLaws.{back, back-word}
use Rattle.fold.specs.declared.Fold.{Fold}
use Rattle.fold.specs.declared.Opened.{Opened}
use Rattle.fold.specs.declared.opening.Refused.{Refused}
use Rattle.fold.specs.Fold.{settings, with_accumulator, rotation, is_open}
use Rattle.fold.specs.Calls.{opened, opened_as}

-- the record that the code makes of another's fields, as words, and an accumulator
pub updated : (f : Fold) (a : ℤ) → mag f.start < 2 ^ 63 → mag f.end < 2 ^ 63 → mag f.count < 2 ^ 63 → SFits w64 a
    → record {
      width = f.width;
      start = to_z w64 (of_z w64 f.start);
      end = to_z w64 (of_z w64 f.end);
      count = to_z w64 (of_z w64 f.count);
      accumulator = to_z w64 (of_z w64 a);
    } ≡ with_accumulator f a
unfolding with_accumulator settings
updated f a s e n h = rw (back-word f.start s, back-word f.end e, back-word f.count n, back h) refl

code-positive : (r : Refusal) → code_of r ≡ 0 → ⊥
unfolding code_of
code-positive Refusal.Width e = absurd (omega arith)
code-positive Refusal.Code e = absurd (omega arith)
code-positive Refusal.Count e = absurd (omega arith)
code-positive Refusal.NotFixnum e = absurd (omega arith)
code-positive Refusal.Domain e = absurd (omega arith)
code-positive Refusal.Overflow e = absurd (omega arith)
code-positive Refusal.Operand e = absurd (omega arith)
code-positive Refusal.Capacity e = absurd (omega arith)
code-positive Refusal.NotOpen e = absurd (omega arith)
code-positive Refusal.BadRule e = absurd (omega arith)

-- a record that opening refuses is not open
pub refused-shut : (f : Fold) (e : Refused) → opened_as e ≡ opened (rotation f) → is_open f ≡ false
unfolding is_open opened opened_as
refused-shut f e p = ne_eqb (rotation f).refusal 0 (λ z. code-positive e.refusal (ap (λ (o : Opened). o.refusal) p ∙ z))
