-- Limbs to a fixnum, from what the same limbs are as a word. Assumes nothing.
use Prim.Native.Nat.{ℕ}
use mathlib.Core.Path.{◌≡◌, refl, sym, ap, ◌∙◌}
use mathlib.Core.Bool.{Bool, true, false, cond, true≢false}
use mathlib.Core.List.{List}
use lib.IntN.{ℤ}
use mir.Syntax.{w64}
use mir.Val.{to_z, of_z}
use Rattle.std.specs.Prelude.{Ok, Err}
use Rattle.bits.specs.Testbit.{fits}
use Rattle.words.proofs.WordLaws.{back-word, fits-mag}
use Rattle.fxtable.specs.Domains.{is_width}
use Rattle.fxtable.proofs.CallLaws.{fits_word}
use Rattle.limbwords.specs.Value.{value}
use Rattle.outcomes.specs.declared.refusal.Refusal.{Refusal}
use Rattle.outcomes.specs.Outcome.{Outcome, refused, done, refuse, guard, guard_at}
use Rattle.outcomes.proofs.OutcomeLaws.{passed, failed, stage-passed, done-injective}
use Rattle.outcomes.specs.Refusal.{outcome_of, code_of}
use Rattle.limbstages.specs.Stages.{is_operand, operand}
use Rattle.limbstages.proofs.StageLaws.{operand-legal}
use Rattle.limbs.specs.Operations.{word_outcome}
use Rattle.convert.specs.Convert.{to_fixnum_outcome}

-- what the outcome for a word becomes at a width
narrowed : ℕ → Outcome ℤ → Outcome ℤ
narrowed w (refused k detail) = refused k detail
narrowed w (done z) = guard (fits w z) 6 (done z)

-- an integer that fits no word is no fixnum
no-fixnum : (w : ℕ) (z : ℤ) → is_width w ≡ true → fits 64 z ≡ false → fits w z ≡ false
no-fixnum w z a e = go (fits w z) refl
  where
    go : (b : Bool) → fits w z ≡ b → fits w z ≡ false
    go true h = absurd (true≢false (sym (fits_word w z a h) ∙ e))
    go false h = h

from-word : (w : ℕ) (x : List ℕ) → is_width w ≡ true → to_fixnum_outcome w x ≡ narrowed w (word_outcome x)
unfolding to_fixnum_outcome word_outcome operand guard guard_at narrowed
from-word w x a = passed 1 _ a ∙ go (is_operand x) (fits 64 (value x)) refl
  where
    go : (l b : Bool) → fits 64 (value x) ≡ b
        → cond l (guard (fits w (value x)) 6 (done (value x))) (refuse 7) ≡ narrowed w (cond l (cond b (done (value x)) (refuse 6)) (refuse 7))
    go true true e = refl
    go true false e = failed 6 (done (value x)) (no-fixnum w (value x) a e)
    go false b e = refl

-- what the limbs x are as a word: none, or the number z
module _ (w : ℕ) (x : List ℕ) (a : is_width w ≡ true) where
  pub no_word : (k : Refusal) → outcome_of (Err k) ≡ word_outcome x → to_fixnum_outcome w x ≡ refuse (code_of k)
  unfolding outcome_of narrowed
  no_word k e = from-word w x a ∙ ap (narrowed w) (sym e)

  pub as_word : (z : ℤ) → outcome_of (Ok z) ≡ word_outcome x → to_fixnum_outcome w x ≡ guard (fits w z) 6 (done z)
  unfolding outcome_of narrowed
  as_word z e = from-word w x a ∙ ap (narrowed w) (sym e)

-- as the test of a fixnum gets it
pub word-tested : (x : List ℕ) (z : ℤ) → outcome_of (Ok z) ≡ word_outcome x → to_z w64 (of_z w64 z) ≡ z
unfolding outcome_of word_outcome
word-tested x z e =
    let l = operand-legal x (guard (fits 64 (value x)) 6 (done (value x))) (sym e) in
    let p = stage-passed (fits 64 (value x)) 6 (done (value x)) l.1 in
    back-word z (fits-mag 64 z (ap (fits 64) (sym (done-injective p.1)) ∙ p.0))
