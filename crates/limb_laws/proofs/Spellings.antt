-- What trim writes, and that an integer has one spelling. Assumes nothing.
use Prim.Native.Nat.{ℕ}
use native.Mathlib.Omega.{arith}
use mathlib.Core.Path.{◌≡◌, refl, sym, ap, ◌∙◌, subst}
use mathlib.Core.Bool.{Bool, true, false, cond, not}
use mathlib.Core.List.{List}
use lib.Dec.{eqb, leb}
use Rattle.outcomes.specs.Outcome.{done, guard, guard_at, map_done, refusal_of}
use Rattle.outcomes.specs.Buffer.{capacity, fitted}
use Rattle.outcomes.proofs.OutcomeLaws.{passed}
use Rattle.limbwords.specs.Value.{value, limb_count, shortest}
use Rattle.limbwords.proofs.ValueLaws.{value-shortest}
use Rattle.limbstages.specs.declared.Written.{Written}
use Rattle.limbstages.specs.Buffer.{stored, written}
use Rattle.limbstages.specs.Stages.{has_limbs, untrimmed}
use Rattle.limbs.specs.Operations.{trim_outcome}
use Rattle.limb_laws.specs.Replies.{Output, reply_to, limbs_in, has_room, Done, Legal}
use Rattle.limb_laws.specs.Spellings.{trimmed, SpellingStatement}
use Rattle.limb_laws.proofs.LegalLaws.{limbs-fit, shortest-legal, legal-shortest, legal-unique, refusal-by-room, done-as}

module _ (x : List ℕ) (p : Output) where
  refusal_is : (trimmed x p).answer.refusal ≡ cond (has_limbs x) (cond (leb (limb_count (value x)) (capacity p.buffer p.first)) 0 8) 7
  unfolding trimmed trim_outcome untrimmed guard guard_at reply_to written stored map_done refusal_of fitted capacity
  refusal_is = go (has_limbs x)
    where
      go : (b : Bool) → (reply_to (guard b 7 (done (value x))) p).answer.refusal ≡ cond b (cond (leb (limb_count (value x)) (capacity p.buffer p.first)) 0 8) 7
      go true = refusal-by-room p (value x)
      go false = refl

  -- a trim that is done
  module _ (e : (trimmed x p).answer.refusal ≡ 0) where
    has-limbs : has_limbs x ≡ true
    has-limbs = go (has_limbs x) (sym refusal_is ∙ e)
      where
        go : (b : Bool) → ◌≡◌ {A = ℕ} (cond b (cond (leb (limb_count (value x)) (capacity p.buffer p.first)) 0 8) 7) 0 → b ≡ true
        go true q = refl
        go false q = absurd (omega arith)

    trim-done : Done (trimmed x p) p (shortest (value x))
    unfolding trimmed trim_outcome untrimmed has_room
    trim-done = done-as p (value x) (passed 7 (done (value x)) has-limbs) (ap (λ (n : ℕ). not (eqb n 8)) e)

    trim-legal : Legal (limbs_in (trimmed x p) p)
    trim-legal = subst Legal (sym trim-done.limbs) (shortest-legal (value x) (limbs-fit x has-limbs))

    trim-value : value (limbs_in (trimmed x p) p) ≡ value x
    trim-value = ap value trim-done.limbs ∙ value-shortest (value x)

-- limbs that trim writes as they are
kept : (x : List ℕ) (p : Output) → Done (trimmed x p) p x → Legal x
kept x p d = subst Legal d.limbs (trim-legal x p (ap (λ (a : Written). a.refusal) d.answered))

pub one-integer-one-spelling : SpellingStatement
one-integer-one-spelling = record {
  refusal = refusal_is;
  legal = trim-legal;
  same-value = trim-value;
  only = λ x y p e l v. legal-unique y (limbs_in (trimmed x p) p) l (trim-legal x p e) (v ∙ sym (trim-value x p e));
  unchanged = λ x p e l. subst (Done (trimmed x p) p) (sym (legal-shortest x l)) (trim-done x p e);
  changed = kept;
  one-spelling = legal-unique;
  keys = λ x y p q e f. (
    λ v. (trim-done x p e).limbs ∙ ap shortest v ∙ sym (trim-done y q f).limbs,
    λ v. sym (trim-value x p e) ∙ ap value v ∙ trim-value y q f,
  );
}
