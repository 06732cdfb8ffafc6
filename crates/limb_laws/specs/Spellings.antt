-- One integer, one spelling: what trim writes, and what limbs that the calls accept have in common.
--   trimmed x p          ==  the reply of trim on the limbs x, which may be padded
--   SpellingStatement    ==  what a user of limbs as keys relies on
use Rattle.std.specs.Prelude.{ℕ, ◌≡◌, cond, List, leb}
use Rattle.outcomes.specs.Buffer.{capacity}
use Rattle.limbwords.specs.Value.{value, limb_count}
use Rattle.limbstages.specs.Stages.{has_limbs}
use Rattle.limbs.specs.Operations.{trim_outcome}
use Rattle.limb_laws.specs.Replies.{Output, Reply, reply_to, limbs_in, Done, Legal}

unfoldable pub trimmed : List ℕ → Output → Reply
trimmed x p = reply_to (trim_outcome x) p

pub record SpellingStatement : Type 0 where
  -- trim is refused by 7 for the number of limbs alone, and by 8 where its result is too long
  pub refusal : (x : List ℕ) (p : Output) → (trimmed x p).answer.refusal
      ≡ cond (has_limbs x) (cond (leb (limb_count (value x)) (capacity p.buffer p.first)) 0 8) 7
  -- what it has written is legal, and has the same value
  pub legal : (x : List ℕ) (p : Output) → (trimmed x p).answer.refusal ≡ 0 → Legal (limbs_in (trimmed x p) p)
  pub same-value : (x : List ℕ) (p : Output) → (trimmed x p).answer.refusal ≡ 0 → value (limbs_in (trimmed x p) p) ≡ value x
  -- no other legal limbs have that value
  pub only : (x y : List ℕ) (p : Output) → (trimmed x p).answer.refusal ≡ 0 → Legal y → value y ≡ value x → y ≡ limbs_in (trimmed x p) p
  -- legal limbs are written as they are, and only legal limbs are
  pub unchanged : (x : List ℕ) (p : Output) → (trimmed x p).answer.refusal ≡ 0 → Legal x → Done (trimmed x p) p x
  pub changed : (x : List ℕ) (p : Output) → Done (trimmed x p) p x → Legal x
  -- legal limbs with the same value are the same limbs
  pub one-spelling : (x y : List ℕ) → Legal x → Legal y → value x ≡ value y → x ≡ y
  -- limbs of any spelling have the same value exactly where trim writes the same limbs for both
  pub keys : (x y : List ℕ) (p q : Output) → (trimmed x p).answer.refusal ≡ 0 → (trimmed y q).answer.refusal ≡ 0
      → (value x ≡ value y → limbs_in (trimmed x p) p ≡ limbs_in (trimmed y q) q) × (limbs_in (trimmed x p) p ≡ limbs_in (trimmed y q) q → value x ≡ value y)
