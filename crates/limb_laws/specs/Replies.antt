-- What a limb call gives back, by its contract: `Writes o out first r out'` says that r and out' are those of `reply_to o` there.
--   Output           ==  an output buffer, and the first limb that a call may write
--   Reply            ==  the answer of a call, and its buffer afterwards
--   reply_to o p      ==  the reply of a call with the outcome o that writes to p
--   limbs_in r p      ==  a copy of the limbs that a call with the reply r has written to p
--   has_room r        ==  whether the call is not refused by 8
--   Done r p y       ==  the call is done, and y are the limbs that it has written to p
--   Words x          ==  each limb has 32 bits, as the limbs of every call have
--   Legal x          ==  limbs that the calls accept: document 01's legal number
use Rattle.std.specs.Prelude.{ℕ, ◌^◌, ◌<◌, ◌≡◌, Bool, true, not, List, eqb, ℤ, length, get_or}
use Rattle.outcomes.specs.Outcome.{Outcome}
use Rattle.outcomes.specs.Buffer.{afterwards}
use Rattle.limbstages.specs.declared.Written.{Written}
use Rattle.limbstages.specs.Buffer.{stored, written, copied}
use Rattle.limbstages.specs.Stages.{is_operand}

pub record Output : Type 0 where
  pub buffer : List ℕ
  pub first : ℕ

pub record Reply : Type 0 where
  pub answer : Written
  pub after : List ℕ

unfoldable pub reply_to : Outcome ℤ → Output → Reply
reply_to o p = record {
  answer = written o p.buffer p.first;
  after = afterwards (stored o p.buffer p.first) p.buffer p.first;
}

unfoldable pub limbs_in : Reply → Output → List ℕ
limbs_in r p = copied r.answer p.first r.after

unfoldable pub has_room : Reply → Bool
has_room r = not (eqb r.answer.refusal 8)

pub record Done (r : Reply) (p : Output) (y : List ℕ) : Type 0 where
  pub answered : r.answer ≡ record { refusal = 0; length = length y }
  pub limbs : limbs_in r p ≡ y

abbrev pub Words : List ℕ → Type 0
Words x = (i : ℕ) → get_or x i 0 < 2 ^ 32

pub record Legal (x : List ℕ) : Type 0 where
  pub words : Words x
  pub accepted : is_operand x ≡ true
