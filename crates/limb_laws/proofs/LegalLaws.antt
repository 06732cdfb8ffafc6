-- Legal limbs and integers of up to 32,768 bits are one to one; the reply of a call that is done, and of one that is refused. Assumes nothing.
use Prim.Native.Nat.{ℕ, ◌-◌, ◌≤◌}
use native.Mathlib.Omega.{arith}
use mathlib.Core.Path.{◌≡◌, refl, sym, ap, ◌∙◌, subst}
use mathlib.Core.Bool.{Bool, true, false, cond, not, true≢false}
use mathlib.Core.List.{List}
use lib.Dec.{eqb, leb, lit<}
use lib.IntN.{ℤ}
use lib.ListN.{length}
use borrow.Author.Tests.{le-leb, leb-true}
use Rattle.bits.specs.Testbit.{fits}
use Rattle.bits.proofs.LengthLaws.{fits-length}
use Rattle.bits.proofs.FitsLaws.{is_true}
use Rattle.outcomes.specs.Outcome.{Outcome, done, guard, guard_at, map_done, refusal_of}
use Rattle.outcomes.specs.Buffer.{capacity, fitted, afterwards, count_of}
use Rattle.outcomes.proofs.BufferLaws.{laid-copy}
use Rattle.limbwords.specs.Value.{value, limb_count, shortest}
use Rattle.limbwords.proofs.ValueLaws.{value-length, length-shortest, limb_count-positive, limbs_of-lt, is_shortest-unique}
use Rattle.limbstages.specs.declared.Written.{Written}
use Rattle.limbstages.specs.Buffer.{stored, written, copied, Writes}
use Rattle.limbstages.specs.Stages.{has_limbs}
use Rattle.limbstages.proofs.StageLaws.{operand-limbs, operand-shortest, limbs-lengths}
use Rattle.limbstages.proofs.WritesLaws.{shortest-operand}
use Rattle.limb_laws.specs.Replies.{Output, Reply, reply_to, limbs_in, has_room, Done, Legal}

-- ---- legal limbs

-- 1,024 limbs have such an integer
pub limbs-fit : (x : List ℕ) → has_limbs x ≡ true → fits 32768 (value x) ≡ true
limbs-fit x f =
    let l = limbs-lengths x f in
    is_true ((fits-length 32768 (value x) (lit< tt)).1 (omega (arith, value-length x l.0)))

pub legal-fits : (x : List ℕ) → Legal x → fits 32768 (value x) ≡ true
legal-fits x l = limbs-fit x (operand-limbs x l.accepted)

pub shortest-legal : (z : ℤ) → fits 32768 z ≡ true → Legal (shortest z)
unfolding shortest
shortest-legal z f = record { words = limbs_of-lt (limb_count z) z; accepted = shortest-operand z f }

pub legal-shortest : (x : List ℕ) → Legal x → x ≡ shortest (value x)
legal-shortest x l = is_shortest-unique x l.words (operand-shortest x l.accepted)

-- legal limbs with the same value are the same limbs
pub legal-unique : (x y : List ℕ) → Legal x → Legal y → value x ≡ value y → x ≡ y
legal-unique x y l m e = legal-shortest x l ∙ ap shortest e ∙ sym (legal-shortest y m)

-- ---- replies

-- the contract of a call is about its reply
pub writes-reply : {o : Outcome ℤ} {out out' : List ℕ} {first : ℕ} {r : Written} → Writes o out first r out'
    → ◌≡◌ {A = Reply} (record { answer = r; after = out' }) (reply_to o (record { buffer = out; first = first }))
unfolding reply_to
writes-reply {o} {out} {out'} {first} {r} w = cc (w.answer, w.buffer)

module _ (p : Output) where
  abbrev room : ℕ
  room = length p.buffer - p.first

  -- a call with an integer: refused by 8 or done, by whether its limbs fit
  module _ (z : ℤ) where
    by-room : (t : Bool) → leb (length (shortest z)) room ≡ t → (reply_to (done z) p).answer.refusal ≡ cond t 0 8
    unfolding reply_to guard guard_at written stored map_done refusal_of capacity fitted
    by-room true e = rw e refl
    by-room false e = rw e refl

    pub refusal-by-room : (reply_to (done z) p).answer.refusal ≡ cond (leb (limb_count z) room) 0 8
    refusal-by-room =
        by-room (leb (length (shortest z)) room) refl
        ∙ ap (λ (n : ℕ). cond (leb n room) 0 8) (length-shortest z)

    pub has_room-done : length (shortest z) ≤ room → has_room (reply_to (done z) p) ≡ true
    unfolding has_room
    has_room-done h = ap (λ (n : ℕ). not (eqb n 8)) (by-room true (le-leb (length (shortest z)) room h))

    fitting : length (shortest z) ≤ room → Done (reply_to (done z) p) p (shortest z)
    unfolding reply_to limbs_in copied guard guard_at written stored map_done refusal_of count_of capacity fitted afterwards
    fitting h =
        let e = le-leb (length (shortest z)) room h in
        record {
          answered = rw e refl;
          limbs = rw e (laid-copy p.buffer p.first (shortest z) (omega (arith, length-shortest z, limb_count-positive z)));
        }

    pub done-reply : has_room (reply_to (done z) p) ≡ true → Done (reply_to (done z) p) p (shortest z)
    unfolding has_room
    done-reply h = go (leb (length (shortest z)) room) refl
      where
        go : (t : Bool) → leb (length (shortest z)) room ≡ t → Done (reply_to (done z) p) p (shortest z)
        go true e = fitting (leb-true (length (shortest z)) room e)
        go false e = absurd (true≢false (sym h ∙ ap (λ (n : ℕ). not (eqb n 8)) (by-room false e)))

  -- the same of an outcome that is known to be that integer
  pub done-as : {o : Outcome ℤ} (z : ℤ) → o ≡ done z → has_room (reply_to o p) ≡ true → Done (reply_to o p) p (shortest z)
  done-as {o} z e h =
      subst (λ (q : Outcome ℤ). Done (reply_to q p) p (shortest z)) (sym e)
      (done-reply z (ap (λ (q : Outcome ℤ). has_room (reply_to q p)) (sym e) ∙ h))

-- a done call, told by its own copy
pub done-copy : {r : Reply} {p : Output} {y : List ℕ} → Done r p y → Done r p (limbs_in r p)
done-copy {r} {p} d = subst (λ (l : List ℕ). Done r p l) (sym d.limbs) d
