-- One step of a list, and whole lists: the limbs at the end are the shortest of what the calls make of the integer. Assumes nothing.
use Prim.Native.Nat.{ℕ, zero-le, ◌≤◌, ◌<◌}
use native.Mathlib.Nat.{le_trans, le_of_lt}
use mathlib.Core.Path.{◌≡◌, refl, sym, ap, ◌∙◌, subst}
use mathlib.Core.Bool.{Bool, true, false, cond, true≢false}
use mathlib.Core.List.{List, [], ◌∷◌}
use lib.Dec.{eqb, leb}
use lib.IntN.{ℤ, pos}
use borrow.Author.Tests.{le-leb, leb-true}
use Rattle.bits.specs.Testbit.{fits}
use Rattle.bits.specs.FieldList.{FieldCall, rotate, reverse, run_call, run_calls}
use Rattle.bits.specs.Range.{within}
use Rattle.bits.proofs.Booleans.{both_left, both_right}
use Rattle.bits.proofs.ListTheorem.{calls-fit}
use Rattle.outcomes.specs.Outcome.{Outcome, done, guard, guard_at, map_done, refusal_of}
use Rattle.outcomes.specs.Buffer.{capacity, fitted}
use Rattle.outcomes.proofs.OutcomeLaws.{passed}
use Rattle.limbwords.specs.Value.{value, shortest}
use Rattle.limbwords.proofs.ValueLaws.{value-shortest}
use Rattle.limbstages.specs.declared.Written.{Written}
use Rattle.limbstages.specs.Buffer.{stored, written}
use Rattle.limbstages.specs.Stages.{most_limbs, is_operand, is_field, field, natural}
use Rattle.limbstages.proofs.StageLaws.{operand-passed, operand_lengths}
use Rattle.limbs.specs.Operations.{rotate_outcome, reverse_outcome}
use Rattle.limb_laws.specs.Replies.{Output, reply_to, limbs_in, has_room, Done, Legal}
use Rattle.limb_laws.specs.Lists.{Step, calls_of, outcome_of, reply_of, hand_on, all_fit, run_steps, is_done, ample, Run, Gives}
use Rattle.bits.proofs.DoneLists.{AllDone}
use Rattle.limb_laws.proofs.LegalLaws.{legal-fits, shortest-legal, legal-shortest, has_room-done, done-reply}

-- ---- a call that is z where d says so, and else refused by 5: its refusal, and what it hands on

module _ (p : Output) (z : ℤ) (x : List ℕ) where
  record Told (d : Bool) (o : Outcome ℤ) : Type 0 where
    pub ruled : (reply_to o p).answer.refusal ≡ cond d 0 5
    pub handed : cond (eqb (reply_to o p).answer.refusal 0) (limbs_in (reply_to o p) p) x ≡ cond d (shortest z) x
    pub written-if : d ≡ true → Done (reply_to o p) p (shortest z)

  told : (d : Bool) → has_room (reply_to (guard d 5 (done z)) p) ≡ true → Told d (guard d 5 (done z))
  unfolding guard guard_at reply_to written stored map_done refusal_of fitted
  told true h = record {
    ruled = refusal;
    handed = ap (λ (n : ℕ). cond (eqb n 0) (limbs_in (reply_to (done z) p) p) x) refusal ∙ reply.limbs;
    written-if = λ _. reply;
  }
    where
      reply : Done (reply_to (done z) p) p (shortest z)
      reply = done-reply p z h

      refusal : (reply_to (done z) p).answer.refusal ≡ 0
      refusal = ap (λ (a : Written). a.refusal) reply.answered
  told false h = record { ruled = refl; handed = refl; written-if = λ e. absurd (true≢false (sym e)) }

module _ (start end : ℕ) (h : start < end) (k : end ≤ 32767) where
  -- ---- one call

  -- the field is legal
  field-passed : (o : Outcome ℤ) → field (pos start) (pos end) o ≡ o
  unfolding field is_field within
  field-passed o =
      passed 5 o (rw (le-leb 0 start zero-le, le-leb start end (le_of_lt h)) (le-leb end 32767 k))

  -- the outcome of a call on legal limbs
  outcome-is : (call : FieldCall) (x : List ℕ) → is_operand x ≡ true
      → outcome_of start end call x ≡ guard (is_done call) 5 (done (run_call start end call (value x)))
  unfolding outcome_of rotate_outcome reverse_outcome natural is_done run_call guard guard_at
  outcome-is (rotate c) x f = operand-passed x _ f ∙ field-passed _
  outcome-is reverse x f = operand-passed x _ f ∙ field-passed _

  -- the integer after a call
  abbrev moved : FieldCall → ℤ → ℤ
  moved call z = cond (is_done call) (run_call start end call z) z

  moved-fits : (call : FieldCall) (z : ℤ) → fits 32768 z ≡ true → fits 32768 (moved call z) ≡ true
  unfolding run_calls
  moved-fits call z f = calls-fit is_done start end h 32768 k (call ∷ []) z f

  -- ---- one step

  module _ (s : Step) (x : List ℕ) (l : Legal x) where
    abbrev result : ℤ
    result = run_call start end s.call (value x)

    result_fits : fits 32768 result ≡ true
    unfolding run_calls
    result_fits = calls-fit (λ _. true) start end h 32768 k (s.call ∷ []) (value x) (legal-fits x l)

    -- a capacity of 1,024 limbs is enough
    ample-room : leb most_limbs (capacity s.to.buffer s.to.first) ≡ true → has_room (reply_of start end s x) ≡ true
    unfolding reply_of most_limbs capacity guard guard_at reply_to has_room written stored map_done refusal_of fitted
    ample-room a = ap (λ (o : Outcome ℤ). has_room (reply_to o s.to)) (outcome-is s.call x l.accepted) ∙ go (is_done s.call)
      where
        go : (d : Bool) → has_room (reply_to (guard d 5 (done result)) s.to) ≡ true
        go true =
            has_room-done s.to result
            (le_trans (operand_lengths (shortest result) (shortest-legal result result_fits).accepted).1 (leb-true 1024 (capacity s.to.buffer s.to.first) a))
        go false = refl

    module _ (r : has_room (reply_of start end s x) ≡ true) where
      step : Told s.to result x (is_done s.call) (outcome_of start end s.call x)
      unfolding reply_of
      step =
          let e = outcome-is s.call x l.accepted in
          subst (Told s.to result x (is_done s.call)) (sym e)
          (told s.to result x (is_done s.call) (ap (λ (o : Outcome ℤ). has_room (reply_to o s.to)) (sym e) ∙ r))

      pub refusal_is : (reply_of start end s x).answer.refusal ≡ cond (is_done s.call) 0 5
      unfolding reply_of
      refusal_is = step.ruled

      handed-on : hand_on start end s x ≡ shortest (moved s.call (value x))
      unfolding hand_on reply_of
      handed-on = step.handed ∙ go (is_done s.call)
        where
          go : (d : Bool) → cond d (shortest result) x ≡ shortest (cond d result (value x))
          go true = refl
          go false = legal-shortest x l

      handed-value : value (hand_on start end s x) ≡ moved s.call (value x)
      handed-value = ap value handed-on ∙ value-shortest (moved s.call (value x))

      handed-legal : Legal (hand_on start end s x)
      handed-legal = subst Legal (sym handed-on) (shortest-legal (moved s.call (value x)) (moved-fits s.call (value x) (legal-fits x l)))

      -- a done call has written what is handed on
      handed-done : is_done s.call ≡ true → Done (reply_of start end s x) s.to (hand_on start end s x)
      unfolding reply_of
      handed-done d =
          let e : shortest result ≡ hand_on start end s x = ap (λ (b : Bool). shortest (cond b result (value x))) (sym d) ∙ sym handed-on in
          subst (Done (reply_to (outcome_of start end s.call x) s.to) s.to) e (step.written-if d)

  pub always-fit : (steps : List Step) (x : List ℕ) → Legal x → ample steps ≡ true → all_fit start end steps x ≡ true
  unfolding all_fit ample
  always-fit [] x l a = refl
  always-fit (s ∷ steps) x l a =
      let enough = leb most_limbs (capacity s.to.buffer s.to.first) in
      let r = ample-room s x l (both_left enough (ample steps) a) in
      rw r (always-fit steps (hand_on start end s x) (handed-legal s x l r) (both_right enough (ample steps) a))

  -- ---- a step and the rest of its list

  module _ (s : Step) (steps : List Step) (x : List ℕ) (r : Run start end (s ∷ steps) x) where
    pub first_fits : has_room (reply_of start end s x) ≡ true
    unfolding all_fit
    first_fits = both_left (has_room (reply_of start end s x)) (all_fit start end steps (hand_on start end s x)) r.fitting

    rest : Run start end steps (hand_on start end s x)
    unfolding all_fit
    rest = record {
      legal = handed-legal s x r.legal first_fits;
      fitting = both_right (has_room (reply_of start end s x)) (all_fit start end steps (hand_on start end s x)) r.fitting;
    }

  -- ---- lists

  abbrev pub calls-end : List FieldCall → ℤ → ℤ
  calls-end = run_calls is_done start end

  -- a list of calls is the list of bits
  pub agree : (steps : List Step) (x : List ℕ) → Run start end steps x → value (run_steps start end steps x) ≡ calls-end (calls_of steps) (value x)
  unfolding calls_of run_steps run_calls
  agree [] x r = refl
  agree (s ∷ steps) x r =
      agree steps (hand_on start end s x) (rest s steps x r)
      ∙ ap (calls-end (calls_of steps)) (handed-value s x r.legal (first_fits s steps x r))

  pub end-legal : (steps : List Step) (x : List ℕ) → Run start end steps x → Legal (run_steps start end steps x)
  unfolding run_steps
  end-legal [] x r = r.legal
  end-legal (s ∷ steps) x r = end-legal steps (hand_on start end s x) (rest s steps x r)

  -- the limbs at the end
  pub ends : (steps : List Step) (x : List ℕ) → Run start end steps x → run_steps start end steps x ≡ shortest (calls-end (calls_of steps) (value x))
  ends steps x r = legal-shortest (run_steps start end steps x) (end-legal steps x r) ∙ ap shortest (agree steps x r)

  -- a list whose calls are all done
  pub gives : (steps : List Step) (x : List ℕ) → Run start end steps x → AllDone is_done (calls_of steps) → Gives start end steps x (run_steps start end steps x)
  unfolding calls_of run_steps Gives AllDone
  gives [] x r d = refl
  gives (s ∷ steps) x r d = (
    hand_on start end s x,
    handed-done s x r.legal (first_fits s steps x r) d.0,
    gives steps (hand_on start end s x) (rest s steps x r) d.1,
  )
