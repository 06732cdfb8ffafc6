-- Demand 3 for limbs: every list of rotate and reverse calls on a field, in any buffers that are long enough. Assumes nothing.
use Prim.Native.Nat.{ℕ, zero-le, ◌+◌, ◌-◌, ◌%◌, ◌≤◌, ◌<◌, ◌^◌}
use native.Mathlib.Nat.{lt_of_lt_of_le}
use mathlib.Core.Path.{◌≡◌, refl, sym, ap, ap₂, ◌∙◌, subst}
use mathlib.Core.Bool.{Bool, true, false, cond}
use mathlib.Core.List.{List, [], ◌∷◌}
use lib.Dec.{lit<}
use lib.IntN.{ℤ, pos}
use borrow.Author.Tests.{le-leb}
use Rattle.bits.specs.Testbit.{is_negative, testbit, fits}
use Rattle.bits.specs.Logical.{bitwise, bitwise_not}
use Rattle.bits.specs.Count.{bit_count}
use Rattle.bits.specs.Field.{rotate_bit_field, reverse_bit_field}
use Rattle.bits.specs.FieldList.{FieldCall, rotate, reverse, run_call, run_calls, net_count, odd_reversals}
use Rattle.bits.proofs.LengthLaws.{fits_not}
use Rattle.bits.proofs.FitsLaws.{is_true, pow-fits, bitwise-fits}
use Rattle.bits.proofs.ListTheorem.{ListLaw, list-theorem}
use Rattle.outcomes.specs.Outcome.{Outcome, done}
use Rattle.outcomes.specs.Number.{number}
use Rattle.limbwords.specs.Value.{value, shortest}
use Rattle.limbwords.proofs.ValueLaws.{value-shortest}
use Rattle.limbstages.proofs.StageLaws.{operand-passed}
use Rattle.limbs.specs.Operations.{not_outcome, bitwise_outcome, bit_count_outcome}
use Rattle.limb_laws.specs.Replies.{Output, reply_to, limbs_in, has_room, Done, Legal}
use Rattle.limb_laws.specs.Lists.{Step, calls_of, all_fit, run_steps, is_done, Run, net_calls, Gives, Agree, ListStatement}
use Rattle.bits.proofs.DoneLists.{AllDone, run_each, run-done}
use Rattle.bits.proofs.DoneLists as lists
use Rattle.limb_laws.proofs.LegalLaws.{legal-fits, shortest-legal, done-as, done-copy}
use Rattle.limb_laws.proofs.Steps.{refusal_is, first_fits, always-fit, calls-end, agree, end-legal, ends, gives}

-- ---- calls on legal limbs

not_is : (x : List ℕ) → Legal x → not_outcome x ≡ done (bitwise_not (value x))
unfolding not_outcome
not_is x l = operand-passed x (done (bitwise_not (value x))) l.accepted

bitwise-is : (op : Bool → Bool → Bool) (x y : List ℕ) → Legal x → Legal y → bitwise_outcome op x y ≡ done (bitwise op (value x) (value y))
unfolding bitwise_outcome
bitwise-is op x y l m = operand-passed x _ l.accepted ∙ operand-passed y _ m.accepted

count-is : (x : List ℕ) → Legal x → bit_count_outcome x ≡ done (bit_count (value x))
unfolding bit_count_outcome
count-is x l = operand-passed x (done (bit_count (value x))) l.accepted

module _ (start end : ℕ) (h : start < end) (k : end ≤ 32767) where
  law : ListLaw is_done start end
  law = list-theorem is_done start end h

  -- ---- what the calls of a list come to

  -- the limbs at the ends of two lists whose calls come to the same integer
  same_end : (one other : List Step) (x : List ℕ) → Run start end one x → Run start end other x
      → calls-end start end h k (calls_of one) (value x) ≡ calls-end start end h k (calls_of other) (value x) → run_steps start end one x ≡ run_steps start end other x
  same_end one other x r q e = ends start end h k one x r ∙ ap shortest e ∙ sym (ends start end h k other x q)

  outputs-same : (steps steps' : List Step) (x : List ℕ) → Run start end steps x → Run start end steps' x → calls_of steps ≡ calls_of steps'
      → run_steps start end steps x ≡ run_steps start end steps' x
  outputs-same steps steps' x r q e = same_end steps steps' x r q (ap (λ (calls : List FieldCall). calls-end start end h k calls (value x)) e)

  -- ---- the end number

  net-done : (calls : List FieldCall) → is_done (rotate (net_count is_done (end - start) calls)) ≡ true
  unfolding is_done
  net-done calls = is_true (law.net-count calls).0.le

  all-net : (calls : List FieldCall) → AllDone is_done (net_calls (end - start) calls)
  unfolding AllDone net_calls is_done
  all-net calls = go (odd_reversals is_done calls)
    where
      go : (odd : Bool) → AllDone is_done (cond odd (reverse ∷ rotate (net_count is_done (end - start) calls) ∷ []) (rotate (net_count is_done (end - start) calls) ∷ []))
      go true = (refl, (net-done calls, tt))
      go false = (net-done calls, tt)

  net-end : (calls : List FieldCall) (z : ℤ) → calls-end start end h k (net_calls (end - start) calls) z ≡ calls-end start end h k calls z
  unfolding net_calls run_calls run_call
  net-end calls z =
      run-done start end is_done (net_calls (end - start) calls) (all-net calls) z
      ∙ go (odd_reversals is_done calls)
      ∙ sym (law.end-number calls z)
    where
      net : ℤ
      net = net_count is_done (end - start) calls

      go : (odd : Bool) → run_each start end (cond odd (reverse ∷ rotate net ∷ []) (rotate net ∷ [])) z ≡ rotate_bit_field (cond odd (reverse_bit_field z start end) z) start end net
      go true = refl
      go false = refl

  net-gives : (steps one : List Step) (x : List ℕ) → Run start end steps x → Run start end one x
      → calls_of one ≡ net_calls (end - start) (calls_of steps) → Gives start end one x (run_steps start end steps x)
  net-gives steps one x r q e =
      subst (Gives start end one x)
      (same_end one steps x q r (ap (λ (calls : List FieldCall). calls-end start end h k calls (value x)) e ∙ net-end (calls_of steps) (value x)))
      (gives start end h k one x q (subst (AllDone is_done) (sym e) (all-net (calls_of steps))))

  -- ---- what every list keeps

  counts-stay : (steps : List Step) (x : List ℕ) → Run start end steps x → number (bit_count_outcome (run_steps start end steps x)) ≡ number (bit_count_outcome x)
  counts-stay steps x r =
      ap number
      (count-is (run_steps start end steps x) (end-legal start end h k steps x r)
      ∙ ap done (ap bit_count (agree start end h k steps x r) ∙ law.bit-count (calls_of steps) (value x))
      ∙ sym (count-is x r.legal))

  -- ---- not, and the operations of two

  -- a list from the limbs that a call has written
  from-call : {o : Outcome ℤ} (z : ℤ) (p : Output) (steps : List Step) → o ≡ done z → fits 32768 z ≡ true → has_room (reply_to o p) ≡ true
      → all_fit start end steps (limbs_in (reply_to o p) p) ≡ true
      → run_steps start end steps (limbs_in (reply_to o p) p) ≡ shortest (calls-end start end h k (calls_of steps) z)
  from-call z p steps e f room fit =
      let copy = (done-as p z e room).limbs in
      ends start end h k steps _ (record { legal = subst Legal (sym copy) (shortest-legal z f); fitting = fit })
      ∙ ap (λ (l : List ℕ). shortest (calls-end start end h k (calls_of steps) (value l))) copy
      ∙ ap (λ (y : ℤ). shortest (calls-end start end h k (calls_of steps) y)) (value-shortest z)

  nots : (steps steps' : List Step) (p q : Output) (x : List ℕ) → Run start end steps x → calls_of steps ≡ calls_of steps'
      → let x' = limbs_in (reply_to (not_outcome x) p) p in
      let last = reply_to (not_outcome (run_steps start end steps x)) q in
      has_room (reply_to (not_outcome x) p) ≡ true → all_fit start end steps' x' ≡ true → has_room last ≡ true
      → Done (reply_to (not_outcome x) p) p x' × Done last q (run_steps start end steps' x')
  nots steps steps' p q x r c room fit room' =
      let first = not_is x r.legal in
      let e = agree start end h k steps x r in
      let y = run_steps start end steps x in (
        done-copy (done-as p (bitwise_not (value x)) first room),
        subst (Done (reply_to (not_outcome y) q) q)
            (ap shortest
            (ap bitwise_not e ∙ sym (law.commutes-not (calls_of steps) (value x))
            ∙ ap (λ (calls : List FieldCall). calls-end start end h k calls (bitwise_not (value x))) c)
            ∙ sym (from-call (bitwise_not (value x)) p steps' first (fits_not 32768 (value x) ∙ legal-fits x r.legal) room fit))
            (done-as q (bitwise_not (value y)) (not_is y (end-legal start end h k steps x r)) room'),
      )

  distributed : (op : Bool → Bool → Bool) (steps steps' steps'' : List Step) (p q : Output) (x y : List ℕ)
      → Run start end steps x → Run start end steps' y → calls_of steps ≡ calls_of steps' → calls_of steps ≡ calls_of steps''
      → let z = limbs_in (reply_to (bitwise_outcome op x y) p) p in
      let last = reply_to (bitwise_outcome op (run_steps start end steps x) (run_steps start end steps' y)) q in
      has_room (reply_to (bitwise_outcome op x y) p) ≡ true → all_fit start end steps'' z ≡ true → has_room last ≡ true
      → Done (reply_to (bitwise_outcome op x y) p) p z × Done last q (run_steps start end steps'' z)
  distributed op steps steps' steps'' p q x y r r' c c' room fit room' =
      let first = bitwise-is op x y r.legal r'.legal in
      let both = bitwise op (value x) (value y) in
      let u = run_steps start end steps x in
      let v = run_steps start end steps' y in
      let e = agree start end h k steps x r in
      let e' = agree start end h k steps' y r' ∙ ap (λ (calls : List FieldCall). calls-end start end h k calls (value y)) (sym c) in (
        done-copy (done-as p both first room),
        subst (Done (reply_to (bitwise_outcome op u v) q) q)
            (ap shortest
            (ap₂ (bitwise op) e e' ∙ sym (law.distributes (calls_of steps) op (value x) (value y))
            ∙ ap (λ (calls : List FieldCall). calls-end start end h k calls both) c')
            ∙ sym (from-call both p steps'' first (bitwise-fits 32768 (lit< tt) op (value x) (value y) (legal-fits x r.legal) (legal-fits y r'.legal)) room fit))
            (done-as q (bitwise op (value u) (value v)) (bitwise-is op u v (end-legal start end h k steps x r) (end-legal start end h k steps' y r')) room'),
      )

  -- ---- short lists

  count-done : (c : ℕ) → is_done (rotate (pos c)) ≡ true
  unfolding is_done
  count-done c = le-leb 0 c zero-le

  -- two lists that are known by their calls, all of them done
  agrees : (calls calls' : List FieldCall) (one other : List Step) (x : List ℕ) → Run start end one x → Run start end other x → calls_of one ≡ calls → calls_of other ≡ calls'
      → AllDone is_done calls → AllDone is_done calls' → run_each start end calls (value x) ≡ run_each start end calls' (value x) → Agree start end one other x
  unfolding Agree
  agrees calls calls' one other x r q e e' d d' same =
      let at : List FieldCall → ℤ = λ l. calls-end start end h k l (value x) in
      let equal = ap at e ∙ run-done start end is_done calls d (value x) ∙ same ∙ sym (ap at e' ∙ run-done start end is_done calls' d' (value x)) in (
        run_steps start end other x,
        subst (Gives start end one x) (same_end one other x r q equal) (gives start end h k one x r (subst (AllDone is_done) (sym e) d)),
        gives start end h k other x q (subst (AllDone is_done) (sym e') d'),
      )

  -- the list without a call
  nothing : (x : List ℕ) → Legal x → Run start end [] x
  unfolding all_fit
  nothing x l = record { legal = l; fitting = refl }

  -- ---- different counts

  abbrev witness : List ℕ
  witness = shortest (pos (2 ^ start))

  witness-legal : Legal witness
  witness-legal = shortest-legal (pos (2 ^ start)) (pow-fits 32768 start (lt_of_lt_of_le h k))

  -- the limbs that a rotation of it by c writes, and their integer
  rotated : (c : ℕ) (one : List Step) → Run start end one witness → calls_of one ≡ rotate (pos c) ∷ []
      → Gives start end one witness (run_steps start end one witness) × (value (run_steps start end one witness) ≡ rotate_bit_field (pos (2 ^ start)) start end (pos c))
  unfolding AllDone run_calls run_call
  rotated c one r e = (
    gives start end h k one witness r (subst (AllDone is_done) (sym e) (count-done c, tt)),
    agree start end h k one witness r
        ∙ ap (λ (calls : List FieldCall). calls-end start end h k calls (value witness)) e
        ∙ run-done start end is_done (rotate (pos c) ∷ []) (count-done c, tt) (value witness)
        ∙ ap (λ (z : ℤ). rotate_bit_field z start end (pos c)) (value-shortest (pos (2 ^ start))),
  )

  different : (c d : ℕ) → c < end - start → d < end - start → (c ≡ d → ⊥)
      → (x : List ℕ) × Legal x × ((one other : List Step) → Run start end one x → Run start end other x
      → calls_of one ≡ rotate (pos c) ∷ [] → calls_of other ≡ rotate (pos d) ∷ []
      → (y : List ℕ) × (z : List ℕ) × Gives start end one x y × Gives start end other x z × (y ≡ z → ⊥))
  different c d l m n = (
    witness,
    witness-legal,
    λ one other r q e e'.
        let a = rotated c one r e in
        let b = rotated d other q e' in (
          run_steps start end one witness,
          run_steps start end other witness,
          a.0,
          b.0,
          λ same. law.counts-differ c d l m n (sym a.1 ∙ ap value same ∙ b.1),
        ),
  )

pub demand3-limbs : (start end : ℕ) → start < end → end ≤ 32767 → ListStatement start end
unfolding AllDone run_calls is_done calls_of
demand3-limbs start end h k = record {
  rule = λ s x r. refusal_is start end h k s x r.legal (first_fits start end h k s [] x r);
  enough = always-fit start end h k;
  legal = end-legal start end h k;
  outputs = outputs-same start end h k;
  end-number = net-gives start end h k;
  bit-count = counts-stay start end h k;
  sign = λ steps x r. ap is_negative (agree start end h k steps x r) ∙ (law start end h k).sign (calls_of steps) (value x);
  outside = λ steps x r i o.
      ap (λ (z : ℤ). testbit z i) (agree start end h k steps x r) ∙ (law start end h k).outside (calls_of steps) (value x) i o;
  commutes-not = nots start end h k;
  distributes = distributed start end h k;
  rotate-rotate = λ a b one other x r q e e'.
      agrees start end h k (rotate (pos a) ∷ rotate (pos b) ∷ []) (rotate (pos ((a + b) % (end - start))) ∷ []) one other x r q e e'
      (count-done start end h k a, (count-done start end h k b, tt)) (count-done start end h k ((a + b) % (end - start)), tt)
      (lists.rotate-rotate start end a b (value x));
  reverse-rotate-reverse = λ a l one other x r q e e'.
      agrees start end h k (reverse ∷ rotate (pos a) ∷ reverse ∷ []) (rotate (pos ((end - start - a) % (end - start))) ∷ []) one other x r q e e'
      (refl, (count-done start end h k a, (refl, tt))) (count-done start end h k ((end - start - a) % (end - start)), tt)
      (lists.reverse-rotate-reverse start end a l (value x));
  reverse-reverse = λ one x r e.
      agrees start end h k (reverse ∷ reverse ∷ []) [] one [] x r (nothing start end h k x r.legal) e refl (refl, (refl, tt)) tt
      (lists.reverse-reverse start end (value x));
  rotate-back = λ a l one x r e.
      agrees start end h k (rotate (pos a) ∷ rotate (pos ((end - start - a) % (end - start))) ∷ []) [] one [] x r (nothing start end h k x r.legal) e refl
      (count-done start end h k a, (count-done start end h k ((end - start - a) % (end - start)), tt)) tt
      (lists.rotate-back start end a l (value x));
  counts-differ = different start end h k;
}
