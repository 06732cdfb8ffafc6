-- Demand 3 for fixnums: every list of codes 40 and 41 on a field, at every accepted width. Assumes nothing.
use Prim.Native.Nat.{ℕ, ◌-◌, ◌≤◌, ◌<◌}
use native.Mathlib.Nat.{le_of_lt}
use native.Mathlib.Omega.{arith}
use mathlib.Core.Path.{◌≡◌, refl, sym, ap, ◌∙◌, subst}
use mathlib.Core.Bool.{Bool, true, false, cond, ◌&&◌, ◌||◌, xor}
use mathlib.Core.List.{List, [], ◌∷◌, map}
use lib.Dec.{eqb}
use lib.IntN.{ℤ, pos, negsuc}
use lib.ListN.{length, length-map}
use lib.Signed.{le_z, lt_z}
use borrow.Author.Tests.{ltb-true}
use Rattle.bits.specs.Testbit.{is_negative, testbit, fits, fill}
use Rattle.bits.specs.Logical.{bitwise, bitwise_not, bitwise_from, bitwise_all, bitwise_ands, bitwise_iors, bitwise_xors}
use Rattle.bits.specs.Count.{bit_count}
use Rattle.bits.specs.Field.{rotate_bit_field, reverse_bit_field}
use Rattle.bits.specs.FieldList.{FieldCall, rotate, reverse, run_call, run_calls, net_count, odd_reversals}
use Rattle.bits.proofs.LengthLaws.{fits_not}
use Rattle.bits.proofs.FitsLaws.{is_true, fill-fits, bitwise-fits}
use Rattle.bits.proofs.ListTheorem.{ListLaw, list-theorem, calls-fit}
use Rattle.fxtable.specs.declared.answer.Answer.{Answer}
use Rattle.outcomes.specs.Outcome.{refused, done}
use Rattle.fxtable.specs.Calls.{answer, fixnum_tests, all_fixnums, answer_of}
use Rattle.fxtable.specs.Domains.{is_width}
use Rattle.fxtable.specs.Operations.{every}
use Rattle.fxtable.specs.Table.{row, rows, is_code, row_of}
use Rattle.fixnum_laws.specs.Lists.{answer_to, hand_on, run_all, is_done, count_fits, refusal_to, turned, ListStatement}
use Rattle.bits.proofs.Booleans.{both_left, both_right}
use Rattle.fxtable.proofs.TableLaws.{from-to}
use Rattle.fixnum_laws.proofs.ShortLists.{done-answer, twice, between-reversals, twice-reversed, back, different}
use Rattle.fixnum_laws.proofs.AnswerLaws.{count-done, reverse-answer, rotate-answer, rotate-no-fixnum, rotate-out-of-domain, one_answer, every-answer}
use Rattle.outcomes.specs.Tests.{all_hold}

-- ---- fixnums stay fixnums

module _ (w : ℕ) (p : 0 < w) where
  from-fits : (op : Bool → Bool → Bool) (x : ℤ) (ys : List ℤ) → fits w x ≡ true → all_fixnums w ys ≡ true → fits w (bitwise_from op x ys) ≡ true
  unfolding bitwise_from all_fixnums fixnum_tests all_hold
  from-fits op x [] f g = f
  from-fits op x (y ∷ ys) f g =
      from-fits op (bitwise op x y) ys (bitwise-fits w p op x y f (both_left (fits w y) (all_fixnums w ys) g)) (both_right (fits w y) (all_fixnums w ys) g)

  pub all-fits : (op : Bool → Bool → Bool) (e : Bool) (xs : List ℤ) → all_fixnums w xs ≡ true → fits w (bitwise_all op e xs) ≡ true
  unfolding bitwise_all
  all-fits op e xs g = from-fits op (fill e) xs (fill-fits w e) g

-- ---- a list of calls is the list of bits

module _ (w : ℕ) (a : is_width w ≡ true) (start end : ℕ) (h : start < end) (k : end ≤ w - 1) where
  law : (rule : FieldCall → Bool) → ListLaw rule start end
  law rule = list-theorem rule start end h

  -- one call: its answer by the rule, and what it hands on
  record Step (call : FieldCall) (x : ℤ) : Type 0 where
    pub ruled : (answer_to w start end call x).refusal ≡ refusal_to w start end call
    pub handed : hand_on (answer_to w start end call x) x ≡ cond (is_done w start end call) (run_call start end call x) x

  done-step : (call : FieldCall) (x : ℤ) → answer_to w start end call x ≡ answer (done (run_call start end call x, pos 0)) → is_done w start end call ≡ true
      → Step call x
  unfolding answer hand_on refusal_to
  done-step call x e d = record {
    ruled = ap (λ (r : Answer). r.refusal) e ∙ sym (ap (λ (t : Bool). cond t 0 (cond (count_fits w call) 5 4)) d);
    handed = ap (λ (r : Answer). hand_on r x) e ∙ sym (ap (λ (t : Bool). cond t (run_call start end call x) x) d);
  }

  refused-step : (call : FieldCall) (x : ℤ) (n : ℕ) → answer_to w start end call x ≡ answer (refused n 4) → eqb n 0 ≡ false → is_done w start end call ≡ false
      → cond (count_fits w call) 5 4 ≡ n → Step call x
  unfolding answer hand_on refusal_to
  refused-step call x n e z d g = record {
    ruled = ap (λ (r : Answer). r.refusal) e ∙ sym (ap (λ (t : Bool). cond t 0 (cond (count_fits w call) 5 4)) d ∙ g);
    handed = ap (λ (r : Answer). hand_on r x) e ∙ ap (λ (t : Bool). cond t (pos 0) x) z ∙ sym (ap (λ (t : Bool). cond t (run_call start end call x) x) d);
  }

  step : (call : FieldCall) (x : ℤ) → fits w x ≡ true → Step call x
  unfolding answer_to is_done count_fits
  step (rotate c) x f = go (is_done w start end (rotate c)) (fits w c) refl refl
    where
      go : (d g : Bool) → is_done w start end (rotate c) ≡ d → fits w c ≡ g → Step (rotate c) x
      go true g p q = done-step (rotate c) x (done-answer w a start end h k (rotate c) x f p) p
      go false false p q =
          refused-step (rotate c) x 4 (rotate-no-fixnum w a x start end f (le_of_lt h) k c q) refl p (ap (λ (t : Bool). cond t 5 4) q)
      go false true p q =
          refused-step (rotate c) x 5 (rotate-out-of-domain w a x start end f (le_of_lt h) k c q p) refl p (ap (λ (t : Bool). cond t 5 4) q)
  step reverse x f = done-step reverse x (done-answer w a start end h k reverse x f refl) refl

  agree : (calls : List FieldCall) (x : ℤ) → fits w x ≡ true → run_all w start end calls x ≡ run_calls (is_done w start end) start end calls x
  unfolding run_all run_calls
  agree [] x f = refl
  agree (call ∷ calls) x f =
      ap (run_all w start end calls) (step call x f).handed
      ∙ agree calls (cond (is_done w start end call) (run_call start end call x) x) (calls-fit (is_done w start end) start end h w k (call ∷ []) x f)

  -- ---- the parts of the statement

  abbrev rule : FieldCall → Bool
  rule = is_done w start end

  run_fits : (calls : List FieldCall) (x : ℤ) → fits w x ≡ true → fits w (run_all w start end calls x) ≡ true
  run_fits calls x f = subst (λ (z : ℤ). fits w z ≡ true) (sym (agree calls x f)) (calls-fit rule start end h w k calls x f)

  -- the number that the one rotation gets, as bits has it
  turned-is : (calls : List FieldCall) (x : ℤ) → fits w x ≡ true → turned w start end calls x ≡ cond (odd_reversals rule calls) (reverse_bit_field x start end) x
  unfolding turned answer
  turned-is calls x f =
      ap (λ (r : Answer). cond (odd_reversals rule calls) r.first x) (reverse-answer w a x start end f (le_of_lt h) k)

  turned-fits : (calls : List FieldCall) (x : ℤ) → fits w x ≡ true → fits w (turned w start end calls x) ≡ true
  unfolding run_calls run_call
  turned-fits calls x f = rw (turned-is calls x f) (go (odd_reversals rule calls))
    where
      go : (t : Bool) → fits w (cond t (reverse_bit_field x start end) x) ≡ true
      go true = calls-fit (λ _. true) start end h w k (reverse ∷ []) x f
      go false = f

  below-done : (c : ℤ) → le_z (pos 0) c ≡ true → lt_z c (pos (end - start)) ≡ true → is_done w start end (rotate c) ≡ true
  below-done (pos n) p q = count-done w start end (le_of_lt h) n (le_of_lt (ltb-true n (end - start) q))
  below-done (negsuc n) p q = let z : ◌≡◌ {A = ℕ} 0 1 = cc in absurd (omega arith)

  net-done : (calls : List FieldCall) → is_done w start end (rotate (net_count rule (end - start) calls)) ≡ true
  net-done calls =
      below-done (net_count rule (end - start) calls) (is_true ((law rule).net-count calls).0.le) (is_true ((law rule).net-count calls).1.lt)

  ends : (calls : List FieldCall) (x : ℤ) → fits w x ≡ true
      → answer_of w 40 (turned w start end calls x ∷ pos start ∷ pos end ∷ net_count rule (end - start) calls ∷ []) ≡ answer (done (run_all w start end calls x, pos 0))
  ends calls x f =
      rotate-answer w a (turned w start end calls x) start end (turned-fits calls x f) (le_of_lt h) k (net_count rule (end - start) calls) (net-done calls)
      ∙ ap (λ (z : ℤ). answer (done (z, pos 0)))
      (ap (λ (y : ℤ). rotate_bit_field y start end (net_count rule (end - start) calls)) (turned-is calls x f)
      ∙ sym ((law rule).end-number calls x)
      ∙ sym (agree calls x f))

  not_answer : (x : ℤ) → fits w x ≡ true → answer_of w 25 (x ∷ []) ≡ answer (done (bitwise_not x, pos 0))
  unfolding is_code row_of rows
  not_answer = one_answer w a 25 bitwise_not refl refl

  count-answer : (x : ℤ) → fits w x ≡ true → answer_of w 30 (x ∷ []) ≡ answer (done (bit_count x, pos 0))
  unfolding is_code row_of rows
  count-answer = one_answer w a 30 bit_count refl refl

  counts-stay : (calls : List FieldCall) (x : ℤ) → fits w x ≡ true → answer_of w 30 (run_all w start end calls x ∷ []) ≡ answer_of w 30 (x ∷ [])
  counts-stay calls x f =
      count-answer (run_all w start end calls x) (run_fits calls x f)
      ∙ ap (λ (z : ℤ). answer (done (z, pos 0))) (ap bit_count (agree calls x f) ∙ (law rule).bit-count calls x)
      ∙ sym (count-answer x f)

  nots : (calls : List FieldCall) (x : ℤ) → fits w x ≡ true
      → answer_of w 25 (run_all w start end calls x ∷ []) ≡ answer (done (run_all w start end calls (answer_of w 25 (x ∷ [])).first, pos 0))
  unfolding answer
  nots calls x f =
      not_answer (run_all w start end calls x) (run_fits calls x f)
      ∙ ap (λ (z : ℤ). answer (done (z, pos 0)))
      (ap bitwise_not (agree calls x f)
      ∙ sym ((law rule).commutes-not calls x)
      ∙ sym (agree calls (bitwise_not x) (fits_not w x ∙ f))
      ∙ ap (λ (r : Answer). run_all w start end calls r.first) (sym (not_answer x f)))

  map-fits : (calls : List FieldCall) (xs : List ℤ) → all_fixnums w xs ≡ true → all_fixnums w (map (run_all w start end calls) xs) ≡ true
  unfolding all_fixnums fixnum_tests all_hold
  map-fits calls [] f = refl
  map-fits calls (x ∷ xs) f =
      rw (run_fits calls x (both_left (fits w x) (all_fixnums w xs) f)) (map-fits calls xs (both_right (fits w x) (all_fixnums w xs) f))

  map-agree : (calls : List FieldCall) (xs : List ℤ) → all_fixnums w xs ≡ true → map (run_all w start end calls) xs ≡ map (run_calls rule start end calls) xs
  unfolding all_fixnums fixnum_tests all_hold
  map-agree calls [] f = refl
  map-agree calls (x ∷ xs) f =
      cc (agree calls x (both_left (fits w x) (all_fixnums w xs) f), map-agree calls xs (both_right (fits w x) (all_fixnums w xs) f))

  -- codes 26, 27 and 28 alike
  over-all : (calls : List FieldCall) (code : ℕ) (op : Bool → Bool → Bool) (e : Bool) → is_code code ≡ true → row_of code ≡ row 0 4 [] 0 (every (bitwise_all op e))
      → (xs : List ℤ) → length xs ≤ 4 → all_fixnums w xs ≡ true
      → answer_of w code (map (run_all w start end calls) xs) ≡ answer (done (run_all w start end calls (answer_of w code xs).first, pos 0))
  unfolding answer
  over-all calls code op e c r xs l f =
      every-answer w a code (bitwise_all op e) c r (map (run_all w start end calls) xs) (omega (arith, length-map xs (run_all w start end calls))) (map-fits calls xs f)
      ∙ ap (λ (z : ℤ). answer (done (z, pos 0)))
      (ap (bitwise_all op e) (map-agree calls xs f)
      ∙ sym ((law rule).distributes-all calls op e xs)
      ∙ sym (agree calls (bitwise_all op e xs) (all-fits w (omega arith) op e xs f))
      ∙ ap (λ (r : Answer). run_all w start end calls r.first) (sym (every-answer w a code (bitwise_all op e) c r xs l f)))

  distributed : (calls : List FieldCall) (code : ℕ) → 26 ≤ code → code ≤ 28 → (xs : List ℤ) → length xs ≤ 4 → all_fixnums w xs ≡ true
      → answer_of w code (map (run_all w start end calls) xs) ≡ answer (done (run_all w start end calls (answer_of w code xs).first, pos 0))
  unfolding is_code row_of rows bitwise_ands bitwise_iors bitwise_xors
  distributed calls code m n =
      from-to (λ c. (xs : List ℤ) → length xs ≤ 4 → all_fixnums w xs ≡ true
      → answer_of w c (map (run_all w start end calls) xs) ≡ answer (done (run_all w start end calls (answer_of w c xs).first, pos 0))) 26 3
      (over-all calls 26 ◌&&◌ true refl refl, (over-all calls 27 ◌||◌ false refl refl, (over-all calls 28 xor false refl refl, tt)))
      code m (omega arith)

pub demand3-fixnum : (w : ℕ) → is_width w ≡ true → (start end : ℕ) → start < end → end ≤ w - 1 → ListStatement w start end
demand3-fixnum w a start end h k = record {
  rule = λ call x f. (step w a start end h k call x f).ruled;
  legal = run_fits w a start end h k;
  end-number = ends w a start end h k;
  bit-count = counts-stay w a start end h k;
  sign = λ calls x f.
      ap is_negative (agree w a start end h k calls x f) ∙ (list-theorem (is_done w start end) start end h).sign calls x;
  outside = λ calls x f i o.
      ap (λ (z : ℤ). testbit z i) (agree w a start end h k calls x f) ∙ (list-theorem (is_done w start end) start end h).outside calls x i o;
  commutes-not = nots w a start end h k;
  distributes = distributed w a start end h k;
  rotate-rotate = twice w a start end h k;
  reverse-rotate-reverse = between-reversals w a start end h k;
  reverse-reverse = twice-reversed w a start end h k;
  rotate-back = back w a start end h k;
  counts-differ = different w a start end h k;
}
