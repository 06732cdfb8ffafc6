-- Code 40's count, on answers: a full rotation answers its number, an empty field takes the count 0 alone, and every other call answers as
-- R6RS's own rule has it. Assumes nothing.
use Prim.Native.Nat.{ℕ, zero-le, ◌-◌, ◌≤◌}
use native.Mathlib.Nat.{le_of_lt, le_refl, le_antisymm}
use native.Mathlib.Omega.{arith}
use mathlib.Core.Path.{◌≡◌, refl, sym, ap, ◌∙◌}
use mathlib.Core.Bool.{Bool, true, false, cond, ◌&&◌}
use mathlib.Core.List.{List, [], ◌∷◌, ◌++◌}
use lib.Dec.{lit<, leb, ltb}
use lib.IntN.{ℤ, pos, negsuc, nat_abs, ◌-ℤ◌}
use lib.Signed.{le_z, lt_z}
use borrow.Author.Tests.{leb-true, leb-false, le-leb, lt-ltb, le-ltb}
use Rattle.bits.specs.Range.{within}
use Rattle.bits.specs.Testbit.{fits}
use Rattle.bits.specs.Field.{rotate_bit_field}
use Rattle.bits.specs.FieldList.{rotate}
use Rattle.bits.proofs.Booleans.{and-false, and-swap, both_left, both_right}
use Rattle.bits.proofs.IntegerLaws.{pos-sub-ge}
use Rattle.bits.proofs.RangeLaws.{natural-pos, within-field}
use Rattle.bits.proofs.RotateLaws.{rotate-full}
use Rattle.outcomes.specs.Outcome.{Outcome, refused, done, guard, guard_at}
use Rattle.outcomes.proofs.OutcomeLaws.{passed, passed-at}
use Rattle.outcomes.proofs.TestLaws.{passed-each}
use Rattle.fxtable.specs.declared.answer.Answer.{Answer}
use Rattle.fxtable.specs.Domains.{is_width, arg, accepts, domain_tests_from, domain_tests}
use Rattle.fxtable.specs.Operations.{equal}
use Rattle.fxtable.specs.Table.{rows, is_code, row_of}
use Rattle.fxtable.specs.Calls.{answer, counted, is_count, all_fixnums, outcome, fixnum_answer, answer_of}
use Rattle.fxtable.proofs.CallLaws.{arg-exactly}
use Rattle.fxtable.proofs.MeaningLaws.{every-outcome}
use Rattle.fixnum_laws.specs.Lists.{is_done}
use Rattle.fixnum_laws.specs.Rotations.{field_tests, legal_field, below_size, is_size, strict_answer, is_full_rotation}
use Rattle.fixnum_laws.proofs.AnswerLaws.{by_count, count-done, fourth-fails, rotate-answer, rotate-no-fixnum, rotate-out-of-domain}
use Rattle.outcomes.specs.Tests.{all_hold, first_failed_from, first_failed, guard_each}

-- ---- a full rotation, and an empty field

pub full-rotation : (w : ℕ) → is_width w ≡ true → (x : ℤ) → fits w x ≡ true → (start end : ℕ) → start ≤ end → end ≤ w - 1
    → answer_of w 40 (x ∷ pos start ∷ pos end ∷ pos (end - start) ∷ []) ≡ answer (done (x, pos 0))
full-rotation w a x f start end h k =
    rotate-answer w a x start end f h k (pos (end - start)) (count-done w start end h (end - start) (le_refl (end - start)))
    ∙ ap (λ (y : ℤ). answer (done (y, pos 0))) (rotate-full start end x)

-- the count of an empty field
within-zero : (c : ℤ) → within (pos 0) c (pos 0) ≡ equal c (pos 0)
unfolding within equal
within-zero (pos n) = and-swap (leb 0 n) (leb n 0)
within-zero (negsuc n) = refl

zero-only : (c : ℤ) → equal c (pos 0) ≡ true → c ≡ pos 0
unfolding equal
zero-only (pos n) e = ap pos (omega (arith, leb-true n 0 (both_left (leb n 0) (leb 0 n) e)))
zero-only (negsuc n) e = let z : ◌≡◌ {A = ℕ} 0 1 = cc in absurd (omega arith)

pub empty-field : (w : ℕ) → is_width w ≡ true → (x : ℤ) → fits w x ≡ true → (k : ℕ) → k ≤ w - 1 → (c : ℤ)
    → answer_of w 40 (x ∷ pos k ∷ pos k ∷ c ∷ []) ≡ cond (equal c (pos 0)) (answer (done (x, pos 0))) (answer (refused (cond (fits w c) 5 4) 4))
empty-field w a x f k l c = go (equal c (pos 0)) (fits w c) refl refl
  where
    none : k - k ≡ 0
    none = omega arith

    by_zero : is_done w k k (rotate c) ≡ equal c (pos 0)
    by_zero = by_count w k k (le_refl k) c ∙ ap (λ (n : ℕ). within (pos 0) c (pos n)) none ∙ within-zero c

    go : (t g : Bool) → equal c (pos 0) ≡ t → fits w c ≡ g
        → answer_of w 40 (x ∷ pos k ∷ pos k ∷ c ∷ []) ≡ cond t (answer (done (x, pos 0))) (answer (refused (cond g 5 4) 4))
    go true g p q =
        ap (λ (y : ℤ). answer_of w 40 (x ∷ pos k ∷ pos k ∷ y ∷ [])) (zero-only c p ∙ ap pos (sym none)) ∙ full-rotation w a x f k k (le_refl k) l
    go false false p q = rotate-no-fixnum w a x k k f (le_refl k) l c q
    go false true p q = rotate-out-of-domain w a x k k f (le_refl k) l c q (by_zero ∙ p)

-- ---- every other call

-- a stage before a choice between two answers
through : (t full : Bool) (n place : ℕ) (o strict : Outcome (ℤ × ℤ)) (r : Answer) → (t ≡ true → answer o ≡ cond full r (answer strict))
    → answer (guard_at t n place o) ≡ cond (t && full) r (answer (guard_at t n place strict))
unfolding guard_at
through true full n place o strict r e = e refl
through false full n place o strict r e = refl

-- a count against a size: below it, equal to it, or neither
against : (c : ℤ) (size : ℕ) (o : Outcome (ℤ × ℤ)) (r : Answer) → (c ≡ pos size → answer o ≡ r)
    → answer (guard_at (within (pos 0) c (pos size)) 5 4 o) ≡ cond (equal c (pos size)) r (answer (guard_at (le_z (pos 0) c && lt_z c (pos size)) 5 4 o))
unfolding within equal guard_at
against (negsuc n) size o r e = refl
against (pos n) size o r e = go (leb n size) (leb size n) refl refl
  where
    go : (s t : Bool) → leb n size ≡ s → leb size n ≡ t
        → answer (guard_at (leb 0 n && leb n size) 5 4 o) ≡ cond (leb n size && leb size n) r (answer (guard_at (leb 0 n && ltb n size) 5 4 o))
    go true true p q =
        rw (le-leb 0 n zero-le, p, q) (e (ap pos (le_antisymm (leb-true n size p) (leb-true size n q))))
    go true false p q = rw (le-leb 0 n zero-le, p, q, lt-ltb n size (leb-false size n q)) refl
    go false t p q = rw (le-leb 0 n zero-le, p, le-ltb n size (le_of_lt (leb-false n size p))) refl

-- the stage of four tests, of which the first three hold
last-test : (t : Bool) (o : Outcome (ℤ × ℤ)) → guard_each (true ∷ true ∷ true ∷ t ∷ []) 5 o ≡ guard_at t 5 4 o
unfolding guard_each guard_at all_hold first_failed first_failed_from
last-test true o = refl
last-test false o = refl

module _ (w : ℕ) (args : List ℤ) (n : ℕ) where
  abbrev xs : List ℤ
  xs = counted args n

  abbrev start-ok : Bool
  start-ok = within (pos 0) (arg xs 1) (pos (w - 1))

  abbrev end-ok : Bool
  end-ok = within (arg xs 1) (arg xs 2) (pos (w - 1))

  abbrev count-ok : Bool
  count-ok = within (pos 0) (arg xs 3) (arg xs 2 -ℤ arg xs 1)

  -- a field's size is a natural number, and its end is its start and the size
  record Sized : Type 0 where
    pub start : ℕ
    pub end : ℕ
    pub start_is : arg xs 1 ≡ pos start
    pub end_is : arg xs 2 ≡ pos end
    pub ordered : start ≤ end

  sized : legal_field w xs ≡ true → Sized
  unfolding legal_field field_tests domain_tests domain_tests_from accepts all_hold
  sized h =
      let k = both_left (within (arg xs 1) (arg xs 2) (pos (w - 1))) true (both_right (within (pos 0) (arg xs 1) (pos (w - 1))) _ h) in
      let f = within-field (w - 1) (arg xs 1) (arg xs 2) (both_left (within (pos 0) (arg xs 1) (pos (w - 1))) _ h) k in
      record {
        start = nat_abs (arg xs 1);
        end = nat_abs (arg xs 2);
        start_is = sym (natural-pos (arg xs 1) f.0);
        end_is = sym (natural-pos (arg xs 2) f.1);
        ordered = f.2;
      }

  module _ (b : is_count 40 n ≡ true) (h : legal_field w xs ≡ true) where
    size_is : arg xs 2 -ℤ arg xs 1 ≡ pos ((sized h).end - (sized h).start)
    size_is = rw ((sized h).end_is, (sized h).start_is) (pos-sub-ge (sized h).end (sized h).start (sized h).ordered)

    -- what a full rotation comes to
    unchanged : arg xs 3 ≡ pos ((sized h).end - (sized h).start) → answer (outcome w 40 xs) ≡ answer (done (arg args 0, pos 0))
    unfolding row_of rows is_count
    unchanged e =
        sym (every-outcome (λ ys. rotate_bit_field (arg ys 0) (nat_abs (arg ys 1)) (nat_abs (arg ys 2)) (arg ys 3)) w 40 xs refl)
        ∙ ap (λ (y : ℤ). answer (done (y, pos 0)))
        (rw (e, (sized h).start_is, (sized h).end_is) (rotate-full (sized h).start (sized h).end (arg xs 0)) ∙ arg-exactly args 4 n 0 b (lit< tt))

    field-case : answer (guard_at count-ok 5 4 (outcome w 40 xs))
        ≡ cond (is_size xs) (answer (done (arg args 0, pos 0))) (answer (guard_at (below_size xs) 5 4 (outcome w 40 xs)))
    unfolding is_size below_size
    field-case = rw size_is (against (arg xs 3) ((sized h).end - (sized h).start) (outcome w 40 xs) (answer (done (arg args 0, pos 0))) unchanged)

  legal : start-ok ≡ true → end-ok ≡ true → legal_field w xs ≡ true
  unfolding legal_field field_tests domain_tests domain_tests_from accepts all_hold
  legal p q = rw (p, q)

  -- the stage of the domains
  last : is_count 40 n ≡ true → answer (guard_each (domain_tests (row_of 40).domains w xs) 5 (outcome w 40 xs))
      ≡ cond (legal_field w xs && is_size xs) (answer (done (arg args 0, pos 0))) (answer (guard_each (field_tests w xs ++ (below_size xs ∷ [])) 5 (outcome w 40 xs)))
  unfolding row_of rows domain_tests domain_tests_from accepts legal_field field_tests guard_each guard_at all_hold first_failed first_failed_from
  last b = go start-ok end-ok refl refl
    where
      go : (s e : Bool) → start-ok ≡ s → end-ok ≡ e
          → answer (guard_each (true ∷ start-ok ∷ end-ok ∷ count-ok ∷ []) 5 (outcome w 40 xs))
          ≡ cond ((start-ok && (end-ok && true)) && is_size xs) (answer (done (arg args 0, pos 0))) (answer (guard_each (true ∷ start-ok ∷ end-ok ∷ below_size xs ∷ []) 5 (outcome w 40 xs)))
      go true true p q = rw (p, q) (ap answer (last-test count-ok _) ∙ field-case b (legal p q) ∙ ap (cond (is_size xs) _) (ap answer (sym (last-test (below_size xs) _))))
      go true false p q = rw (p, q) refl
      go false e p q = rw p refl

  -- code 40 is R6RS's rule and full rotations
  pub only-full-rotations : fixnum_answer w 40 args n ≡ cond (is_full_rotation w args n) (answer (done (arg args 0, pos 0))) (strict_answer w args n)
  unfolding fixnum_answer strict_answer is_full_rotation is_code rows guard guard_each all_fixnums
  only-full-rotations =
      through (is_width w) _ 1 0 _ _ _
      (λ a. ap answer (passed-at 2 0 _ refl) ∙ through (is_count 40 n) _ 3 0 _ _ _ (λ b. through (all_fixnums w xs) _ 4 _ _ _ _ (λ c. last b)))

-- ---- what R6RS's rule refuses of them

strict-tests : (w : ℕ) (xs : List ℤ) (t : Bool) → legal_field w xs ≡ true → field_tests w xs ++ (t ∷ []) ≡ true ∷ true ∷ true ∷ t ∷ []
unfolding legal_field field_tests domain_tests domain_tests_from accepts all_hold
strict-tests w xs t h =
    let start = both_left (within (pos 0) (arg xs 1) (pos (w - 1))) _ h in
    let end = both_left (within (arg xs 1) (arg xs 2) (pos (w - 1))) true (both_right (within (pos 0) (arg xs 1) (pos (w - 1))) _ h) in
    rw (start, end)

not-below : (c s : ℤ) → equal c s ≡ true → lt_z c s ≡ false
unfolding equal
not-below (pos m) (pos n) e = le-ltb m n (leb-true n m (both_right (leb m n) (leb n m) e))
not-below (pos m) (negsuc n) e = refl
not-below (negsuc m) (pos n) e = let z : ◌≡◌ {A = ℕ} 0 1 = cc in absurd (omega arith)
not-below (negsuc m) (negsuc n) e = le-ltb n m (leb-true m n (both_right (leb n m) (leb m n) e))

pub full-rotation-refused : (w : ℕ) (args : List ℤ) (n : ℕ) → is_full_rotation w args n ≡ true → strict_answer w args n ≡ answer (refused 5 4)
unfolding is_full_rotation strict_answer is_size below_size all_fixnums
full-rotation-refused w args n e =
    let a = both_right (is_width w) _ e in
    let b = both_right (is_count 40 n) _ a in
    let c = both_right (all_fixnums w (counted args n)) _ b in
    let xs = counted args n in
    let d : lt_z (arg xs 3) (arg xs 2 -ℤ arg xs 1) ≡ false = not-below (arg xs 3) (arg xs 2 -ℤ arg xs 1) (both_right (legal_field w xs) _ c) in
    ap answer
    (passed 1 _ (both_left (is_width w) _ e)
    ∙ passed 3 _ (both_left (is_count 40 n) _ a)
    ∙ passed-each _ 4 _ (both_left (all_fixnums w xs) _ b)
    ∙ fourth-fails 5 _ (strict-tests w xs (below_size xs) (both_left (legal_field w xs) _ c))
    (ap (λ (t : Bool). le_z (pos 0) (arg xs 3) && t) d ∙ and-false (le_z (pos 0) (arg xs 3))))
