-- The answers to the codes that demand 3 speaks of. Assumes nothing.
use Prim.Native.Nat.{ℕ, zero-le, ◌-◌, ◌≤◌, ◌^◌}
use native.Mathlib.Nat.{le_trans, lt_of_le_of_lt}
use native.Mathlib.Omega.{arith}
use mathlib.Core.Path.{◌≡◌, refl, sym, ap, ◌∙◌, subst}
use mathlib.Core.Bool.{Bool, true, false, ◌&&◌}
use mathlib.Core.List.{List, [], ◌∷◌}
use lib.IntN.{ℤ, pos, nat_abs}
use lib.ListN.{length}
use lib.Seq.{take-length}
use borrow.Author.Tests.{le-leb, lt-ltb}
use Rattle.bits.proofs.FitsLaws.{lt-two-pow}
use Rattle.bits.specs.Testbit.{fits}
use Rattle.bits.specs.Field.{rotate_bit_field, reverse_bit_field}
use Rattle.bits.proofs.IntegerLaws.{pos-sub-ge}
use Rattle.fxtable.specs.Calls.{answer, counted, is_count, fixnum_tests, all_fixnums, outcome, fixnum_answer, answer_of}
use Rattle.bits.specs.Range.{within}
use Rattle.fxtable.specs.Domains.{is_width, arg, accepts, domain_tests_from, domain_tests, in_domains}
use Rattle.fxtable.specs.Operations.{results_of, every, one}
use Rattle.fxtable.specs.Table.{row, rows, is_code, row_of}
use Rattle.bits.specs.FieldList.{rotate}
use Rattle.fixnum_laws.specs.Lists.{is_done}
use Rattle.outcomes.specs.Outcome.{Outcome, refused, done, guard_at}
use Rattle.outcomes.proofs.OutcomeLaws.{passed}
use Rattle.outcomes.proofs.TestLaws.{passed-each}
use Rattle.fxtable.proofs.CallLaws.{accepted, never-checked}
use Rattle.fxtable.proofs.MeaningLaws.{every-outcome}
use Rattle.bits.proofs.RangeLaws.{natural-pos, within-pos}
use Rattle.outcomes.specs.Tests.{all_hold, first_failed_from, first_failed, guard_each}

-- which rotations are done, by their count
pub by_count : (w start end : ℕ) → start ≤ end → (c : ℤ) → is_done w start end (rotate c) ≡ within (pos 0) c (pos (end - start))
unfolding is_done accepts arg
by_count w start end h c = rw (pos-sub-ge end start h)

pub count-done : (w start end : ℕ) → start ≤ end → (c : ℕ) → c ≤ end - start → is_done w start end (rotate (pos c)) ≡ true
unfolding within
count-done w start end h c l = by_count w start end h (pos c) ∙ rw (le-leb 0 c zero-le, le-leb c (end - start) l)

-- ---- four tests of which the first three hold

fourth-holds : {ts : List Bool} {t : Bool} → ts ≡ true ∷ true ∷ true ∷ t ∷ [] → t ≡ true → all_hold ts ≡ true
unfolding all_hold
fourth-holds e h = rw (e, h)

pub fourth-fails : {A : Type 0} {ts : List Bool} {t : Bool} (k : ℕ) (o : Outcome A) → ts ≡ true ∷ true ∷ true ∷ t ∷ [] → t ≡ false → guard_each ts k o ≡ refused k 4
unfolding guard_each guard_at all_hold first_failed first_failed_from
fourth-fails k o e h = rw (e, h)

-- ---- the field operations

module _ (w : ℕ) (a : is_width w ≡ true) where
  -- a position is a fixnum
  position-fits : (k : ℕ) → k ≤ w - 1 → fits w (pos k) ≡ true
  unfolding fits
  position-fits k h = lt-ltb k (2 ^ (w - 1)) (lt_of_le_of_lt h (lt-two-pow (w - 1)))

  module _ (x : ℤ) (start end : ℕ) (f : fits w x ≡ true) (h : start ≤ end) (k : end ≤ w - 1) where
    field-fixnums : (xs : List ℤ) → all_fixnums w (x ∷ pos start ∷ pos end ∷ xs) ≡ all_fixnums w xs
    unfolding all_fixnums fixnum_tests all_hold
    field-fixnums xs = rw (f, position-fits start (le_trans h k), position-fits end k)

    start-in : within (pos 0) (pos start) (pos (w - 1)) ≡ true
    unfolding within
    start-in = rw (le-leb 0 start zero-le, le-leb start (w - 1) (le_trans h k))

    end-in : within (pos start) (pos end) (pos (w - 1)) ≡ true
    unfolding within
    end-in = rw (le-leb start end h, le-leb end (w - 1) k)

    none : all_fixnums w [] ≡ true
    unfolding all_fixnums fixnum_tests all_hold
    none = refl

    pub reverse-answer : answer_of w 41 (x ∷ pos start ∷ pos end ∷ []) ≡ answer (done (reverse_bit_field x start end, pos 0))
    unfolding answer_of counted is_code is_count row_of rows in_domains domain_tests domain_tests_from accepts arg outcome results_of all_hold
    reverse-answer =
        accepted w 41 (x ∷ pos start ∷ pos end ∷ []) 3 refl
        (record { width = a; arity = refl; fixnums = field-fixnums [] ∙ none; domains = rw (start-in, end-in) })
        ∙ sym (never-checked w (reverse_bit_field x start end, pos 0))

    -- code 40, by its count
    module _ (c : ℤ) where
      count_fits : is_done w start end (rotate c) ≡ true → fits w c ≡ true
      count_fits d =
          let n = within-pos 0 (end - start) c (sym (by_count w start end h c) ∙ d) in
          subst (λ (z : ℤ). fits w z ≡ true) (natural-pos c n.0) (position-fits (nat_abs c) (omega (arith, n.2)))

      -- the tests of its arguments: only the count's is open
      rotate-fixnums : fixnum_tests w (x ∷ pos start ∷ pos end ∷ c ∷ []) ≡ true ∷ true ∷ true ∷ fits w c ∷ []
      unfolding fixnum_tests
      rotate-fixnums = rw (f, position-fits start (le_trans h k), position-fits end k)

      rotate-domains : domain_tests (row_of 40).domains w (x ∷ pos start ∷ pos end ∷ c ∷ []) ≡ true ∷ true ∷ true ∷ is_done w start end (rotate c) ∷ []
      unfolding row_of rows domain_tests domain_tests_from accepts arg is_done
      rotate-domains = rw (start-in, end-in)

      pub rotate-answer : is_done w start end (rotate c) ≡ true
          → answer_of w 40 (x ∷ pos start ∷ pos end ∷ c ∷ []) ≡ answer (done (rotate_bit_field x start end c, pos 0))
      unfolding answer_of counted is_code is_count row_of rows outcome results_of arg all_fixnums in_domains
      rotate-answer d =
          accepted w 40 (x ∷ pos start ∷ pos end ∷ c ∷ []) 4 refl
          (record { width = a; arity = refl; fixnums = fourth-holds rotate-fixnums (count_fits d); domains = fourth-holds rotate-domains d })
          ∙ sym (never-checked w (rotate_bit_field x start end c, pos 0))

      pub rotate-no-fixnum : fits w c ≡ false → answer_of w 40 (x ∷ pos start ∷ pos end ∷ c ∷ []) ≡ answer (refused 4 4)
      unfolding answer_of fixnum_answer counted is_code is_count row_of rows
      rotate-no-fixnum e = ap answer (passed 1 _ a ∙ passed 2 _ refl ∙ passed 3 _ refl ∙ fourth-fails 4 _ rotate-fixnums e)

      pub rotate-out-of-domain : fits w c ≡ true → is_done w start end (rotate c) ≡ false → answer_of w 40 (x ∷ pos start ∷ pos end ∷ c ∷ []) ≡ answer (refused 5 4)
      unfolding answer_of fixnum_answer counted is_code is_count row_of rows
      rotate-out-of-domain e d =
          ap answer
          (passed 1 _ a ∙ passed 2 _ refl ∙ passed 3 _ refl ∙ passed-each _ 4 _ (fourth-holds rotate-fixnums e) ∙ fourth-fails 5 _ rotate-domains d)

-- ---- the operations on all bits

module _ (w : ℕ) (a : is_width w ≡ true) where
  -- an operation of one argument that is never refused
  pub one_answer : (code : ℕ) (g : ℤ → ℤ) → is_code code ≡ true → row_of code ≡ row 1 1 [] 0 (one g)
      → (x : ℤ) → fits w x ≡ true → answer_of w code (x ∷ []) ≡ answer (done (g x, pos 0))
  unfolding answer_of counted is_count in_domains domain_tests domain_tests_from arg all_fixnums fixnum_tests all_hold
  one_answer code g k e x f =
      accepted w code (x ∷ []) 1 k
      (record { width = a; arity = rw e; fixnums = ap (λ (t : Bool). t && true) f; domains = rw e })
      ∙ sym (every-outcome (λ ys. g (arg ys 0)) w code (x ∷ []) e)

  -- an operation of up to four arguments that is never refused
  pub every-answer : (code : ℕ) (g : List ℤ → ℤ) → is_code code ≡ true → row_of code ≡ row 0 4 [] 0 (every g)
      → (xs : List ℤ) → length xs ≤ 4 → all_fixnums w xs ≡ true → answer_of w code xs ≡ answer (done (g xs, pos 0))
  unfolding answer_of counted is_count in_domains domain_tests domain_tests_from all_hold
  every-answer code g k e xs l f =
      accepted w code xs (length xs) k
      (record { width = a; arity = rw (e, le-leb 0 (length xs) zero-le, le-leb (length xs) 4 l); fixnums = rw (take-length xs) f; domains = rw e })
      ∙ rw (take-length xs) (sym (every-outcome g w code xs e))
