-- The place of an answer, at every width, for every code, list of arguments and count. Assumes nothing.
use Prim.Native.Nat.{ℕ, zero, suc, zero-le, ◌-◌, ◌≤◌, ◌<◌}
use native.Mathlib.Nat.{le_trans}
use native.Mathlib.Omega.{arith}
use mathlib.Core.Path.{◌≡◌, refl, sym, ap, ◌∙◌}
use mathlib.Core.Bool.{Bool, true, false, not, cond, ◌&&◌, ◌||◌}
use mathlib.Core.List.{List, [], ◌∷◌}
use mathlib.Core.Logic.{inl, inr, ⊎_elim}
use lib.Dec.{eqb}
use lib.IntN.{ℤ, pos, ◌-ℤ◌}
use lib.ListN.{length, get_or}
use lib.Seq.{take-length}
use borrow.Author.Tests.{eqb-true, eqb-false, not-true, eq-eqb}
use Rattle.bits.specs.Range.{within}
use Rattle.bits.specs.Testbit.{fits}
use Rattle.outcomes.specs.Outcome.{Outcome, refused, done, guard, guard_at}
use Rattle.outcomes.specs.Tests.{all_hold, first_failed_from, first_failed, guard_each}
use Rattle.outcomes.proofs.OutcomeLaws.{passed}
use Rattle.outcomes.proofs.TestLaws.{passed-each, First, no_place, some-place, place-first, first-place, place-within}
use Rattle.fxtable.specs.declared.answer.Answer.{Answer}
use Rattle.fxtable.specs.declared.domains.Domain.{Domain}
use Rattle.fxtable.specs.Domains.{is_width, arg, accepts, domain_at, domain_tests_from, domain_tests, in_domains}
use Rattle.fxtable.specs.Table.{rows, no_row, is_code, row_of}
use Rattle.fxtable.specs.Calls.{answer, counted, is_count, fixnum_tests, all_fixnums, outcome, fixnum_answer, answer_of}
use Rattle.fxtable.proofs.CallLaws.{between}
use Rattle.fxtable.proofs.ArgumentTests.{fixnum-test, domain-test, fixnum-tests-length, domain-tests-length}
use Rattle.fxtable.proofs.TableLaws.{of_row, of_code, at-most-four}
use Rattle.fxstages.proofs.DomainLaws.{few-domains}
use Rattle.fixnum_laws.proofs.Stages.{stage, of-outcome, by-ends}
use Rattle.fixnum_laws.specs.Places.{argument, is_fixnum, in_domain, FirstBreach, RefusedFor, without_place, former_fixnums, former_domains_from, formerly, former_answer, PlaceStatement}

-- ---- the tests

-- the first of the tests that fails is the first breach; tests are counted from 0, arguments from 1
module _ (test : ℕ → Bool) (ts : List Bool) (same : (i : ℕ) → get_or ts i true ≡ test (suc i)) (i : ℕ) where
  breach : First ts i → FirstBreach test (suc i)
  breach f = record { breaks = sym (same i) ∙ f.fails; before = earlier }
    where
      earlier : (j : ℕ) → 1 ≤ j → j < suc i → test j ≡ true
      earlier zero l h = absurd (omega arith)
      earlier (suc j) l h = sym (same j) ∙ f.before j (omega arith)

  first : FirstBreach test (suc i) → First ts i
  first b = record { fails = same i ∙ b.breaks; before = λ j h. same j ∙ b.before (suc j) (omega arith) (omega arith) }

module _ (w code : ℕ) (args : List ℤ) (n : ℕ) where
  abbrev xs : List ℤ
  xs = counted args n

  abbrev fixnums : List Bool
  fixnums = fixnum_tests w xs

  abbrev domains : List Bool
  domains = domain_tests (row_of code).domains w xs

  -- ---- which argument

  abbrev For : Answer → ℕ → Type 0
  For a k = RefusedFor w code xs a k

  same-fixnum : (i : ℕ) → get_or fixnums i true ≡ is_fixnum w xs (suc i)
  unfolding is_fixnum argument
  same-fixnum i = fixnum-test w xs i ∙ ap (λ (k : ℕ). fits w (arg xs k)) (omega arith)

  same-domain : (i : ℕ) → get_or domains i true ≡ in_domain w code xs (suc i)
  unfolding in_domain argument
  same-domain i =
      domain-test w xs (row_of code).domains i
      ∙ ap (λ (k : ℕ). accepts (domain_at (row_of code).domains k) w xs (arg xs k)) (omega arith)

  -- where a list of tests holds, none is broken
  none-broken : (test : ℕ → Bool) (ts : List Bool) → ((i : ℕ) → get_or ts i true ≡ test (suc i)) → all_hold ts ≡ true → (i : ℕ) → FirstBreach test (suc i) → ⊥
  none-broken test ts same h i b = omega (arith, no_place ts h, first-place ts i (first test ts same i b))

  -- an answer with place 0 that is a refusal for no argument
  unblamed : (k : ℕ) → ((i : ℕ) → k ≡ 4 → FirstBreach (is_fixnum w xs) (suc i) → ⊥) → ((i : ℕ) → k ≡ 5 → FirstBreach (in_domain w code xs) (suc i) → ⊥)
      → (a : Answer) → a.refusal ≡ k → a.place ≡ 0 → (i : ℕ) → (a.place ≡ suc i → For a (suc i)) × (For a (suc i) → a.place ≡ suc i)
  unfolding RefusedFor
  unblamed k four five a e z i = (
    λ p. absurd (omega (arith, z, p)),
    ⊎_elim (λ f. absurd (four i (sym e ∙ f.0) f.1)) (λ f. absurd (five i (sym e ∙ f.0) f.1)),
  )

  exact : (i : ℕ) → ((fixnum_answer w code args n).place ≡ suc i → For (fixnum_answer w code args n) (suc i)) × (For (fixnum_answer w code args n) (suc i) → (fixnum_answer w code args n).place ≡ suc i)
  unfolding RefusedFor answer all_fixnums in_domains
  exact i = by-ends w code args n (λ a. (a.place ≡ suc i → For a (suc i)) × (For a (suc i) → a.place ≡ suc i)) (record {
    early = λ k l u. unblamed k (λ j e b. omega arith) (λ j e b. omega arith) (answer (refused k 0)) refl refl i;
    wide = λ m h. (
      λ p. inl (refl, breach (is_fixnum w xs) fixnums same-fixnum i (place-first fixnums i p)),
      ⊎_elim (λ f. first-place fixnums i (first (is_fixnum w xs) fixnums same-fixnum i f.1)) (λ f. absurd (omega (arith, f.0))),
    );
    outside = λ m h. (
      λ p. inr (refl, breach (in_domain w code xs) domains same-domain i (place-first domains i p)),
      ⊎_elim (λ f. absurd (omega (arith, f.0))) (λ f. first-place domains i (first (in_domain w code xs) domains same-domain i f.1)),
    );
    past = (
      λ c f d. unblamed (row_of code).overflow (λ j e. none-broken (is_fixnum w xs) fixnums same-fixnum f j) (λ j e. none-broken (in_domain w code xs) domains same-domain d j)
          (answer (refused (row_of code).overflow 0)) refl refl i,
      λ r. unblamed 0 (λ j e b. omega arith) (λ j e b. omega arith) (answer (done r)) refl refl i,
    );
  })

  -- ---- a counted argument

  domains-length : is_count code n ≡ true → length domains ≤ n
  unfolding is_count
  domains-length m = omega (arith, domain-tests-length w xs (row_of code).domains, few-domains code, (between (row_of code).least n (row_of code).most m).0)

  within_count : is_count code n ≡ true → (ts : List Bool) → length ts ≤ n → (first_failed ts ≤ n) × (first_failed ts ≤ 4)
  within_count m ts l = let p = le_trans (place-within ts) l in (p, le_trans p (at-most-four code n m))

  counted-place : ((fixnum_answer w code args n).place ≤ n) × ((fixnum_answer w code args n).place ≤ 4)
  unfolding answer
  counted-place = by-ends w code args n (λ a. (a.place ≤ n) × (a.place ≤ 4)) (record {
    early = λ k l u. (zero-le, zero-le);
    wide = λ m h. within_count m fixnums (fixnum-tests-length w args n);
    outside = λ m h. within_count m domains (domains-length m);
    past = (λ c f d. (zero-le, zero-le), λ r. (zero-le, zero-le));
  })

  -- ---- by refusal

  pub never-4 : (row_of code).overflow ≡ 4 → ⊥
  unfolding rows no_row
  never-4 = eqb-false _ 4 (not-true _ (of_row (λ r. not (eqb r.overflow 4)) refl refl code))

  only-difference : is_code code ≡ true → (row_of code).overflow ≡ 5 → code ≡ 15
  unfolding rows no_row
  only-difference c e =
      let h : not (eqb (row_of code).overflow 5) || eqb code 15 ≡ true = of_code (λ k r. not (eqb r.overflow 5) || eqb k 15) refl code c in
      eqb-true code 15 (rw (eq-eqb (row_of code).overflow 5 e) at h)

  place-of-4 : (fixnum_answer w code args n).refusal ≡ 4 → 1 ≤ (fixnum_answer w code args n).place
  unfolding answer all_fixnums in_domains
  place-of-4 = by-ends w code args n (λ a. a.refusal ≡ 4 → 1 ≤ a.place) (record {
    early = λ k l u e. absurd (omega arith);
    wide = λ m h e. some-place fixnums h;
    outside = λ m h e. some-place domains h;
    past = (λ c f d e. absurd (never-4 e), λ r e. absurd (omega arith));
  })

  place-of-5 : (fixnum_answer w code args n).refusal ≡ 5 → (code ≡ 15 → ⊥) → 1 ≤ (fixnum_answer w code args n).place
  unfolding answer all_fixnums in_domains
  place-of-5 = by-ends w code args n (λ a. a.refusal ≡ 5 → (code ≡ 15 → ⊥) → 1 ≤ a.place) (record {
    early = λ k l u e other. absurd (omega arith);
    wide = λ m h e other. some-place fixnums h;
    outside = λ m h e other. some-place domains h;
    past = (λ c f d e other. absurd (other (only-difference c e)), λ r e other. absurd (omega arith));
  })

  -- fx- has no domain
  no-domain : code ≡ 15 → first_failed domains ≡ 0
  unfolding first_failed first_failed_from domain_tests domain_tests_from row_of rows
  no-domain q = ap (λ (c : ℕ). first_failed (domain_tests (row_of c).domains w xs)) q

  place-of-size : (fixnum_answer w code args n).refusal ≡ 5 → code ≡ 15 → (fixnum_answer w code args n).place ≡ 0
  unfolding answer
  place-of-size = by-ends w code args n (λ a. a.refusal ≡ 5 → code ≡ 15 → a.place ≡ 0) (record {
    early = λ k l u e q. refl;
    wide = λ m h e q. absurd (omega (arith, e));
    outside = λ m h e q. no-domain q;
    past = (λ c f d e q. refl, λ r e q. refl);
  })

  place-of-others : ((fixnum_answer w code args n).refusal ≡ 4 → ⊥) → ((fixnum_answer w code args n).refusal ≡ 5 → ⊥) → (fixnum_answer w code args n).place ≡ 0
  unfolding answer
  place-of-others = by-ends w code args n (λ a. (a.refusal ≡ 4 → ⊥) → (a.refusal ≡ 5 → ⊥) → a.place ≡ 0) (record {
    early = λ k l u four five. refl;
    wide = λ m h four five. absurd (four refl);
    outside = λ m h four five. absurd (five refl);
    past = (λ c f d four five. refl, λ r four five. refl);
  })

  -- ---- all but the place

  former-fixnums : (ys : List ℤ) → former_fixnums w ys ≡ all_hold (fixnum_tests w ys)
  unfolding former_fixnums fixnum_tests all_hold
  former-fixnums [] = refl
  former-fixnums (y ∷ ys) = ap (λ (t : Bool). fits w y && t) (former-fixnums ys)

  former-domains : (from : ℕ) (ds : List Domain) → former_domains_from from ds w xs ≡ all_hold (domain_tests_from from ds w xs)
  unfolding former_domains_from domain_tests_from all_hold
  former-domains from [] = refl
  former-domains from (d ∷ ds) = ap (λ (t : Bool). accepts d w xs (arg xs from) && t) (former-domains (suc from) ds)

  same_outcome : (o : Outcome (ℤ × ℤ)) → without_place (answer o) ≡ formerly o
  unfolding answer formerly
  same_outcome (refused k place) = refl
  same_outcome (done r) = refl

  same-stage : (t : Bool) (k place : ℕ) (o o' : Outcome (ℤ × ℤ)) → without_place (answer o) ≡ formerly o'
      → without_place (answer (guard_at t k place o)) ≡ formerly (guard_at t k 0 o')
  unfolding answer formerly guard_at
  same-stage true k place o o' e = e
  same-stage false k place o o' e = refl

  same_answer : without_place (fixnum_answer w code args n) ≡ former_answer w code args n
  unfolding fixnum_answer former_answer guard guard_each domain_tests
  same_answer =
      rw (former-fixnums xs, former-domains 0 (row_of code).domains)
      (same-stage (is_width w) 1 0 _ _ (same-stage (is_code code) 2 0 _ _ (same-stage (is_count code n) 3 0 _ _
      (same-stage (all_hold fixnums) 4 _ _ _ (same-stage (all_hold domains) 5 _ _ _ (same_outcome (outcome w code xs)))))))

  from_one : (k : ℕ) → 1 ≤ k → ((fixnum_answer w code args n).place ≡ k → For (fixnum_answer w code args n) k) × (For (fixnum_answer w code args n) k → (fixnum_answer w code args n).place ≡ k)
  from_one zero l = absurd (omega arith)
  from_one (suc i) l = exact i

pub places : (w code : ℕ) (args : List ℤ) (n : ℕ) → PlaceStatement w code args n
places w code args n = record {
  exactly = from_one w code args n;
  among = counted-place w code args n;
  of-4 = place-of-4 w code args n;
  of-5 = place-of-5 w code args n;
  of_size = place-of-size w code args n;
  of_others = place-of-others w code args n;
  unmoved = same_answer w code args n;
}

-- ---- in numbers: the arguments of a field, and of copy-bit

-- past its domains, a call is refused for no argument
outcome-place : (w code : ℕ) (xs : List ℤ) → (answer (outcome w code xs)).place ≡ 0
unfolding answer
outcome-place w code xs = of-outcome w code xs (λ a. a.place ≡ 0) refl (λ r. refl)

tested-place : (ts : List Bool) (o : Outcome (ℤ × ℤ)) → (answer o).place ≡ 0 → (answer (guard_each ts 5 o)).place ≡ first_failed ts
unfolding guard_each answer
tested-place ts o z = stage (λ a. a.place ≡ first_failed ts) (all_hold ts) 5 (first_failed ts) o (λ h. z ∙ sym (no_place ts h)) (λ h. refl)

module _ (w : ℕ) (a : is_width w ≡ true) where
  domain-place : (code : ℕ) (xs : List ℤ) → is_code code ≡ true → is_count code (length xs) ≡ true → all_fixnums w xs ≡ true
      → (answer_of w code xs).place ≡ first_failed (domain_tests (row_of code).domains w xs)
  unfolding answer_of fixnum_answer counted all_fixnums
  domain-place code xs c m f =
      rw (take-length xs)
      (ap (λ (o : Outcome (ℤ × ℤ)). (answer o).place) (passed 1 _ a ∙ passed 2 _ c ∙ passed 3 _ m ∙ passed-each _ 4 _ f)
      ∙ tested-place (domain_tests (row_of code).domains w xs) _ (outcome-place w code xs))

  pub copy-bit-place : (x position bit : ℤ) → all_fixnums w (x ∷ position ∷ bit ∷ []) ≡ true
      → (answer_of w 34 (x ∷ position ∷ bit ∷ [])).place ≡ cond (within (pos 0) position (pos (w - 1))) (cond (within (pos 0) bit (pos 1)) 0 3) 2
  unfolding is_code is_count row_of rows first_failed first_failed_from domain_tests domain_tests_from accepts arg
  copy-bit-place x position bit f = domain-place 34 (x ∷ position ∷ bit ∷ []) refl refl f

  pub field-place : (x start end : ℤ) → all_fixnums w (x ∷ start ∷ end ∷ []) ≡ true
      → (answer_of w 41 (x ∷ start ∷ end ∷ [])).place ≡ cond (within (pos 0) start (pos (w - 1))) (cond (within start end (pos (w - 1))) 0 3) 2
  unfolding is_code is_count row_of rows first_failed first_failed_from domain_tests domain_tests_from accepts arg
  field-place x start end f = domain-place 41 (x ∷ start ∷ end ∷ []) refl refl f

  pub rotation-place : (x start end count : ℤ) → all_fixnums w (x ∷ start ∷ end ∷ count ∷ []) ≡ true
      → (answer_of w 40 (x ∷ start ∷ end ∷ count ∷ [])).place
      ≡ cond (within (pos 0) start (pos (w - 1))) (cond (within start end (pos (w - 1))) (cond (within (pos 0) count (end -ℤ start)) 0 4) 3) 2
  unfolding is_code is_count row_of rows first_failed first_failed_from domain_tests domain_tests_from accepts arg
  rotation-place x start end count f = domain-place 40 (x ∷ start ∷ end ∷ count ∷ []) refl refl f
