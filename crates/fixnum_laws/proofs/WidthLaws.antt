-- One call at a width and at a wider one: its fixnums and its domains, the rows whose results do not look at the width, and what a done call has
-- passed. Assumes nothing.
use Prim.Native.Nat.{ℕ, zero, suc, ◌+◌, ◌-◌, ◌≤◌, ◌<◌}
use native.Mathlib.Nat.{le_trans}
use native.Mathlib.Omega.{arith}
use mathlib.Core.Path.{◌≡◌, refl, sym, ap, ap₂, ◌∙◌, subst}
use mathlib.Core.Bool.{Bool, true, false, cond, not, ◌&&◌, ◌||◌, true≢false}
use mathlib.Core.List.{List, [], ◌∷◌}
use lib.Dec.{eqb}
use lib.IntN.{ℤ, pos, negsuc}
use lib.Signed.{le_z}
use borrow.Author.Tests.{leb-true, le-leb, eq-eqb, eqb-true, eqb-false}
use Rattle.bits.specs.Range.{within}
use Rattle.bits.specs.Testbit.{fits}
use Rattle.bits.proofs.Booleans.{both_left, both_right}
use Rattle.bits.proofs.FitsLaws.{is_true, holds}
use Rattle.bits.proofs.LengthLaws.{fits-mono}
use Rattle.bits.proofs.RangeLaws.{within_both, both-within}
use Rattle.outcomes.specs.Outcome.{done, guard}
use Rattle.outcomes.specs.Tests.{all_hold}
use Rattle.outcomes.proofs.OutcomeLaws.{passed}
use Rattle.fxtable.specs.declared.domains.Domain.{Domain}
use Rattle.fxtable.specs.declared.domains.Domain.TheVariants.{Fixnum, Divisor, Position, FieldEnd, NewBit, SignedDistance, Distance, Rotation}
use Rattle.fxtable.specs.Domains.{is_width, arg, accepts, domain_tests_from, domain_tests, in_domains}
use Rattle.fxtable.specs.Operations.{results_of}
use Rattle.fxtable.specs.Table.{rows, is_code, row_of}
use Rattle.fxtable.specs.Calls.{answer, counted, fixnum_tests, all_fixnums, checked, outcome, fixnum_answer}
use Rattle.fxtable.specs.Inner.{Accepted}
use Rattle.fxtable.proofs.CallLaws.{accepted}
use Rattle.fxtable.proofs.TableLaws.{code-bounds, of_code}
use Rattle.fixnum_laws.specs.Widths.{is_carry}
use Rattle.fixnum_laws.proofs.Stages.{stage, by-ways}

-- ---- fixnums and domains

module _ (v w : ℕ) (l : v ≤ w) where
  pub wider-fits : (x : ℤ) → fits v x ≡ true → fits w x ≡ true
  wider-fits x f = is_true (fits-mono v w x l (holds f))

  wider-fixnums : (xs : List ℤ) → all_fixnums v xs ≡ true → all_fixnums w xs ≡ true
  unfolding all_fixnums fixnum_tests all_hold
  wider-fixnums [] f = refl
  wider-fixnums (x ∷ xs) f =
      ap₂ ◌&&◌ (wider-fits x (both_left (fits v x) (all_fixnums v xs) f)) (wider-fixnums xs (both_right (fits v x) (all_fixnums v xs) f))

  below_last : (x : ℤ) → le_z x (pos (v - 1)) ≡ true → le_z x (pos (w - 1)) ≡ true
  below_last (pos n) h = le-leb n (w - 1) (le_trans (leb-true n (v - 1) h) (omega arith))
  below_last (negsuc n) h = refl

  to_last : (a x : ℤ) → within a x (pos (v - 1)) ≡ true → within a x (pos (w - 1)) ≡ true
  unfolding within
  to_last a x h = ap₂ ◌&&◌ (both_left (le_z a x) (le_z x (pos (v - 1))) h) (below_last x (both_right (le_z a x) (le_z x (pos (v - 1))) h))

  wider-accepts : (d : Domain) (xs : List ℤ) (x : ℤ) → accepts d v xs x ≡ true → accepts d w xs x ≡ true
  unfolding accepts
  wider-accepts Fixnum xs x h = refl
  wider-accepts Divisor xs x h = h
  wider-accepts Position xs x h = to_last (pos 0) x h
  wider-accepts FieldEnd xs x h = to_last (arg xs 1) x h
  wider-accepts NewBit xs x h = h
  wider-accepts SignedDistance xs x h = both-within (w - 1) x (le_trans (within_both (v - 1) x h) (omega arith))
  wider-accepts Distance xs x h = to_last (pos 0) x h
  wider-accepts Rotation xs x h = h

  wider-tests : (i : ℕ) (ds : List Domain) (xs : List ℤ) → all_hold (domain_tests_from i ds v xs) ≡ true → all_hold (domain_tests_from i ds w xs) ≡ true
  unfolding domain_tests_from all_hold
  wider-tests i [] xs h = refl
  wider-tests i (d ∷ ds) xs h =
      ap₂ ◌&&◌ (wider-accepts d xs (arg xs i) (both_left (accepts d v xs (arg xs i)) (all_hold (domain_tests_from (suc i) ds v xs)) h))
      (wider-tests (suc i) ds xs (both_right (accepts d v xs (arg xs i)) (all_hold (domain_tests_from (suc i) ds v xs)) h))

  wider-domains : (ds : List Domain) (xs : List ℤ) → in_domains ds v xs ≡ true → in_domains ds w xs ≡ true
  unfolding in_domains domain_tests
  wider-domains ds xs = wider-tests 0 ds xs

-- ---- rows whose results do not look at the width

abbrev each_from : {A : Type 0} → (ℕ → A) → ℕ → ℕ → List A
each_from f a zero = []
each_from f a (suc k) = f a ∷ each_from f (suc a) k

-- two functions that agree, in one comparison, on the numbers from a to a + k - 1
each_at : {A : Type 0} (f g : ℕ → A) (a k : ℕ) → each_from f a k ≡ each_from g a k → (i : ℕ) → a ≤ i → i < a + k → f i ≡ g i
each_at f g a zero e i h l = absurd (omega arith)
each_at {A} f g a (suc k) e i h l = go (eqb i a) refl (λ d. each_at f g (suc a) k (cc) i (omega arith) (omega arith))
  where
    go : (t : Bool) → eqb i a ≡ t → ((i ≡ a → ⊥) → f i ≡ g i) → f i ≡ g i
    go true q rest = let first : f a ≡ g a = cc in subst (λ (j : ℕ). f j ≡ g j) (sym (eqb-true i a q)) first
    go false q rest = rest (eqb-false i a q)

-- the codes whose results do: the carry operations, and copy-bit
abbrev pub looks : ℕ → Bool
looks code = is_carry code || eqb code 34

abbrev pub results_at : ℕ → ℕ → List ℤ → ℤ × ℤ
results_at w code xs = results_of (row_of code).results w xs

-- the results of all other codes, and zeros for these
abbrev others : ℕ → List ℤ → ℕ → ℤ × ℤ
others w xs code = cond (looks code) (pos 0, pos 0) (results_at w code xs)

all_others : (v w : ℕ) (xs : List ℤ) → each_from (others v xs) 1 41 ≡ each_from (others w xs) 1 41
unfolding is_carry row_of rows results_of
all_others v w xs = refl

pub same-results : (v w code : ℕ) (xs : List ℤ) → is_code code ≡ true → looks code ≡ false → results_at v code xs ≡ results_at w code xs
same-results v w code xs c e =
    let b = code-bounds code c in
    rw e at (each_at (others v xs) (others w xs) 1 41 (all_others v w xs) code b.0 (omega arith))

-- none of these codes is refused for overflow
never-large : (code : ℕ) → is_code code ≡ true → looks code ≡ true → eqb (row_of code).overflow 0 ≡ true
unfolding is_carry rows
never-large code c e = rw e at (of_code (λ k r. not (looks k) || eqb r.overflow 0) refl code c)

-- ---- a done call

pub record Done (w code : ℕ) (args : List ℤ) (n : ℕ) : Type 0 where
  pub known : is_code code ≡ true
  pub stages : Accepted w code args n
  pub sized : eqb (row_of code).overflow 0 || fits w (results_at w code (counted args n)).0 ≡ true

module _ (w code : ℕ) (args : List ℤ) (n : ℕ) where
  pub is-done : (fixnum_answer w code args n).refusal ≡ 0 → Done w code args n
  unfolding answer outcome checked guard
  is-done = by-ways w code args n (λ a. a.refusal ≡ 0 → Done w code args n) (record {
    early = λ k l u e. absurd (omega (arith, l, e));
    wide = λ m h e. absurd (omega (arith, e));
    outside = λ m h e. absurd (omega (arith, e));
    past = λ a c m f d. stage (λ r. r.refusal ≡ 0 → Done w code args n) _ (row_of code).overflow 0 _
        (λ t e. record { known = c; stages = record { width = a; arity = m; fixnums = f; domains = d }; sized = t })
        (λ t e. absurd (true≢false (sym (ap (λ (b : Bool). b || fits w (results_at w code (counted args n)).0) (eq-eqb (row_of code).overflow 0 e)) ∙ t)));
  })

  pub done-answer : Done w code args n → fixnum_answer w code args n ≡ answer (done (results_at w code (counted args n)))
  unfolding outcome checked
  done-answer d = accepted w code args n d.known d.stages ∙ ap answer (passed (row_of code).overflow (done _) d.sized)

-- a call that is done is done at every wider width
pub wider-done : (v w code : ℕ) (args : List ℤ) (n : ℕ) → v ≤ w → is_width w ≡ true → Done v code args n → Done w code args n
wider-done v w code args n l a d = record {
  known = d.known;
  stages = record {
    width = a;
    arity = d.stages.arity;
    fixnums = wider-fixnums v w l (counted args n) d.stages.fixnums;
    domains = wider-domains v w l (row_of code).domains (counted args n) d.stages.domains;
  };
  sized = go (looks code) refl (eqb (row_of code).overflow 0) refl;
}
  where
    go : (t : Bool) → looks code ≡ t → (s : Bool) → eqb (row_of code).overflow 0 ≡ s
        → s || fits w (results_at w code (counted args n)).0 ≡ true
    go t e true q = refl
    go true e false q = absurd (true≢false (sym (never-large code d.known e) ∙ q))
    go false e false q =
        let f : fits v (results_at v code (counted args n)).0 ≡ true = rw q at d.sized in
        wider-fits v w l _ (rw (sym (same-results v w code (counted args n) d.known e)) f)
