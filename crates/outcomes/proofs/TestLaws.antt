-- Tests one after another: where all hold, which is the first that fails, and the stage made of them. Assumes nothing.
use Prim.Native.Nat.{ℕ, zero, suc, zero-le, ◌+◌, ◌≤◌, ◌<◌}
use native.Mathlib.Nat.{not-suc-le-zero, le_of_suc-le-suc, zero-lt-suc}
use native.Mathlib.Omega.{arith}
use mathlib.Core.Path.{◌≡◌, refl, sym, ap, ◌∙◌, subst}
use mathlib.Core.Bool.{Bool, true, false, false≢true}
use mathlib.Core.List.{List, [], ◌∷◌}
use mathlib.Core.Logic.{◌⊎◌, inl, inr, ⊎_elim}
use lib.Dec.{eqb}
use lib.ListN.{get_or, length}
use borrow.Author.Tests.{eqb-true, eqb-false, ne_eqb}
use Rattle.outcomes.specs.Outcome.{Outcome, refused}
use Rattle.outcomes.specs.Tests.{all_hold, first_failed_from, first_failed, guard_each}
use Rattle.outcomes.proofs.OutcomeLaws.{passed-at, failed-at}

-- ---- whether one fails

hold-from : (p : ℕ) (ts : List Bool) → all_hold ts ≡ eqb (first_failed_from (suc p) ts) 0
unfolding all_hold first_failed_from
hold-from p [] = refl
hold-from p (true ∷ ts) = hold-from (suc p) ts
hold-from p (false ∷ ts) = sym (ne_eqb (suc p) 0 (λ e. omega arith))

pub all_hold-first_failed : (ts : List Bool) → all_hold ts ≡ eqb (first_failed ts) 0
unfolding first_failed
all_hold-first_failed ts = hold-from 0 ts

pub none-failed : (ts : List Bool) → first_failed ts ≡ 0 → all_hold ts ≡ true
none-failed ts e = all_hold-first_failed ts ∙ ap (λ (p : ℕ). eqb p 0) e

pub some-failed : (ts : List Bool) → (first_failed ts ≡ 0 → ⊥) → all_hold ts ≡ false
some-failed ts n = all_hold-first_failed ts ∙ ne_eqb (first_failed ts) 0 n

pub no_place : (ts : List Bool) → all_hold ts ≡ true → first_failed ts ≡ 0
no_place ts h = eqb-true (first_failed ts) 0 (sym (all_hold-first_failed ts) ∙ h)

pub some-place : (ts : List Bool) → all_hold ts ≡ false → 1 ≤ first_failed ts
some-place ts h = let n = eqb-false (first_failed ts) 0 (sym (all_hold-first_failed ts) ∙ h) in omega arith

-- ---- which is the first; tests are counted from 0 here, and one past the last holds

pub record First (ts : List Bool) (i : ℕ) : Type 0 where
  pub fails : get_or ts i true ≡ false
  pub before : (j : ℕ) → j < i → get_or ts j true ≡ true

first-here : (t : Bool) (ts : List Bool) → t ≡ false → First (t ∷ ts) 0
first-here t ts e = record { fails = e; before = λ j h. absurd (not-suc-le-zero h) }

first-later : (ts : List Bool) (i : ℕ) → First ts i → First (true ∷ ts) (suc i)
first-later ts i f = record { fails = f.fails; before = earlier }
  where
    earlier : (j : ℕ) → j < suc i → get_or (true ∷ ts) j true ≡ true
    earlier zero h = refl
    earlier (suc j) h = f.before j (le_of_suc-le-suc h)

found_from : (p : ℕ) (ts : List Bool) → (first_failed_from (suc p) ts ≡ 0) ⊎ ((i : ℕ) × (first_failed_from (suc p) ts ≡ suc (p + i)) × First ts i)
unfolding first_failed_from
found_from p [] = inl refl
found_from p (true ∷ ts) = ⊎_elim (λ e. inl e) (λ f. inr (suc f.0, omega (arith, f.1), first-later ts f.0 f.2)) (found_from (suc p) ts)
found_from p (false ∷ ts) = inr (0, omega arith, first-here false ts refl)

-- the place of a test that fails, counted from 1, tells that it is the first
pub place-first : (ts : List Bool) (i : ℕ) → first_failed ts ≡ suc i → First ts i
unfolding first_failed
place-first ts i e =
    ⊎_elim (λ z. absurd (omega (arith, z, e))) (λ f. subst (First ts) (omega (arith, f.1, e)) f.2) (found_from 0 ts)

first-from : (p : ℕ) (ts : List Bool) (i : ℕ) → First ts i → first_failed_from (suc p) ts ≡ suc (p + i)
unfolding first_failed_from
first-from p [] i f = absurd (false≢true (sym f.fails))
first-from p (true ∷ ts) zero f = absurd (false≢true (sym f.fails))
first-from p (false ∷ ts) zero f = omega arith
first-from p (true ∷ ts) (suc i) f =
    first-from (suc p) ts i (record { fails = f.fails; before = λ j h. f.before (suc j) (omega arith) }) ∙ omega arith
first-from p (false ∷ ts) (suc i) f = absurd (false≢true (f.before 0 (zero-lt-suc i)))

pub first-place : (ts : List Bool) (i : ℕ) → First ts i → first_failed ts ≡ suc i
unfolding first_failed
first-place ts i f = first-from 0 ts i f ∙ omega arith

within-from : (p : ℕ) (ts : List Bool) → first_failed_from (suc p) ts ≤ p + length ts
unfolding first_failed_from
within-from p [] = zero-le
within-from p (true ∷ ts) = omega (arith, within-from (suc p) ts)
within-from p (false ∷ ts) = omega arith

pub place-within : (ts : List Bool) → first_failed ts ≤ length ts
unfolding first_failed
place-within ts = omega (arith, within-from 0 ts)

-- of at most four tests, from each by itself
pub four-tests : (ts : List Bool) → length ts ≤ 4 → first_failed ts ≡ first_failed (get_or ts 0 true ∷ get_or ts 1 true ∷ get_or ts 2 true ∷ get_or ts 3 true ∷ [])
unfolding first_failed first_failed_from
four-tests [] h = refl
four-tests (a ∷ []) h = refl
four-tests (a ∷ b ∷ []) h = refl
four-tests (a ∷ b ∷ c ∷ []) h = refl
four-tests (a ∷ b ∷ c ∷ d ∷ []) h = refl
four-tests (a ∷ b ∷ c ∷ d ∷ e ∷ ts) h = absurd (omega arith)

-- ---- the stage

module _ {A : Type 0} where
  pub passed-each : (ts : List Bool) (k : ℕ) (o : Outcome A) → all_hold ts ≡ true → guard_each ts k o ≡ o
  unfolding guard_each
  passed-each ts k o h = passed-at k (first_failed ts) o h

  pub failed-each : (ts : List Bool) (k : ℕ) (o : Outcome A) → all_hold ts ≡ false → guard_each ts k o ≡ refused k (first_failed ts)
  unfolding guard_each
  failed-each ts k o h = failed-at k (first_failed ts) o h
