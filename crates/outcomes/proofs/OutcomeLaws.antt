-- The stages of a call: one that is passed, one that refuses, and what holds where a call is done. Assumes nothing.
use Prim.Native.Nat.{ℕ}
use native.Mathlib.Omega.{arith}
use mathlib.Core.Path.{◌≡◌, refl, sym, ap, ◌∙◌}
use mathlib.Core.Bool.{Bool, true, false, cond, not}
use mathlib.Core.List.{List, [], ◌∷◌}
use borrow.Author.Tests.{not-true, not-false}
use Rattle.outcomes.specs.Outcome.{Outcome, refused, done, refuse, guard_at, guard, map_done, refusal_of}

module _ {A : Type 0} where
  pub passed-at : {t : Bool} (k detail : ℕ) (o : Outcome A) → t ≡ true → guard_at t k detail o ≡ o
  unfolding guard_at
  passed-at k detail o h = ap (λ (t : Bool). cond t o (refused k detail)) h

  pub failed-at : {t : Bool} (k detail : ℕ) (o : Outcome A) → t ≡ false → guard_at t k detail o ≡ refused k detail
  unfolding guard_at
  failed-at k detail o h = ap (λ (t : Bool). cond t o (refused k detail)) h

  pub passed : {t : Bool} (k : ℕ) (o : Outcome A) → t ≡ true → guard t k o ≡ o
  unfolding guard
  passed k o h = passed-at k 0 o h

  pub failed : {t : Bool} (k : ℕ) (o : Outcome A) → t ≡ false → guard t k o ≡ refuse k
  unfolding guard
  failed k o h = failed-at k 0 o h

  -- the same, where the code refuses on the test's negation
  pub passed-by : {r t : Bool} (k : ℕ) (o : Outcome A) → r ≡ t → not r ≡ false → guard t k o ≡ o
  passed-by k o e h = passed k o (sym e ∙ not-false _ h)

  pub failed-by : {r t : Bool} (k : ℕ) (o : Outcome A) → r ≡ t → not r ≡ true → guard t k o ≡ refuse k
  failed-by k o e h = failed k o (sym e ∙ not-true _ h)

  -- a stage that is tested again
  pub guard-twice : (t : Bool) (k : ℕ) (o : Outcome A) → guard t k (guard t k o) ≡ guard t k o
  unfolding guard guard_at
  guard-twice true k o = refl
  guard-twice false k o = refl

  -- a refusal is no value
  pub refused-done : {k detail : ℕ} {x : A} → refused k detail ≡ done x → ⊥
  refused-done {k} {detail} {x} e = let z : ◌≡◌ {A = ℕ} 0 1 = ap (λ (o : Outcome A). elim o [ refused j d ↦ 0 | done y ↦ 1 ]) e in absurd (omega arith)

  pub done-injective : {x y : A} → done x ≡ done y → x ≡ y
  done-injective e = cc

  -- what comes to a value has passed its stages
  pub stage-passed : (t : Bool) (k : ℕ) (o : Outcome A) {x : A} → guard t k o ≡ done x → (t ≡ true) × (o ≡ done x)
  unfolding guard guard_at
  stage-passed true k o e = (refl, e)
  stage-passed false k o e = absurd (refused-done e)

-- ---- stages one after another, each a test with its refusal number

unfoldable pub stages : {A : Type 0} → List (Bool × ℕ) → Outcome A → Outcome A
stages [] o = o
stages (s ∷ rest) o = guard s.0 s.1 (stages rest o)

-- the refusal, the value, and that nothing is refused, whatever the call goes on with
pub stages-refused : {A B : Type 0} (list : List (Bool × ℕ)) (x : A) {k : ℕ} (o : Outcome B) → stages list (done x) ≡ refuse k → stages list o ≡ refuse k
unfolding stages guard guard_at refusal_of
stages-refused [] x o e = absurd (refused-done (sym e))
stages-refused {A} {B} (s ∷ rest) x {k} o e = go s.0 (stages-refused rest x o) e
  where
    go : (t : Bool) → (stages rest (done x) ≡ refuse k → stages rest o ≡ refuse k) → guard t s.1 (stages rest (done x)) ≡ refuse k
        → guard t s.1 (stages rest o) ≡ refuse k
    go true f e = f e
    go false f e = ap {B = Outcome B} (λ (j : ℕ). refused j 0) (ap refusal_of e)

pub stages-value : {A : Type 0} (list : List (Bool × ℕ)) {x y : A} → stages list (done x) ≡ done y → x ≡ y
unfolding stages
stages-value [] e = done-injective e
stages-value (s ∷ rest) {x} e = stages-value rest (stage-passed s.0 s.1 (stages rest (done x)) e).1

pub stages-passed : {A B : Type 0} (list : List (Bool × ℕ)) (x : A) {y : A} (o : Outcome B) → stages list (done x) ≡ done y → stages list o ≡ o
unfolding stages
stages-passed [] x o e = refl
stages-passed (s ∷ rest) x o e =
    let p = stage-passed s.0 s.1 (stages rest (done x)) e in
    passed s.1 (stages rest o) p.0 ∙ stages-passed rest x o p.1

-- ---- a value changed

module _ {A B : Type 0} (f : A → B) where
  pub map_done-guard : (t : Bool) (k : ℕ) (o : Outcome A) → map_done f (guard t k o) ≡ guard t k (map_done f o)
  unfolding guard guard_at map_done
  map_done-guard true k o = refl
  map_done-guard false k o = refl

  pub refusal_of-map_done : (o : Outcome A) → refusal_of (map_done f o) ≡ refusal_of o
  unfolding map_done refusal_of
  refusal_of-map_done (refused k detail) = refl
  refusal_of-map_done (done x) = refl
