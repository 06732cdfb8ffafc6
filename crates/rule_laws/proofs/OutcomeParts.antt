-- What comes of a stage and the stages after it, taken apart. Assumes nothing.
use Prim.Native.Nat.{ℕ}
use mathlib.Core.Path.{◌≡◌, refl, sym, ◌∙◌}
use mathlib.Core.Bool.{Bool, true, false, cond}
use lib.Dec.{eqb}
use lib.IntN.{ℤ}
use borrow.Author.Tests.{eqb-true, eqb-false}
use Rattle.bits.specs.Testbit.{fits}
use Rattle.outcomes.specs.Outcome.{Outcome, refused, done, guard, guard_at, on_done}
use Rattle.outcomes.proofs.OutcomeLaws.{refused-done, done-injective}
use Rattle.fxtable.specs.declared.answer.Answer.{Answer}
use Rattle.rules.specs.Evaluate.{fixnum, result_of}

module _ {A B P : Type 0} where
  -- for a proof of P, the value that the first stage came to may be taken as known
  pub on-done : (o : Outcome A) (next : A → Outcome B) {z : B} → on_done o next ≡ done z → ((x : A) → o ≡ done x → next x ≡ done z → P) → P
  unfolding on_done
  on-done (refused k p) next e then = absurd (refused-done e)
  on-done (done x) next e then = then x refl e

  -- and so may the stage that refuses
  pub on-refused : (o : Outcome A) (next : A → Outcome B) {k p : ℕ} → on_done o next ≡ refused k p → (o ≡ refused k p → P)
      → ((x : A) → o ≡ done x → next x ≡ refused k p → P) → P
  unfolding on_done
  on-refused (refused j q) next {k} {p} e first second = let j' : j ≡ k = cc in let q' : q ≡ p = cc in first (rw (j', q') refl)
  on-refused (done x) next e first second = second x refl e

-- ---- a constant or an input

module _ (w : ℕ) (x : ℤ) where
  pub fixnum-done : {z : ℤ} → fixnum w x ≡ done z → (fits w x ≡ true) × (x ≡ z)
  unfolding fixnum guard guard_at
  fixnum-done {z} e = go (fits w x) e
    where
      go : (t : Bool) → cond t (done x) (refused 4 0) ≡ done z → (t ≡ true) × (x ≡ z)
      go true e = (refl, done-injective e)
      go false e = absurd (refused-done e)

  pub fixnum-refused : {k p : ℕ} → fixnum w x ≡ refused k p → (k ≡ 4) × (p ≡ 0)
  unfolding fixnum guard guard_at
  fixnum-refused {k} {p} e = go (fits w x) e
    where
      go : (t : Bool) → cond t (done x) (refused 4 0) ≡ refused k p → (k ≡ 4) × (p ≡ 0)
      go true e = absurd (refused-done (sym e))
      go false e = (cc, cc)

-- ---- a call

module _ (a : Answer) where
  pub result-done : {z : ℤ} → result_of a ≡ done z → (a.refusal ≡ 0) × (a.first ≡ z)
  unfolding result_of
  result-done {z} e = go (eqb a.refusal 0) refl e
    where
      go : (t : Bool) → eqb a.refusal 0 ≡ t → cond t (done a.first) (refused a.refusal a.place) ≡ done z → (a.refusal ≡ 0) × (a.first ≡ z)
      go true q e = (eqb-true a.refusal 0 q, done-injective e)
      go false q e = absurd (refused-done e)

  pub result-refused : {k p : ℕ} → result_of a ≡ refused k p → (a.refusal ≡ k) × (a.place ≡ p) × (k ≡ 0 → ⊥)
  unfolding result_of
  result-refused {k} {p} e = go (eqb a.refusal 0) refl e
    where
      go : (t : Bool) → eqb a.refusal 0 ≡ t → cond t (done a.first) (refused a.refusal a.place) ≡ refused k p
          → (a.refusal ≡ k) × (a.place ≡ p) × (k ≡ 0 → ⊥)
      go true q e = absurd (refused-done (sym e))
      go false q e = let k' : a.refusal ≡ k = cc in (k', cc, λ z. eqb-false a.refusal 0 q (k' ∙ z))
