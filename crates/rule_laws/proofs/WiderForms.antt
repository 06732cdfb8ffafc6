-- A form that has a value at a width has the same at a wider one, unless it holds copy-bit. Assumes nothing.
use Prim.Native.Nat.{ℕ, ◌≤◌}
use mathlib.Core.Path.{◌≡◌, refl, ap, ap₂, ◌∙◌}
use mathlib.Core.Bool.{Bool, true, false, not, ◌&&◌, ◌||◌, true≢false}
use mathlib.Core.List.{List, ◌∷◌}
use lib.Dec.{eqb}
use lib.IntN.{ℤ, pos}
use lib.ListN.{length, get_or}
use borrow.Author.Tests.{not-true}
use Rattle.bits.proofs.Booleans.{both_left, both_right}
use Rattle.outcomes.specs.Outcome.{Outcome, done, on_done}
use Rattle.outcomes.proofs.OutcomeLaws.{passed}
use Rattle.fxtable.specs.Domains.{is_width}
use Rattle.fxtable.specs.Operations.{has_two}
use Rattle.fxtable.specs.Table.{rows, no_row, is_code, row_of}
use Rattle.fxtable.specs.Calls.{is_count, counted, answer_of}
use Rattle.fxtable.proofs.TableLaws.{of_code}
use Rattle.fixnum_laws.specs.Widths.{is_carry, changes_sign}
use Rattle.fixnum_laws.proofs.WidthLaws.{wider-fits}
use Rattle.fixnum_laws.proofs.Widths.{widths-agree}
use Rattle.rules.specs.Tree.{Form, Forms, constant, input, call, none, more, count, holds, any_holds}
use Rattle.rules.specs.Limits.{is_stored_code, within_limits, all_within_limits}
use Rattle.rules.specs.Evaluate.{fixnum, result_of, evaluate, evaluate_all}
use Rattle.rule_laws.proofs.OutcomeParts.{on-done, fixnum-done, result-done}

-- ---- calls

neither_left : (a b : Bool) → a || b ≡ false → a ≡ false
neither_left true b h = h
neither_left false b h = refl

neither_right : (a b : Bool) → a || b ≡ false → b ≡ false
neither_right true b h = absurd (true≢false h)
neither_right false b h = h

-- the carry operations have two results, so no rule holds them
no-carry : (code : ℕ) → is_stored_code code ≡ true → is_carry code ≡ false
unfolding is_stored_code is_carry rows no_row has_two
no-carry code h =
    let one : not (has_two (row_of code).results) ≡ true = both_right (is_code code) (not (has_two (row_of code).results)) h in
    let e : has_two (row_of code).results || not (is_carry code) ≡ true
    = of_code (λ k r. has_two r.results || not (is_carry k)) refl code (both_left (is_code code) (not (has_two (row_of code).results)) h) in
    not-true (is_carry code) (rw (not-true (has_two (row_of code).results) one) at e)

no_copy : (v code : ℕ) (xs : List ℤ) → eqb code 34 ≡ false → changes_sign v code xs ≡ false
unfolding changes_sign
no_copy v code xs h = rw h refl

module _ (v w : ℕ) (inputs : List ℤ) (l : v ≤ w) (a : is_width w ≡ true) where
  wider-leaf : (x : ℤ) {z : ℤ} → fixnum v x ≡ done z → fixnum w x ≡ done z
  unfolding fixnum
  wider-leaf x e = let p = fixnum-done v x e in passed 4 (done x) (wider-fits v w l x p.0) ∙ ap done p.1

  wider-call : (code : ℕ) (xs : List ℤ) {z : ℤ} → is_stored_code code ≡ true → eqb code 34 ≡ false
      → result_of (answer_of v code xs) ≡ done z → result_of (answer_of w code xs) ≡ done z
  unfolding answer_of
  wider-call code xs c o e =
      let r = widths-agree v w code xs (length xs) l a (result-done (answer_of v code xs) e).0 in
      ap result_of (r.same (no-carry code c) (no_copy v code (counted xs (length xs)) o)) ∙ e

  -- ---- forms

  mutual
    unfolding evaluate evaluate_all within_limits all_within_limits holds any_holds on_done

    pub wider-value : (f : Form) {z : ℤ} → within_limits f ≡ true → holds 34 f ≡ false → evaluate v inputs f ≡ done z → evaluate w inputs f ≡ done z
    wider-value (constant x) i o e = wider-leaf x e
    wider-value (input j) i o e = wider-leaf (get_or inputs j (pos 0)) e
    wider-value (call code args) {z} i o e =
        let is = both_right (is_stored_code code) (is_count code (count args) && all_within_limits args) i in
        on-done (evaluate_all v inputs args) (λ xs. result_of (answer_of v code xs)) e (λ xs p q.
        ap (λ (r : Outcome (List ℤ)). on_done r (λ xs. result_of (answer_of w code xs)))
        (wider-values args (both_right (is_count code (count args)) (all_within_limits args) is) (neither_right (eqb code 34) (any_holds 34 args) o) p)
        ∙ wider-call code xs (both_left (is_stored_code code) (is_count code (count args) && all_within_limits args) i) (neither_left (eqb code 34) (any_holds 34 args) o) q)

    pub wider-values : (fs : Forms) {xs : List ℤ} → all_within_limits fs ≡ true → any_holds 34 fs ≡ false → evaluate_all v inputs fs ≡ done xs → evaluate_all w inputs fs ≡ done xs
    wider-values none i o e = e
    wider-values (more f fs) i o e =
        on-done (evaluate v inputs f) (λ x. on_done (evaluate_all v inputs fs) (λ xs. done (x ∷ xs))) e (λ x p e₁.
        on-done (evaluate_all v inputs fs) (λ xs. done (x ∷ xs)) e₁ (λ ys q e₂.
        ap₂ (λ (r : Outcome ℤ) (rs : Outcome (List ℤ)). on_done r (λ x. on_done rs (λ xs. done (x ∷ xs))))
        (wider-value f (both_left (within_limits f) (all_within_limits fs) i) (neither_left (holds 34 f) (any_holds 34 fs) o) p)
        (wider-values fs (both_right (within_limits f) (all_within_limits fs) i) (neither_right (holds 34 f) (any_holds 34 fs) o) q) ∙ e₂))
