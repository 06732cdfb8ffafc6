-- The order in which a call is evaluated. Assumes nothing.
use Prim.Native.Nat.{ℕ}
use mathlib.Core.Path.{◌≡◌, refl}
use mathlib.Core.List.{List, ◌∷◌}
use lib.IntN.{ℤ}
use Rattle.outcomes.specs.Outcome.{refused, done, on_done}
use Rattle.rules.specs.Tree.{Form, Forms, none, more}
use Rattle.rules.specs.Evaluate.{evaluate, evaluate_all}
use Rattle.rule_laws.specs.Evaluation.{joined, EvaluationStatement}
use Rattle.rule_laws.proofs.OutcomeParts.{on-done}

module _ (w : ℕ) (inputs : List ℤ) where
  first-refused : (before : Forms) (f : Form) (after : Forms) (xs : List ℤ) (k p : ℕ) → evaluate_all w inputs before ≡ done xs → evaluate w inputs f ≡ refused k p
      → evaluate_all w inputs (joined before (more f after)) ≡ refused k p
  unfolding joined evaluate_all on_done
  first-refused none f after xs k p e r = rw r refl
  first-refused (more g gs) f after xs k p e r =
      on-done (evaluate w inputs g) (λ x. on_done (evaluate_all w inputs gs) (λ xs. done (x ∷ xs))) e (λ x q e₁.
      on-done (evaluate_all w inputs gs) (λ xs. done (x ∷ xs)) e₁ (λ ys q' e₂.
      rw (q, first-refused gs f after ys k p q' r) refl))

  pub in_order : (code : ℕ) → EvaluationStatement w inputs code
  unfolding evaluate on_done
  in_order code = record {
    first = λ before f after xs k p e r. rw (first-refused before f after xs k p e r) refl;
    own = λ args xs e. rw e refl;
  }
