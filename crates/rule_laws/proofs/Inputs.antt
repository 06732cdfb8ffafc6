-- Inputs that a rule does not name have no influence on its answer. Assumes nothing.
use Prim.Native.Nat.{ℕ}
use mathlib.Core.Path.{◌≡◌, refl, ap, ap₂}
use mathlib.Core.Bool.{Bool, true, ◌||◌}
use mathlib.Core.List.{List, ◌∷◌}
use lib.IntN.{ℤ, pos}
use lib.ListN.{get_or}
use borrow.Author.Tests.{eq-eqb}
use Rattle.outcomes.specs.Outcome.{Outcome, refused, done, on_done}
use Rattle.fxtable.specs.Calls.{answer_of}
use Rattle.rules.specs.Tree.{Form, Forms, constant, input, call, none, more, names, any_names, Rule}
use Rattle.rules.specs.Parse.{parse}
use Rattle.rules.specs.Evaluate.{fixnum, result_of, evaluate, evaluate_all, runs_at}
use Rattle.rules.specs.Answers.{value_of, evaluated, rule_answer}
use Rattle.rules.proofs.Leb128Laws.{or_right}
use Rattle.rule_laws.specs.Rules.{SameNamed, InputStatement}

or_left : (a b : Bool) → a ≡ true → a || b ≡ true
or_left a b h = rw h refl

module _ (w : ℕ) (xs ys : List ℤ) where
  abbrev Same : (ℕ → Bool) → Type 0
  Same named = (i : ℕ) → named i ≡ true → get_or xs i (pos 0) ≡ get_or ys i (pos 0)

  mutual
    unfolding evaluate evaluate_all names any_names

    pub same-value : (f : Form) → Same (names f) → evaluate w xs f ≡ evaluate w ys f
    same-value (constant z) h = refl
    same-value (input i) h = ap (fixnum w) (h i (eq-eqb i i refl))
    same-value (call code args) h = ap (λ (o : Outcome (List ℤ)). on_done o (λ vs. result_of (answer_of w code vs))) (same-values args h)

    pub same-values : (fs : Forms) → Same (any_names fs) → evaluate_all w xs fs ≡ evaluate_all w ys fs
    same-values none h = refl
    same-values (more f fs) h =
        ap₂ (λ (o : Outcome ℤ) (os : Outcome (List ℤ)). on_done o (λ v. on_done os (λ vs. done (v ∷ vs))))
        (same-value f (λ i n. h i (or_left (names f i) (any_names fs i) n))) (same-values fs (λ i n. h i (or_right (names f i) (any_names fs i) n)))

pub inputs-agree : (d : ℕ) (s : List ℕ) (xs ys : List ℤ) → InputStatement d s xs ys
unfolding rule_answer evaluated
inputs-agree d s xs ys = record { same = λ h. go (parse s) refl h }
  where
    go : (o : Outcome Rule) → parse s ≡ o → SameNamed s xs ys → evaluated d xs o ≡ evaluated d ys o
    go (refused k offset) e h = refl
    go (done r) e h = ap value_of (same-value (runs_at d r) xs ys r.form (λ i n. h r i e n))
