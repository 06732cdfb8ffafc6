-- One rule stored with two widths: what it answers at the wider one, where it is done at the narrower. Assumes nothing.
use Prim.Native.Nat.{ℕ, ◌≤◌}
use native.Mathlib.Omega.{arith}
use mathlib.Core.Path.{◌≡◌, refl, ap, ◌∙◌}
use mathlib.Core.Bool.{true}
use mathlib.Core.List.{List, ◌∷◌}
use mathlib.Core.Logic.{⊎_elim}
use lib.Dec.{eqb}
use lib.IntN.{ℤ}
use borrow.Author.Tests.{ne_eqb}
use Rattle.outcomes.specs.Outcome.{done}
use Rattle.fxtable.specs.Domains.{is_width}
use Rattle.fxtable.proofs.CallLaws.{width-bounds}
use Rattle.rules.specs.Tree.{Rule}
use Rattle.rules.specs.Limits.{is_stored_width}
use Rattle.rules.specs.Parse.{rule, parse}
use Rattle.rules.specs.Evaluate.{evaluate, runs_at}
use Rattle.rules.specs.Answers.{read_of, bad_rule, value_of, evaluated, rule_answer}
use Rattle.rules.proofs.EncodeParse.{accepted-rule}
use Rattle.rules.proofs.Leb128Laws.{or_right}
use Rattle.rule_laws.specs.Rules.{WidthStatement}
use Rattle.rule_laws.proofs.AnswerLaws.{by-ways}
use Rattle.rule_laws.proofs.ParseLaws.{other_width}
use Rattle.rule_laws.proofs.WiderForms.{wider-value}

stored-width : (w : ℕ) → is_width w ≡ true → is_stored_width w ≡ true
unfolding is_stored_width
stored-width w a = or_right (eqb w 0) (is_width w) a

-- a stored width that is not 0 is the one that the rule runs at
runs-at : (d w : ℕ) (r : Rule) → r.width ≡ w → is_width w ≡ true → runs_at d r ≡ w
unfolding runs_at
runs-at d w r e a = rw (e, ne_eqb w 0 (λ z. absurd (omega (arith, width-bounds w a, z)))) refl

module _ (d v w : ℕ) (t : List ℕ) (inputs : List ℤ) (a : is_width w ≡ true) where
  -- what the rule answers with the width w in front
  wide-answer : (r : Rule) → parse (v ∷ t) ≡ done r → rule_answer d (w ∷ t) inputs ≡ value_of (evaluate w inputs r.form)
  unfolding rule_answer evaluated
  wide-answer r e =
      ap (evaluated d inputs) (other_width v w t r e (stored-width w a))
      ∙ ap (λ (u : ℕ). value_of (evaluate u inputs r.form)) (runs-at d w (rule w r.form) refl a)

pub widths-agree : (d v w : ℕ) (t : List ℕ) (inputs : List ℤ) → WidthStatement d v w t inputs
unfolding bad_rule value_of read_of
widths-agree d v w t inputs = record {
  same = λ o l a z.
      by-ways d (v ∷ t) inputs (λ x y. y.width ≤ w → x.refusal ≡ 0 → rule_answer d (w ∷ t) inputs ≡ x) (record {
        bad = λ o e l u l' h. absurd (omega (arith, h));
        met = λ r k p e q m l h. ⊎_elim (λ f. absurd (omega (arith, f.0, h))) (λ c. absurd (c.0 h)) m;
        finished = λ r x e q f l h.
            wide-answer d v w t inputs a r e
            ∙ ap value_of (wider-value (runs_at d r) w inputs l a r.form (accepted-rule (v ∷ t) r e).inside (o r e) q);
      }) l z;
}
