-- What holds of the answers to a rule, from each way to them: it cannot be read, its evaluation is refused, or it has a value. Assumes nothing.
use Prim.Native.Nat.{ℕ, ◌≤◌}
use mathlib.Core.Path.{◌≡◌, refl, subst, sym}
use mathlib.Core.Bool.{true}
use mathlib.Core.List.{List}
use lib.IntN.{ℤ}
use lib.ListN.{length}
use Rattle.bits.specs.Testbit.{fits}
use Rattle.outcomes.specs.Outcome.{Outcome, refused, done}
use Rattle.rules.specs.declared.ReadAnswer.{ReadAnswer}
use Rattle.rules.specs.declared.RuleAnswer.{RuleAnswer}
use Rattle.rules.specs.Tree.{Rule}
use Rattle.rules.specs.Limits.{longest}
use Rattle.rules.specs.Parse.{parse}
use Rattle.rules.specs.Evaluate.{evaluate, runs_at}
use Rattle.rules.specs.Answers.{read_of, read_answer, bad_rule, value_of, evaluated, rule_answer}
use Rattle.rules.proofs.EncodeParse.{accepted-rule}
use Rattle.rule_laws.specs.Rules.{PartOf}
use Rattle.rule_laws.proofs.EvaluateLaws.{Refusing, value-fits, form-refusing}
use Rattle.rule_laws.proofs.ParseLaws.{parse-refused}

module _ (d : ℕ) (s : List ℕ) (inputs : List ℤ) where
  pub record Ways (P : RuleAnswer → ReadAnswer → Type 0) : Type 0 where
    pub bad : (o : ℕ) → parse s ≡ refused 10 o → o ≤ length s → o ≤ longest → P (bad_rule 10 o) (read_of d (refused 10 o))
    pub met : (r : Rule) (k p : ℕ) → parse s ≡ done r → evaluate (runs_at d r) inputs r.form ≡ refused k p → Refusing (runs_at d r) inputs (PartOf r) k p
        → P (value_of (refused k p)) (read_of d (done r))
    pub finished : (r : Rule) (z : ℤ) → parse s ≡ done r → evaluate (runs_at d r) inputs r.form ≡ done z → fits (runs_at d r) z ≡ true
        → P (value_of (done z)) (read_of d (done r))

  pub by-ways : (P : RuleAnswer → ReadAnswer → Type 0) → Ways P → P (rule_answer d s inputs) (read_answer d s)
  unfolding rule_answer read_answer evaluated
  by-ways P ways = go (parse s) refl
    where
      value : (r : Rule) → parse s ≡ done r → (x : Outcome ℤ) → evaluate (runs_at d r) inputs r.form ≡ x → P (value_of x) (read_of d (done r))
      value r e (refused k p) q = ways.met r k p e q (form-refusing (runs_at d r) inputs r.form (accepted-rule s r e).inside q)
      value r e (done z) q = ways.finished r z e q (value-fits (runs_at d r) inputs r.form q)

      go : (o : Outcome Rule) → parse s ≡ o → P (evaluated d inputs o) (read_of d o)
      go (refused k o) e =
          let p = parse-refused s k o e in
          subst (λ (k : ℕ). P (bad_rule k o) (read_of d (refused k o))) (sym p.0) (ways.bad o (rw p.0 at e) p.1 p.2)
      go (done r) e = value r e (evaluate (runs_at d r) inputs r.form) refl
