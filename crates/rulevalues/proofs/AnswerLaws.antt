-- A leaf and a call as answers, and a rule's answer from its form's. Assumes nothing.
use Prim.Native.Nat.{ℕ, ◌≤◌}
use native.Mathlib.Omega.{arith}
use mathlib.Core.Path.{◌≡◌, refl}
use mathlib.Core.Bool.{Bool, true, false, cond, ◌||◌}
use mathlib.Core.List.{List, []}
use lib.Dec.{eqb}
use lib.IntN.{ℤ}
use lib.ListN.{length, drop, take}
use lib.Seq.{length-take-le, take-take}
use borrow.Author.Tests.{ne_eqb}
use Rattle.std.specs.Prelude.{Ok, Err}
use Rattle.bits.specs.Testbit.{fits}
use Rattle.outcomes.specs.Outcome.{refused, guard, guard_at}
use Rattle.fxtable.specs.declared.answer.Answer.{Answer}
use Rattle.fxtable.specs.Calls.{counted, fixnum_answer, answer_of}
use Rattle.fxtable.specs.Domains.{is_width, least_width, largest_width}
use Rattle.fxtable.proofs.CallLaws.{fits_word}
use Rattle.fixnum_laws.proofs.Closure.{results_fit}
use Rattle.rules.specs.Tree.{Form}
use Rattle.rules.specs.Limits.{deepest, is_stored_width}
use Rattle.rules.specs.Parse.{read_form, parse}
use Rattle.rules.specs.Evaluate.{fixnum, result_of, runs_at}
use Rattle.rules.specs.Answers.{default_width, bad_rule, evaluated, rule_answer, lent_answer}
use Rattle.rulereader.specs.Placed.{Begins}
use Rattle.rulevalues.specs.Evaluated.{Evaluated, refusing, told, Evaluates, answered}

module _ (w : ℕ) (z : ℤ) (p : ℕ) where
  pub leaf-value : (y : ℤ) → y ≡ z → fits w z ≡ true → Ok (y, p) ≡ told p (fixnum w z)
  unfolding told fixnum guard guard_at
  leaf-value y e t = rw (t, e) refl

  pub leaf-refused : fits w z ≡ false → Err (refusing 4 0) ≡ told p (fixnum w z)
  unfolding told fixnum guard guard_at
  leaf-refused t = rw t refl

module _ (a : Answer) (p : ℕ) where
  pub call-value : (y : ℤ) → y ≡ a.first → a.refusal ≡ 0 → Ok (y, p) ≡ told p (result_of a)
  unfolding told result_of
  call-value y f z = rw (z, f) refl

  pub call-refused : (a.refusal ≡ 0 → ⊥) → Err (refusing a.refusal a.place) ≡ told p (result_of a)
  unfolding told result_of
  call-refused f = rw (ne_eqb a.refusal 0 f) refl

module _ (w code : ℕ) (values : List ℤ) (n : ℕ) (few : n ≤ length values) where
  -- slots past the count are not looked at
  pub by_count : fixnum_answer w code values n ≡ answer_of w code (take n values)
  unfolding answer_of fixnum_answer counted
  by_count = rw (length-take-le n values few, take-take n n values (omega arith)) refl

  pub first_fits : is_width w ≡ true → (a : Answer) → a ≡ fixnum_answer w code values n → fits 64 a.first ≡ true
  first_fits h a e = rw e (fits_word w (fixnum_answer w code values n).first h (results_fit w code values n).0)

-- ---- the answer of a rule

-- the width that a rule runs at is one
pub runs-at-width : (w : ℕ) → is_stored_width w ≡ true → is_width (cond (eqb w 0) default_width w) ≡ true
unfolding is_stored_width is_width least_width largest_width
runs-at-width w t = go (eqb w 0) t
  where
    go : (b : Bool) → b || is_width w ≡ true → is_width (cond b default_width w) ≡ true
    go true h = refl
    go false h = h

module _ (s : List ℕ) (inputs : List ℤ) where
  pub sixteen : length inputs ≡ 16 → rule_answer default_width s inputs ≡ lent_answer default_width s inputs
  unfolding lent_answer
  sixteen e = rw e refl

  pub not-sixteen : (length inputs ≡ 16 → ⊥) → bad_rule 3 0 ≡ lent_answer default_width s inputs
  unfolding lent_answer
  not-sixteen f = rw (ne_eqb (length inputs) 16 f) refl

  pub rule-refused : (o : ℕ) → parse s ≡ refused 10 o → bad_rule 10 o ≡ rule_answer default_width s inputs
  unfolding rule_answer evaluated
  rule-refused o e = rw e refl

  pub rule-evaluated : (w p v : ℕ) (f : Form) → Begins s (parse s) w p f → v ≡ cond (eqb w 0) default_width w
      → (e : Evaluated) → Evaluates v inputs s (read_form deepest (drop p s)) e → answered e ≡ rule_answer default_width s inputs
  unfolding rule_answer evaluated runs_at answered
  rule-evaluated w p v f b same (Ok a) h = rw (b.parsed, ← same, (h.1 f [] b.reads).0) refl
  rule-evaluated w p v f b same (Err e) h = rw (b.parsed, ← same, h f [] b.reads) refl
