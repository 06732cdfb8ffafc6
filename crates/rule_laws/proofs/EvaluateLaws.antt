-- What a form comes to: a value is a fixnum, and a refusal is that of a leaf or of a call in the form. Assumes nothing.
use Prim.Native.Nat.{ℕ, suc}
use mathlib.Core.Path.{◌≡◌, refl, sym, ap, ap₂, ◌∙◌, subst}
use mathlib.Core.Bool.{true, ◌&&◌}
use mathlib.Core.List.{List, [], ◌∷◌}
use mathlib.Core.Logic.{◌⊎◌, inl, inr, ⊎_elim}
use lib.IntN.{ℤ, pos}
use lib.ListN.{length, get_or}
use Rattle.bits.specs.Testbit.{fits}
use Rattle.bits.proofs.Booleans.{both_left, both_right}
use Rattle.outcomes.specs.Outcome.{refused, done, on_done}
use Rattle.outcomes.specs.Tests.{all_hold}
use Rattle.outcomes.proofs.OutcomeLaws.{refused-done}
use Rattle.fxtable.specs.Calls.{is_count, fixnum_tests, all_fixnums, answer_of}
use Rattle.fixnum_laws.proofs.Closure.{results_fit}
use Rattle.rules.specs.Tree.{Form, Forms, constant, input, call, none, more, count}
use Rattle.rules.specs.Limits.{is_stored_code, within_limits, all_within_limits}
use Rattle.rules.specs.Evaluate.{fixnum, result_of, evaluate, evaluate_all}
use Rattle.rule_laws.specs.Parts.{Part, AnyPart, is_leaf, WideLeaf, RefusedCall}
use Rattle.rule_laws.proofs.OutcomeParts.{on-done, on-refused, fixnum-done, fixnum-refused, result-done, result-refused}

-- a refusal of a form that has the forms of `has`: for a leaf, or a call's own
abbrev pub Refusing : ℕ → List ℤ → (Form → Type 0) → ℕ → ℕ → Type 0
Refusing w inputs has k p = ((k ≡ 4) × (p ≡ 0) × WideLeaf w inputs has) ⊎ ((k ≡ 0 → ⊥) × RefusedCall w inputs has k p)

module _ (w : ℕ) (inputs : List ℤ) where
  call_fits : (code : ℕ) (xs : List ℤ) {z : ℤ} → result_of (answer_of w code xs) ≡ done z → fits w z ≡ true
  unfolding answer_of
  call_fits code xs e = subst (λ (y : ℤ). fits w y ≡ true) (result-done (answer_of w code xs) e).1 (results_fit w code xs (length xs)).0

  leaf-fits : (x : ℤ) {z : ℤ} → fixnum w x ≡ done z → fits w z ≡ true
  leaf-fits x e = let p = fixnum-done w x e in subst (λ (y : ℤ). fits w y ≡ true) p.1 p.0

  pub value-fits : (f : Form) {z : ℤ} → evaluate w inputs f ≡ done z → fits w z ≡ true
  unfolding evaluate
  value-fits (constant x) e = leaf-fits x e
  value-fits (input i) e = leaf-fits (get_or inputs i (pos 0)) e
  value-fits (call code args) e = on-done (evaluate_all w inputs args) (λ xs. result_of (answer_of w code xs)) e (λ xs q r. call_fits code xs r)

  pub values-fit : (fs : Forms) (xs : List ℤ) → evaluate_all w inputs fs ≡ done xs → (length xs ≡ count fs) × (all_fixnums w xs ≡ true)
  unfolding evaluate_all count all_fixnums fixnum_tests all_hold
  values-fit none xs e = let n : [] ≡ xs = cc in rw (← n) (refl, refl)
  values-fit (more f fs) xs e =
      on-done (evaluate w inputs f) (λ x. on_done (evaluate_all w inputs fs) (λ xs. done (x ∷ xs))) e (λ x p e₁.
      on-done (evaluate_all w inputs fs) (λ xs. done (x ∷ xs)) e₁ (λ ys q e₂.
      let n : x ∷ ys ≡ xs = cc in
      let rest = values-fit fs ys q in
      rw (← n) (ap suc rest.0, ap₂ ◌&&◌ (value-fits f p) rest.1)))

  -- ---- refusals

  wide-in : {has also : Form → Type 0} → ((g : Form) → has g → also g) → WideLeaf w inputs has → WideLeaf w inputs also
  wide-in into l = record { form = l.form; part = into l.form l.part; leaf = l.leaf; wide = l.wide }

  call-in : {has also : Form → Type 0} {k p : ℕ} → ((g : Form) → has g → also g) → RefusedCall w inputs has k p → RefusedCall w inputs also k p
  call-in into c = record {
    code = c.code;
    args = c.args;
    values = c.values;
    part = into (call c.code c.args) c.part;
    evaluated = c.evaluated;
    known = c.known;
    arity = c.arity;
    fixnums = c.fixnums;
    refusal = c.refusal;
    place = c.place;
  }

  refusing-in : {has also : Form → Type 0} {k p : ℕ} → ((g : Form) → has g → also g) → Refusing w inputs has k p → Refusing w inputs also k p
  refusing-in into = ⊎_elim (λ l. inl (l.0, l.1, wide-in into l.2)) (λ c. inr (c.0, call-in into c.1))

  leaf-refusing : (g : Form) (x : ℤ) {k p : ℕ} → is_leaf g ≡ true → Part g g → evaluate w inputs g ≡ fixnum w x → evaluate w inputs g ≡ refused k p
      → Refusing w inputs (λ h. Part h g) k p
  leaf-refusing g x l i e r =
      let q = fixnum-refused w x (sym e ∙ r) in
      inl (q.0, q.1, record { form = g; part = i; leaf = l; wide = rw (q.0, q.1) at r })

  call-refusing : (code : ℕ) (args : Forms) {k p : ℕ} → within_limits (call code args) ≡ true → (xs : List ℤ) → evaluate_all w inputs args ≡ done xs
      → result_of (answer_of w code xs) ≡ refused k p → Refusing w inputs (λ h. Part h (call code args)) k p
  unfolding within_limits Part
  call-refusing code args l xs e r =
      let q = result-refused (answer_of w code xs) r in
      let v = values-fit args xs e in
      let ls = both_right (is_stored_code code) (is_count code (count args) && all_within_limits args) l in
      inr (
        q.2,
        record {
          code = code;
          args = args;
          values = xs;
          part = inl refl;
          evaluated = e;
          known = both_left (is_stored_code code) (is_count code (count args) && all_within_limits args) l;
          arity = rw v.0 (both_left (is_count code (count args)) (all_within_limits args) ls);
          fixnums = v.1;
          refusal = q.0;
          place = q.1;
        },
      )

  mutual
    unfolding evaluate evaluate_all within_limits all_within_limits Part AnyPart is_leaf

    pub form-refusing : (f : Form) {k p : ℕ} → within_limits f ≡ true → evaluate w inputs f ≡ refused k p → Refusing w inputs (λ g. Part g f) k p
    form-refusing (constant x) l e = leaf-refusing (constant x) x refl refl refl e
    form-refusing (input i) l e = leaf-refusing (input i) (get_or inputs i (pos 0)) refl refl refl e
    form-refusing (call code args) l e =
        on-refused (evaluate_all w inputs args) (λ xs. result_of (answer_of w code xs)) e
        (λ r. refusing-in (λ g h. inr h)
        (forms-refusing args (both_right (is_count code (count args)) (all_within_limits args) (both_right (is_stored_code code) (is_count code (count args) && all_within_limits args) l)) r))
        (call-refusing code args l)

    pub forms-refusing : (fs : Forms) {k p : ℕ} → all_within_limits fs ≡ true → evaluate_all w inputs fs ≡ refused k p → Refusing w inputs (λ g. AnyPart g fs) k p
    forms-refusing none l e = absurd (refused-done (sym e))
    forms-refusing (more f fs) l e =
        on-refused (evaluate w inputs f) (λ x. on_done (evaluate_all w inputs fs) (λ xs. done (x ∷ xs))) e
        (λ r. refusing-in (λ g h. inl h) (form-refusing f (both_left (within_limits f) (all_within_limits fs) l) r))
        (λ x q r. on-refused (evaluate_all w inputs fs) (λ xs. done (x ∷ xs)) r
        (λ r'. refusing-in (λ g h. inr h) (forms-refusing fs (both_right (within_limits f) (all_within_limits fs) l) r'))
        (λ xs q' r'. absurd (refused-done (sym r'))))
