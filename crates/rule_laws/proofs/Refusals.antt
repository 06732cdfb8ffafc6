-- The refusals of a rule, what each is for, and which parts of the answer tell it. Assumes nothing.
use Prim.Native.Nat.{ℕ, zero-le, ◌≤◌}
use native.Mathlib.Omega.{arith}
use mathlib.Core.Path.{◌≡◌, refl, sym, ap, ◌∙◌, subst}
use mathlib.Core.Bool.{Bool, true, false, not, ◌||◌, true≢false}
use mathlib.Core.List.{List, [], ◌∷◌}
use mathlib.Core.Logic.{⊎_elim}
use lib.Dec.{eqb}
use lib.IntN.{ℤ, pos}
use lib.ListN.{length}
use lib.Seq.{take-length}
use borrow.Author.Tests.{eqb-true}
use Rattle.bits.specs.Testbit.{fits}
use Rattle.bits.proofs.Booleans.{both_left}
use Rattle.outcomes.specs.Outcome.{Outcome, done}
use Rattle.outcomes.specs.Tests.{all_hold, guard_each}
use Rattle.outcomes.proofs.OutcomeLaws.{passed}
use Rattle.outcomes.proofs.TestLaws.{passed-each}
use Rattle.fxtable.specs.declared.answer.Answer.{Answer}
use Rattle.fxtable.specs.Domains.{is_width, domain_tests}
use Rattle.fxtable.specs.Operations.{has_two}
use Rattle.fxtable.specs.Table.{rows, no_row, is_code, row_of}
use Rattle.fxtable.specs.Calls.{answer, counted, is_count, all_fixnums, fixnum_answer, answer_of}
use Rattle.fxtable.proofs.TableLaws.{of_row}
use Rattle.fixnum_laws.specs.Places.{PlaceStatement}
use Rattle.fixnum_laws.proofs.Stages.{stage, of-outcome}
use Rattle.fixnum_laws.proofs.Places.{places}
use Rattle.rules.specs.Tree.{Form, Rule}
use Rattle.rules.specs.Limits.{longest, is_stored_code}
use Rattle.rules.specs.Parse.{parse}
use Rattle.rules.specs.Evaluate.{runs_at}
use Rattle.rules.specs.Answers.{read_of, bad_rule, value_of}
use Rattle.rules.proofs.EncodeParse.{accepted-rule}
use Rattle.rule_laws.specs.Parts.{WideLeaf, RefusedCall}
use Rattle.rule_laws.specs.Rules.{among, rule_refusals, PartOf, RefusalStatement}
use Rattle.rule_laws.proofs.EvaluateLaws.{Refusing}
use Rattle.rule_laws.proofs.ParseLaws.{runs-at-width}
use Rattle.rule_laws.proofs.AnswerLaws.{by-ways}

-- ---- a call whose arguments are fixnums

abbrev call_refusals : List ℕ
call_refusals = 0 ∷ 5 ∷ 6 ∷ []

large : (code : ℕ) → among (row_of code).overflow call_refusals ≡ true
unfolding among rows no_row
large code = of_row (λ r. among r.overflow call_refusals) refl refl code

call-refusals : (w code : ℕ) (xs : List ℤ) → is_width w ≡ true → is_code code ≡ true → is_count code (length xs) ≡ true → all_fixnums w xs ≡ true
    → among (answer_of w code xs).refusal call_refusals ≡ true
unfolding answer_of fixnum_answer counted all_fixnums guard_each answer among
call-refusals w code xs a c m f =
    rw (take-length xs)
    (subst (λ (o : Outcome (ℤ × ℤ)). Known (answer o)) (sym (passed 1 _ a ∙ passed 2 _ c ∙ passed 3 _ m ∙ passed-each _ 4 _ f))
    (stage Known (all_hold (domain_tests (row_of code).domains w xs)) 5 _ _ (λ t. of-outcome w code xs Known (large code) (λ r. refl)) (λ t. refl)))
  where
    Known : Answer → Type 0
    Known r = among r.refusal call_refusals ≡ true

-- of these refusals, none is 4 or 10
not-among : (k j : ℕ) → among k call_refusals ≡ true → among j call_refusals ≡ false → k ≡ j → ⊥
not-among k j h n e = true≢false (sym h ∙ ap (λ (i : ℕ). among i call_refusals) e ∙ n)

also-of-rules : (k : ℕ) → among k call_refusals ≡ true → among k rule_refusals ≡ true
unfolding among
also-of-rules k h = go (eqb k 0) refl (eqb k 5) refl (eqb k 6) refl h
  where
    is : (j : ℕ) → eqb k j ≡ true → among j rule_refusals ≡ true → among k rule_refusals ≡ true
    is j q e = subst (λ (i : ℕ). among i rule_refusals ≡ true) (sym (eqb-true k j q)) e

    go : (a : Bool) → eqb k 0 ≡ a → (b : Bool) → eqb k 5 ≡ b → (c : Bool) → eqb k 6 ≡ c → a || (b || (c || false)) ≡ true → among k rule_refusals ≡ true
    go true p b q c r h = is 0 p refl
    go false p true q c r h = is 5 q refl
    go false p false q true r h = is 6 r refl
    go false p false q false r h = absurd (true≢false (sym h))

module _ (w : ℕ) (inputs : List ℤ) (a : is_width w ≡ true) (has : Form → Type 0) (k p : ℕ) where
  own-refusal : RefusedCall w inputs has k p → among k call_refusals ≡ true
  unfolding is_stored_code
  own-refusal c =
      let code = c.code in
      subst (λ (k : ℕ). among k call_refusals ≡ true) c.refusal
      (call-refusals w code c.values a (both_left (is_code code) (not (has_two (row_of code).results)) c.known) c.arity c.fixnums)

  -- ---- a refusal that evaluation meets

  pub met-known : Refusing w inputs has k p → among k rule_refusals ≡ true
  unfolding among
  met-known = ⊎_elim (λ l. rw l.0 refl) (λ c. also-of-rules k (own-refusal c.1))

  met_some : Refusing w inputs has k p → k ≡ 0 → ⊥
  met_some = ⊎_elim (λ l e. omega (arith, l.0, e)) (λ c. c.0)

  met-not-10 : Refusing w inputs has k p → k ≡ 10 → ⊥
  unfolding among
  met-not-10 = ⊎_elim (λ l e. omega (arith, l.0, e)) (λ c. not-among k 10 (own-refusal c.1) refl)

  met-4 : Refusing w inputs has k p → k ≡ 4 → (p ≡ 0) × WideLeaf w inputs has
  unfolding among
  met-4 = ⊎_elim (λ l e. (l.1, l.2)) (λ c e. absurd (not-among k 4 (own-refusal c.1) refl e))

  met-call : Refusing w inputs has k p → (k ≡ 4 → ⊥) → RefusedCall w inputs has k p
  met-call = ⊎_elim (λ l n. absurd (n l.0)) (λ c n. c.1)

  met-few : Refusing w inputs has k p → p ≤ 4
  unfolding answer_of
  met-few = ⊎_elim (λ l. omega (arith, l.1)) (λ c.
      let s : PlaceStatement w c.1.code c.1.values (length c.1.values) = places w c.1.code c.1.values (length c.1.values) in
      subst (λ (p : ℕ). p ≤ 4) c.1.place s.among.1)

  met-6 : RefusedCall w inputs has k p → k ≡ 6 → p ≡ 0
  unfolding answer_of
  met-6 c e =
      let s : PlaceStatement w c.code c.values (length c.values) = places w c.code c.values (length c.values) in
      sym c.place ∙ s.of_others (λ q. absurd (omega (arith, e, c.refusal, q))) (λ q. absurd (omega (arith, e, c.refusal, q)))

-- ---- a rule

module _ (d : ℕ) (s : List ℕ) (inputs : List ℤ) (a : is_width d ≡ true) where
  at : (r : Rule) → parse s ≡ done r → is_width (runs_at d r) ≡ true
  at r e = runs-at-width d r a (accepted-rule s r e).width

  abbrev Called : ℕ → ℕ → Type 0
  Called k p = (r : Rule) × (parse s ≡ done r) × RefusedCall (runs_at d r) inputs (PartOf r) k p

  called : (r : Rule) (k j p : ℕ) → parse s ≡ done r → Refusing (runs_at d r) inputs (PartOf r) k p → k ≡ j → (j ≡ 4 → ⊥) → Called j p
  called r k j p e m q n =
      (r, e, subst (λ (i : ℕ). RefusedCall (runs_at d r) inputs (PartOf r) i p) q (met-call (runs_at d r) inputs (at r e) (PartOf r) k p m (λ z. n (sym q ∙ z))))

  pub refusals : RefusalStatement d s inputs
  unfolding bad_rule value_of read_of among
  refusals = record {
    read_known = by-ways d s inputs (λ x y. among y.refusal (0 ∷ 10 ∷ []) ≡ true) (record {
      bad = λ o e l u. refl;
      met = λ r k p e q m. refl;
      finished = λ r z e q f. refl;
    });
    read-width = by-ways d s inputs (λ x y. y.refusal ≡ 0 → (is_width y.width ≡ true) × (y.offset ≡ 0)) (record {
      bad = λ o e l u h. absurd (omega (arith, h));
      met = λ r k p e q m h. (at r e, refl);
      finished = λ r z e q f h. (at r e, refl);
    });
    known = by-ways d s inputs (λ x y. among x.refusal rule_refusals ≡ true) (record {
      bad = λ o e l u. refl;
      met = λ r k p e q m. met-known (runs_at d r) inputs (at r e) (PartOf r) k p m;
      finished = λ r z e q f. refl;
    });
    unread = by-ways d s inputs (λ x y. y.refusal ≡ 10 → x ≡ bad_rule 10 y.offset) (record {
      bad = λ o e l u h. refl;
      met = λ r k p e q m h. absurd (omega (arith, h));
      finished = λ r z e q f h. absurd (omega (arith, h));
    });
    of-10 = by-ways d s inputs (λ x y. x.refusal ≡ 10 → y.refusal ≡ 10) (record {
      bad = λ o e l u h. refl;
      met = λ r k p e q m h. absurd (met-not-10 (runs_at d r) inputs (at r e) (PartOf r) k p m h);
      finished = λ r z e q f h. absurd (omega (arith, h));
    });
    others = by-ways d s inputs (λ x y. (x.refusal ≡ 10 → ⊥) → x.offset ≡ 0) (record {
      bad = λ o e l u h. absurd (h refl);
      met = λ r k p e q m h. refl;
      finished = λ r z e q f h. refl;
    });
    within = by-ways d s inputs (λ x y. (x.offset ≤ length s) × (x.offset ≤ longest)) (record {
      bad = λ o e l u. (l, u);
      met = λ r k p e q m. (zero-le, zero-le);
      finished = λ r z e q f. (zero-le, zero-le);
    });
    of-4 = by-ways d s inputs (λ x y. x.refusal ≡ 4 → (x.place ≡ 0) × ((r : Rule) × (parse s ≡ done r) × WideLeaf (runs_at d r) inputs (PartOf r))) (record {
      bad = λ o e l u h. absurd (omega (arith, h));
      met = λ r k p e q m h. let f = met-4 (runs_at d r) inputs (at r e) (PartOf r) k p m h in (f.0, (r, e, f.1));
      finished = λ r z e q f h. absurd (omega (arith, h));
    });
    of-5 = by-ways d s inputs (λ x y. x.refusal ≡ 5 → Called 5 x.place) (record {
      bad = λ o e l u h. absurd (omega (arith, h));
      met = λ r k p e q m h. called r k 5 p e m h (λ z. absurd (omega (arith, z)));
      finished = λ r z e q f h. absurd (omega (arith, h));
    });
    of-6 = by-ways d s inputs (λ x y. x.refusal ≡ 6 → (x.place ≡ 0) × Called 6 0) (record {
      bad = λ o e l u h. absurd (omega (arith, h));
      met = λ r k p e q m h.
          let c = called r k 6 p e m h (λ z. absurd (omega (arith, z))) in
          let z = met-6 (runs_at d c.0) inputs (at c.0 c.1) (PartOf c.0) 6 p c.2 refl in
          (z, subst (Called 6) z c);
      finished = λ r z e q f h. absurd (omega (arith, h));
    });
    few = by-ways d s inputs (λ x y. x.place ≤ 4) (record {
      bad = λ o e l u. zero-le;
      met = λ r k p e q m. met-few (runs_at d r) inputs (at r e) (PartOf r) k p m;
      finished = λ r z e q f. zero-le;
    });
    refused-value = by-ways d s inputs (λ x y. (x.refusal ≡ 0 → ⊥) → x.value ≡ pos 0) (record {
      bad = λ o e l u h. refl;
      met = λ r k p e q m h. refl;
      finished = λ r z e q f h. absurd (h refl);
    });
    done-value = by-ways d s inputs (λ x y. x.refusal ≡ 0 → (x.place ≡ 0) × (fits y.width x.value ≡ true)) (record {
      bad = λ o e l u h. absurd (omega (arith, h));
      met = λ r k p e q m h. absurd (met_some (runs_at d r) inputs (at r e) (PartOf r) k p m h);
      finished = λ r z e q f h. (refl, f);
    });
  }
