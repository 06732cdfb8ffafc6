-- The results of every call are fixnums at its width, so a done answer can be handed to the next call. Assumes nothing.
use Prim.Native.Nat.{ℕ}
use native.Mathlib.Omega.{arith}
use mathlib.Core.Path.{◌≡◌, refl, sym, ap, ◌∙◌}
use mathlib.Core.Bool.{Bool, true, false, ◌&&◌, ◌||◌, xor}
use mathlib.Core.List.{List, [], ◌∷◌}
use lib.Dec.{eqb}
use lib.IntN.{ℤ, nat_abs}
use lib.Signed.{le_z, lt_z}
use Rattle.bits.specs.Testbit.{testbit, fits}
use Rattle.bits.specs.Logical.{bitwise_ands, bitwise_iors, bitwise_xors}
use Rattle.bits.proofs.FitsLaws.{zero-fits}
use Rattle.outcomes.specs.Outcome.{refused, done, guard}
use Rattle.fxtable.specs.declared.answer.Answer.{Answer}
use Rattle.fxtable.specs.Calls.{answer, checked, outcome, fixnum_answer}
use Rattle.fxtable.specs.declared.domains.Domain.TheVariants.{Rotation}
use Rattle.fxtable.specs.Domains.{arg, in_domains}
use Rattle.fxtable.specs.Operations.{equal, greater, greater_or_equal, chain, is_zero, is_positive, is_below_zero, is_odd, is_even, results_of}
use Rattle.fxtable.specs.Table.{rows, row_of, is_code}
use Rattle.fxtable.proofs.TableLaws.{code-bounds, from-to}
use Rattle.fixnum_laws.proofs.Stages.{stage, by-ways}
use Rattle.fxtable.proofs.CarryLaws.{Fit}
use Rattle.fixnum_laws.proofs.ResultLaws.{Fixnums, question-fits, largest-fits, smallest-fits, mod-result-fits, mod0-result-fits, sum-carry-fits, difference-carry-fits, product-carry-fits, not-result-fits, all-result-fits, if-result-fits, count_fits, length-fits, first-bit-fits, copy-bit-fits, field_fits, copy-field-fits, rotate-fits, reverse-fits, right-shift-fits}

-- both results of an answer are fixnums; a refusal has zero results
abbrev Fixed : ℕ → Answer → Type 0
Fixed w a = Fit w (a.first, a.second)

zeros : (w k place : ℕ) → Fixed w (answer (refused k place))
unfolding answer
zeros w k place = (zero-fits w, zero-fits w)

-- the first result is tested for overflow, or is always a fixnum
tested : (w k : ℕ) (r : ℤ × ℤ) → eqb k 0 ≡ false → fits w r.1 ≡ true → Fixed w (answer (checked k w r))
unfolding checked guard answer
tested w k r z g =
    stage (Fixed w) (eqb k 0 || fits w r.0) k 0 (done r) (λ t. (ap (λ (b : Bool). b || fits w r.0) (sym z) ∙ t, g)) (λ t. zeros w k 0)

always : (w : ℕ) (r : ℤ × ℤ) → Fit w r → Fixed w (answer (checked 0 w r))
unfolding checked guard answer
always w r f = stage (Fixed w) (eqb 0 0 || fits w r.0) 0 0 (done r) (λ t. f) (λ t. zeros w 0 0)

-- a fact of one code, and those of the codes after it
infixr 40 ◌▸◌
abbrev ◌▸◌ : {A B : Type 0} → A → B → A × B
x ▸ y = (x, y)

module _ {w : ℕ} {xs : List ℤ} (g : Fixnums w xs) where
  outcome_fits : (code : ℕ) → is_code code ≡ true → in_domains (row_of code).domains w xs ≡ true → Fixed w (answer (outcome w code xs))
  unfolding outcome results_of row_of rows bitwise_ands bitwise_iors bitwise_xors
  outcome_fits code c =
      let b = code-bounds code c in
      from-to (λ c. in_domains (row_of c).domains w xs ≡ true → Fixed w (answer (outcome w c xs))) 1 41
      ((λ d. always w _ (question-fits g (chain equal)))  -- 1
      ▸ (λ d. always w _ (question-fits g (chain greater)))
      ▸ (λ d. always w _ (question-fits g (chain lt_z)))
      ▸ (λ d. always w _ (question-fits g (chain greater_or_equal)))
      ▸ (λ d. always w _ (question-fits g (chain le_z)))
      ▸ (λ d. always w _ (question-fits g is_zero))  -- 6
      ▸ (λ d. always w _ (question-fits g is_positive))
      ▸ (λ d. always w _ (question-fits g is_below_zero))
      ▸ (λ d. always w _ (question-fits g is_odd))
      ▸ (λ d. always w _ (question-fits g is_even))
      ▸ (λ d. always w _ (largest-fits g))  -- 11
      ▸ (λ d. always w _ (smallest-fits g))
      ▸ (λ d. tested w 6 _ refl (zero-fits w))
      ▸ (λ d. tested w 6 _ refl (zero-fits w))
      ▸ (λ d. tested w 5 _ refl (zero-fits w))
      ▸ (λ d. tested w 6 _ refl (zero-fits w))
      ▸ (λ d. always w _ (mod-result-fits g d, zero-fits w))  -- 17
      ▸ (λ d. tested w 6 _ refl (mod-result-fits g d))
      ▸ (λ d. tested w 6 _ refl (zero-fits w))
      ▸ (λ d. always w _ (mod0-result-fits g d, zero-fits w))  -- 20
      ▸ (λ d. tested w 6 _ refl (mod0-result-fits g d))
      ▸ (λ d. always w _ (sum-carry-fits g))  -- 22
      ▸ (λ d. always w _ (difference-carry-fits g))
      ▸ (λ d. always w _ (product-carry-fits g))
      ▸ (λ d. always w _ (not-result-fits g))  -- 25
      ▸ (λ d. always w _ (all-result-fits g ◌&&◌ true))
      ▸ (λ d. always w _ (all-result-fits g ◌||◌ false))
      ▸ (λ d. always w _ (all-result-fits g xor false))
      ▸ (λ d. always w _ (if-result-fits g))
      ▸ (λ d. always w _ (count_fits g))  -- 30
      ▸ (λ d. always w _ (length-fits g))
      ▸ (λ d. always w _ (first-bit-fits g))
      ▸ (λ d. always w _ (question-fits g (λ xs. testbit (arg xs 0) (nat_abs (arg xs 1)))))  -- 33
      ▸ (λ d. always w _ (copy-bit-fits g))
      ▸ (λ d. always w _ (field_fits g [] d))  -- 35
      ▸ (λ d. always w _ (copy-field-fits g [] d))
      ▸ (λ d. tested w 6 _ refl (zero-fits w))
      ▸ (λ d. tested w 6 _ refl (zero-fits w))
      ▸ (λ d. always w _ (right-shift-fits g))  -- 39
      ▸ (λ d. always w _ (rotate-fits g (Rotation ∷ []) d))
      ▸ (λ d. always w _ (reverse-fits g [] d))
      ▸ tt)
      code b.0 (omega arith)

pub results_fit : (w code : ℕ) (args : List ℤ) (count : ℕ)
    → (fits w (fixnum_answer w code args count).first ≡ true) × (fits w (fixnum_answer w code args count).second ≡ true)
results_fit w code args count = by-ways w code args count (Fixed w) (record {
  early = λ k l u. zeros w k 0;
  wide = λ m h. zeros w 4 _;
  outside = λ m h. zeros w 5 _;
  past = λ a c m f d. outcome_fits (record { width = a; all = f }) code c d;
})
