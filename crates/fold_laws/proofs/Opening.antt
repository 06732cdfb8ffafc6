-- Opening: what it is refused for, and that the record of a refused one takes no call. Assumes nothing.
use Prim.Native.Nat.{ℕ, ◌≤◌}
use mathlib.Core.Path.{◌≡◌, refl, sym, ap, subst, ◌∙◌}
use mathlib.Core.Bool.{Bool, false, cond}
use mathlib.Core.List.{List}
use mathlib.Core.Logic.{◌⊎◌, inl, inr}
use lib.IntN.{ℤ, pos}
use borrow.Author.Tests.{ne_eqb}
use Rattle.outcomes.specs.Outcome.{done, refuse, guard, guard_at}
use Rattle.outcomes.specs.Tests.{all_hold, first_failed, guard_each}
use Rattle.outcomes.proofs.OutcomeLaws.{failed}
use Rattle.outcomes.proofs.TestLaws.{some-place}
use Rattle.fxtable.specs.declared.answer.Answer.{Answer}
use Rattle.fxtable.specs.Domains.{least_width, is_width, domain_tests}
use Rattle.fxtable.specs.Table.{row_of}
use Rattle.fxtable.specs.Calls.{answer, fixnum_tests, fixnum_answer, answer_of}
use Rattle.fixnum_laws.proofs.Stages.{stage}
use Rattle.fold.specs.declared.Fold.{Fold}
use Rattle.fold.specs.Fold.{fields, settings, rotation, is_open}
use Rattle.fold.specs.Calls.{zeros, opened, opening, after, folding, read_outcome, joining}
use Rattle.fold.proofs.CallLaws.{not-open-folding, not-open-joining}
use Rattle.fold.proofs.OpenLaws.{rotated, rotation-stages}

-- ---- a record that is not open

pub zeros-shut : is_open zeros ≡ false
unfolding is_open rotation zeros settings answer_of fixnum_answer guard guard_at least_width is_width answer
zeros-shut = refl

-- it takes no chunk, no piece and no reading
pub record Shut (f : Fold) : Type 0 where
  pub chunk : (bs : List ℕ) → folding f bs ≡ after 9 f
  pub piece : (a : ℤ) (n : ℕ) → joining f a n ≡ after 9 f
  pub reading : read_outcome f ≡ refuse 9

pub shut : (f : Fold) → is_open f ≡ false → Shut f
unfolding read_outcome
shut f h = record { chunk = not-open-folding f h; piece = not-open-joining f h; reading = failed 9 (done f.accumulator) h }

-- ---- opening

pub opening-at : (f : Fold) {t : Bool} → is_open f ≡ t → (opening f).fold ≡ cond t f zeros
unfolding opening
opening-at f h = ap (λ (t : Bool). cond t f zeros) h

pub refused-opening : (f : Fold) → ((opening f).opened.refusal ≡ 0 → ⊥) → Shut (opening f).fold
unfolding opening opened is_open
refused-opening f r =
    let h : is_open f ≡ false = ne_eqb (rotation f).refusal 0 r in
    shut (opening f).fold (ap is_open (opening-at f h) ∙ zeros-shut)

-- done, or refused for the width, and then the place is 0; or refused for the field at the place: it is no fixnum, or outside its domain
abbrev pub Refusals : ℕ → ℕ → Type 0
Refusals refusal place = ((place ≡ 0) × ((refusal ≡ 0) ⊎ (refusal ≡ 1))) ⊎ ((1 ≤ place) × ((refusal ≡ 4) ⊎ (refusal ≡ 5)))

three-stages : (t : Bool) (fixnums domains : List Bool) (results : ℤ × ℤ)
    → let a = answer (guard t 1 (guard_each fixnums 4 (guard_each domains 5 (done results)))) in Refusals a.refusal a.place
unfolding guard guard_each answer
three-stages t fixnums domains results =
    let P : Answer → Type 0 = λ a. Refusals a.refusal a.place in
    stage P t 1 0 _
    (λ a. stage P (all_hold fixnums) 4 (first_failed fixnums) _
    (λ b. stage P (all_hold domains) 5 (first_failed domains) (done results) (λ c. inl (refl, inl refl)) (λ c. inr (some-place domains c, inr refl)))
    (λ b. inr (some-place fixnums b, inl refl)))
    (λ a. inl (refl, inr refl))

pub opening-refusals : (f : Fold) → Refusals (opening f).opened.refusal (opening f).opened.place
unfolding opening opened
opening-refusals f =
    subst (λ (a : Answer). Refusals a.refusal a.place) (sym (rotation-stages f))
    (three-stages (is_width f.width) (fixnum_tests f.width (fields f)) (domain_tests (row_of 40).domains f.width (fields f)) (rotated f, pos 0))
