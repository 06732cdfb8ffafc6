-- An identifier is the accumulator of the fold on the integers, where opening is done; else reading refuses 9. Assumes nothing.
use Prim.Native.Nat.{ℕ}
use mathlib.Core.Path.{◌≡◌, refl, sym, ap, ◌∙◌}
use mathlib.Core.Bool.{Bool, true, false}
use mathlib.Core.List.{List}
use lib.IntN.{ℤ, nat_abs}
use Rattle.outcomes.specs.Outcome.{done, refuse}
use Rattle.outcomes.proofs.OutcomeLaws.{passed, refused-done, done-injective}
use Rattle.fold.specs.declared.Fold.{Fold}
use Rattle.fold.specs.Fold.{AllBytes, settings, with_accumulator, is_open, fold_bytes}
use Rattle.fold.specs.Calls.{Folding, zeros, after, folding, read_outcome, identifier}
use Rattle.fold.proofs.IntegerFold.{accumulate}
use Rattle.fold.proofs.ByteLaws.{fold_bytes-is, open-bytes}
use Rattle.fold.proofs.CallLaws.{folding-open}
use Rattle.fold_laws.proofs.Opening.{shut, zeros-shut, opening-at}

module _ (w : ℕ) (start end count a : ℤ) (bs : List ℕ) where
  abbrev opens : Bool
  opens = is_open (settings w start end count a)

  pub identifier-open : opens ≡ true → AllBytes bs → identifier w start end count a bs ≡ done (accumulate (nat_abs start) (nat_abs end) count a bs)
  unfolding identifier read_outcome after settings with_accumulator
  identifier-open h l =
      let f = settings w start end count a in
      ap (λ (g : Fold). read_outcome (folding g bs).fold) (opening-at f h)
      ∙ ap (λ (r : Folding). read_outcome r.fold) (folding-open f h bs)
      ∙ passed 9 (done (fold_bytes f bs).accumulator) (open-bytes f h bs l)
      ∙ ap (λ (g : Fold). done g.accumulator) (fold_bytes-is f h bs l)

  identifier-shut : opens ≡ false → identifier w start end count a bs ≡ refuse 9
  unfolding identifier after
  identifier-shut h =
      ap (λ (g : Fold). read_outcome (folding g bs).fold) (opening-at (settings w start end count a) h)
      ∙ ap (λ (r : Folding). read_outcome r.fold) ((shut zeros zeros-shut).chunk bs)
      ∙ (shut zeros zeros-shut).reading

  pub identifier-done : AllBytes bs → {i : ℤ} → identifier w start end count a bs ≡ done i
      → (opens ≡ true) × (i ≡ accumulate (nat_abs start) (nat_abs end) count a bs)
  identifier-done l {i} e = go opens refl
    where
      go : (t : Bool) → opens ≡ t → (opens ≡ true) × (i ≡ accumulate (nat_abs start) (nat_abs end) count a bs)
      go true h = (h, done-injective (sym e ∙ identifier-open h l))
      go false h = absurd (refused-done (sym (identifier-shut h) ∙ e))
