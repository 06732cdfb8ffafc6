-- The answers of fx+, fx* and fx- from the words of a sum or a difference, and those of fx- by its argument count. Assumes nothing.
use Prim.Native.Nat.{ℕ, ◌<◌, ◌^◌}
use native.Mathlib.Omega.{arith}
use mathlib.Core.Path.{◌≡◌, refl, ap, ◌∙◌}
use mathlib.Core.Bool.{true}
use mathlib.Core.List.{List, [], ◌∷◌}
use lib.Dec.{lit<}
use lib.IntN.{ℤ, pos, neg_ℤ, ◌+ℤ◌, ◌-ℤ◌, ◌*ℤ◌, +ℤ_idr}
use lib.ListN.{length}
use Rattle.bits.specs.Testbit.{fits}
use Rattle.bits.specs.Division.{mod_ℕ}
use Rattle.bits.proofs.FitsLaws.{zero-fits}
use Rattle.widewords.specs.declared.double.Double.{Double}
use Rattle.widewords.specs.Double.{double_word}
use Rattle.fxtable.specs.Calls.{answer, counted, checked, outcome}
use Rattle.fxtable.specs.Domains.{arg}
use Rattle.fxtable.specs.Operations.{results_of, every, minus}
use Rattle.fxtable.specs.Table.{row, rows, row_of}
use Rattle.fxtable.specs.Inner.{Accepted}
use Rattle.fxtable.proofs.CallLaws.{between, fits-arg, checked-cong}
use Rattle.fxtable.proofs.CarryLaws.{sum-parts-fit, difference-parts-fit}
use Rattle.fxtable.proofs.MeaningLaws.{by_row, arity-row, two-outcome}
use Rattle.fxstages.proofs.ArgumentLaws.{fixnum-at}
use Rattle.fxarith.specs.Held.{Held}

-- ---- fx+ and fx*

module _ {w code n : ℕ} {xs : List ℤ} (is : code ≡ 13) (a : Accepted w code xs n) where
  pub sum-held : {s : Double} → double_word s ≡ mod_ℕ ((arg xs 0 +ℤ arg xs 1) +ℤ pos 0) (2 ^ 128) → Held w s ((arg xs 0 +ℤ arg xs 1) +ℤ pos 0)
  unfolding rows row_of
  sum-held e =
      record {
        words = e;
        high = (sum-parts-fit w a.width _ _ (pos 0) (fixnum-at a 0 (rw is (lit< tt))) (fixnum-at a 1 (rw is (lit< tt))) (zero-fits w)).1;
      }

  pub sum-outcome : answer (checked 6 w ((arg xs 0 +ℤ arg xs 1) +ℤ pos 0, pos 0)) ≡ answer (outcome w code (counted xs n))
  unfolding rows row_of
  sum-outcome = checked-cong 6 w (+ℤ_idr (arg xs 0 +ℤ arg xs 1)) refl ∙ two-outcome (λ v x y. x +ℤ y) (ap row_of is) a

pub product-outcome : {w code n : ℕ} {xs : List ℤ} → code ≡ 14 → Accepted w code xs n
    → answer (checked 6 w (arg xs 0 *ℤ arg xs 1, pos 0)) ≡ answer (outcome w code (counted xs n))
unfolding rows row_of
product-outcome is a = two-outcome (λ v x y. x *ℤ y) (ap row_of is) a

-- ---- fx-

minus_one : (xs : List ℤ) → minus (counted xs 1) ≡ neg_ℤ (arg xs 0)
unfolding minus counted arg
minus_one [] = refl
minus_one (x ∷ xs) = refl

minus-two : (xs : List ℤ) → length xs ≡ 4 → minus (counted xs 2) ≡ arg xs 0 -ℤ arg xs 1
unfolding minus counted arg
minus-two [] h = refl
minus-two (x ∷ []) h = absurd (omega arith)
minus-two (x ∷ y ∷ xs) h = refl

minus-row : row_of 15 ≡ row 1 2 [] 5 (every minus)
unfolding row_of rows
minus-row = refl

module _ (w : ℕ) {code : ℕ} (is : code ≡ 15) (xs : List ℤ) (n : ℕ) where
  minus-outcome : (y : ℤ) → minus (counted xs n) ≡ y → answer (checked 5 w (y, pos 0)) ≡ answer (outcome w code (counted xs n))
  unfolding results_of
  minus-outcome y k = by_row w code (counted xs n) (ap row_of is ∙ minus-row) (ap (λ (z : ℤ). (z, pos 0)) k)

  -- of one argument
  pub negated-outcome : n ≡ 1 → answer (checked 5 w (neg_ℤ (arg xs 0), pos 0)) ≡ answer (outcome w code (counted xs n))
  negated-outcome k = minus-outcome (neg_ℤ (arg xs 0)) (rw k (minus_one xs))

-- of more, and so two
module _ {w code n : ℕ} {xs : List ℤ} (is : code ≡ 15) (a : Accepted w code xs n) (more : n ≡ 1 → ⊥) where
  two : n ≡ 2
  two = let b = between 1 n 2 (arity-row (ap row_of is ∙ minus-row) a) in omega arith

  slot-fits : (i : ℕ) → i < 2 → fits w (arg xs i) ≡ true
  slot-fits i h = fits-arg w xs n i a.fixnums (omega (arith, two))

  pub difference-held : {s : Double} → double_word s ≡ mod_ℕ ((arg xs 0 -ℤ arg xs 1) -ℤ pos 0) (2 ^ 128) → Held w s ((arg xs 0 -ℤ arg xs 1) -ℤ pos 0)
  difference-held e =
      record {
        words = e;
        high = (difference-parts-fit w a.width _ _ (pos 0) (slot-fits 0 (lit< tt)) (slot-fits 1 (lit< tt)) (zero-fits w)).1;
      }

  pub difference-outcome : length xs ≡ 4 → answer (checked 5 w ((arg xs 0 -ℤ arg xs 1) -ℤ pos 0, pos 0)) ≡ answer (outcome w code (counted xs n))
  difference-outcome h =
      checked-cong 5 w (+ℤ_idr (arg xs 0 -ℤ arg xs 1)) refl ∙ minus-outcome w is xs n (arg xs 0 -ℤ arg xs 1) (rw two (minus-two xs h))
