-- The results of each operation on fixnums are fixnums, by families of codes; a first result that is tested for its size is left out.
-- Assumes nothing.
use Prim.Native.Nat.{ℕ, ◌-◌, ◌≤◌, ◌<◌}
use native.Mathlib.Omega.{arith}
use mathlib.Core.Path.{◌≡◌, ◌∙◌}
use mathlib.Core.Bool.{Bool, true, false, cond}
use mathlib.Core.List.{List, [], ◌∷◌}
use lib.Dec.{ltb}
use lib.IntN.{ℤ, pos, nat_abs, ◌+ℤ◌, ◌-ℤ◌, ◌*ℤ◌}
use lib.Signed.{lt_z}
use borrow.Author.Tests.{ltb-true}
use Rattle.bits.specs.Testbit.{bit_length, fits}
use Rattle.bits.specs.Logical.{bitwise_not, bitwise_all, bitwise_if}
use Rattle.bits.specs.Count.{bit_count, first_bit_set}
use Rattle.bits.specs.Division.{«mod», mod0}
use Rattle.bits.specs.Shift.{shift_right}
use Rattle.bits.specs.Field.{bit_field, set_field, copy_bit_field, permute_field, rotate_bit_field, reverse_bit_field}
use Rattle.bits.proofs.LengthLaws.{fits_not}
use Rattle.bits.proofs.FitsLaws.{zero-fits, small-fits, bit_length-fits, bit_count-fits, first_bit_set-fits, mod-fits, mod0-fits, low_fits, if-fits, set_field-fits, bit_field-fits, right-fits}
use Rattle.bits.specs.Range.{within}
use Rattle.bits.proofs.RangeLaws.{within-field}
use Rattle.fxtable.specs.declared.domains.Domain.{Domain}
use Rattle.fxtable.specs.declared.domains.Domain.TheVariants.{Fixnum, Divisor, Position, FieldEnd}
use Rattle.fxtable.specs.Domains.{is_width, arg, accepts, domain_tests_from, domain_tests, in_domains}
use Rattle.fxtable.specs.Operations.{results_of, every, one, two, three, four, question, truth, fold_from, larger, smaller, largest, smallest, carry, copy_bit_at}
use Rattle.fxtable.specs.Calls.{fixnum_tests, all_fixnums}
use Rattle.bits.proofs.Booleans.{both_left, both_right}
use Rattle.fxtable.proofs.CallLaws.{width-bounds, arg-fits}
use Rattle.fxtable.proofs.CarryLaws.{Fit, sum-parts-fit, difference-parts-fit, product-parts-fit}
use Rattle.fixnum_laws.proofs.Demand3.{all-fits}
use Rattle.outcomes.specs.Tests.{all_hold}

-- arguments that are fixnums, at a width that is accepted
pub record Fixnums (w : ℕ) (xs : List ℤ) : Type 0 where
  pub width : is_width w ≡ true
  pub all : all_fixnums w xs ≡ true

choice-fits : (w : ℕ) (t : Bool) (x y : ℤ) → fits w x ≡ true → fits w y ≡ true → fits w (cond t y x) ≡ true
choice-fits w true x y f g = g
choice-fits w false x y f g = f

fold-fits : (w : ℕ) (g : ℤ → ℤ → ℤ) → ((x y : ℤ) → fits w x ≡ true → fits w y ≡ true → fits w (g x y) ≡ true)
    → (x : ℤ) (ys : List ℤ) → fits w x ≡ true → all_fixnums w ys ≡ true → fits w (fold_from g x ys) ≡ true
unfolding fold_from all_fixnums fixnum_tests all_hold
fold-fits w g h x [] f e = f
fold-fits w g h x (y ∷ ys) f e =
    fold-fits w g h (g x y) ys (h x y f (both_left (fits w y) (all_fixnums w ys) e)) (both_right (fits w y) (all_fixnums w ys) e)

module _ {w : ℕ} {xs : List ℤ} (g : Fixnums w xs) where
  wide : 24 ≤ w
  wide = (width-bounds w g.width).0

  positive : 0 < w
  positive = omega (arith, wide)

  at : (i : ℕ) → fits w (arg xs i) ≡ true
  at = arg-fits w xs g.all

  -- ---- 1 to 10, and 33

  pub question-fits : (p : List ℤ → Bool) → Fit w (results_of (question p) w xs)
  unfolding results_of truth
  question-fits p = (choice-fits w (p xs) (pos 0) (pos 1) (zero-fits w) (small-fits w 1 (omega (arith, wide))), zero-fits w)

  -- ---- 11 and 12

  pub largest-fits : Fit w (results_of (every largest) w xs)
  unfolding results_of largest larger
  largest-fits = (fold-fits w larger (λ x y. choice-fits w (lt_z x y) x y) (arg xs 0) xs (at 0) g.all, zero-fits w)

  pub smallest-fits : Fit w (results_of (every smallest) w xs)
  unfolding results_of smallest smaller
  smallest-fits = (fold-fits w smaller (λ x y. choice-fits w (lt_z y x) x y) (arg xs 0) xs (at 0) g.all, zero-fits w)

  -- ---- 17, 18, 20 and 21

  module _ (d : in_domains (Fixnum ∷ Divisor ∷ []) w xs ≡ true) where
    nonzero : 0 < nat_abs (arg xs 1)
    unfolding in_domains domain_tests domain_tests_from accepts all_hold
    nonzero = ltb-true 0 (nat_abs (arg xs 1)) (both_left (ltb 0 (nat_abs (arg xs 1))) true d)

    pub mod-result-fits : fits w («mod» (arg xs 0) (arg xs 1)) ≡ true
    mod-result-fits = mod-fits w (arg xs 0) (arg xs 1) nonzero (at 1)

    pub mod0-result-fits : fits w (mod0 (arg xs 0) (arg xs 1)) ≡ true
    mod0-result-fits = mod0-fits w (arg xs 0) (arg xs 1) nonzero (at 1)

  -- ---- 22 to 24

  pub sum-carry-fits : Fit w (results_of (carry (λ x y z. (x +ℤ y) +ℤ z)) w xs)
  unfolding results_of
  sum-carry-fits = sum-parts-fit w g.width (arg xs 0) (arg xs 1) (arg xs 2) (at 0) (at 1) (at 2)

  pub difference-carry-fits : Fit w (results_of (carry (λ x y z. (x -ℤ y) -ℤ z)) w xs)
  unfolding results_of
  difference-carry-fits = difference-parts-fit w g.width (arg xs 0) (arg xs 1) (arg xs 2) (at 0) (at 1) (at 2)

  pub product-carry-fits : Fit w (results_of (carry (λ x y z. (x *ℤ y) +ℤ z)) w xs)
  unfolding results_of
  product-carry-fits = product-parts-fit w g.width (arg xs 0) (arg xs 1) (arg xs 2) (at 0) (at 1) (at 2)

  -- ---- 25 to 29

  pub not-result-fits : Fit w (results_of (one bitwise_not) w xs)
  unfolding results_of
  not-result-fits = (fits_not w (arg xs 0) ∙ at 0, zero-fits w)

  pub all-result-fits : (op : Bool → Bool → Bool) (e : Bool) → Fit w (results_of (every (bitwise_all op e)) w xs)
  unfolding results_of
  all-result-fits op e = (all-fits w positive op e xs g.all, zero-fits w)

  pub if-result-fits : Fit w (results_of (three bitwise_if) w xs)
  unfolding results_of
  if-result-fits = (if-fits w positive (arg xs 0) (arg xs 1) (arg xs 2) (at 0) (at 1) (at 2), zero-fits w)

  -- ---- 30 to 32

  pub count_fits : Fit w (results_of (one bit_count) w xs)
  unfolding results_of
  count_fits = (bit_count-fits w (arg xs 0) (at 0), zero-fits w)

  pub length-fits : Fit w (results_of (one (λ x. pos (bit_length x))) w xs)
  unfolding results_of
  length-fits = (bit_length-fits w (arg xs 0) (at 0), zero-fits w)

  pub first-bit-fits : Fit w (results_of (one first_bit_set) w xs)
  unfolding results_of
  first-bit-fits = (first_bit_set-fits w (arg xs 0) (at 0), zero-fits w)

  -- ---- 34 to 36, 40 and 41

  pub copy-bit-fits : Fit w (results_of (copy_bit_at) w xs)
  unfolding results_of
  copy-bit-fits = (low_fits w _ positive, zero-fits w)

  module _ (ds : List Domain) (d : in_domains (Fixnum ∷ Position ∷ FieldEnd ∷ ds) w xs ≡ true) where
    end_below : nat_abs (arg xs 2) ≤ w - 1
    unfolding in_domains domain_tests domain_tests_from accepts all_hold
    end_below =
        let rest = both_right (within (pos 0) (arg xs 1) (pos (w - 1))) _ d in
        (within-field (w - 1) (arg xs 1) (arg xs 2) (both_left (within (pos 0) (arg xs 1) (pos (w - 1))) _ d)
        (both_left (within (arg xs 1) (arg xs 2) (pos (w - 1))) (all_hold (domain_tests_from 3 ds w xs)) rest)
        ).3

    set-field-fits : (new : ℕ → Bool) → fits w (set_field (arg xs 0) (nat_abs (arg xs 1)) (nat_abs (arg xs 2)) new) ≡ true
    set-field-fits new = set_field-fits w positive (arg xs 0) (nat_abs (arg xs 1)) (nat_abs (arg xs 2)) end_below new (at 0)

    pub field_fits : Fit w (results_of (three (λ x start end. bit_field x (nat_abs start) (nat_abs end))) w xs)
    unfolding results_of
    field_fits = (bit_field-fits w positive (arg xs 0) (nat_abs (arg xs 1)) (nat_abs (arg xs 2)) end_below, zero-fits w)

    pub copy-field-fits : Fit w (results_of (four (λ x start end y. copy_bit_field x (nat_abs start) (nat_abs end) y)) w xs)
    unfolding results_of copy_bit_field
    copy-field-fits = (set-field-fits _, zero-fits w)

    pub rotate-fits : Fit w (results_of (four (λ x start end c. rotate_bit_field x (nat_abs start) (nat_abs end) c)) w xs)
    unfolding results_of rotate_bit_field permute_field
    rotate-fits = (set-field-fits _, zero-fits w)

    pub reverse-fits : Fit w (results_of (three (λ x start end. reverse_bit_field x (nat_abs start) (nat_abs end))) w xs)
    unfolding results_of reverse_bit_field permute_field
    reverse-fits = (set-field-fits _, zero-fits w)

  -- ---- 39

  pub right-shift-fits : Fit w (results_of (two (λ x k. shift_right x (nat_abs k))) w xs)
  unfolding results_of
  right-shift-fits = (right-fits w (arg xs 0) (nat_abs (arg xs 1)) (at 0), zero-fits w)
