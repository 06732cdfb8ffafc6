-- The stages of fixnum->flonum and of the smallest and the largest. Assumes nothing.
use Rattle.std.proofs.Common.{◌≡◌, ℕ, ◌≤◌, true, false, T, leb, List, [], take, ℤ, sym, ap, ◌∙◌, subst, leb→le}
use lib.Ieee.{Float, binary64, of_int}
use lib.Ieee.Fits.{and_l, and_r}
use Rattle.bits.specs.Testbit.{fits}
use Rattle.outcomes.proofs.OutcomeLaws.{passed, failed}
use Rattle.fxtable.specs.Domains.{is_width}
use Rattle.flonum.specs.declared.answer.Answer.TheVariants.{Refused, Flonum}
use Rattle.flonum.specs.declared.extremes.Extremes.{Extremes}
use Rattle.flonum.specs.Extremes.{extremes}
use Rattle.flonum.specs.Calls.{flonum_answer, fixnum_to_flonum, is_count, extremes_of, extremes_answer}

module _ (w : ℕ) (n : ℤ) where
  pub bad-width : is_width w ≡ false → Refused 1 ≡ fixnum_to_flonum w n
  unfolding fixnum_to_flonum flonum_answer
  bad-width h = sym (ap flonum_answer (failed 1 _ h))

  pub no-fixnum : is_width w ≡ true → fits w n ≡ false → Refused 4 ≡ fixnum_to_flonum w n
  unfolding fixnum_to_flonum flonum_answer
  no-fixnum h k = sym (ap flonum_answer (passed 1 _ h ∙ failed 4 _ k))

  pub converted : is_width w ≡ true → fits w n ≡ true → Flonum (of_int binary64 n) ≡ fixnum_to_flonum w n
  unfolding fixnum_to_flonum flonum_answer
  converted h k = sym (ap flonum_answer (passed 1 _ h ∙ passed 4 _ k))

pub count-bounds : (n : ℕ) → is_count n ≡ true → (1 ≤ n) × (n ≤ 4)
unfolding is_count
count-bounds n h =
    let t : T (is_count n) = subst T (sym h) tt in
    (leb→le 1 n (and_l (leb 1 n) (leb n 4) t), leb→le n 4 (and_r (leb 1 n) (leb n 4) t))

module _ (xs : List Float) (n : ℕ) where
  pub bad-count : is_count n ≡ false → record { refusal = 3; values = extremes [] } ≡ extremes_answer xs n
  unfolding extremes_answer extremes_of
  bad-count h = sym (ap extremes_of (failed 3 _ h))

  pub good-count : (e : Extremes) → is_count n ≡ true → e ≡ extremes (take n xs) → record { refusal = 0; values = e } ≡ extremes_answer xs n
  unfolding extremes_answer extremes_of
  good-count e h p = ap (λ (v : Extremes). record { refusal = 0; values = v }) p ∙ sym (ap extremes_of (passed 3 _ h))
