-- Copy-bit as a call, at one width and at a wider one: where it changes the sign, and where not. Assumes nothing.
use Prim.Native.Nat.{ℕ, ◌-◌, ◌≤◌, ◌<◌, ◌^◌}
use native.Mathlib.Omega.{arith}
use mathlib.Core.Path.{◌≡◌, refl, sym, ap, ◌∙◌}
use mathlib.Core.Bool.{Bool, true, false, not, ◌&&◌, beq, true≢false, false≢true}
use mathlib.Core.List.{List}
use lib.Dec.{eqb, lit<}
use lib.IntN.{ℤ, pos, nat_abs}
use borrow.Author.Tests.{eqb-true, eq-eqb}
use Rattle.bits.specs.Testbit.{is_negative, testbit, fits}
use Rattle.bits.specs.Division.{mod0}
use Rattle.bits.specs.Field.{copy_bit}
use Rattle.bits.specs.Range.{within}
use Rattle.bits.proofs.Booleans.{both_left, both_right}
use Rattle.bits.proofs.RangeLaws.{within-pos}
use Rattle.bits.proofs.ValueLaws.{mod0-pow-same}
use Rattle.bits.proofs.FitsLaws.{holds}
use Rattle.words.proofs.WordLaws.{fits-mag}
use Rattle.outcomes.specs.Outcome.{done}
use Rattle.outcomes.specs.Tests.{all_hold}
use Rattle.fxtable.specs.Domains.{arg, accepts, domain_tests_from, domain_tests, in_domains}
use Rattle.fxtable.specs.Operations.{results_of}
use Rattle.fxtable.specs.Table.{rows, row_of}
use Rattle.fxtable.specs.Calls.{answer, counted, is_count, fixnum_answer}
use Rattle.fxtable.proofs.CallLaws.{width-bounds, arg-exactly, arg-fits, done-cong}
use Rattle.fixnum_laws.specs.Widths.{changes_sign, other_side, same_side}
use Rattle.fixnum_laws.proofs.SignBit.{same-fits, copy-sign, wrapped, copy-fits, new-bit}
use Rattle.fixnum_laws.proofs.WidthLaws.{wider-fits, Done, done-answer}

-- ---- what a test for a changed sign says

differs : (a b : Bool) → not (beq a b) ≡ true → a ≡ not b
differs true true e = absurd (false≢true e)
differs true false e = refl
differs false true e = refl
differs false false e = absurd (false≢true e)

agrees : (a b : Bool) → not (beq a b) ≡ false → a ≡ b
agrees true true e = refl
agrees true false e = absurd (true≢false e)
agrees false true e = absurd (true≢false e)
agrees false false e = refl

-- ---- the call at one width, and at two

module _ (v : ℕ) (args : List ℤ) (n : ℕ) (d : Done v 34 args n) where
  abbrev xs : List ℤ
  xs = counted args n

  abbrev copied : ℤ
  copied = copy_bit (arg xs 0) (nat_abs (arg xs 1)) (arg xs 2)

  copy-answer : fixnum_answer v 34 args n ≡ answer (done (mod0 copied (pos (2 ^ v)), pos 0))
  unfolding results_of row_of rows
  copy-answer = done-answer v 34 args n d

  positive : 0 < v
  positive = omega (arith, width-bounds v d.stages.width)

  number : fits v (arg xs 0) ≡ true
  number = arg-fits v xs d.stages.fixnums 0

  slot : arg xs 0 ≡ arg args 0
  unfolding is_count row_of rows
  slot = arg-exactly args 3 n 0 d.stages.arity (lit< tt)

  tests : within (pos 0) (arg xs 1) (pos (v - 1)) && (within (pos 0) (arg xs 2) (pos 1) && true) ≡ true
  unfolding row_of rows in_domains domain_tests domain_tests_from accepts all_hold
  tests = d.stages.domains

  position : nat_abs (arg xs 1) ≤ v - 1
  position = (within-pos 0 (v - 1) (arg xs 1) (both_left (within (pos 0) (arg xs 1) (pos (v - 1))) _ tests)).2

  bit : testbit (arg xs 2) 0 ≡ eqb (nat_abs (arg xs 2)) 1
  bit = new-bit (arg xs 2) (both_left (within (pos 0) (arg xs 2) (pos 1)) true (both_right (within (pos 0) (arg xs 1) (pos (v - 1))) _ tests))

  kept : changes_sign v 34 xs ≡ false → fits v copied ≡ true
  unfolding changes_sign
  kept s =
      copy-fits v positive (arg xs 0) number (nat_abs (arg xs 1)) (arg xs 2) position
      (λ e. bit ∙ agrees _ (is_negative (arg xs 0)) (rw (eq-eqb (nat_abs (arg xs 1)) (v - 1) e) at s))

  moved : changes_sign v 34 xs ≡ true → copied ≡ same_side (arg xs 0) (v - 1)
  unfolding changes_sign
  moved s =
      let at_top = eqb-true (nat_abs (arg xs 1)) (v - 1) (both_left (eqb (nat_abs (arg xs 1)) (v - 1)) _ s) in
      ap (λ (k : ℕ). copy_bit (arg xs 0) k (arg xs 2)) at_top
      ∙ copy-sign (arg xs 0) (v - 1) (arg xs 2) (fits-mag v (arg xs 0) number)
      (bit ∙ differs _ (is_negative (arg xs 0)) (both_right (eqb (nat_abs (arg xs 1)) (v - 1)) _ s))

  pub copy-narrow : changes_sign v 34 xs ≡ true → fixnum_answer v 34 args n ≡ answer (done (other_side (arg args 0) (v - 1), pos 0))
  copy-narrow s =
      copy-answer
      ∙ done-cong (ap (λ (y : ℤ). mod0 y (pos (2 ^ v))) (moved s) ∙ wrapped v positive (arg xs 0) number ∙ ap (λ (x : ℤ). other_side x (v - 1)) slot) refl

module _ (v w : ℕ) (args : List ℤ) (n : ℕ) (l : v ≤ w) (d : Done v 34 args n) (e : Done w 34 args n) where
  pub copy-same : changes_sign v 34 (counted args n) ≡ false → fixnum_answer w 34 args n ≡ fixnum_answer v 34 args n
  copy-same s =
      let f = kept v args n d s in
      copy-answer w args n e
      ∙ done-cong (mod0-pow-same w _ (positive w args n e) (holds (wider-fits v w l _ f)) ∙ sym (mod0-pow-same v _ (positive v args n d) (holds f))) refl
      ∙ sym (copy-answer v args n d)

  pub copy-wide : v < w → changes_sign v 34 (counted args n) ≡ true → fixnum_answer w 34 args n ≡ answer (done (same_side (arg args 0) (v - 1), pos 0))
  copy-wide h s =
      copy-answer w args n e
      ∙ done-cong
      (ap (λ (y : ℤ). mod0 y (pos (2 ^ w))) (moved v args n d s)
      ∙ mod0-pow-same w (same_side (arg (counted args n) 0) (v - 1)) (positive w args n e)
      (holds (same-fits v w (arg (counted args n) 0) (positive v args n d) h (number v args n d)))
      ∙ ap (λ (x : ℤ). same_side x (v - 1)) (slot v args n d))
      refl
