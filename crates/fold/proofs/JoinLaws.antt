-- A piece that is joined to an open record: what the code does, by the answers of codes 40 and 28. Assumes nothing.
use Prim.Native.Nat.{ℕ, ◌*◌, ◌-◌, ◌≤◌}
use native.Mathlib.Omega.{arith}
use mathlib.Core.Path.{◌≡◌, refl, ap, subst₂, ◌∙◌}
use mathlib.Core.Bool.{true, false, xor}
use mathlib.Core.List.{[], ◌∷◌}
use lib.IntN.{ℤ, pos, nat_abs}
use Rattle.bits.specs.Testbit.{fits}
use Rattle.bits.specs.Logical.{bitwise_xor}
use Rattle.bits.specs.Field.{permute_field, rotate_bit_field}
use Rattle.bits.proofs.FitsLaws.{bitwise-fits, set_field-fits}
use Rattle.bits.proofs.RotationCounts.{reduced-le}
use Rattle.outcomes.specs.Outcome.{refused, done, guard_at}
use Rattle.outcomes.specs.Tests.{all_hold, first_failed_from, first_failed, guard_each}
use Rattle.outcomes.proofs.OutcomeLaws.{passed}
use Rattle.fxtable.specs.declared.answer.Answer.{Answer}
use Rattle.fxtable.specs.Table.{rows, is_code, row_of}
use Rattle.fxtable.specs.Calls.{answer, counted, is_count, fixnum_tests, fixnum_answer, answer_of}
use Rattle.fxtable.proofs.CallLaws.{width-bounds}
use Rattle.fixnum_laws.proofs.AnswerLaws.{count-done, rotate-answer}
use Rattle.fold.specs.declared.Fold.{Fold}
use Rattle.fold.specs.Fold.{with_accumulator, is_open}
use Rattle.fold.specs.Calls.{after, net_count, joined, joining}
use Rattle.fold.proofs.OpenLaws.{open-width, open-field, open-xor}

module _ (f : Fold) where
  abbrev pub rotated_by : ℕ → ℤ
  rotated_by c = rotate_bit_field f.accumulator (nat_abs f.start) (nat_abs f.end) (pos c)

  pub net-le : (n : ℕ) → net_count f n ≤ nat_abs f.end - nat_abs f.start
  unfolding net_count
  net-le n = reduced-le (nat_abs f.count * n) (nat_abs f.end - nat_abs f.start) refl

  module _ (h : is_open f ≡ true) where
    -- the rotation by another count of the field
    other-count : (c : ℕ) → c ≤ nat_abs f.end - nat_abs f.start
        → answer_of f.width 40 (f.accumulator ∷ f.start ∷ f.end ∷ pos c ∷ []) ≡ answer (done (rotated_by c, pos 0))
    other-count c l =
        let o = open-field f h in
        let s = nat_abs f.start in
        let e = nat_abs f.end in
        subst₂ (λ (x y : ℤ). answer_of f.width 40 (f.accumulator ∷ x ∷ y ∷ pos c ∷ []) ≡ answer (done (rotated_by c, pos 0)))
        o.start_is o.end_is
        (rotate-answer f.width (open-width f h) f.accumulator s e o.fixnum o.ordered (omega (arith, o.below)) (pos c)
        (count-done f.width s e o.ordered c l))

    other_fits : (c : ℕ) → fits f.width (rotated_by c) ≡ true
    unfolding rotate_bit_field permute_field
    other_fits c =
        let o = open-field f h in
        set_field-fits f.width (omega (arith, o.below)) f.accumulator (nat_abs f.start) (nat_abs f.end) (omega (arith, o.below)) _ o.fixnum

    -- the accumulator rotated by another count, and xored with a fixnum
    pub joined-fits : (c : ℕ) (y : ℤ) → fits f.width y ≡ true → fits f.width (bitwise_xor (rotated_by c) y) ≡ true
    unfolding bitwise_xor
    joined-fits c y k = bitwise-fits f.width (omega (arith, width-bounds f.width (open-width f h))) xor (rotated_by c) y (other_fits c) k

    -- code 28 where its second argument is no fixnum
    second-no-fixnum : (x y : ℤ) → fits f.width x ≡ true → fits f.width y ≡ false → answer_of f.width 28 (x ∷ y ∷ []) ≡ answer (refused 4 2)
    unfolding answer_of fixnum_answer counted is_code is_count row_of rows fixnum_tests guard_each guard_at all_hold first_failed first_failed_from
    second-no-fixnum x y p q = ap answer (passed 1 _ (open-width f h) ∙ passed 2 _ refl ∙ passed 3 _ refl ∙ rw (p, q) refl)

    joined-first : (piece : ℤ) (n : ℕ) → joined f piece n ≡ answer_of f.width 28 (rotated_by (net_count f n) ∷ piece ∷ [])
    unfolding joined answer
    joined-first piece n = ap (λ (r : Answer). answer_of f.width 28 (r.first ∷ piece ∷ [])) (other-count (net_count f n) (net-le n))

    pub joining-open : (piece : ℤ) (n : ℕ) → fits f.width piece ≡ true
        → joining f piece n ≡ after 0 (with_accumulator f (bitwise_xor (rotated_by (net_count f n)) piece))
    unfolding joining answer
    joining-open piece n k = rw (h, joined-first piece n ∙ open-xor f h (rotated_by (net_count f n)) piece (other_fits (net_count f n)) k)

    pub joining-no-fixnum : (piece : ℤ) (n : ℕ) → fits f.width piece ≡ false → joining f piece n ≡ after 4 f
    unfolding joining answer
    joining-no-fixnum piece n k = rw (h, joined-first piece n ∙ second-no-fixnum (rotated_by (net_count f n)) piece (other_fits (net_count f n)) k)
