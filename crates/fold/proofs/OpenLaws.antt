-- An open record: what its fields are, what code 40 and code 28 answer there, and that a byte leaves it open. Assumes nothing.
use Prim.Native.Nat.{ℕ, ◌-◌, ◌≤◌, ◌<◌, ◌^◌}
use native.Mathlib.Nat.{lt_of_lt_of_le}
use native.Mathlib.Omega.{arith}
use mathlib.Core.Path.{◌≡◌, refl, ap, ap₂, subst, ◌∙◌}
use mathlib.Core.Bool.{Bool, true, ◌&&◌, xor}
use mathlib.Core.List.{[], ◌∷◌}
use lib.Dec.{eqb}
use lib.IntN.{ℤ, pos, nat_abs}
use lib.Pow.{pow_mono}
use borrow.Author.Tests.{eqb-true, lt-ltb}
use Rattle.bits.specs.Testbit.{fits, fill}
use Rattle.bits.specs.Logical.{bitwise_xor, bitwise_all, bitwise_from, bitwise_xors}
use Rattle.bits.specs.Field.{rotate_bit_field}
use Rattle.bits.proofs.Algebra.{xor_zero_l}
use Rattle.bits.proofs.Booleans.{both_right}
use Rattle.bits.proofs.FitsLaws.{bitwise-fits}
use Rattle.bits.proofs.RangeLaws.{natural-pos}
use Rattle.outcomes.specs.Outcome.{done, guard, guard_at}
use Rattle.outcomes.specs.Tests.{all_hold, guard_each}
use Rattle.fxtable.specs.declared.answer.Answer.{Answer}
use Rattle.fxtable.specs.Domains.{is_width, arg, accepts, domain_at, domain_tests, domain_tests_from, in_domains}
use Rattle.fxtable.specs.Operations.{results_of}
use Rattle.fxtable.specs.Table.{rows, row_of, is_code}
use Rattle.fxtable.specs.Calls.{answer, counted, is_count, fixnum_tests, all_fixnums, checked, outcome, fixnum_answer, answer_of}
use Rattle.fxtable.proofs.CallLaws.{width-bounds}
use Rattle.fxstages.proofs.ArgumentLaws as arguments
use Rattle.fixnum_laws.proofs.AnswerLaws.{every-answer}
use Rattle.fixnum_laws.proofs.Closure.{results_fit}
use Rattle.fixnum_laws.proofs.WidthLaws.{Done, is-done, done-answer}
use Rattle.fold.specs.declared.Fold.{Fold}
use Rattle.fold.specs.Fold.{fields, settings, with_accumulator, rotation, is_open, xored, fold_byte}

-- the accumulator rotated, on the integers
abbrev pub rotated : Fold → ℤ
rotated f = rotate_bit_field f.accumulator (nat_abs f.start) (nat_abs f.end) f.count

-- of the stages of code 40, the code's and the count's always pass, and its result is never too large
pub rotation-stages : (f : Fold) → rotation f
    ≡ answer (guard (is_width f.width) 1 (guard_each (fixnum_tests f.width (fields f)) 4 (guard_each (domain_tests (row_of 40).domains f.width (fields f)) 5 (done (rotated f, pos 0)))))
unfolding rotation answer_of fixnum_answer counted is_code is_count row_of rows outcome checked results_of guard guard_at arg
rotation-stages f = refl

pub open_done : (f : Fold) → is_open f ≡ true → Done f.width 40 (fields f) 4
unfolding is_open rotation answer_of
open_done f h = is-done f.width 40 (fields f) 4 (eqb-true _ 0 h)

pub done-open : (f : Fold) → Done f.width 40 (fields f) 4 → is_open f ≡ true
unfolding is_open rotation answer_of answer
done-open f d = ap (λ (r : Answer). eqb r.refusal 0) (done-answer f.width 40 (fields f) 4 d)

pub open-width : (f : Fold) → is_open f ≡ true → is_width f.width ≡ true
open-width f h = (open_done f h).stages.width

pub record OpenField (f : Fold) : Type 0 where
  pub ordered : nat_abs f.start ≤ nat_abs f.end
  pub below : nat_abs f.end < f.width
  pub inside : nat_abs f.count ≤ nat_abs f.end - nat_abs f.start
  pub start_is : pos (nat_abs f.start) ≡ f.start
  pub end_is : pos (nat_abs f.end) ≡ f.end
  pub count-is : pos (nat_abs f.count) ≡ f.count
  pub fixnum : fits f.width f.accumulator ≡ true

pub open-field : (f : Fold) → is_open f ≡ true → OpenField f
unfolding rows row_of domain_at arg
open-field f h =
    let a = (open_done f h).stages in
    let p = arguments.field a refl refl in
    let c = arguments.rotation a p refl in
    record {
      ordered = p.ordered;
      below = arguments.end_lt a refl refl;
      inside = c.1;
      start_is = natural-pos f.start p.start;
      end_is = natural-pos f.end p.end;
      count-is = natural-pos f.count c.0;
      fixnum = arguments.fixnum-at a 0 (omega arith);
    }

pub open-rotation : (f : Fold) → is_open f ≡ true → rotation f ≡ answer (done (rotated f, pos 0))
unfolding rotation answer_of counted rows row_of results_of arg
open-rotation f h = done-answer f.width 40 (fields f) 4 (open_done f h)

rotated-fits : (f : Fold) → is_open f ≡ true → fits f.width (rotated f) ≡ true
unfolding rotation answer_of answer
rotated-fits f h =
    subst (λ (r : Answer). fits f.width r.first ≡ true) (open-rotation f h) (results_fit f.width 40 (fields f) 4).0

-- ---- the accumulator exchanged

pub open_at : (f : Fold) (a : ℤ) → is_open f ≡ true → fits f.width a ≡ true → is_open (with_accumulator f a) ≡ true
unfolding with_accumulator settings row_of rows counted all_fixnums fixnum_tests all_hold in_domains domain_tests domain_tests_from accepts arg
open_at f a h e =
    let d = open_done f h in
    let rest = fits f.width f.start && (fits f.width f.end && (fits f.width f.count && true)) in
    done-open (with_accumulator f a) (record {
      known = d.known;
      stages = record {
        width = d.stages.width;
        arity = d.stages.arity;
        fixnums = ap₂ ◌&&◌ e (both_right (fits f.width f.accumulator) rest d.stages.fixnums);
        domains = d.stages.domains;
      };
      sized = refl;
    })

pub open-xor : (f : Fold) → is_open f ≡ true → (x y : ℤ) → fits f.width x ≡ true → fits f.width y ≡ true
    → answer_of f.width 28 (x ∷ y ∷ []) ≡ answer (done (bitwise_xor x y, pos 0))
unfolding is_code row_of rows bitwise_xors bitwise_xor bitwise_all bitwise_from fill all_fixnums fixnum_tests all_hold
open-xor f h x y d e =
    every-answer f.width (open-width f h) 28 bitwise_xors refl refl (x ∷ y ∷ []) (omega arith) (ap₂ (λ (s t : Bool). s && (t && true)) d e)
    ∙ ap (λ (z : ℤ). answer (done (bitwise_xor z y, pos 0))) (xor_zero_l x)

-- ---- a byte

module _ (f : Fold) (h : is_open f ≡ true) (b : ℕ) (l : b < 256) where
  pub byte_fits : fits f.width (pos b) ≡ true
  unfolding fits
  byte_fits = lt-ltb b (2 ^ (f.width - 1)) (lt_of_lt_of_le l (pow_mono {i = 8} (omega (arith, width-bounds f.width (open-width f h)))))

  pub fold_byte-is : fold_byte f b ≡ with_accumulator f (bitwise_xor (rotated f) (pos b))
  unfolding fold_byte xored answer
  fold_byte-is =
      ap (λ (r : Answer). with_accumulator f (xored f.width r.first (pos b))) (open-rotation f h)
      ∙ ap (λ (r : Answer). with_accumulator f r.first) (open-xor f h (rotated f) (pos b) (rotated-fits f h) byte_fits)

  pub open-byte : is_open (fold_byte f b) ≡ true
  unfolding bitwise_xor
  open-byte =
      ap is_open fold_byte-is
      ∙ open_at f (bitwise_xor (rotated f) (pos b)) h
      (bitwise-fits f.width (omega (arith, width-bounds f.width (open-width f h))) xor (rotated f) (pos b) (rotated-fits f h) byte_fits)
