-- `fold::record::first_outside` meets its contract. Assumes nothing.
use native.Mathlib.Omega.{arith}
use Prim.Native.Nat.{ℕ, ◌-◌, ◌<◌, ◌^◌}
use mathlib.Core.Path.{◌≡◌, refl, sym, ap, ◌∙◌}
use mathlib.Core.Bool.{Bool, true}
use mathlib.Core.List.{[], ◌∷◌}
use lib.IntN.{pos, ◌-ℤ◌}
use mir.Syntax.{w64}
use lib.Signed.{le_z, mag}
use mir.Val.{SFits, to_z, of_z}
use mir.ValLaws.{to_z_pos}
use Rattle.bits.specs.Range.{within}
use Rattle.bits.proofs.Booleans.{both_left}
use Rattle.words.proofs.WordLaws.{back, back-word}
use Rattle.outcomes.specs.Tests.{first_failed, first_failed_from}
use Rattle.fxtable.specs.Domains.{is_width, arg, accepts, domain_tests_from, domain_tests}
use Rattle.fxtable.specs.Table.{rows, row_of}
use Rattle.fxtable.proofs.CallLaws.{width-bounds}
use Rattle.fxstages.proofs.DomainLaws.{field-size}
use Rattle.fold.specs.declared.Fold.{Fold}
use Rattle.fold.specs.Fold.{fields}
use Rattle.fold.proofs.record.first_outside.Goals as goal

pub overflow_sub-last : goal.overflow_sub-last
overflow_sub-last c = let b = width-bounds c.args.f.width c.requires in omega arith

pub overflow_cast-last : goal.overflow_cast-last
overflow_cast-last c = let b = width-bounds c.args.f.width c.requires in record { sfits = omega arith }

-- the last position, as a word
last : (width : ℕ) → is_width width ≡ true → to_z w64 (width - 1) ≡ pos (width - 1)
last width h = let b = width-bounds width h in to_z_pos w64 (width - 1) (omega arith)

-- the three tests
module _ (f : Fold) where
  abbrev starts : Bool
  starts = within (pos 0) f.start (pos (f.width - 1))

  abbrev ends : Bool
  ends = within f.start f.end (pos (f.width - 1))

  abbrev counts : Bool
  counts = within (pos 0) f.count (f.end -ℤ f.start)

  first_of : {a b d : Bool} → starts ≡ a → ends ≡ b → counts ≡ d → first_failed (domain_tests (row_of 40).domains f.width (fields f)) ≡ first_failed (true ∷ a ∷ b ∷ d ∷ [])
  unfolding row_of rows domain_tests domain_tests_from accepts arg
  first_of p q r = rw (p, q, r) refl

-- the same tests, of the record's fields as words
module _ (f : Fold) (w : is_width f.width ≡ true) (s : mag f.start < 2 ^ 63) (e : mag f.end < 2 ^ 63) where
  start_test : {b : Bool} → b ≡ within (pos 0) (to_z w64 (of_z w64 f.start)) (to_z w64 (f.width - 1)) → starts f ≡ b
  start_test h = sym (rw (back-word f.start s, last f.width w) at h)

  end_test : {b : Bool} → b ≡ within (to_z w64 (of_z w64 f.start)) (to_z w64 (of_z w64 f.end)) (to_z w64 (f.width - 1)) → ends f ≡ b
  end_test h = sym (rw (back-word f.start s, back-word f.end e, last f.width w) at h)

  -- the size of a field whose ends are in order is a word
  size_word : starts f ≡ true → ends f ≡ true → SFits w64 (f.end -ℤ f.start)
  unfolding within
  size_word p q = field-size f.start f.end (rw (both_left (le_z (pos 0) f.start) _ p, both_left (le_z f.start f.end) _ q)) (record { sfits = e })

  count-test : mag f.count < 2 ^ 63 → starts f ≡ true → ends f ≡ true → {b : Bool}
      → b ≡ within (pos 0) (to_z w64 (of_z w64 f.count)) (to_z w64 (of_z w64 (to_z w64 (of_z w64 f.end) -ℤ to_z w64 (of_z w64 f.start)))) → counts f ≡ b
  count-test n p q h = sym ((rw (back-word f.start s, back-word f.end e, back-word f.count n) at h) ∙ ap (within (pos 0) f.count) (back (size_word p q)))

pub overflow_sub-f : goal.overflow_sub-f
overflow_sub-f c =
    let f = c.args.f in
    let s : mag f.start < 2 ^ 63 = omega arith in
    let e : mag f.end < 2 ^ 63 = omega arith in
    rw (back-word f.start s, back-word f.end e)
    (size_word f c.requires s e (start_test f c.requires s e c.within.ensures ∙ c.if-not-within.false) (end_test f c.requires s e c.within-2.ensures ∙ c.if-not-within-2.false))

pub returns-then-not-within-clause-some : goal.returns-then-not-within-clause-some
unfolding first_failed first_failed_from
returns-then-not-within-clause-some c =
    (first_of c.args.f (start_test c.args.f c.requires (omega arith) (omega arith) c.within.ensures ∙ c.if-not-within.true) refl refl, omega arith)

pub returns-then-not-within-2-clause-some : goal.returns-then-not-within-2-clause-some
unfolding first_failed first_failed_from
returns-then-not-within-2-clause-some c =
    let f = c.args.f in
    let s : mag f.start < 2 ^ 63 = omega arith in
    let e : mag f.end < 2 ^ 63 = omega arith in
    (first_of f (start_test f c.requires s e c.within.ensures ∙ c.if-not-within.false) (end_test f c.requires s e c.within-2.ensures ∙ c.if-not-within-2.true) refl, omega arith)

pub returns-then-not-within-3-clause-some : goal.returns-then-not-within-3-clause-some
unfolding first_failed first_failed_from
returns-then-not-within-3-clause-some c =
    let f = c.args.f in
    let s : mag f.start < 2 ^ 63 = omega arith in
    let e : mag f.end < 2 ^ 63 = omega arith in
    let p = start_test f c.requires s e c.within.ensures ∙ c.if-not-within.false in
    let q = end_test f c.requires s e c.within-2.ensures ∙ c.if-not-within-2.false in
    (first_of f p q (count-test f c.requires s e (omega arith) p q c.within-3.ensures ∙ c.if-not-within-3.true), omega arith)

pub returns-clause-none : goal.returns-clause-none
unfolding first_failed first_failed_from
returns-clause-none c =
    let f = c.args.f in
    let s : mag f.start < 2 ^ 63 = omega arith in
    let e : mag f.end < 2 ^ 63 = omega arith in
    let p = start_test f c.requires s e c.within.ensures ∙ c.if-not-within.false in
    let q = end_test f c.requires s e c.within-2.ensures ∙ c.if-not-within-2.false in
    first_of f p q (count-test f c.requires s e (omega arith) p q c.within-3.ensures ∙ c.if-not-within-3.false)
