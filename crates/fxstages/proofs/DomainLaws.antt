-- The domains of a code's arguments, one by one. Assumes nothing.
use Prim.Native.Nat.{ℕ, zero, suc, zero-le, ◌-◌, ◌≤◌}
use native.Mathlib.Nat.{le_trans, lt_of_le_of_lt, le-suc, sub-le}
use native.Mathlib.Omega.{arith}
use mathlib.Core.Path.{◌≡◌, refl, sym, ap, ◌∙◌, subst}
use mathlib.Core.Bool.{Bool, true, false, ◌&&◌, ◌||◌}
use mathlib.Core.List.{List, [], ◌∷◌}
use lib.Dec.{T, leb, eqb}
use lib.IntN.{ℤ, pos, negsuc, neg_ℤ, ◌-ℤ◌, +ℤ_idl}
use lib.ListN.{length, get_or}
use lib.Signed.{mag, le_z}
use mir.Syntax.{w64}
use mir.Val.{SFits, to_z, of_z}
use borrow.Author.Tests.{leb-true, eqb-true}
use Rattle.bits.specs.Range.{within}
use Rattle.bits.proofs.Booleans.{both_left, both_right}
use Rattle.bits.proofs.IntegerLaws.{pos-sub-ge}
use Rattle.outcomes.specs.Tests.{all_hold, first_failed}
use Rattle.outcomes.proofs.TestLaws.{all_hold-first_failed, four-tests}
use Rattle.words.proofs.WordLaws.{back}
use Rattle.fxtable.specs.declared.domains.Domain.{Domain}
use Rattle.fxtable.specs.declared.domains.Domain.TheVariants.{Fixnum, Divisor, Position, FieldEnd, NewBit, SignedDistance, Distance, Rotation}
use Rattle.fxtable.specs.declared.table.Signature.{Signature}
use Rattle.fxtable.specs.Domains.{is_width, arg, accepts, domain_at, domain_tests, in_domains}
use Rattle.fxtable.specs.Table.{rows, no_row, row_of, signature_of}
use Rattle.fxtable.specs.Calls.{counted, is_count}
use Rattle.fxtable.proofs.CallLaws.{between, width-bounds, arg-counted}
use Rattle.fxtable.proofs.TableLaws.{of_row, at-most-four}
use Rattle.fxtable.proofs.ArgumentTests.{domain-test, domain-tests-length}

-- ---- what every row keeps

-- how many arguments the test of argument i looks at
abbrev reads : Domain → ℕ → ℕ
reads Fixnum i = 0
reads Divisor i = suc i
reads Position i = suc i
reads FieldEnd i = suc i
reads NewBit i = suc i
reads SignedDistance i = suc i
reads Distance i = suc i
reads Rotation i = 4

-- a domain told from the others
abbrev number : Domain → ℕ
number Fixnum = 0
number Divisor = 1
number Position = 2
number FieldEnd = 3
number NewBit = 4
number SignedDistance = 5
number Distance = 6
number Rotation = 7

abbrev numbered : ℕ → Domain
numbered k = get_or (Fixnum ∷ Divisor ∷ Position ∷ FieldEnd ∷ NewBit ∷ SignedDistance ∷ Distance ∷ Rotation ∷ []) k Fixnum

same : (d : Domain) → numbered (number d) ≡ d
same Fixnum = refl
same Divisor = refl
same Position = refl
same FieldEnd = refl
same NewBit = refl
same SignedDistance = refl
same Distance = refl
same Rotation = refl

told : (d : Domain) (k : ℕ) → eqb (number d) k ≡ true → d ≡ numbered k
told d k h = sym (same d) ∙ ap numbered (eqb-true (number d) k h)

abbrev pub domain_of : ℕ → ℕ → Domain
domain_of code i = domain_at (row_of code).domains i

module _ (code : ℕ) where
  -- the first argument may be any fixnum
  first-free : domain_of code 0 ≡ Fixnum
  unfolding rows no_row domain_at
  first-free = told _ 0 (of_row (λ r. eqb (number (domain_at r.domains 0)) 0) refl refl code)

  -- a code has no more domains than arguments
  pub few-domains : length (row_of code).domains ≤ (row_of code).least
  unfolding rows no_row
  few-domains = leb-true _ _ (of_row (λ r. leb (length r.domains) r.least) refl refl code)

  -- a test looks at no argument past the least count
  looks : (reads (domain_of code 1) 1 ≤ (row_of code).least) × (reads (domain_of code 2) 2 ≤ (row_of code).least) × (reads (domain_of code 3) 3 ≤ (row_of code).least)
  unfolding rows no_row domain_at
  looks = (
    leb-true _ _ (of_row (λ r. leb (reads (domain_at r.domains 1) 1) r.least) refl refl code),
    leb-true _ _ (of_row (λ r. leb (reads (domain_at r.domains 2) 2) r.least) refl refl code),
    leb-true _ _ (of_row (λ r. leb (reads (domain_at r.domains 3) 3) r.least) refl refl code),
  )

  -- a rotation's count is the fourth argument, behind a start and an end
  not-second : domain_of code 1 ≡ Rotation → ⊥
  unfolding rows no_row domain_at
  not-second e =
      let l : number (domain_of code 1) ≤ 6 = leb-true _ 6 (of_row (λ r. leb (number (domain_at r.domains 1)) 6) refl refl code) in
      let k : number (domain_of code 1) ≡ 7 = ap number e in
      omega arith

  not_third : domain_of code 2 ≡ Rotation → ⊥
  unfolding rows no_row domain_at
  not_third e =
      let l : number (domain_of code 2) ≤ 6 = leb-true _ 6 (of_row (λ r. leb (number (domain_at r.domains 2)) 6) refl refl code) in
      let k : number (domain_of code 2) ≡ 7 = ap number e in
      omega arith

  field-before : domain_of code 3 ≡ Rotation → (domain_of code 1 ≡ Position) × (domain_of code 2 ≡ FieldEnd)
  unfolding rows no_row domain_at
  field-before e =
      let h : (leb (number (domain_of code 3)) 6 || (eqb (number (domain_of code 1)) 2 && eqb (number (domain_of code 2)) 3)) ≡ true =
      of_row (λ r. leb (number (domain_at r.domains 3)) 6 || (eqb (number (domain_at r.domains 1)) 2 && eqb (number (domain_at r.domains 2)) 3)) refl refl code in
      let k = rw e at h in
      (told _ 2 (both_left _ _ k), told _ 3 (both_right (eqb (number (domain_of code 1)) 2) _ k))

-- ---- the domains, one by one

-- the first argument that fails, from the tests of arguments 1 to 3
abbrev pub failed_of : Bool → Bool → Bool → ℕ
failed_of a b c = first_failed (true ∷ a ∷ b ∷ c ∷ [])

spelled : (w : ℕ) (ys : List ℤ) (ds : List Domain) → domain_at ds 0 ≡ Fixnum → length ds ≤ 4
    → first_failed (domain_tests ds w ys)
    ≡ failed_of (accepts (domain_at ds 1) w ys (arg ys 1)) (accepts (domain_at ds 2) w ys (arg ys 2)) (accepts (domain_at ds 3) w ys (arg ys 3))
unfolding accepts
spelled w ys ds e h =
    let test = domain-test w ys ds in
    let free : get_or (domain_tests ds w ys) 0 true ≡ true = test 0 ∙ ap (λ (d : Domain). accepts d w ys (arg ys 0)) e in
    four-tests (domain_tests ds w ys) (omega (arith, domain-tests-length w ys ds, h)) ∙ cc (free, test 1, test 2, test 3)

module _ (w : ℕ) (xs : List ℤ) (n : ℕ) where
  -- a test of counted arguments is one of the slots
  slot : (d : Domain) (i : ℕ) → 1 ≤ i → i ≤ 3 → reads d i ≤ n → accepts d w (counted xs n) (arg (counted xs n) i) ≡ accepts d w xs (arg xs i)
  unfolding accepts
  slot Fixnum i l u h = refl
  slot Divisor i l u h = rw (arg-counted xs n i h)
  slot Position i l u h = rw (arg-counted xs n i h)
  slot FieldEnd i l u h = rw (arg-counted xs n i h, arg-counted xs n 1 (omega arith))
  slot NewBit i l u h = rw (arg-counted xs n i h)
  slot SignedDistance i l u h = rw (arg-counted xs n i h)
  slot Distance i l u h = rw (arg-counted xs n i h)
  slot Rotation i l u h = rw (arg-counted xs n i (omega arith), arg-counted xs n 1 (omega arith), arg-counted xs n 2 (omega arith))

  module _ (code : ℕ) (a : is_count code n ≡ true) where
    enough : (row_of code).least ≤ n
    unfolding is_count
    enough = (between (row_of code).least n (row_of code).most a).0

    abbrev lies : ℕ → Bool
    lies i = accepts (domain_of code i) w xs (arg xs i)

    failed-domain : first_failed (domain_tests (row_of code).domains w (counted xs n)) ≡ failed_of (lies 1) (lies 2) (lies 3)
    failed-domain =
        let r = looks code in
        let r1 = le_trans r.0 enough in
        let r2 = le_trans r.1 enough in
        let r3 = le_trans r.2 enough in
        spelled w (counted xs n) (row_of code).domains (first-free code) (le_trans (few-domains code) (le_trans enough (at-most-four code n a)))
        ∙ cc (slot (domain_of code 1) 1 (omega arith) (omega arith) r1, slot (domain_of code 2) 2 (omega arith) (omega arith) r2, slot (domain_of code 3) 3 (omega arith) (omega arith) r3)

    pub in-domains : in_domains (row_of code).domains w (counted xs n) ≡ all_hold (lies 1 ∷ lies 2 ∷ lies 3 ∷ [])
    unfolding in_domains all_hold
    in-domains =
        all_hold-first_failed (domain_tests (row_of code).domains w (counted xs n))
        ∙ ap (λ (p : ℕ). eqb p 0) failed-domain
        ∙ sym (all_hold-first_failed (true ∷ lies 1 ∷ lies 2 ∷ lies 3 ∷ []))

-- ---- the same, of a signature

module _ (code : ℕ) {s : Signature} (e : s ≡ signature_of code) where
  second_is : s.second ≡ domain_of code 1
  unfolding signature_of
  second_is = ap (λ (r : Signature). r.second) e

  third-is : s.third ≡ domain_of code 2
  unfolding signature_of
  third-is = ap (λ (r : Signature). r.third) e

  fourth-is : s.fourth ≡ domain_of code 3
  unfolding signature_of
  fourth-is = ap (λ (r : Signature). r.fourth) e

  pub signature-domains : (w : ℕ) (xs : List ℤ) (n : ℕ) → is_count code n ≡ true
      → first_failed (domain_tests (row_of code).domains w (counted xs n))
      ≡ failed_of (accepts s.second w xs (arg xs 1)) (accepts s.third w xs (arg xs 2)) (accepts s.fourth w xs (arg xs 3))
  signature-domains w xs n a = failed-domain w xs n code a ∙ cc (second_is, third-is, fourth-is)

  -- a rotation's count is the fourth argument, behind a start and an end that are in order
  pub no_second : s.second ≡ Rotation → ⊥
  no_second r = not-second code (sym second_is ∙ r)

  pub no_third : s.third ≡ Rotation → ⊥
  no_third r = not_third code (sym third-is ∙ r)

  pub in_order : (w : ℕ) (xs : List ℤ) → accepts s.second w xs (arg xs 1) ≡ true → accepts s.third w xs (arg xs 2) ≡ true
      → s.fourth ≡ Rotation → within (pos 0) (arg xs 1) (arg xs 2) ≡ true
  unfolding accepts within
  in_order w xs h k r =
      let f = field-before code (sym fourth-is ∙ r) in
      let start = subst (λ (d : Domain). accepts d w xs (arg xs 1) ≡ true) (second_is ∙ f.0) h in
      let end = subst (λ (d : Domain). accepts d w xs (arg xs 2) ≡ true) (third-is ∙ f.1) k in
      rw (both_left (le_z (pos 0) (arg xs 1)) (le_z (arg xs 1) (pos (w - 1))) start, both_left (le_z (arg xs 1) (arg xs 2)) (le_z (arg xs 2) (pos (w - 1))) end)

-- ---- as words

-- the size of a field whose positions are words
pub field-size : (s e : ℤ) → within (pos 0) s e ≡ true → SFits w64 e → SFits w64 (e -ℤ s)
unfolding within
field-size (pos a) (pos b) h f =
    subst (λ (z : ℤ). SFits w64 z) (sym (pos-sub-ge b a (between 0 a b h).1)) (record { sfits = lt_of_le_of_lt (sub-le b a) f.sfits })
field-size (pos a) (negsuc b) h f = absurd (subst T (sym (both_right (leb 0 a) false h)) tt)
field-size (negsuc a) e h f = let z : ◌≡◌ {A = ℕ} 0 1 = cc in absurd (omega arith)

-- 0 - (w - 1), as a word
zero-sub : (n : ℕ) → pos 0 -ℤ pos n ≡ neg_ℤ (pos n)
zero-sub n = +ℤ_idl (neg_ℤ (pos n))

mag-neg_ℤ : (n : ℕ) → mag (neg_ℤ (pos n)) ≤ n
mag-neg_ℤ zero = zero-le
mag-neg_ℤ (suc n) = le-suc n

pub negated-last : (w : ℕ) → is_width w ≡ true
    → (to_z w64 (of_z w64 (pos 0 -ℤ pos (w - 1))) ≡ neg_ℤ (pos (w - 1))) × SFits w64 (pos 0 -ℤ pos (w - 1))
negated-last w h =
    let b = width-bounds w h in
    let f : SFits w64 (pos 0 -ℤ pos (w - 1)) =
    rw (zero-sub (w - 1)) (record { sfits = lt_of_le_of_lt (mag-neg_ℤ (w - 1)) (omega arith) }) in
    (back f ∙ zero-sub (w - 1), f)
