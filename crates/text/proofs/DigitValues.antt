-- The digits of the library are those of the definitions. Assumes nothing.
use Prim.Native.Nat.{ℕ, ◌≤◌, ◌<◌}
use native.Mathlib.Omega.{arith}
use mathlib.Core.Path.{◌≡◌, refl, sym, ap, ◌∙◌}
use mathlib.Core.Bool.{Bool, true, false, cond}
use lib.Dec.{ltb}
use borrow.Author.Tests.{lt-ltb, le-ltb, ltb-false}
use Rattle.std.specs.Char.{digit_value}
use Rattle.std.specs.Prelude.{Option, Some, None, SomeIff, MatchOption, IsSomeAnd, unwrap_or}
use Rattle.std.proofs.lemmas.Bool.Decides.{nat_tests}
use Rattle.text.specs.Numerals.{digit, digit_of, between}

pub digit-library : (c : ℕ) → digit_value c < 16 → digit c ≡ digit_value c
unfolding digit between
digit-library c h = grind (arith, nat_tests)

pub digit-beyond : (c : ℕ) → 16 ≤ digit_value c → digit c ≡ 16
unfolding digit between
digit-beyond c h = grind (arith, nat_tests)

pub some-digit : (c : ℕ) → digit c < 16 → Some (digit c) ≡ digit_of c
unfolding digit_of
some-digit c h = sym (rw (lt-ltb (digit c) 16 h) refl)

pub no-digit : (c : ℕ) → digit c ≡ 16 → None ≡ digit_of c
unfolding digit_of
no-digit c h = sym (rw (le-ltb (digit c) 16 (omega (arith, h))) refl)

-- what the library's answer comes to
pub as_digit : (c : ℕ) (r q : Option ℕ) → SomeIff r (digit_value c < 16) (digit_value c) → MatchOption r (q ≡ None) (λ x. IsSomeAnd q (λ y. y ≡ x)) → q ≡ digit_of c
as_digit c None q h k = k ∙ no-digit c (digit-beyond c (omega (arith, h)))
as_digit c (Some x) None h k = absurd k
as_digit c (Some x) (Some y) h k =
    let d = digit-library c h.0 in
    ap Some (omega (arith, k, h.1, d)) ∙ some-digit c (omega (arith, d, h.0))

-- a digit that was found, or not
pub digit-found : (c : ℕ) {r : Option ℕ} {d : ℕ} → r ≡ digit_of c → r ≡ Some d → d ≡ digit c
unfolding digit_of
digit-found c {r} {d} e f = go (ltb (digit c) 16) (sym f ∙ e)
  where
    go : (t : Bool) → Some d ≡ cond t (Some (digit c)) None → d ≡ digit c
    go true g = cc
    go false g = let z : ◌≡◌ {A = ℕ} 0 1 = cc in absurd (omega arith)

pub digit-missed : (c : ℕ) {r : Option ℕ} → r ≡ digit_of c → r ≡ None → 16 ≤ digit c
unfolding digit_of
digit-missed c {r} e f = go (ltb (digit c) 16) refl (sym f ∙ e)
  where
    go : (t : Bool) → ltb (digit c) 16 ≡ t → None ≡ cond t (Some (digit c)) None → 16 ≤ digit c
    go true q g = let z : ◌≡◌ {A = ℕ} 0 1 = cc in absurd (omega arith)
    go false q g = ltb-false (digit c) 16 q

-- 16 stands for none
digit-most : (c : ℕ) → 16 ≤ digit c → digit c ≡ 16
unfolding digit between
digit-most c h = grind (arith, nat_tests)

pub digit_or : (c : ℕ) {r : Option ℕ} → r ≡ digit_of c → unwrap_or r 16 ≡ digit c
unfolding digit_of
digit_or c {r} e = ap (λ (o : Option ℕ). unwrap_or o 16) e ∙ go (ltb (digit c) 16) refl
  where
    go : (t : Bool) → ltb (digit c) 16 ≡ t → unwrap_or (cond t (Some (digit c)) None) 16 ≡ digit c
    go true q = refl
    go false q = sym (digit-most c (ltb-false (digit c) 16 q))
