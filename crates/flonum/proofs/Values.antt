-- Comparisons of flonums by their values, the flonums below 2 ^ 52, and what a finite flonum fits in. Assumes nothing.
use Rattle.std.proofs.Common.{◌≡◌, ℕ, ◌+◌, ◌-◌, ◌*◌, ◌/◌, ◌%◌, ◌^◌, ◌<◌, ◌≤◌, min, Bool, true, false, not, ◌&&◌, T, eqb, ltb, leb, ℤ, pos, sym, refl, subst, true≢false, div-lt_iff_lt-mul, lt_of_not-le, mul-one, not-le_of_lt, arith, ltb→lt, lt→ltb, leb→le}
use lib.Ieee.{Float, nan, inf, fin, up, down, lt, to_unsigned}
use lib.Ieee.Exact.{HasValue}
use lib.Ieee.Fits.{down_pos, and_l, and_r}
use lib.Ieee.Order.{transfer}
use lib.Ieee.Positive.{num, den, den_pos}
use Rattle.flonum.specs.Rounding.{Small}

-- a test of the code that was taken, or left
pub holds : {t : Bool} → t ≡ true → T t
holds h = subst T (sym h) tt

pub fails : {t : Bool} → t ≡ false → T (not t)
fails h = subst (λ (b : Bool). T (not b)) (sym h) tt

pub same_test : (a b : Bool) → (T a → T b) → (T b → T a) → a ≡ b
same_test true true p q = refl
same_test true false p q = absurd (p tt)
same_test false true p q = absurd (q tt)
same_test false false p q = refl

-- p / c < r / d, cross multiplied
pub lt-values : (x y : Float) (p c r d : ℕ) → 0 < c → 0 < d → HasValue x false p c → HasValue y false r d → lt x y ≡ ltb (p * d) (r * c)
unfolding lt
lt-values nan y p c r d C D v w = absurd v
lt-values (inf s) y p c r d C D v w = absurd v
lt-values (fin true m e) y p c r d C D v w = absurd (true≢false v.0)
lt-values (fin false m e) nan p c r d C D v w = absurd w
lt-values (fin false m e) (inf t) p c r d C D v w = absurd w
lt-values (fin false m e) (fin true n g) p c r d C D v w = absurd (true≢false w.0)
lt-values (fin false m e) (fin false n g) p c r d C D v w =
    same_test (ltb (m * up e * down g) (n * up g * down e)) (ltb (p * d) (r * c))
    (λ t. lt→ltb (p * d) (r * c)
    (lt_of_not-le (λ (h : r * c ≤ p * d). not-le_of_lt (ltb→lt (m * up e * down g) (n * up g * down e) t)
    (transfer (n * up g) (m * up e) (down g) (down e) r p d c D C w.1 v.1 h))))
    (λ t. lt→ltb (m * up e * down g) (n * up g * down e)
    (lt_of_not-le (λ (h : n * up g * down e ≤ m * up e * down g). not-le_of_lt (ltb→lt (p * d) (r * c) t)
    (transfer r p d c (n * up g) (m * up e) (down g) (down e) (down_pos g) (down_pos e) (sym w.1) (sym v.1) h))))

-- what `Small` says
pub record Parts (a : Float) : Type 0 where
  pub above : 0 < num a
  pub below : num a < 2 ^ 52 * den a
  pub value : HasValue a false (num a) (den a)

first_pos : (n u v : ℕ) → 0 * u * v < n * 1 → 0 < n
first_pos n u v h = omega (arith, mul-one n)

under : (n d : ℕ) → n * 1 < 1 * 2 ^ 52 * d → n < 2 ^ 52 * d
under n d h = omega (arith, mul-one n)

pub parts : (a : Float) → Small a → Parts a
unfolding lt
parts nan s = absurd s.0
parts (inf true) s = absurd s.0
parts (inf false) s = absurd s.1
parts (fin true m e) s = absurd s.0
parts (fin false m e) s = record {
  above = first_pos (m * up e) 1 (down e) (ltb→lt (0 * 1 * down e) (m * up e * 1) s.0);
  below = under (m * up e) (down e) (ltb→lt (m * up e * 1) (1 * 2 ^ 52 * down e) s.1);
  value = (refl, refl);
}

-- what `truncating_f64_to_u64` requires and ensures, at such an a
pub above_minus_one : (a : Float) → Small a → T (lt (fin true 1 (pos 0)) a)
unfolding lt
above_minus_one nan s = absurd s.0
above_minus_one (inf true) s = absurd s.0
above_minus_one (inf false) s = tt
above_minus_one (fin true m e) s = absurd s.0
above_minus_one (fin false m e) s = lt→ltb 0 (1 * 1 * down e + m * up e * 1) (let h : 0 < down e = down_pos e in omega arith)

pub below-2-64 : (a : Float) → Small a → T (lt a (fin false 1 (pos 64)))
unfolding lt
below-2-64 nan s = absurd s.0
below-2-64 (inf true) s = absurd s.0
below-2-64 (inf false) s = absurd s.1
below-2-64 (fin true m e) s = absurd s.0
below-2-64 (fin false m e) s = lt→ltb (m * up e * 1) (1 * 2 ^ 64 * down e) (let h : m * up e * 1 < 1 * 2 ^ 52 * down e = ltb→lt (m * up e * 1) (1 * 2 ^ 52 * down e) s.1 in omega arith)

uncapped : (q : ℕ) → q < 2 ^ 52 → min q (2 ^ 64 - 1) ≡ q
uncapped q h = omega arith

pub whole-lt : (a : Float) → Small a → num a / den a < 2 ^ 52
whole-lt a s = (div-lt_iff_lt-mul (den_pos a)).1 (parts a s).below

pub truncated : (a : Float) → Small a → to_unsigned 64 a ≡ num a / den a
unfolding lt to_unsigned
truncated nan s = absurd s.0
truncated (inf true) s = absurd s.0
truncated (inf false) s = absurd s.1
truncated (fin true m e) s = absurd s.0
truncated (fin false m e) s = uncapped (m * up e / down e) (whole-lt (fin false m e) s)

-- the tests of `fits` for m > 0: an odd m, its digits, and the two ends of the exponent
module _ (m : ℕ) (e : ℤ) (h : T (eqb (m % 2) 1 && ltb m (2 ^ 53) && leb (down e) (2 ^ 1074) && ltb (m * up e) (2 ^ 1024 * down e))) where
  abbrev size-test : Bool
  size-test = eqb (m % 2) 1 && ltb m (2 ^ 53)

  before : T (size-test && leb (down e) (2 ^ 1074))
  before = and_l (size-test && leb (down e) (2 ^ 1074)) (ltb (m * up e) (2 ^ 1024 * down e)) h

  pub few-of : m < 2 ^ 53
  few-of = ltb→lt m (2 ^ 53) (and_r (eqb (m % 2) 1) (ltb m (2 ^ 53)) (and_l size-test (leb (down e) (2 ^ 1074)) before))

  pub fine_of : down e ≤ 2 ^ 1074
  fine_of = leb→le (down e) (2 ^ 1074) (and_r size-test (leb (down e) (2 ^ 1074)) before)

  pub under_of : m * up e < 2 ^ 1024 * down e
  under_of = ltb→lt (m * up e) (2 ^ 1024 * down e) (and_r (size-test && leb (down e) (2 ^ 1074)) (ltb (m * up e) (2 ^ 1024 * down e)) h)
