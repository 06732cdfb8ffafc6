-- Distances of flonums from an integer, as natural numbers: with the sign and the magnitude of each, and in units of 2 ^ -1074. Assumes nothing.
use Prim.Native.Nat.{ℕ, zero, suc, ◌+◌, ◌*◌, ◌^◌, ◌-◌, ◌≤◌, ◌<◌}
use native.Mathlib.Nat.{add-mul, le_trans, le_of_eq, le_of_mul-le-mul_right, eq_of_mul-eq-mul_right, mul-one, zero-mul, mul_assoc, mul_comm, mul_right_comm, mul-le-mul_right, mul-sub}
use native.Mathlib.Omega.{arith}
use mathlib.Core.Path.{◌≡◌, refl, sym, ap, ap₂, ◌∙◌}
use mathlib.Core.Logic.{inl, inr}
use mathlib.Core.Bool.{Bool, true, false, not, cond, beq}
use lib.Dec.{T, ltb, ltb→lt, nltb→le, lit<}
use lib.Pow.{pow-add, pow-lt}
use lib.IntN.{ℤ, pos, negsuc, neg_ℤ, nat_abs, sub_ℕ, ◌+ℤ◌, ◌-ℤ◌, ◌*ℤ◌, neg_ℤ-neg_ℤ}
use lib.Ieee.{fin, binary64, up, down, fits}
use Rattle.words.specs.Sign.{with_sign}
use Rattle.flonum.proofs.Values.{few-of, fine_of}
use Rattle.flonum_laws.specs.Quotients.{numerator, negative}
use Rattle.flonum_laws.specs.Nearness.{distance}
use Rattle.flonum_laws.proofs.Multiples.{apart, le-or-gt}

-- |±a - ±b|
abbrev pub gap : Bool → Bool → ℕ → ℕ → ℕ
gap t s a b = cond (beq t s) (apart a b) (a + b)

-- ---- over the integers
cut-abs : (a b : ℕ) → nat_abs (sub_ℕ a b) ≡ apart a b
cut-abs a b = go (ltb a b) (ltb→lt a b) (nltb→le a b)
  where
    go : (t : Bool) → (T t → a < b) → (T (not t) → b ≤ a) → nat_abs (cond t (negsuc (b - suc a)) (pos (a - b))) ≡ apart a b
    go true h k = let l : a < b = h tt in omega arith
    go false h k = let l : b ≤ a = k tt in omega arith

gap_is : (t s : Bool) (a b : ℕ) → nat_abs (with_sign t a -ℤ with_sign s b) ≡ gap t s a b
unfolding with_sign
gap_is false false a zero = omega arith
gap_is false false a (suc b) = cut-abs a (suc b)
gap_is false true a b = ap (λ (z : ℤ). nat_abs (pos a +ℤ z)) (neg_ℤ-neg_ℤ (pos b))
gap_is true false zero zero = refl
gap_is true false zero (suc b) = cut-abs 0 (suc b) ∙ (let e : apart 0 (suc b) ≡ 0 + suc b = omega arith in e)
gap_is true false (suc a) zero = cut-abs 0 (suc a) ∙ (let e : apart 0 (suc a) ≡ suc a + 0 = omega arith in e)
gap_is true false (suc a) (suc b) = omega arith
gap_is true true a b = ap (λ (z : ℤ). nat_abs (neg_ℤ (pos a) +ℤ z)) (neg_ℤ-neg_ℤ (pos b)) ∙ opposite a b
  where
    opposite : (a b : ℕ) → nat_abs (neg_ℤ (pos a) +ℤ pos b) ≡ apart a b
    opposite zero b = omega arith
    opposite (suc a) b = cut-abs b (suc a) ∙ (let e : apart b (suc a) ≡ apart (suc a) b = omega arith in e)

pub same_sign : (s : Bool) → beq s s ≡ true
same_sign true = refl
same_sign false = refl

pub gap_same : (s : Bool) (a b : ℕ) → nat_abs (with_sign s a -ℤ with_sign s b) ≡ apart a b
gap_same s a b = gap_is s s a b ∙ ap (λ (t : Bool). cond t (apart a b) (a + b)) (same_sign s)

pub abs-sign : (s : Bool) (n : ℕ) → nat_abs (with_sign s n) ≡ n
unfolding with_sign
abs-sign true zero = refl
abs-sign true (suc n) = refl
abs-sign false n = refl

pub sign-times : (s : Bool) (n d : ℕ) → with_sign s n *ℤ pos d ≡ with_sign s (n * d)
unfolding with_sign
sign-times false n d = refl
sign-times true zero d = ap pos (zero-mul d) ∙ sym (ap (λ (k : ℕ). neg_ℤ (pos k)) (zero-mul d))
sign-times true (suc n) d = refl

pub distance_is : (t s : Bool) (m : ℕ) (e : ℤ) (n : ℕ) → distance (fin t m e) (with_sign s n) ≡ gap t s (m * up e) (n * down e)
unfolding distance numerator negative
distance_is t s m e n = ap (λ (z : ℤ). nat_abs (with_sign t (m * up e) -ℤ z)) (sign-times s n (down e)) ∙ gap_is t s (m * up e) (n * down e)

-- ---- in units
sub-mul : (a b c : ℕ) → (a - b) * c ≡ a * c - b * c
sub-mul a b c = mul_comm (a - b) c ∙ mul-sub c a b ∙ ap₂ (λ (x y : ℕ). x - y) (mul_comm c a) (mul_comm c b)

gap-mul : (t s : Bool) (a b c : ℕ) → gap t s a b * c ≡ gap t s (a * c) (b * c)
gap-mul t s a b c = go (beq t s)
  where
    go : (same : Bool) → cond same (apart a b) (a + b) * c ≡ cond same (apart (a * c) (b * c)) (a * c + b * c)
    go true = add-mul (a - b) (b - a) c ∙ ap₂ (λ (x y : ℕ). x + y) (sub-mul a b c) (sub-mul b a c)
    go false = add-mul a b c

-- a / d is g / l: the distance from n, in units of 1 / l
pub gap-scaled : (t s : Bool) (a d n g l : ℕ) → a * l ≡ g * d → gap t s a (n * d) * l ≡ gap t s g (n * l) * d
gap-scaled t s a d n g l e = gap-mul t s a (n * d) l ∙ ap₂ (gap t s) e (mul_right_comm n d l) ∙ sym (gap-mul t s g (n * l) d)

-- x / d and y / d' are p / l and q / l
module _ (x y d d' p q l : ℕ) (e : x * l ≡ p * d) (f : y * l ≡ q * d') where
  left : x * d' * l ≡ p * d * d'
  left = mul_right_comm x d' l ∙ ap (λ (k : ℕ). k * d') e

  right : q * d * d' ≡ y * d * l
  right = mul_right_comm q d d' ∙ ap (λ (k : ℕ). k * d) (sym f) ∙ mul_right_comm y l d

  pub cross-le : 0 < l → p ≤ q → x * d' ≤ y * d
  cross-le L h = le_of_mul-le-mul_right (le_trans (le_of_eq left) (le_trans (mul-le-mul_right d' (mul-le-mul_right d h)) (le_of_eq right))) L

  pub cross-back : 0 < d → 0 < d' → x * d' ≡ y * d → p ≡ q
  cross-back D E h = eq_of_mul-eq-mul_right d D p q (eq_of_mul-eq-mul_right d' E (p * d) (q * d) (sym left ∙ ap (λ (k : ℕ). k * l) h ∙ sym right))

-- ---- every finite flonum has 53 digits, at some scale
pub record Scaled (a d : ℕ) : Type 0 where
  pub digits : ℕ
  pub scale : ℕ
  pub few : digits < 2 ^ 53
  pub is : a * 2 ^ 1074 ≡ digits * 2 ^ scale * d

exponent-le : (i j : ℕ) → 2 ^ i ≤ 2 ^ j → i ≤ j
exponent-le i j h = elim (le-or-gt i j) [ inl k ↦ k | inr k ↦ absurd (clash (2 ^ i) (2 ^ j) h (pow-lt k)) ]
  where
    clash : (a b : ℕ) → a ≤ b → b < a → ⊥
    clash a b h k = omega arith

pub scaled-of : (t : Bool) (m : ℕ) (e : ℤ) → T (fits binary64 (fin t m e)) → Scaled (m * up e) (down e)
unfolding fits
scaled-of t zero e h = record { digits = 0; scale = 0; few = lit< tt; is = ap (λ (x : ℕ). x * 2 ^ 1074) (zero-mul (up e)) ∙ sym (zero-mul (down e)) }
scaled-of t (suc m) (pos k) h = record {
  digits = suc m;
  scale = k + 1074;
  few = few-of (suc m) (pos k) h;
  is = mul_assoc (suc m) (2 ^ k) (2 ^ 1074) ∙ ap (λ (x : ℕ). suc m * x) (sym (pow-add 2 k 1074)) ∙ sym (mul-one (suc m * 2 ^ (k + 1074)));
}
scaled-of t (suc m) (negsuc k) h =
    let l : suc k ≤ 1074 = exponent-le (suc k) 1074 (fine_of (suc m) (negsuc k) h) in
    record {
      digits = suc m;
      scale = 1074 - suc k;
      few = few-of (suc m) (negsuc k) h;
      is =
          ap (λ (x : ℕ). x * 2 ^ 1074) (mul-one (suc m))
          ∙ ap (λ (x : ℕ). suc m * x) (ap (λ (x : ℕ). 2 ^ x) (sym (back k l)) ∙ pow-add 2 (1074 - suc k) (suc k))
          ∙ sym (mul_assoc (suc m) (2 ^ (1074 - suc k)) (2 ^ suc k));
    }
  where
    back : (k : ℕ) → suc k ≤ 1074 → 1074 - suc k + suc k ≡ 1074
    back k l = omega arith
