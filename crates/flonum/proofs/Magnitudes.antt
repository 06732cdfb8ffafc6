-- Magnitudes: a / d rounded to a whole number, as the code computes it. Numbers alone. Assumes nothing.
use Rattle.std.proofs.Common.{◌≡◌, ℕ, zero, suc, ◌+◌, ◌*◌, ◌/◌, ◌%◌, ◌^◌, ◌<◌, ◌≤◌, Bool, true, false, cond, not, T, eqb, ltb, sym, refl, ap, ◌∙◌, subst, le_trans, add-zero, mul_assoc, div-lt_iff_lt-mul, add-mul, one-mul, div-add-mod', mul-one, not-le_of_lt, mul-div_cancel, add-one, arith, lit≤, eqb→eq, ltb→lt, leb→le, nltb→le}
use Prim.Native.Nat.{compare, Ordering}
use native.Mathlib.Nat.{mul-mod_left}
use lib.Dec.{is_le, compare_is_eq, nleb→lt, eqb_refl, eqb-suc-zero}
use lib.Arith.{lt_of_le-ne}
use lib.Ieee.{nearest}
use lib.Ieee.Nearest.{closest}
use lib.Ieee.Fits.{nearest-le}
use Rattle.flonum.specs.declared.rounding.Rounding.{Rounding}
use Rattle.flonum.specs.declared.rounding.Rounding.TheVariants.{Floor, Ceiling, Truncate, Round}
use Rattle.flonum.specs.Rounding.{rounded_up, magnitude}

-- ---- rounding up
eqb-zero-false : (r : ℕ) → 0 < r → eqb r 0 ≡ false
eqb-zero-false zero h = absurd (not-le_of_lt h (lit≤ tt))
eqb-zero-false (suc r) h = eqb-suc-zero r

-- a / d is compared with its whole part q
module _ (a d q : ℕ) (e : q ≡ a / d) where
  whole : q * d + a % d ≡ a
  whole = ap (λ (x : ℕ). x * d + a % d) e ∙ div-add-mod' a d

  pub up-when : T (ltb (q * d) (a * 1)) → q + 1 ≡ rounded_up a d
  unfolding rounded_up
  up-when t =
      let h : q * d < a * 1 = ltb→lt (q * d) (a * 1) t in
      ap (λ (x : ℕ). x + 1) e ∙ ap (λ (b : Bool). a / d + cond b 0 1) (sym (eqb-zero-false (a % d) (let r : 0 < a % d = omega (arith, whole, mul-one a) in r)))

  pub up-unless : T (not (ltb (q * d) (a * 1))) → q ≡ rounded_up a d
  unfolding rounded_up
  up-unless t =
      let h : a * 1 ≤ q * d = nltb→le (q * d) (a * 1) t in
      e ∙ sym (add-zero (a / d)) ∙ ap (λ (r : ℕ). a / d + cond (eqb r 0) 0 1) (sym (let r : a % d ≡ 0 = omega (arith, whole, mul-one a) in r))

-- ---- rounding to the nearest
abbrev Cmp : Ordering → ℕ → ℕ → Type 0
Cmp Ordering.lt a b = a < b
Cmp Ordering.eq a b = a ≡ b
Cmp Ordering.gt a b = b < a

cmp : (a b : ℕ) → Cmp (compare a b) a b
cmp a b = go (compare a b) (leb→le a b) (nleb→lt a b) (eqb→eq a b) (λ (e : a ≡ b). subst (λ (x : ℕ). T (eqb a x)) e (eqb_refl a))
  where
    go : (o : Ordering) → (T (is_le o) → a ≤ b) → (T (not (is_le o)) → b < a) → (T (compare_is_eq o) → a ≡ b) → (a ≡ b → T (compare_is_eq o)) → Cmp o a b
    go Ordering.lt h k e n = lt_of_le-ne (h tt) n
    go Ordering.eq h k e n = e tt
    go Ordering.gt h k e n = k tt

less-eq : (a b : ℕ) → a < b → a ≡ b → ⊥
less-eq a b h k = omega arith

less-more : (a b : ℕ) → a < b → b < a → ⊥
less-more a b h k = omega arith

pub record Picks (w : ℕ) (r b n : ℕ) : Type 0 where
  pub less : r < b → n ≡ w
  pub same : r ≡ b → n ≡ w + w % 2
  pub more : b < r → n ≡ suc w

picks : (w : ℕ) (o : Ordering) (r b : ℕ) → Cmp o r b → Picks w r b (nearest w o)
picks w Ordering.lt r b x = record { less = λ h. refl; same = λ h. absurd (less-eq r b x h); more = λ h. absurd (less-more r b x h) }
picks w Ordering.eq r b x = record { less = λ h. absurd (less-eq r b h x); same = λ h. refl; more = λ h. absurd (less-eq b r h (sym x)) }
picks w Ordering.gt r b x = record { less = λ h. absurd (less-more r b h x); same = λ h. absurd (less-eq b r x (sym h)); more = λ h. refl }

pub closest-picks : (a d : ℕ) → Picks (a / d) (a % d * 2) d (closest a d)
closest-picks a d = picks (a / d) (compare (a % d * 2) d) (a % d * 2) d (cmp (a % d * 2) d)

-- a / d is compared with q + 1 / 2, where q is its whole part: so is twice the remainder with d
module _ (a d q : ℕ) (e : q ≡ a / d) where
  balance : (2 * q + 1) * d + a % d * 2 ≡ a * 2 + d
  balance =
      omega (arith, whole a d q e, add-mul (2 * q) 1 d, mul_assoc 2 q d, one-mul d)

  pub even-less : T (ltb (a * 2) ((2 * q + 1) * d)) → q ≡ closest a d
  even-less t =
      let h : a * 2 < (2 * q + 1) * d = ltb→lt (a * 2) ((2 * q + 1) * d) t in
      e ∙ sym ((closest-picks a d).less (let l : a % d * 2 < d = omega (arith, balance) in l))

  pub even-more : T (ltb ((2 * q + 1) * d) (a * 2)) → q + 1 ≡ closest a d
  even-more t =
      let h : (2 * q + 1) * d < a * 2 = ltb→lt ((2 * q + 1) * d) (a * 2) t in
      ap (λ (x : ℕ). x + 1) e ∙ add-one (a / d) ∙ sym ((closest-picks a d).more (let l : d < a % d * 2 = omega (arith, balance) in l))

  pub even-same : T (not (ltb (a * 2) ((2 * q + 1) * d))) → T (not (ltb ((2 * q + 1) * d) (a * 2))) → q + q % 2 ≡ closest a d
  even-same t u =
      let h : (2 * q + 1) * d ≤ a * 2 = nltb→le (a * 2) ((2 * q + 1) * d) t in
      let k : a * 2 ≤ (2 * q + 1) * d = nltb→le ((2 * q + 1) * d) (a * 2) u in
      ap (λ (x : ℕ). x + x % 2) e ∙ sym ((closest-picks a d).same (let l : a % d * 2 ≡ d = omega (arith, balance) in l))

-- ---- all four
pub magnitude-le : (way : Rounding) (s : Bool) (a d : ℕ) → 0 < d → a < 2 ^ 52 * d → magnitude way s a d ≤ 2 ^ 52
unfolding magnitude rounded_up
magnitude-le way s a d D h = go way s
  where
    w-lt : a / d < 2 ^ 52
    w-lt = (div-lt_iff_lt-mul D).1 h

    flat : a / d ≤ 2 ^ 52
    flat = omega (arith, w-lt)

    more : (b : Bool) → a / d + cond b 0 1 ≤ 2 ^ 52
    more true = omega (arith, w-lt)
    more false = omega (arith, w-lt)

    go : (way : Rounding) (s : Bool) → magnitude way s a d ≤ 2 ^ 52
    go Floor true = more (eqb (a % d) 0)
    go Floor false = flat
    go Ceiling true = flat
    go Ceiling false = more (eqb (a % d) 0)
    go Truncate s = flat
    go Round s = le_trans (nearest-le (a / d) (compare (a % d * 2) d)) w-lt

-- a whole number stays
pub magnitude-whole : (way : Rounding) (s : Bool) (k d : ℕ) → 0 < d → magnitude way s (k * d) d ≡ k
unfolding magnitude rounded_up
magnitude-whole way s k d D = go way s
  where
    q : k * d / d ≡ k
    q = mul-div_cancel k D

    r : k * d % d ≡ 0
    r = mul-mod_left k d

    more : k * d / d + cond (eqb (k * d % d) 0) 0 1 ≡ k
    more = ap (λ (x : ℕ). k * d / d + cond (eqb x 0) 0 1) r ∙ add-zero (k * d / d) ∙ q

    go : (way : Rounding) (s : Bool) → magnitude way s (k * d) d ≡ k
    go Floor true = more
    go Floor false = q
    go Ceiling true = q
    go Ceiling false = more
    go Truncate s = q
    go Round s = (closest-picks (k * d) d).less (subst (λ (x : ℕ). x * 2 < d) (sym r) D) ∙ q
