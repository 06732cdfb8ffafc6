-- `nearest_bits` are the bits of what IEEE's `round` gives. Nothing here is about texts. Assumes nothing.
use Prim.Native.Nat.{ℕ, zero, suc, ◌+◌, ◌-◌, ◌*◌, ◌/◌, ◌%◌, ◌^◌, ◌≤◌, ◌<◌, compare, Ordering}
use native.Mathlib.Nat.{le_trans, le_antisymm, lt_of_lt_of_le, lt_of_le_of_lt, lt_of_not-le, not-le_of_lt, mul_assoc, mul_comm, mul_right_comm, one-mul, zero-mul, mul-pos, mul-le-mul_right, mul-div_cancel, mul-div-mul_right, add-mul, eq-zero-or-pos, le-div_iff_mul-le, div-div-eq-div-mul, div-add-mod', mod-lt, pow-suc}
use native.Mathlib.Omega.{arith}
use mathlib.Core.Path.{◌≡◌, refl, sym, ap, ap₂, subst, ◌∙◌}
use mathlib.Core.Bool.{Bool, true, false, not, cond, ◌&&◌, ◌||◌}
use mathlib.Core.Logic.{◌⊎◌, inl, inr}
use lib.Dec.{T, eqb, ltb, is_le, compare_is_eq, leb→le, nleb→lt, eqb→eq, eqb_refl, lit<, lit≤}
use lib.Arith.{mod-mul}
use lib.Pow.{pow-add, pow_pos, pow_mono, pow-lt, shl_lt}
use borrow.Author.Tests.{lt-ltb, le-ltb, ne_eqb, eqb-true, eqb-false, ltb-true, ltb-false}
use lib.Ieee.{Float, nan, inf, fin, binary64, up, down, size, nearest, units, round, to_bits, of_bits, nan_bits}
use lib.Ieee.Digits.{size-lt, size-le, size_reaches}
use lib.Ieee.Fits.{down_pos, round_is, round-fits, nearest-le, kept-lt}
use lib.Ieee.Nearest.{nearest-ge}
use lib.Ieee.Exact.{HasValue, units_val}
use lib.Ieee.Bits.{of_bits-to_bits, nan_bits_above}
use Rattle.fltext.specs.Packing.{nonzero, rounded_up, packed, dropped, nearest_bits}

-- ---- what `compare` says

abbrev Compares : Ordering → ℕ → ℕ → Type 0
Compares Ordering.lt a b = a < b
Compares Ordering.eq a b = a ≡ b
Compares Ordering.gt a b = b < a

compares : (a b : ℕ) → Compares (compare a b) a b
compares a b = go (compare a b) (leb→le a b) (nleb→lt a b) (eqb→eq a b) (λ (e : a ≡ b). subst (λ (x : ℕ). T (eqb a x)) e (eqb_refl a))
  where
    less : a ≤ b → (a ≡ b → ⊥) → a < b
    less h n = omega arith

    go : (o : Ordering) → (T (is_le o) → a ≤ b) → (T (not (is_le o)) → b < a) → (T (compare_is_eq o) → a ≡ b) → (a ≡ b → T (compare_is_eq o)) → Compares o a b
    go Ordering.lt h k e n = less (h tt) n
    go Ordering.eq h k e n = e tt
    go Ordering.gt h k e n = k tt

-- ---- the quotient rounded: twice the remainder r of a division by u is half * u and a rest below u

pub odd-tail : (q : ℕ) → q + q % 2 ≡ q + cond (eqb (q % 2) 1) 1 0
odd-tail q = go (eqb (q % 2) 1) refl
  where
    go : (b : Bool) → eqb (q % 2) 1 ≡ b → q + q % 2 ≡ q + cond b 1 0
    go true e = ap (λ (x : ℕ). q + x) (eqb-true (q % 2) 1 e)
    go false e = let n = eqb-false (q % 2) 1 e in omega arith

nearest-up : (q r u half rest : ℕ) → r * 2 ≡ half * u + rest → rest < u → half < 2
    → nearest q (compare (r * 2) u) ≡ rounded_up q (nonzero half) (nonzero rest)
unfolding rounded_up nonzero
nearest-up q r u zero rest e l h = go (compare (r * 2) u) (compares (r * 2) u)
  where
    below : r * 2 < u
    below = omega (arith, zero-mul u)

    go : (o : Ordering) → Compares o (r * 2) u → nearest q o ≡ q + 0
    go Ordering.lt c = omega arith
    go Ordering.eq c = absurd (omega (arith, below))
    go Ordering.gt c = absurd (omega (arith, below))
nearest-up q r u (suc zero) zero e l h = go (compare (r * 2) u) (compares (r * 2) u)
  where
    level : r * 2 ≡ u
    level = omega (arith, one-mul u)

    go : (o : Ordering) → Compares o (r * 2) u → nearest q o ≡ q + cond (eqb (q % 2) 1) 1 0
    go Ordering.lt c = absurd (omega (arith, level))
    go Ordering.eq c = odd-tail q
    go Ordering.gt c = absurd (omega (arith, level))
nearest-up q r u (suc zero) (suc rest) e l h = go (compare (r * 2) u) (compares (r * 2) u)
  where
    above : u < r * 2
    above = omega (arith, one-mul u)

    some : eqb (suc rest) 0 ≡ false
    some = ne_eqb (suc rest) 0 (λ z. omega arith)

    go : (o : Ordering) → Compares o (r * 2) u → nearest q o ≡ q + cond (true && (not (eqb (suc rest) 0) || eqb (q % 2) 1)) 1 0
    go Ordering.lt c = absurd (omega (arith, above))
    go Ordering.eq c = absurd (omega (arith, above))
    go Ordering.gt c = rw some (omega arith)
nearest-up q r u (suc (suc half)) rest e l h = absurd (omega arith)

-- ---- the bits of q * 2^k units

pub size-gt : (n j : ℕ) → 2 ^ j ≤ n → j < size n
size-gt n j h = lt_of_not-le (λ (g : size n ≤ j). not-le_of_lt (lt_of_lt_of_le (size-lt n) (pow_mono g)) h)

-- a q below 2^53 is written as it is
kept_whole : (q k : ℕ) → q < 2 ^ 53 → (k ≡ 0) ⊎ (2 ^ 52 ≤ q) → size (q * 2 ^ k) - 53 ≡ k
kept_whole q k h l = go l
  where
    upper : size (q * 2 ^ k) ≤ 53 + k
    upper = size-le (q * 2 ^ k) (53 + k) (shl_lt 53 k h)

    go : (k ≡ 0) ⊎ (2 ^ 52 ≤ q) → size (q * 2 ^ k) - 53 ≡ k
    go (inl z) = omega (arith, upper)
    go (inr g) =
        let lower = size-gt (q * 2 ^ k) (52 + k) (subst (λ (x : ℕ). x ≤ q * 2 ^ k) (sym (pow-add 2 52 k)) (mul-le-mul_right (2 ^ k) g)) in
        omega (arith, upper)

abbrev field_bits : ℕ → ℕ
field_bits a = (size a - 53) * 2 ^ 52 + a / 2 ^ (size a - 53)

below-bits : (q k : ℕ) → q < 2 ^ 53 → (k ≡ 0) ⊎ (2 ^ 52 ≤ q) → field_bits (q * 2 ^ k) ≡ k * 2 ^ 52 + q
below-bits q k h l =
    ap (λ (z : ℕ). z * 2 ^ 52 + q * 2 ^ k / 2 ^ z) (kept_whole q k h l) ∙ ap (λ (x : ℕ). k * 2 ^ 52 + x) (mul-div_cancel q (pow_pos k))

-- 2^53 is written as 2^52 with the next exponent
carry-bits : (k : ℕ) → field_bits (2 ^ 53 * 2 ^ k) ≡ k * 2 ^ 52 + 2 ^ 53
carry-bits k =
    let e : 2 ^ 53 * 2 ^ k ≡ 2 ^ 52 * 2 ^ suc k = omega (arith, pow-suc 2 k) in
    ap field_bits e ∙ below-bits (2 ^ 52) (suc k) (lit< tt) (inr (lit≤ tt)) ∙ omega arith

field-bits : (q k : ℕ) → q ≤ 2 ^ 53 → (k ≡ 0) ⊎ (2 ^ 52 ≤ q) → field_bits (q * 2 ^ k) ≡ k * 2 ^ 52 + q
field-bits q k h l = go (ltb q (2 ^ 53)) refl
  where
    go : (b : Bool) → ltb q (2 ^ 53) ≡ b → field_bits (q * 2 ^ k) ≡ k * 2 ^ 52 + q
    go true e = below-bits q k (ltb-true q (2 ^ 53) e) l
    go false e =
        let s : q ≡ 2 ^ 53 = le_antisymm h (ltb-false q (2 ^ 53) e) in
        subst (λ (x : ℕ). field_bits (x * 2 ^ k) ≡ k * 2 ^ 52 + x) (sym s) (carry-bits k)

value-bits : (x : Float) (s : Bool) (a : ℕ) → HasValue x s a (2 ^ 1074) → to_bits binary64 x ≡ cond s (2 ^ 63) 0 + field_bits a
unfolding to_bits
value-bits nan s a h = absurd h
value-bits (inf t) s a h = absurd h
value-bits (fin t m e) s a h =
    let n : m * up e * 2 ^ 1074 / down e ≡ a = ap (λ (x : ℕ). x / down e) h.1 ∙ mul-div_cancel a (down_pos e) in
    ap₂ (λ (b : Bool) (x : ℕ). cond b (2 ^ 63) 0 + (size x - 53) * 2 ^ 52 + x / 2 ^ (size x - 53)) h.0 n ∙ omega arith

-- where that is an infinity: from 2^2098 units on
small-exponent : (q k : ℕ) → q * 2 ^ k < 2 ^ 2098 → (k ≡ 0) ⊎ (2 ^ 52 ≤ q) → ltb k 2046 ≡ true
small-exponent q k h (inl z) = lt-ltb k 2046 (omega arith)
small-exponent q k h (inr g) =
    lt-ltb k 2046
    (lt_of_not-le (λ (j : 2046 ≤ k).
    let m : 2098 ≤ 52 + k = omega arith in
    not-le_of_lt h (le_trans (pow_mono m) (subst (λ (x : ℕ). x ≤ q * 2 ^ k) (sym (pow-add 2 52 k)) (mul-le-mul_right (2 ^ k) g)))))

large-field : (q k : ℕ) → 2 ^ 2098 ≤ q * 2 ^ k → q ≤ 2 ^ 53 → cond (ltb k 2046) (k * 2 ^ 52 + q) (2047 * 2 ^ 52) ≡ 2047 * 2 ^ 52
large-field q k h g = go (ltb k 2046) refl
  where
    -- q * 2^k stays below 2^2098 where k is smaller, and where q is
    reach : 2045 ≤ k
    reach =
        lt_of_not-le (λ (j : k ≤ 2044).
        let m : 53 + k < 2098 = omega arith in
        not-le_of_lt (lt_of_le_of_lt (mul-le-mul_right (2 ^ k) g) (subst (λ (x : ℕ). x < 2 ^ 2098) (pow-add 2 53 k) (pow-lt m))) h)

    full : k ≡ 2045 → 2 ^ 53 ≤ q
    full e =
        lt_of_not-le (λ (j : q ≤ 2 ^ 53 - 1).
        let m : q < 2 ^ 53 = omega arith in
        not-le_of_lt (subst (λ (x : ℕ). q * 2 ^ x < 2 ^ (53 + x)) (sym e) (shl_lt 53 2045 m)) (subst (λ (x : ℕ). 2 ^ (53 + x) ≤ q * 2 ^ k) (sym e) h))

    go : (b : Bool) → ltb k 2046 ≡ b → cond b (k * 2 ^ 52 + q) (2047 * 2 ^ 52) ≡ 2047 * 2 ^ 52
    go true e = let m : k ≡ 2045 = omega (arith, reach, ltb-true k 2046 e) in omega (arith, full m)
    go false e = refl

units-bits : (s : Bool) (q k : ℕ) → q ≤ 2 ^ 53 → (k ≡ 0) ⊎ (2 ^ 52 ≤ q) → to_bits binary64 (units binary64 s q k) ≡ packed s k q
unfolding packed
units-bits s q k h l = go (ltb (q * 2 ^ k) (2 ^ 2098)) refl
  where
    go : (b : Bool) → ltb (q * 2 ^ k) (2 ^ 2098) ≡ b
        → to_bits binary64 (units binary64 s q k) ≡ cond s (2 ^ 63) 0 + cond (ltb k 2046) (k * 2 ^ 52 + q) (2047 * 2 ^ 52)
    go true e =
        let m = ltb-true (q * 2 ^ k) (2 ^ 2098) e in
        value-bits (units binary64 s q k) s (q * 2 ^ k) (units_val binary64 s q k m)
        ∙ rw (small-exponent q k m l) (ap (λ (x : ℕ). cond s (2 ^ 63) 0 + x) (field-bits q k h l))
    go false e =
        ap (to_bits binary64) (overflow e)
        ∙ unfold to_bits in ap (λ (x : ℕ). cond s (2 ^ 63) 0 + x) (sym (large-field q k (ltb-false (q * 2 ^ k) (2 ^ 2098) e) h))
      where
        overflow : ltb (q * 2 ^ k) (2 ^ 2098) ≡ false → units binary64 s q k ≡ inf s
        overflow e = unfold units in rw e refl

-- ---- the remainder of a division in two steps

nonzero-sum : (a d b : ℕ) → 0 < d → nonzero (a * d + b) ≡ nonzero b || nonzero a
unfolding nonzero
nonzero-sum zero d zero h = rw (zero-mul d) refl
nonzero-sum (suc a) d zero h =
    let m = mul-pos {m = suc a} {n = d} (omega arith) h in
    rw (ne_eqb (suc a * d + 0) 0 (λ z. omega arith), ne_eqb (suc a) 0 (λ z. omega arith)) refl
nonzero-sum a d (suc b) h = rw (ne_eqb (a * d + suc b) 0 (λ z. omega arith), ne_eqb (suc b) 0 (λ z. omega arith)) refl

pub nonzero-mod : (n m c : ℕ) → 0 < m → 0 < c → nonzero (n % (m * c)) ≡ nonzero (n % c) || nonzero (n / c % m)
nonzero-mod n m c h g = ap nonzero (mod-mul n h g) ∙ nonzero-sum (n / c % m) c (n % c) g

-- ---- n / den of the smallest units, from 2 * n / den

half-whole : (n d : ℕ) → n * 2 / d / 2 ≡ n / d
half-whole n d = div-div-eq-div-mul (n * 2) d 2 ∙ mul-div-mul_right n d (lit< tt)

remainder-twice : (n u : ℕ) → n % u * 2 ≡ n * 2 / u % 2 * u + n * 2 % u
remainder-twice n u =
    let t = n * 2 / u in
    let e : t ≡ n / u * 2 + t % 2 = omega (arith, half-whole n u) in
    omega (
      arith,
      div-add-mod' n u,
      div-add-mod' (n * 2) u,
      ap (λ (x : ℕ). x * u) e,
      add-mul (n / u * 2) (t % 2) u,
      mul_right_comm (n / u) 2 u,
    )

module _ (n den : ℕ) (positive : 0 < den) where
  abbrev twice : ℕ
  twice = n * 2

  tail : (k : ℕ) → nonzero (twice % (den * 2 ^ k)) ≡ nonzero (twice % den) || nonzero (twice / den % 2 ^ k)
  tail k = ap (λ (x : ℕ). nonzero (twice % x)) (mul_comm den (2 ^ k)) ∙ nonzero-mod twice (2 ^ k) den (pow_pos k) positive

  abbrev quotient : ℕ → ℕ
  quotient k = nearest (n / (den * 2 ^ k)) (compare (n % (den * 2 ^ k) * 2) (den * 2 ^ k))

  rounded-is : (k : ℕ) → quotient k
      ≡ rounded_up (twice / den / 2 / 2 ^ k) (nonzero (twice / den / 2 ^ k % 2)) (nonzero (twice % den) || nonzero (twice / den % 2 ^ k))
  rounded-is k =
      let u = den * 2 ^ k in
      nearest-up (n / u) (n % u) u (twice / u % 2) (twice % u) (remainder-twice n u) (mod-lt twice (mul-pos positive (pow_pos k))) (mod-lt (twice / u) (lit< tt))
      ∙ cc (
        tail k,
        div-div-eq-div-mul n den (2 ^ k),
        half-whole n den,
        div-div-eq-div-mul twice den (2 ^ k),
      )

  module _ (s : Bool) where
    abbrev k : ℕ
    k = size (n / den) - 53

    leading : (k ≡ 0) ⊎ (2 ^ 52 ≤ n / (den * 2 ^ k))
    leading = elim (eq-zero-or-pos k) [
      | inl z ↦ inl z
      | inr p ↦
          let e : 52 + k < size (n / den) = omega arith in
          inr
          (subst (λ (x : ℕ). 2 ^ 52 ≤ x) (div-div-eq-div-mul n den (2 ^ k))
          ((le-div_iff_mul-le (pow_pos k)).1 (subst (λ (x : ℕ). x ≤ n / den) (pow-add 2 52 k) (size_reaches (n / den) (52 + k) e))))
    ]

    at_most : quotient k ≤ 2 ^ 53
    at_most =
        le_trans (nearest-le (n / (den * 2 ^ k)) (compare (n % (den * 2 ^ k) * 2) (den * 2 ^ k)))
        (subst (λ (x : ℕ). x < 2 ^ 53) (div-div-eq-div-mul n den (2 ^ k)) (kept-lt 53 (n / den)))

    at_least : (k ≡ 0) ⊎ (2 ^ 52 ≤ quotient k)
    at_least = elim leading [
      | inl z ↦ inl z
      | inr l ↦ inr (le_trans l (nearest-ge (n / (den * 2 ^ k)) (compare (n % (den * 2 ^ k) * 2) (den * 2 ^ k))))
    ]

    core-bits : to_bits binary64 (units binary64 s (quotient k) k) ≡ nearest_bits s (twice / den) (nonzero (twice % den))
    unfolding nearest_bits dropped
    core-bits =
        units-bits s (quotient k) k at_most at_least
        ∙ ap (packed s k) (rounded-is k)
        ∙ sym
        (ap
        (λ (x : ℕ).
        packed s (size x - 53)
        (rounded_up (twice / den / 2 / 2 ^ (size x - 53)) (nonzero (twice / den / 2 ^ (size x - 53) % 2)) (nonzero (twice % den) || nonzero (twice / den % 2 ^ (size x - 53)))))
        (half-whole n den))

-- the bits of a fraction rounded to a flonum
pub round-bits : (s : Bool) (num den : ℕ) → 0 < den
    → of_bits binary64 (nearest_bits s (num * 2 ^ 1075 / den) (nonzero (num * 2 ^ 1075 % den))) ≡ round binary64 s num den
round-bits s num den h =
    let doubled : num * 2 ^ 1074 * 2 ≡ num * 2 ^ 1075 = mul_assoc num (2 ^ 1074) 2 in
    ap (of_bits binary64)
    (ap (λ (x : ℕ). nearest_bits s (x / den) (nonzero (x % den))) (sym doubled)
    ∙ sym (core-bits (num * 2 ^ 1074) den h s)
    ∙ ap (to_bits binary64) (sym (round_is binary64 s num den)))
    ∙ of_bits-to_bits binary64 (round binary64 s num den) (round-fits binary64 s num den)

-- ---- no such bits are a NaN's

pub packed-field : (k q : ℕ) → q ≤ 2 ^ 53 → cond (ltb k 2046) (k * 2 ^ 52 + q) (2047 * 2 ^ 52) ≤ 2047 * 2 ^ 52
packed-field k q h = go (ltb k 2046) refl
  where
    go : (b : Bool) → ltb k 2046 ≡ b → cond b (k * 2 ^ 52 + q) (2047 * 2 ^ 52) ≤ 2047 * 2 ^ 52
    go true e = omega (arith, ltb-true k 2046 e)
    go false e = omega arith

without_sign : (s : Bool) (n : ℕ) → n ≤ 2047 * 2 ^ 52 → (cond s (2 ^ 63) 0 + n) % 2 ^ 63 ≡ n
without_sign true n h = omega arith
without_sign false n h = omega arith

packed-number : (s : Bool) (k q : ℕ) → q ≤ 2 ^ 53 → T (not (nan_bits binary64 (packed s k q)))
unfolding packed
packed-number s k q h =
    let field = cond (ltb k 2046) (k * 2 ^ 52 + q) (2047 * 2 ^ 52) in
    subst (λ (b : Bool). T (not b))
    (sym
    (nan_bits_above binary64 (cond s (2 ^ 63) 0 + field)
    ∙ ap (λ (n : ℕ). ltb (2047 * 2 ^ 52) n) (without_sign s field (packed-field k q h))
    ∙ le-ltb (2047 * 2 ^ 52) field (packed-field k q h)))
    tt

rounded_up-le : (q : ℕ) (half rest : Bool) → rounded_up q half rest ≤ suc q
unfolding rounded_up
rounded_up-le q half rest = go (half && (rest || eqb (q % 2) 1))
  where
    go : (b : Bool) → q + cond b 1 0 ≤ suc q
    go true = omega arith
    go false = omega arith

pub nearest_bits-number : (s : Bool) (n : ℕ) (rest : Bool) → T (not (nan_bits binary64 (nearest_bits s n rest)))
unfolding nearest_bits dropped
nearest_bits-number s n rest =
    let k = size (n / 2) - 53 in
    packed-number s k (rounded_up (n / 2 / 2 ^ k) (nonzero (n / 2 ^ k % 2)) (rest || nonzero (n % 2 ^ k)))
    (le_trans (rounded_up-le (n / 2 / 2 ^ k) (nonzero (n / 2 ^ k % 2)) (rest || nonzero (n % 2 ^ k))) (kept-lt 53 (n / 2)))
