-- Division by sign and absolute value: the equation that a rounded quotient satisfies, and which rounding leaves an allowed
-- remainder. Assumes nothing.
use Rattle.std.proofs.Common.{◌≡◌, ℕ, zero, suc, ◌+◌, ◌-◌, ◌*◌, ◌/◌, ◌%◌, ◌<◌, ◌≤◌, Bool, true, false, cond, not, T, eqb, ltb, leb, ◌≢◌, ℤ, pos, negsuc, ◌+ℤ◌, ◌*ℤ◌, neg_ℤ, nat_abs, ◌≤ℤ◌, ◌<ℤ◌, sym, refl, ap, ◌∙◌, subst, lt_of_lt_of_le, mod-lt, div-add-mod', arith, ltb→lt, leb→le, w64, SFits, lt-ltb, eqb-true, le-leb, leb-false, leb-true}
use mathlib.Core.Bool.{xor}
use lib.Dec.{leb-zero}
use lib.Signed.{mag, nat_abs-le, le_z, lt_z}
use borrow.Author.Tests.{eqb-false}
use Rattle.bits.specs.Testbit.{is_negative, fits}
use Rattle.words.specs.Sign.{with_sign}
use Rattle.bits.specs.Division.{div, «mod», div0, mod0}
use Rattle.bits.proofs.FitsLaws.{mag-fits}
use Rattle.bits.proofs.Booleans.{all₂}
use Rattle.bits.proofs.TestbitLaws.{by-lt}
use Rattle.bits.proofs.IntegerLaws.{le_z-true, lt_z-true}
use Rattle.bits.proofs.DivisionLaws.{div-mod-unique, div0-mod0-unique}
use Rattle.words.proofs.SignedLaws.{with_sign-nat_abs, with_sign-add, with_sign-sub, neg_ℤ-*ℤ-r, with_sign-mul}
use Rattle.widewords.specs.declared.division.Quotient.{Quotient}
use Rattle.widewords.specs.Division.{Allowed, Divided}

-- ---- the quotient and the remainder, rounded down or up in absolute value

abbrev quotient : Bool → ℤ → ℤ → ℤ
quotient up x y = with_sign (xor (is_negative x) (is_negative y)) (cond up (nat_abs x / nat_abs y + 1) (nat_abs x / nat_abs y))

abbrev pub remainder : Bool → Bool → ℕ → ℕ → ℤ
remainder up negative r b = cond up (with_sign (not negative) (b - r)) (with_sign negative r)

-- of n by b, with a sign
parts : (up s : Bool) (n b : ℕ) → 0 < b → with_sign s (cond up (n / b + 1) (n / b) * b) +ℤ remainder up s (n % b) b ≡ with_sign s n
parts false s n b h = sym (with_sign-add s (n / b * b) (n % b)) ∙ ap (with_sign s) (div-add-mod' n b)
parts true s n b h =
    let e : (n / b + 1) * b - (b - n % b) ≡ n = omega (arith, div-add-mod' n b, mod-lt n h) in
    sym (with_sign-sub s ((n / b + 1) * b) (b - n % b) (omega arith)) ∙ ap (with_sign s) e

xor-twice : (s t : Bool) → xor (xor s t) t ≡ s
unfolding xor
xor-twice = all₂ (λ s t. xor (xor s t) t) (λ s t. s) tt

-- x = q y + m
division-equation : (up : Bool) (x y : ℤ) → 0 < nat_abs y
    → (quotient up x y *ℤ y) +ℤ remainder up (is_negative x) (nat_abs x % nat_abs y) (nat_abs y) ≡ x
division-equation up x y h =
    ap (λ (k : ℤ). k +ℤ remainder up s (n % b) b)
    (ap (λ (k : ℤ). quotient up x y *ℤ k) (sym (with_sign-nat_abs y))
    ∙ sym (with_sign-mul (xor s t) t q b)
    ∙ ap (λ (c : Bool). with_sign c (q * b)) (xor-twice s t))
    ∙ parts up s n b h
    ∙ with_sign-nat_abs x
  where
    s : Bool
    s = is_negative x

    t : Bool
    t = is_negative y

    n : ℕ
    n = nat_abs x

    b : ℕ
    b = nat_abs y

    q : ℕ
    q = cond up (n / b + 1) (n / b)

-- ---- the remainder that is allowed

-- an allowed remainder is the remainder, and its quotient the quotient
allowed-division : (nearest up : Bool) (x y : ℤ) → 0 < nat_abs y
    → Allowed nearest (nat_abs y) (remainder up (is_negative x) (nat_abs x % nat_abs y) (nat_abs y))
    → (quotient up x y ≡ cond nearest (div0 x y) (div x y))
    × (remainder up (is_negative x) (nat_abs x % nat_abs y) (nat_abs y) ≡ cond nearest (mod0 x y) («mod» x y))
unfolding Allowed
allowed-division true up x y h a = div0-mod0-unique x y (quotient up x y) _ (sym (division-equation up x y h)) a.0 a.1
allowed-division false up x y h a = div-mod-unique x y (quotient up x y) _ (sym (division-equation up x y h)) a.0 a.1

-- its magnitude is below b
allowed-mag : (nearest : Bool) (b : ℕ) (m : ℤ) → Allowed nearest b m → mag m < b
unfolding Allowed
allowed-mag true b (pos n) a = let h : 2 * n < b = ltb→lt (2 * n) b a.1.lt in omega arith
allowed-mag true b (negsuc n) a = go b (subst (λ (k : ℕ). T (le_z (neg_ℤ (pos b)) (neg_ℤ (pos k)))) e a.0.le)
  where
    e : 2 * suc n ≡ suc (suc (2 * n))
    e = omega arith

    go : (b : ℕ) → T (le_z (neg_ℤ (pos b)) (negsuc (suc (2 * n)))) → n < b
    go zero t = absurd t
    go (suc b) t = omega (arith, leb→le (suc (2 * n)) b t)
allowed-mag false b (pos n) a = ltb→lt n b a.1.lt
allowed-mag false b (negsuc n) a = absurd a.0.le

-- 0 <= m < b
allowed-floor : (b m : ℕ) → m < b → Allowed false b (with_sign false m)
unfolding Allowed with_sign
allowed-floor b m h = (le_z-true (leb-zero m), lt_z-true (lt-ltb m b h))

-- 0 <= 2 m < b
allowed-above : (b m : ℕ) → 2 * m < b → Allowed true b (with_sign false m)
unfolding Allowed with_sign
allowed-above b m h = (le_z-true (low b), lt_z-true (lt-ltb (2 * m) b h))
  where
    low : (b : ℕ) → le_z (neg_ℤ (pos b)) (pos (2 * m)) ≡ true
    low zero = leb-zero (2 * m)
    low (suc b) = refl

-- -b <= 2 m <= 0 for -m
allowed-below : (b m : ℕ) → 0 < b → 2 * m ≤ b → Allowed true b (with_sign true m)
unfolding Allowed with_sign
allowed-below b m p h =
    subst (λ (k : ℤ). (neg_ℤ (pos b) ≤ℤ k) × (k <ℤ pos b)) (sym (neg_ℤ-*ℤ-r (pos 2) (pos m))) (le_z-true (low b (2 * m) h), lt_z-true (high (2 * m)))
  where
    low : (b k : ℕ) → k ≤ b → le_z (neg_ℤ (pos b)) (neg_ℤ (pos k)) ≡ true
    low zero zero h = refl
    low zero (suc k) h = absurd (omega arith)
    low (suc b) zero h = refl
    low (suc b) (suc k) h = le-leb k b (omega arith)

    high : (k : ℕ) → lt_z (neg_ℤ (pos k)) (pos b) ≡ true
    high zero = lt-ltb 0 b p
    high (suc k) = refl

-- ---- when to round up

-- to the nearest: where what r lacks to b is less than r, and for a dividend that is not negative also where it is r
pub nearest_negative : (r b : ℕ) → r < b → Allowed true b (remainder (ltb (b - r) r) true r b)
nearest_negative r b h =
    by-lt (λ up. Allowed true b (remainder up true r b)) (b - r) r (λ l. allowed-above b (b - r) (omega arith))
    (λ l. allowed-below b r (omega arith) (omega arith))

pub nearest-nonnegative : (r b : ℕ) → r < b → Allowed true b (remainder (leb (b - r) r) false r b)
nearest-nonnegative r b h = go (leb (b - r) r) refl
  where
    go : (up : Bool) → leb (b - r) r ≡ up → Allowed true b (remainder up false r b)
    go true e = allowed-below b (b - r) (omega arith) (omega (arith, leb-true (b - r) r e))
    go false e = allowed-above b r (omega (arith, leb-false (b - r) r e))

-- down: for a negative dividend where there is a remainder
pub floor-negative : (r b : ℕ) → r < b → Allowed false b (remainder (not (eqb r 0)) true r b)
unfolding with_sign
floor-negative r b h = go (eqb r 0) refl
  where
    go : (none : Bool) → eqb r 0 ≡ none → Allowed false b (remainder (not none) true r b)
    go true e =
        let z : r ≡ 0 = eqb-true r 0 e in
        subst (λ (k : ℕ). Allowed false b (with_sign true k)) (sym z) (allowed-floor b 0 (omega arith))
    go false e = let n : r ≢ 0 = eqb-false r 0 e in allowed-floor b (b - r) (omega arith)

pub floor-nonnegative : (r b : ℕ) → r < b → Allowed false b (remainder false false r b)
floor-nonnegative r b h = allowed-floor b r h

-- ---- the quotient that a division answers

-- for a dividend and a divisor with the signs s and t and the absolute values a and b
abbrev pub answer : (up s t : Bool) (a b : ℕ) → Quotient
answer up s t a b = record {
  negative = xor s t;
  absolute = cond up (a / b + 1) (a / b);
  remainder_negative = cond up (not s) s;
  remainder = cond up (b - a % b) (a % b);
}

answer-remainder : (up s : Bool) (r b : ℕ) → with_sign (cond up (not s) s) (cond up (b - r) r) ≡ remainder up s r b
answer-remainder true s r b = refl
answer-remainder false s r b = refl

allowed-word : (nearest : Bool) (y m : ℤ) → SFits w64 y → Allowed nearest (nat_abs y) m → fits 64 m ≡ true
allowed-word nearest y m h a =
    mag-fits 64 m (lt_of_lt_of_le (allowed-mag nearest (nat_abs y) m a) (nat_abs-le y h.sfits))

divided-by : (nearest up : Bool) (x y : ℤ) → SFits w64 y → 0 < nat_abs y
    → Allowed nearest (nat_abs y) (remainder up (is_negative x) (nat_abs x % nat_abs y) (nat_abs y))
    → Divided nearest x y (answer up (is_negative x) (is_negative y) (nat_abs x) (nat_abs y))
divided-by nearest up x y h p a =
    let e = answer-remainder up (is_negative x) (nat_abs x % nat_abs y) (nat_abs y) in
    let d = allowed-division nearest up x y p a in
    record {
      quotient = d.0;
      rest = e ∙ d.1;
      word = ap (fits 64) e ∙ allowed-word nearest y _ h a;
    }

pub divided : (nearest up : Bool) {x y : ℤ} {s t : Bool} {a b : ℕ} → SFits w64 y → 0 < nat_abs y
    → s ≡ is_negative x → t ≡ is_negative y → a ≡ nat_abs x → b ≡ nat_abs y
    → Allowed nearest b (remainder up s (a % b) b) → Divided nearest x y (answer up s t a b)
divided nearest up {x} {y} h p es et ea eb = rw (es, et, ea, eb) (divided-by nearest up x y h p)
