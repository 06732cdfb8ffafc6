-- Rounding of flonums to whole numbers: the flonums that the code makes of magnitudes, and those that it returns unchanged. Assumes nothing.
use Rattle.std.proofs.Common.{◌≡◌, ℕ, zero, suc, ◌+◌, ◌*◌, ◌/◌, ◌^◌, ◌<◌, ◌≤◌, Bool, true, false, cond, not, T, ltb, ℤ, pos, negsuc, sym, refl, ap, ◌∙◌, subst, ap₂, lt_of_lt_of_le, mul_assoc, zero-mul, mul-one, arith, lit<, lit≤, le→leb, ltb→lt, lt→ltb, nltb→le, pow_pos, pow_mono, pow-add, shl_lt}
use native.Mathlib.Nat.{pow-succ'}
use lib.Ieee.{Float, nan, inf, fin, Format, binary64, prec, emax, low, up, down, odd, units, neg, lt, mul, round, of_int, of_bits, in_float, fits, is_nan}
use lib.Ieee.Exact.{HasValue, round_exact}
use lib.Ieee.Fits.{down_pos, round_is, round-fits}
use lib.Ieee.Back.{round_whole, whole_unique}
use lib.Ieee.Positive.{num, den, den_pos, positive_of_value, mul_at}
use Rattle.flonum.specs.declared.rounding.Rounding.{Rounding}
use Rattle.flonum.specs.Rounding.{magnitude, rounded, Small}
use Rattle.flonum.proofs.Values.{lt-values, parts, whole-lt, few-of, under_of}
use Rattle.flonum.proofs.Magnitudes.{magnitude-le, magnitude-whole}

-- ---- whole numbers as flonums
pub whole_val : (q : ℕ) → q ≤ 2 ^ 53 → HasValue (of_int binary64 (pos q)) false q 1
unfolding of_int
whole_val q h = round_whole binary64 false q h

pub in-float : (q : ℕ) → q ≤ 2 ^ 53 → T (in_float binary64 (pos q))
unfolding in_float
in-float q h = le→leb q (2 ^ 53) h

half-val : HasValue (of_bits binary64 0x3fe0_0000_0000_0000) false 1 2
unfolding of_bits
half-val = (refl, refl)

pub middle-val : (q : ℕ) → q < 2 ^ 52 → HasValue (mul binary64 (of_int binary64 (pos (2 * q + 1))) (of_bits binary64 0x3fe0_0000_0000_0000)) false (2 * q + 1) 2
middle-val q h =
    let n = 2 * q + 1 in
    let n-lt : n < 2 ^ 53 = omega arith in
    let n-le : n ≤ 2 ^ 53 = omega arith in
    let n_pos : 0 < n = omega arith in
    let x = of_int binary64 (pos n) in
    let y = of_bits binary64 0x3fe0_0000_0000_0000 in
    let v = whole_val n n-le in
    let is : mul binary64 x y ≡ round binary64 false (n * 1) 2 =
    mul_at binary64 x y n 1 1 2 (positive_of_value x n 1 v n_pos) (positive_of_value y 1 2 half-val (lit< tt)) (lit< tt) (lit< tt) v half-val in
    subst (λ (z : Float). HasValue z false n 2) (sym (is ∙ ap (λ (k : ℕ). round binary64 false k 2) (mul-one n)))
    (round_exact binary64 false n 2 n 1073 (lit< tt) n-lt (lt_of_lt_of_le (shl_lt 53 1073 n-lt) (pow_mono {i = 53 + 1073} {j = 1074 + 1024} (lit≤ tt))) (sym (mul_assoc n (2 ^ 1073) 2)))

-- ---- the sign
neg-odd : (d q k l : ℕ) → neg (odd d false q k l) ≡ odd d true q k l
unfolding odd neg
neg-odd d zero k l = refl
neg-odd d (suc q) k l = refl

neg-units : (f : Format) (q k : ℕ) → neg (units f false q k) ≡ units f true q k
unfolding units
neg-units f q k = go (ltb (q * 2 ^ k) (2 ^ (low f + suc (emax f))))
  where
    go : (b : Bool) → neg (cond b (odd (suc (prec f)) false q k (low f)) (inf false)) ≡ cond b (odd (suc (prec f)) true q k (low f)) (inf true)
    go true = neg-odd (suc (prec f)) q k (low f)
    go false = unfold neg in refl

pub neg-round : (f : Format) (a b : ℕ) → neg (round f false a b) ≡ round f true a b
neg-round f a b = ap neg (round_is f false a b) ∙ neg-units f _ _ ∙ sym (round_is f true a b)

-- ---- a rounded flonum is the whole number exactly: nothing is rounded a second time
too_few : (m p : ℕ) → 0 < p → m < 2 ^ 53 → 2 ^ 52 * (2 * p) ≤ m * 1 → ⊥
too_few m p P h k = omega (arith, mul-one m)

nothing : (d u : ℕ) → 0 < d → 2 ^ 52 * d ≤ 0 * u → ⊥
nothing d u D h = omega (arith, zero-mul u)

no_fraction : (s : Bool) (m k : ℕ) → T (fits binary64 (fin s m (negsuc k))) → 2 ^ 52 * 2 ^ suc k ≤ m * 1 → ⊥
unfolding fits
no_fraction s zero k h l = nothing (2 ^ suc k) 1 (pow_pos (suc k)) l
no_fraction s (suc m) k h l = too_few (suc m) (2 ^ k) (pow_pos k) (few-of (suc m) (negsuc k) h) (subst (λ (x : ℕ). 2 ^ 52 * x ≤ suc m * 1) (pow-succ' 2 k) l)

-- from 2 ^ 52 on a flonum is a whole number
large-exact : (way : Rounding) (s : Bool) (m : ℕ) (e : ℤ) → T (fits binary64 (fin s m e)) → 2 ^ 52 * down e ≤ m * up e → HasValue (round binary64 s (magnitude way s (m * up e) (down e)) 1) s (magnitude way s (m * up e) (down e)) 1
unfolding fits
large-exact way s zero e h l = absurd (nothing (down e) (up e) (down_pos e) l)
large-exact way s (suc m) (negsuc k) h l = absurd (no_fraction s (suc m) k h l)
large-exact way s (suc m) (pos k) h l =
    let n = suc m * 2 ^ k in
    let shifted : suc m * 2 ^ (k + 1074) ≡ n * 2 ^ 1074 = ap (λ (x : ℕ). suc m * x) (pow-add 2 k 1074) ∙ sym (mul_assoc (suc m) (2 ^ k) (2 ^ 1074)) in
    subst (λ (x : ℕ). HasValue (round binary64 s x 1) s x 1) (sym (ap (λ (x : ℕ). magnitude way s x 1) (sym (mul-one n)) ∙ magnitude-whole way s n 1 (lit< tt)))
    (round_exact binary64 s n 1 (suc m) (k + 1074) (lit< tt) (few-of (suc m) (pos k) h) (subst (λ (x : ℕ). x < 2 ^ (1074 + 1024)) (sym shifted) (shl_lt 1024 1074 (under_of (suc m) (pos k) h))) (sym shifted ∙ sym (mul-one (suc m * 2 ^ (k + 1074)))))

pub rounded-exact : (way : Rounding) (s : Bool) (m : ℕ) (e : ℤ) → T (fits binary64 (fin s m e)) → HasValue (rounded way (fin s m e)) s (magnitude way s (m * up e) (down e)) 1
unfolding rounded
rounded-exact way s m e h = go (ltb (m * up e) (2 ^ 52 * down e)) (ltb→lt (m * up e) (2 ^ 52 * down e)) (nltb→le (m * up e) (2 ^ 52 * down e))
  where
    le-53 : (n : ℕ) → n ≤ 2 ^ 52 → n ≤ 2 ^ 53
    le-53 n h = omega arith

    go : (b : Bool) → (T b → m * up e < 2 ^ 52 * down e) → (T (not b) → 2 ^ 52 * down e ≤ m * up e) → HasValue (round binary64 s (magnitude way s (m * up e) (down e)) 1) s (magnitude way s (m * up e) (down e)) 1
    go true l g = round_whole binary64 s (magnitude way s (m * up e) (down e)) (le-53 (magnitude way s (m * up e) (down e)) (magnitude-le way s (m * up e) (down e) (down_pos e) (l tt)))
    go false l g = large-exact way s m e h (g tt)

-- ---- whole numbers stay: zeros, and the flonums from 2 ^ 52 on
pub whole-stays : (way : Rounding) (s : Bool) (m : ℕ) (e : ℤ) (k : ℕ) → T (fits binary64 (fin s m e)) → m * up e ≡ k * down e → rounded way (fin s m e) ≡ fin s m e
whole-stays way s m e k h z =
    whole_unique binary64 (rounded way (fin s m e)) (fin s m e) s k (unfold rounded in round-fits binary64 s (magnitude way s (m * up e) (down e)) 1) h
    (subst (λ (x : ℕ). HasValue (rounded way (fin s m e)) s x 1) (ap (λ (a : ℕ). magnitude way s a (down e)) z ∙ magnitude-whole way s k (down e) (down_pos e)) (rounded-exact way s m e h))
    (refl, mul-one (m * up e) ∙ z)

zero-stays : (way : Rounding) (s : Bool) (m : ℕ) (e : ℤ) → T (fits binary64 (fin s m e)) → m * up e ≡ 0 → rounded way (fin s m e) ≡ fin s m e
zero-stays way s m e h z = whole-stays way s m e 0 h (z ∙ sym (zero-mul (down e)))

large-stays : (way : Rounding) (s : Bool) (m : ℕ) (e : ℤ) → T (fits binary64 (fin s m e)) → 2 ^ 52 * down e ≤ m * up e → rounded way (fin s m e) ≡ fin s m e
large-stays way s m (negsuc k) h l = absurd (no_fraction s m k h l)
large-stays way s m (pos k) h l = whole-stays way s m (pos k) (m * 2 ^ k) h (sym (mul-one (m * 2 ^ k)))

-- ---- the four ways through `rounded`
pub small-rounds : (way : Rounding) (x : Float) (q : ℕ) → Small x → q ≡ magnitude way false (num x) (den x) → of_int binary64 (pos q) ≡ rounded way x
unfolding lt of_int rounded
small-rounds way nan q s e = absurd s.0
small-rounds way (inf true) q s e = absurd s.0
small-rounds way (inf false) q s e = absurd s.1
small-rounds way (fin true m g) q s e = absurd s.0
small-rounds way (fin false m g) q s e = ap (λ (k : ℕ). round binary64 false k 1) e

pub negative-rounds : (way : Rounding) (x : Float) (q : ℕ) → Small (neg x) → q ≡ magnitude way true (num (neg x)) (den (neg x)) → neg (of_int binary64 (pos q)) ≡ rounded way x
unfolding lt neg of_int rounded
negative-rounds way nan q s e = absurd s.0
negative-rounds way (inf true) q s e = absurd s.1
negative-rounds way (inf false) q s e = absurd s.0
negative-rounds way (fin false m g) q s e = absurd s.0
negative-rounds way (fin true m g) q s e = neg-round binary64 q 1 ∙ ap (λ (k : ℕ). round binary64 true k 1) e

from-limit : (n d : ℕ) → 1 * 2 ^ 52 * d ≤ n * 1 → 2 ^ 52 * d ≤ n
from-limit n d h = omega (arith, mul-one n)

pub large-rounds : (way : Rounding) (x : Float) → T (fits binary64 x) → T (lt (fin false 0 (pos 0)) x) → T (not (lt x (fin false 1 (pos 52)))) → x ≡ rounded way x
unfolding lt
large-rounds way nan h p l = absurd p
large-rounds way (inf s) h p l = unfold rounded in refl
large-rounds way (fin true m e) h p l = absurd p
large-rounds way (fin false m e) h p l = sym (large-stays way false m e h (from-limit (m * up e) (down e) (nltb→le (m * up e * 1) (1 * 2 ^ 52 * down e) l)))

pub low-rounds : (way : Rounding) (x : Float) → T (fits binary64 x) → T (lt x (fin false 0 (pos 0))) → T (not (lt (neg x) (fin false 1 (pos 52)))) → x ≡ rounded way x
unfolding lt neg
low-rounds way nan h p l = absurd p
low-rounds way (inf s) h p l = unfold rounded in refl
low-rounds way (fin false m e) h p l = absurd (ltb-zero (m * up e * 1) (down e) p)
  where
    ltb-zero : (a d : ℕ) → T (ltb a (0 * 1 * d)) → ⊥
    ltb-zero a d t = let k : a < 0 * 1 * d = ltb→lt a (0 * 1 * d) t in omega (arith, zero-mul d)
low-rounds way (fin true m e) h p l = sym (large-stays way true m e h (from-limit (m * up e) (down e) (nltb→le (m * up e * 1) (1 * 2 ^ 52 * down e) l)))

none_left : (a u d : ℕ) → a * 1 ≤ 0 * u * d → a ≡ 0
none_left a u d h = omega (arith, mul-one a, zero-mul u, zero-mul d)

none-left-sum : (a d : ℕ) → a * 1 + 0 * 1 * d ≤ 0 → a ≡ 0
none-left-sum a d h = omega (arith, mul-one a, zero-mul d)

pub zero-rounds : (way : Rounding) (x : Float) → T (fits binary64 x) → T (not (is_nan x)) → T (not (lt (fin false 0 (pos 0)) x)) → T (not (lt x (fin false 0 (pos 0)))) → x ≡ rounded way x
unfolding lt is_nan
zero-rounds way nan h n a b = absurd n
zero-rounds way (inf s) h n a b = unfold rounded in refl
zero-rounds way (fin false m e) h n a b = sym (zero-stays way false m e h (none_left (m * up e) 1 (down e) (nltb→le (0 * 1 * down e) (m * up e * 1) a)))
zero-rounds way (fin true m e) h n a b = sym (zero-stays way true m e h (none-left-sum (m * up e) (down e) (nltb→le 0 (m * up e * 1 + 0 * 1 * down e) b)))

ltb-above : (a d : ℕ) → T (ltb 0 (a * 1 + 0 * 1 * d)) → T (ltb (0 * 1 * d) (a * 1))
ltb-above a d t = lt→ltb (0 * 1 * d) (a * 1) (let k : 0 < a * 1 + 0 * 1 * d = ltb→lt 0 (a * 1 + 0 * 1 * d) t in omega (arith, mul-one a, zero-mul d))

pub neg-above : (x : Float) → T (lt x (fin false 0 (pos 0))) → T (lt (fin false 0 (pos 0)) (neg x))
unfolding lt neg
neg-above nan t = absurd t
neg-above (inf true) t = tt
neg-above (inf false) t = absurd t
neg-above (fin true m e) t = ltb-above (m * up e) (down e) t
neg-above (fin false m e) t = absurd (ltb-zero (m * up e * 1) (down e) t)
  where
    ltb-zero : (a d : ℕ) → T (ltb a (0 * 1 * d)) → ⊥
    ltb-zero a d t = let k : a < 0 * 1 * d = ltb→lt a (0 * 1 * d) t in omega (arith, zero-mul d)

-- ---- what the tests of `rounded_up` and `rounded_even` compare
pub up-test : (a : Float) (q : ℕ) → Small a → q ≡ num a / den a → lt (of_int binary64 (pos q)) a ≡ ltb (q * den a) (num a * 1)
up-test a q s e = lt-values (of_int binary64 (pos q)) a q 1 (num a) (den a) (lit< tt) (den_pos a) (whole_val q (let h : num a / den a < 2 ^ 52 = whole-lt a s in omega arith)) (parts a s).value

abbrev pub middle : ℕ → Float
middle q = mul binary64 (of_int binary64 (pos (2 * q + 1))) (of_bits binary64 0x3fe0_0000_0000_0000)

pub below-middle : (a : Float) (q : ℕ) → Small a → q ≡ num a / den a → lt a (middle q) ≡ ltb (num a * 2) ((2 * q + 1) * den a)
below-middle a q s e = lt-values a (middle q) (num a) (den a) (2 * q + 1) 2 (den_pos a) (lit< tt) (parts a s).value (middle-val q (let h : num a / den a < 2 ^ 52 = whole-lt a s in omega arith))

pub above-middle : (a : Float) (q : ℕ) → Small a → q ≡ num a / den a → lt (middle q) a ≡ ltb ((2 * q + 1) * den a) (num a * 2)
above-middle a q s e = lt-values (middle q) a (2 * q + 1) 2 (num a) (den a) (lit< tt) (den_pos a) (middle-val q (let h : num a / den a < 2 ^ 52 = whole-lt a s in omega arith)) (parts a s).value

-- what `magnitude` answers: in the case that it has told, and by the sign that it has tested
pub answers : (a : Float) {way told : Rounding} {s tested : Bool} {r : ℕ} → Small a → way ≡ told → s ≡ tested → r ≡ magnitude told tested (num a) (den a)
    → (r ≡ magnitude way s (num a) (den a)) × (r ≤ 2 ^ 52)
answers a {way} {told} {s} {tested} {r} h p q e = (
  e ∙ sym (ap₂ (λ (w : Rounding) (t : Bool). magnitude w t (num a) (den a)) p q),
  subst (λ (n : ℕ). n ≤ 2 ^ 52) (sym e) (magnitude-le told tested (num a) (den a) (den_pos a) (parts a h).below),
)
