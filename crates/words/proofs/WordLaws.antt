-- How the logic reads a signed 64-bit word, said of integers: the bits of x, read as signed, are x; what the machine's sign test, complement and
-- casts give. Assumes nothing.
use Prim.Native.Nat.{ℕ, zero, zero-le, suc, ◌-◌, ◌<◌, ◌^◌}
use native.Mathlib.Omega.{arith}
use mathlib.Core.Path.{◌≡◌, refl, sym, ap, ◌∙◌, subst}
use mathlib.Core.Bool.{Bool, true, false, cond, not, true≢false}
use lib.Dec.{T, leb, ltb}
use lib.Pow.{pow_pos}
use lib.IntN.{ℤ, pos, negsuc, neg_ℤ, nat_abs}
use lib.Signed.{mag, le_z, lt_z, non_neg}
use mir.Syntax.{w64}
use mir.Val.{Fits, SFits, to_z, of_z}
use mir.ValLaws.{to_z-of_z, to_z_pos, to_z-neg}
use borrow.Author.Tests.{le-ltb, lt-ltb, le-leb, ltb-true}
use Rattle.bits.specs.Testbit.{is_negative, fits}
use Rattle.words.specs.Sign.{with_sign, of_magnitude}
use Rattle.bits.specs.Logical.{bitwise_not}

-- the bits of x, read as signed, are x
pub back : {x : ℤ} → SFits w64 x → to_z w64 (of_z w64 x) ≡ x
back {x} h = to_z-of_z w64 x h

-- from the bound itself, as an element of an array or a call's result has it
pub back-word : (x : ℤ) → mag x < 2 ^ 63 → to_z w64 (of_z w64 x) ≡ x
back-word x h = to_z-of_z w64 x (record { sfits = h })

lt-zero : (x : ℤ) → lt_z x (pos 0) ≡ is_negative x
unfolding is_negative
lt-zero (pos n) = le-ltb n 0 (omega arith)
lt-zero (negsuc n) = refl

-- the machine's test x < 0
pub is_negative-word : {x : ℤ} → SFits w64 x → lt_z (to_z w64 (of_z w64 x)) (pos 0) ≡ is_negative x
is_negative-word {x} h = ap (λ (y : ℤ). lt_z y (pos 0)) (back h) ∙ lt-zero x

not-negsuc : (n : ℕ) → n < 2 ^ 63 → 18446744073709551615 - (2 ^ 64 - suc n) ≡ n
not-negsuc n h = omega arith

-- the complement of the bits is that of the integer
pub not-word : {x : ℤ} → SFits w64 x → to_z w64 (18446744073709551615 - of_z w64 x) ≡ bitwise_not x
unfolding bitwise_not
not-word {x = pos n} h =
    let e : 18446744073709551615 - n ≡ 2 ^ 64 - suc n = omega arith in
    ap (to_z w64) e ∙ to_z-neg w64 n h.sfits
not-word {x = negsuc n} h = ap (to_z w64) (not-negsuc n h.sfits) ∙ to_z_pos w64 n h.sfits

-- x and its magnitude, by the sign
pub negative-mag : (x : ℤ) → is_negative x ≡ true → bitwise_not x ≡ pos (mag x)
unfolding is_negative bitwise_not
negative-mag (pos n) h = let z : ◌≡◌ {A = ℕ} 0 1 = cc in absurd (omega arith)
negative-mag (negsuc n) h = refl

pub nonnegative-mag : (x : ℤ) → is_negative x ≡ false → x ≡ pos (mag x)
unfolding is_negative
nonnegative-mag (pos n) h = refl
nonnegative-mag (negsuc n) h = let z : ◌≡◌ {A = ℕ} 0 1 = cc in absurd (omega arith)

pub natural-mag : (x : ℤ) → le_z (pos 0) x ≡ true → x ≡ pos (mag x)
natural-mag (pos n) h = refl
natural-mag (negsuc n) h = let z : ◌≡◌ {A = ℕ} 0 1 = cc in absurd (omega arith)

-- one that is not negative, as the code has it
pub natural-pos : (d : ℤ) {r : ℕ} → le_z (pos 0) d ≡ true → r ≡ nat_abs d → d ≡ pos r
natural-pos (pos n) h e = ap pos (sym e)
natural-pos (negsuc n) h e = absurd (true≢false (sym h))

-- what the cast of a signed word to an unsigned one asks, and what it gives
pub cast-word : {z : ℤ} {m : ℕ} → z ≡ pos m → m < 2 ^ 63 → T (non_neg z) × Fits w64 (nat_abs z)
cast-word {z} {m} e h = subst (λ (y : ℤ). T (non_neg y) × Fits w64 (nat_abs y)) (sym e) (tt, record { fits = omega arith })

-- an integer from its sign and its absolute value, by the sign
pub sign_zero : (negative : Bool) {n : ℕ} → n ≡ 0 → pos 0 ≡ with_sign negative n
unfolding with_sign
sign_zero true h = ap (λ (k : ℕ). neg_ℤ (pos k)) (sym h)
sign_zero false h = ap pos (sym h)

pub sign-negative : {negative : Bool} (n : ℕ) → negative ≡ true → (n ≡ 0 → ⊥) → of_magnitude true (n - 1) ≡ with_sign negative n
unfolding with_sign of_magnitude
sign-negative {negative} zero e h = absurd (h refl)
sign-negative {negative} (suc k) e h =
    let m : suc k - 1 ≡ k = omega arith in
    ap negsuc m ∙ sym (ap (λ (b : Bool). cond b (negsuc k) (pos (suc k))) e)

pub sign-nonnegative : {negative : Bool} (n : ℕ) → negative ≡ false → of_magnitude false n ≡ with_sign negative n
unfolding with_sign of_magnitude
sign-nonnegative {negative} n e = sym (ap (λ (b : Bool). cond b (neg_ℤ (pos n)) (pos n)) e)

-- an integer that fits has a magnitude below half the range
pub fits-mag : (w : ℕ) (x : ℤ) → fits w x ≡ true → mag x < 2 ^ (w - 1)
unfolding fits
fits-mag w x h = ltb-true (mag x) (2 ^ (w - 1)) h

pub mag-of_magnitude : (negative : Bool) (m : ℕ) → mag (of_magnitude negative m) ≡ m
unfolding of_magnitude
mag-of_magnitude true m = refl
mag-of_magnitude false m = refl

-- the range of a width, by sign and absolute value
pub fits_negative : (w n : ℕ) → fits w (with_sign true n) ≡ leb n (2 ^ (w - 1))
unfolding fits with_sign
fits_negative w zero = lt-ltb 0 (2 ^ (w - 1)) (pow_pos (w - 1)) ∙ sym (le-leb 0 (2 ^ (w - 1)) zero-le)
fits_negative w (suc n) = refl

pub fits-nonnegative : (w n : ℕ) → fits w (with_sign false n) ≡ ltb n (2 ^ (w - 1))
unfolding fits with_sign
fits-nonnegative w n = refl

-- ---- a position, from the number q that its bits are, read as signed

not-below : (k : ℤ) → le_z (pos 0) k ≡ not (lt_z k (pos 0))
not-below (pos n) = le-leb 0 n zero-le ∙ sym (ap not (le-ltb n 0 zero-le))
not-below (negsuc n) = refl

-- the code's test is that of the domain
pub position-tested : (k : ℤ) {q : ℤ} → q ≡ k → le_z (pos 0) k ≡ not (lt_z q (pos 0))
position-tested k e = not-below k ∙ ap (λ (y : ℤ). not (lt_z y (pos 0))) (sym e)
