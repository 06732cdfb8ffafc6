-- The magnitudes of the four roundings against floor and ceiling of a quotient of integers. Assumes nothing.
use Prim.Native.Nat.{ℕ, zero, suc, ◌+◌, ◌*◌, ◌/◌, ◌%◌, ◌-◌, ◌≤◌, ◌<◌}
use native.Mathlib.Nat.{le_trans, le_of_eq, div-add-mod', mod-lt, div-eq_of_lt, suc-mul, add-zero, zero-mul, lt_of_mul-lt-mul_right}
use native.Mathlib.Numerals.{add-one}
use native.Mathlib.Omega.{arith}
use mathlib.Core.Path.{◌≡◌, refl, sym, ap, ◌∙◌, subst}
use mathlib.Core.Bool.{Bool, true, false, not, cond}
use lib.Dec.{eqb, eqb-suc-zero}
use lib.IntN.{ℤ, pos, neg_ℤ, nat_abs, ◌-ℤ◌, ◌*ℤ◌, neg_ℤ-neg_ℤ}
use lib.Ieee.Nearest.{closest}
use Rattle.bits.specs.Shift.{floor_div}
use Rattle.words.specs.Sign.{with_sign}
use Rattle.flonum.specs.declared.rounding.Rounding.TheVariants.{Floor, Ceiling, Truncate}
use Rattle.flonum.specs.Rounding.{rounded_up, magnitude}
use Rattle.flonum.proofs.Magnitudes.{closest-picks, magnitude-whole}
use Rattle.flonum_laws.specs.Roundings.{ceiling_div, NearestWhole}
use Rattle.flonum_laws.proofs.Multiples.{apart, next_multiple, even_sum, nearest-multiple}
use Rattle.flonum_laws.proofs.Distances.{sign-times, gap_same, abs-sign}

-- ---- floor
-- p d + s is the number after q d + r: a new multiple of d, or the same one
next : (q r p s k d : ℕ) → q * d + r ≡ k → r < d → p * d + s ≡ suc k → s ≡ 0 → p ≡ suc q
next q r p s k d e h f z =
    let a : q < p = lt_of_mul-lt-mul_right d (let x : q * d < p * d = omega arith in x) in
    let b : p < suc (suc q) = lt_of_mul-lt-mul_right d (let x : p * d < suc (suc q) * d = omega (arith, suc-mul (suc q) d, suc-mul q d) in x) in
    omega arith

stays : (q r p s k d : ℕ) → q * d + r ≡ k → r < d → p * d + s ≡ suc k → s < d → 0 < s → p ≡ q
stays q r p s k d e h f l z =
    let a : p < suc q = lt_of_mul-lt-mul_right d (let x : p * d < suc q * d = omega (arith, suc-mul q d) in x) in
    let b : q < suc p = lt_of_mul-lt-mul_right d (let x : q * d < suc p * d = omega (arith, suc-mul p d) in x) in
    omega arith

up_suc : (k d : ℕ) → 0 < d → rounded_up (suc k) d ≡ suc (k / d)
unfolding rounded_up
up_suc k d D = go (suc k % d) refl
  where
    go : (s : ℕ) → suc k % d ≡ s → suc k / d + cond (eqb s 0) 0 1 ≡ suc (k / d)
    go zero z = add-zero (suc k / d) ∙ next (k / d) (k % d) (suc k / d) (suc k % d) k d (div-add-mod' k d) (mod-lt k D) (div-add-mod' (suc k) d) z
    go (suc s) z = ap (λ (b : Bool). suc k / d + cond b 0 1) (eqb-suc-zero s) ∙ add-one (suc k / d)
        ∙ ap suc (stays (k / d) (k % d) (suc k / d) (suc k % d) k d (div-add-mod' k d) (mod-lt k D) (div-add-mod' (suc k) d) (mod-lt (suc k) D) (let h : 0 < suc k % d = omega arith in h))

zero-up : (d : ℕ) → 0 < d → rounded_up 0 d ≡ 0
unfolding magnitude
zero-up d D = ap (λ (a : ℕ). rounded_up a d) (sym (zero-mul d)) ∙ magnitude-whole Floor true 0 d D

module _ (d : ℕ) (D : 0 < d) where
  pub floor-is : (s : Bool) (a : ℕ) → with_sign s (magnitude Floor s a d) ≡ floor_div (with_sign s a) d
  unfolding with_sign magnitude floor_div
  floor-is false a = refl
  floor-is true (suc k) = ap (λ (n : ℕ). neg_ℤ (pos n)) (up_suc k d D)
  floor-is true zero = ap (λ (n : ℕ). neg_ℤ (pos n)) (zero-up d D) ∙ ap pos (sym (div-eq_of_lt D))

  -- ---- ceiling: the floor on the other side
  flip : (s : Bool) (n : ℕ) → neg_ℤ (with_sign s n) ≡ with_sign (not s) n
  unfolding with_sign
  flip true n = neg_ℤ-neg_ℤ (pos n)
  flip false n = refl

  mirrored : (s : Bool) (a : ℕ) → magnitude Ceiling s a d ≡ magnitude Floor (not s) a d
  unfolding magnitude
  mirrored true a = refl
  mirrored false a = refl

  pub ceiling-is : (s : Bool) (a : ℕ) → with_sign s (magnitude Ceiling s a d) ≡ ceiling_div (with_sign s a) d
  unfolding ceiling_div
  ceiling-is s a =
      ap (with_sign s) (mirrored s a)
      ∙ sym (neg_ℤ-neg_ℤ (with_sign s (magnitude Floor (not s) a d)))
      ∙ ap neg_ℤ (flip s (magnitude Floor (not s) a d) ∙ floor-is (not s) a ∙ ap (λ (z : ℤ). floor_div z d) (sym (flip s a)))

  pub truncate-is : (s : Bool) (a : ℕ) → with_sign s (magnitude Truncate s a d) ≡ cond s (ceiling_div (with_sign s a) d) (floor_div (with_sign s a) d)
  unfolding magnitude
  truncate-is true a = ceiling-is true a
  truncate-is false a = floor-is false a

  -- ---- nearest: no farther than the multiples of d on both sides, which are d apart
  module _ (a : ℕ) where
    abbrev away : ℕ
    away = apart (closest a d * d) a

    sides : (away ≤ a % d) × (away ≤ d - a % d)
    sides = (
      le_trans (nearest-multiple a d (a / d) D) (le_of_eq (below (a / d * d) (div-add-mod' a d))),
      le_trans (nearest-multiple a d (a / d + 1) D) (le_of_eq (ap (λ (x : ℕ). apart x a) (sym (next_multiple (a / d) d)) ∙ above (a / d * d) (div-add-mod' a d) (mod-lt a D))),
    )
      where
        below : (x : ℕ) → x + a % d ≡ a → apart x a ≡ a % d
        below x e = omega arith

        above : (x : ℕ) → x + a % d ≡ a → a % d < d → apart (x + d) a ≡ d - a % d
        above x e l = omega arith

    near-half : away * 2 ≤ d
    near-half = let l : a % d < d = mod-lt a D in omega (arith, sides)

    even-half : away * 2 ≡ d → closest a d % 2 ≡ 0
    even-half h =
        let half : a % d * 2 ≡ d = let l : a % d < d = mod-lt a D in omega (arith, sides) in
        ap (λ (x : ℕ). x % 2) ((closest-picks a d).same half) ∙ even_sum (a / d)

  pub round_is : (s : Bool) (a : ℕ) → NearestWhole (with_sign s a) d (with_sign s (closest a d))
  round_is s a =
      let gap : nat_abs (with_sign s (closest a d) *ℤ pos d -ℤ with_sign s a) ≡ apart (closest a d * d) a = ap (λ (z : ℤ). nat_abs (z -ℤ with_sign s a)) (sign-times s (closest a d) d) ∙ gap_same s (closest a d * d) a in
      record {
        near = subst (λ (x : ℕ). x * 2 ≤ d) (sym gap) (near-half a);
        even = λ h. ap (λ (x : ℕ). x % 2) (abs-sign s (closest a d)) ∙ even-half a (ap (λ (x : ℕ). x * 2) (sym gap) ∙ h);
      }
