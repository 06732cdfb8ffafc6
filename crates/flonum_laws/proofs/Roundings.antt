-- The rounding calls against the exact quotient, and flabs. Assumes nothing.
use Prim.Native.Nat.{ℕ, ◌*◌, ◌%◌, ◌^◌, ◌≤◌, ◌<◌}
use native.Mathlib.Nat.{mod-lt, lt_of_lt_of_le}
use native.Mathlib.Omega.{arith}
use mathlib.Core.Path.{◌≡◌, refl, sym, ap, ◌∙◌, subst}
use mathlib.Core.Bool.{Bool, false, not, cond}
use lib.Dec.{T, lit<}
use lib.IntN.{ℤ, pos, nat_abs, ◌*ℤ◌}
use lib.Ieee.{Float, nan, inf, fin, binary64, up, down, fits, is_nan, to_bits, top}
use lib.Ieee.Bits.{to_bits-of_bits, nan_bits_is}
use lib.Ieee.Fits.{down_pos, round-fits}
use lib.Ieee.Positive.{den}
use Rattle.bits.specs.Shift.{floor_div}
use Rattle.bits.specs.Testbit.{is_negative}
use Rattle.words.specs.Sign.{with_sign}
use Rattle.flonum.specs.declared.rounding.Rounding.{Rounding}
use Rattle.flonum.specs.declared.rounding.Rounding.TheVariants.{Floor, Ceiling, Truncate, Round}
use Rattle.flonum.specs.Rounding.{magnitude, rounded, flfloor, flceiling, fltruncate, flround, clear_sign}
use Rattle.flonum.proofs.RoundingLaws.{rounded-exact, whole-stays}
use Rattle.flonum.proofs.NanLaws.{cleared, cleared-no-nan}
use Rattle.flonum_laws.specs.Quotients.{negative, numerator, Representable, Equals}
use Rattle.flonum_laws.specs.Roundings.{ceiling_div, NearestWhole, RoundingStatement}
use Rattle.flonum_laws.proofs.Distances.{sign-times, abs-sign}
use Rattle.flonum_laws.proofs.FloorLaws.{floor-is, ceiling-is, truncate-is, round_is}
use Rattle.flonum_laws.proofs.Nearness.{parts-of, equals-of, negative_of}

-- what x is rounded to, and a law of that integer
module _ (way : Rounding) (P : Bool → ℤ → ℕ → ℤ → Type 0) (law : (s : Bool) (a d : ℕ) → 0 < d → P s (with_sign s a) d (with_sign s (magnitude way s a d))) where
  rounds-to : (x : Float) → Representable x → (z : ℤ) × (Equals (rounded way x) z) × (P (negative x) (numerator x) (den x) z)
  unfolding negative numerator
  rounds-to nan r = absurd r.bounded
  rounds-to (inf s) r = absurd r.bounded
  rounds-to (fin s m e) r = (
    with_sign s (magnitude way s (m * up e) (down e)),
    equals-of (rounded way (fin s m e)) s (magnitude way s (m * up e) (down e)) (rounded-exact way s m e r.held),
    law s (m * up e) (down e) (down_pos e),
  )

-- where that integer is given by an equation
rounds-as : (way : Rounding) (f : Bool → ℤ → ℕ → ℤ) → ((s : Bool) (a d : ℕ) → 0 < d → with_sign s (magnitude way s a d) ≡ f s (with_sign s a) d)
    → (x : Float) → Representable x → Equals (rounded way x) (f (negative x) (numerator x) (den x))
rounds-as way f law x r =
    let t = rounds-to way (λ s a d z. z ≡ f s a d) law x r in
    subst (Equals (rounded way x)) t.2 t.1

sign-is : (way : Rounding) (x : Float) → T (fits binary64 x) → negative (rounded way x) ≡ negative x
sign-is way nan h = unfold rounded in refl
sign-is way (inf s) h = unfold rounded in refl
sign-is way (fin s m e) h = unfold negative in negative_of (rounded way (fin s m e)) s (magnitude way s (m * up e) (down e)) 1 (rounded-exact way s m e h)

abs-times : (z : ℤ) (d : ℕ) → nat_abs (z *ℤ pos d) ≡ nat_abs z * d
abs-times z d =
    ap (λ (k : ℤ). nat_abs (k *ℤ pos d)) (sym (parts-of z)) ∙ ap nat_abs (sign-times (is_negative z) (nat_abs z) d) ∙ abs-sign (is_negative z) (nat_abs z * d)

whole_is : (way : Rounding) (x : Float) (z : ℤ) → T (fits binary64 x) → Equals x z → rounded way x ≡ x
unfolding numerator negative
whole_is way nan z h r = absurd r.bounded
whole_is way (inf s) z h r = absurd r.bounded
whole_is way (fin s m e) z h r =
    whole-stays way s m e (nat_abs z) h (sym (abs-sign s (m * up e)) ∙ ap nat_abs r.exact ∙ abs-times z (down e))

twice-is : (way again : Rounding) (x : Float) → T (fits binary64 x) → rounded again (rounded way x) ≡ rounded way x
twice-is way again nan h = unfold rounded in refl
twice-is way again (inf s) h = unfold rounded in refl
twice-is way again (fin s m e) h =
    let n = magnitude way s (m * up e) (down e) in
    whole_is again (rounded way (fin s m e)) (with_sign s n) (unfold rounded in round-fits binary64 s n 1) (equals-of (rounded way (fin s m e)) s n (rounded-exact way s m e h))

abs-bits-is : (x : Float) → T (fits binary64 x) → is_nan x ≡ false → to_bits binary64 (clear_sign x) ≡ to_bits binary64 x % 2 ^ 63
abs-bits-is x h n =
    let b = to_bits binary64 x % 2 ^ 63 in
    let small : b < 2 * top binary64 = lt_of_lt_of_le (mod-lt (to_bits binary64 x) (lit< tt)) (let l : 2 ^ 63 ≤ 2 * top binary64 = omega arith in l) in
    ap (to_bits binary64) (sym (cleared x h))
    ∙ to_bits-of_bits binary64 b small (subst (λ (t : Bool). T (not t)) (nan_bits_is binary64 b) (cleared-no-nan x h (subst (λ (t : Bool). T (not t)) (sym n) tt)))

abs-value-is : (x : Float) → numerator (clear_sign x) ≡ pos (nat_abs (numerator x))
unfolding clear_sign numerator negative
abs-value-is nan = unfold with_sign in refl
abs-value-is (inf s) = unfold with_sign in ap pos (sym (abs-sign s 0))
abs-value-is (fin s m e) = unfold with_sign in ap pos (sym (abs-sign s (m * up e)))

pub whole_numbers : RoundingStatement
whole_numbers = record {
  floor = unfold flfloor in rounds-as Floor (λ s. floor_div) (λ s a d D. floor-is d D s a);
  ceiling = unfold flceiling in rounds-as Ceiling (λ s. ceiling_div) (λ s a d D. ceiling-is d D s a);
  truncate = unfold fltruncate in rounds-as Truncate (λ s a d. cond s (ceiling_div a d) (floor_div a d)) (λ s a d D. truncate-is d D s a);
  round = unfold flround magnitude in rounds-to Round (λ s. NearestWhole) (λ s a d D. round_is d D s a);
  sign = sign-is;
  infinity = λ way s. unfold rounded in refl;
  not-a-number = λ way. unfold rounded in refl;
  whole = whole_is;
  twice = twice-is;
  abs-bits = abs-bits-is;
  abs-value = abs-value-is;
}
