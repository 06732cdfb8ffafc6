-- What the rounding calls promise, against the exact quotient numerator x / den x.
--   ceiling_div z d        ==  the least integer that is at least z / d, for d > 0; the greatest that is at most it is `floor_div` of bits
--   NearestWhole a d z    ==  z is at most 1/2 away from a / d, and even where it is exactly that
--   RoundingStatement     ==  what a user relies on. A call answers `Flonum (rounded way x)`
use Rattle.std.specs.Prelude.{ℕ, ◌*◌, ◌%◌, ◌^◌, ◌≤◌, ◌≡◌, Bool, false, cond, T, ℤ, pos, neg_ℤ, nat_abs, ◌-ℤ◌, ◌*ℤ◌, Float}
use Rattle.std.specs.Float.{nan, inf, binary64}
use Rattle.std.specs.Float.Ieee.{fits, is_nan, to_bits}
use Rattle.std.specs.Float.Ieee.Positive.{den}
use Rattle.bits.specs.Shift.{floor_div}
use Rattle.flonum.specs.declared.rounding.Rounding.{Rounding}
use Rattle.flonum.specs.Rounding.{rounded, flfloor, flceiling, fltruncate, flround, clear_sign}
use Rattle.flonum_laws.specs.Quotients.{negative, numerator, Representable, Equals}

unfoldable pub ceiling_div : ℤ → ℕ → ℤ
ceiling_div z d = neg_ℤ (floor_div (neg_ℤ z) d)

pub record NearestWhole (a : ℤ) (d : ℕ) (z : ℤ) : Type 0 where
  pub near : nat_abs (z *ℤ pos d -ℤ a) * 2 ≤ d
  pub even : nat_abs (z *ℤ pos d -ℤ a) * 2 ≡ d → nat_abs z % 2 ≡ 0

pub record RoundingStatement : Type 0 where
  pub floor : (x : Float) → Representable x → Equals (flfloor x) (floor_div (numerator x) (den x))
  pub ceiling : (x : Float) → Representable x → Equals (flceiling x) (ceiling_div (numerator x) (den x))
  -- toward zero: the ceiling of a negative, the floor of any other
  pub truncate : (x : Float) → Representable x → Equals (fltruncate x) (cond (negative x) (ceiling_div (numerator x) (den x)) (floor_div (numerator x) (den x)))
  -- the nearest, the even one of two that are as near
  pub round : (x : Float) → Representable x → (z : ℤ) × (Equals (flround x) z) × (NearestWhole (numerator x) (den x) z)
  -- the sign is kept, so a negative that rounds to zero gives the negative zero; infinities stay, and a NaN gives the NaN
  pub sign : (way : Rounding) (x : Float) → T (fits binary64 x) → negative (rounded way x) ≡ negative x
  pub infinity : (way : Rounding) (s : Bool) → rounded way (inf s) ≡ inf s
  pub not-a-number : (way : Rounding) → rounded way nan ≡ nan
  -- a whole number stays, bit for bit; so rounding twice is rounding once
  pub whole : (way : Rounding) (x : Float) (z : ℤ) → T (fits binary64 x) → Equals x z → rounded way x ≡ x
  pub twice : (way again : Rounding) (x : Float) → T (fits binary64 x) → rounded again (rounded way x) ≡ rounded way x
  -- flabs clears the sign bit, and nothing else
  pub abs-bits : (x : Float) → T (fits binary64 x) → is_nan x ≡ false → to_bits binary64 (clear_sign x) ≡ to_bits binary64 x % 2 ^ 63
  pub abs-value : (x : Float) → numerator (clear_sign x) ≡ pos (nat_abs (numerator x))
