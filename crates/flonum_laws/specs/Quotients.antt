-- A finite flonum x as an exact quotient: numerator x / den x. `den` is of the kit's Float.Ieee, and above 0.
--   negative x        ==  whether the sign is set; false for NaN
--   numerator x       ==  the numerator, with the sign
--   Representable x   ==  x is a finite flonum of 64 bits
--   Equals x z        ==  x is finite, and exactly the integer z
use Rattle.std.specs.Prelude.{◌≡◌, Bool, false, T, ℤ, pos, ◌*ℤ◌, Float}
use Rattle.std.specs.Float.{nan, inf, fin, binary64}
use Rattle.std.specs.Float.Ieee.{fits}
use Rattle.std.specs.Float.Ieee.Scale.{finite}
use Rattle.std.specs.Float.Ieee.Positive.{num, den}
use Rattle.words.specs.Sign.{with_sign}

unfoldable pub negative : Float → Bool
negative nan = false
negative (inf s) = s
negative (fin s m e) = s

unfoldable pub numerator : Float → ℤ
numerator x = with_sign (negative x) (num x)

pub record Representable (x : Float) : Type 0 where
  pub held : T (fits binary64 x)
  pub bounded : T (finite x)

pub record Equals (x : Float) (z : ℤ) : Type 0 where
  pub bounded : T (finite x)
  pub exact : numerator x ≡ z *ℤ pos (den x)
