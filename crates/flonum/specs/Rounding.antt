-- What the rounding calls and flabs mean. A finite flonum `fin s m e` is m * 2 ^ e, that is the quotient m * up e / down e, negative where s is true.
--   rounded_up a b         ==  a / b, rounded up to a whole number
--   magnitude way s a b   ==  the magnitude of the whole number that a / b, negative where s is true, is rounded to; `closest` rounds to the nearest, at a tie to the even one
--   rounded way x         ==  x rounded to a whole number. It keeps its sign, also at zero; NaN and the infinities stay
--   flfloor, flceiling, fltruncate, flround
--   clear_sign x           ==  x with its sign cleared
--   Small a               ==  0 < a < 2 ^ 52: all flonums from 2 ^ 52 on are whole
use Rattle.std.specs.Prelude.{ℕ, ◌+◌, ◌*◌, ◌/◌, ◌%◌, Bool, false, cond, T, pos, ◌==◌, Float}
use Rattle.std.specs.Float.{nan, inf, fin, binary64}
use Rattle.std.specs.Float.Ieee.{up, down, round, lt}
use Rattle.std.specs.Float.Ieee.Nearest.{closest}
use Rattle.flonum.specs.declared.rounding.Rounding.{Rounding}
use Rattle.flonum.specs.declared.rounding.Rounding.TheVariants.{Floor, Ceiling, Truncate, Round}

unfoldable pub rounded_up : ℕ → ℕ → ℕ
rounded_up a b = a / b + cond (a % b == 0) 0 1

unfoldable pub magnitude : Rounding → Bool → ℕ → ℕ → ℕ
magnitude Floor s a b = cond s (rounded_up a b) (a / b)
magnitude Ceiling s a b = cond s (a / b) (rounded_up a b)
magnitude Truncate s a b = a / b
magnitude Round s a b = closest a b

unfoldable pub rounded : Rounding → Float → Float
rounded way nan = nan
rounded way (inf s) = inf s
rounded way (fin s m e) = round binary64 s (magnitude way s (m * up e) (down e)) 1

unfoldable pub flfloor : Float → Float
flfloor = rounded Floor

unfoldable pub flceiling : Float → Float
flceiling = rounded Ceiling

unfoldable pub fltruncate : Float → Float
fltruncate = rounded Truncate

unfoldable pub flround : Float → Float
flround = rounded Round

unfoldable pub clear_sign : Float → Float
clear_sign nan = nan
clear_sign (inf s) = inf false
clear_sign (fin s m e) = fin false m e

abbrev pub Small : Float → Type 0
Small a = T (lt (fin false 0 (pos 0)) a) × T (lt a (fin false 1 (pos 52)))
