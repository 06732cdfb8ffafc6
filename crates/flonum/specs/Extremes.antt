-- The smallest and the largest of some flonums.
--   above x y          ==  whether x is larger than y
--   kept better old x  ==  x where it is better than the old one, else the old one: among equals the earlier is kept
--   extend e x         ==  e with one more flonum; a NaN gives a NaN in both halves
--   extend_all e xs     ==  e with the flonums of xs, from left to right
--   extremes xs        ==  the smallest and the largest of xs; positive zeros where there is none
use Rattle.std.specs.Prelude.{Bool, false, cond, List, [], ◌∷◌, pos, is_nan, Float}
use Rattle.std.specs.Float.{nan, fin}
use Rattle.std.specs.Float.Ieee.{lt}
use Rattle.flonum.specs.declared.extremes.Extremes.{Extremes}

unfoldable pub above : Float → Float → Bool
above x y = lt y x

unfoldable pub kept : (Float → Float → Bool) → Float → Float → Float
kept better old x = cond (better x old) x old

unfoldable pub extend : Extremes → Float → Extremes
extend e x = cond (is_nan x) (record { smallest = nan; largest = nan }) (record { smallest = kept lt e.smallest x; largest = kept above e.largest x })

unfoldable pub extend_all : Extremes → List Float → Extremes
extend_all e [] = e
extend_all e (x ∷ xs) = extend_all (extend e x) xs

unfoldable pub extremes : List Float → Extremes
extremes [] = record { smallest = fin false 0 (pos 0); largest = fin false 0 (pos 0) }
extremes (x ∷ xs) = extend_all (record { smallest = x; largest = x }) xs
