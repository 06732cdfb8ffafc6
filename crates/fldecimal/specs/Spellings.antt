-- Flonums as texts.
--   Spells x r out  ==  r bytes at the start of a buffer are a text that is the flonum x; or none are
use Rattle.std.specs.Prelude.{◌≡◌, ℕ, ◌<◌, ◌≤◌, List, length, take, Float, Ok}
use Rattle.fltext.specs.Readings.{flonum_reading}

pub record Spells (x : Float) (r : ℕ) (out : List ℕ) : Type 0 where
  pub within : r ≤ length out
  pub reads : 0 < r → flonum_reading (take r out) ≡ Ok x
