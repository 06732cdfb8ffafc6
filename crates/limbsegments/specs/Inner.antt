-- What the index functions promise the writers. No public call's contract cites it.
--   Past at from to r  ==  r is the first limb, from one index up to another, that does not lie whole below the position `at`
use Rattle.std.specs.Prelude.{ℕ, ◌+◌, ◌*◌, ◌≤◌, ◌<◌}

pub record Past (at from to r : ℕ) : Type 0 where
  pub low : from ≤ r
  pub high : r ≤ to
  pub below : (j : ℕ) → from ≤ j → j < r → 32 * j + 32 ≤ at
  pub beyond : (j : ℕ) → r ≤ j → j < to → at < 32 * j + 32
