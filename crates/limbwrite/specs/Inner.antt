-- What the writers promise each other. No public call's contract cites it.
--   Moved z y from to up down  ==  the bits of z from one position up to another are those of y, `up` positions higher and `down` lower
use Rattle.std.specs.Prelude.{ℕ, ◌+◌, ◌-◌, ◌≤◌, ◌<◌, ◌≡◌, ℤ}
use Rattle.bits.specs.Testbit.{testbit}

pub record Moved (z y : ℤ) (from to up down : ℕ) : Type 0 where
  pub reach : down ≤ from + up
  pub bits : (i : ℕ) → from ≤ i → i < to → testbit z i ≡ testbit y (i + up - down)
