-- What is done to the limbs of a natural number.
--   Becomes n before after ==  as many limbs as before are now those of n
use Rattle.std.specs.Prelude.{ℕ, ◌≡◌, List, length}
use Rattle.text.specs.Naturals.{natural}

pub record Becomes (n : ℕ) (before after : List ℕ) : Type 0 where
  pub number : natural after ≡ n
  pub size : length after ≡ length before
