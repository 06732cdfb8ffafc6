-- Limbs of 32 bits without a sign, the least significant first. Numbers are read and written through them.
--   natural xs  ==  the number that they are
use Rattle.std.specs.Prelude.{ℕ, ◌+◌, ◌*◌, ◌^◌, List, [], ◌∷◌}

unfoldable pub natural : List ℕ → ℕ
natural [] = 0
natural (n ∷ ns) = n + 2 ^ 32 * natural ns
