-- How many bytes at the start of a buffer are meant.
--   IsPrefixLen n xs  ==  xs has its first n elements, and they are n
use Rattle.std.specs.Prelude.{◌≡◌, ℕ, ◌≤◌, List, length, take}

-- The second part follows from the first: with it, a part of a buffer up to the count needs no proof of its own.
abbrev pub IsPrefixLen : ℕ → List ℕ → Type 0
IsPrefixLen n xs = (n ≤ length xs) × (n ≡ length (take n xs))
