-- A count within a buffer is the length of the buffer's start. Assumes nothing.
use Rattle.std.proofs.Common.{ℕ, ◌≤◌, List, length, sym}
use lib.Seq.{length-take-le}
use Rattle.output.specs.Counts.{IsPrefixLen}

pub prefix_len_of_le : (n : ℕ) (xs : List ℕ) → n ≤ length xs → IsPrefixLen n xs
prefix_len_of_le n xs h = (h, sym (length-take-le n xs h))
