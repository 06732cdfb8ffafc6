-- Counts of rotations that the loop over a chunk uses. No public call's contract cites them.
--   doubled size c    ==  the count of one rotation that equals two by c, in a field of that size
--   fourfold f        ==  the count of one rotation that equals four of the record's
use Rattle.std.specs.Prelude.{ℕ, ◌+◌, ◌-◌, cond, ltb, nat_abs}
use Rattle.fold.specs.declared.Fold.{Fold}

unfoldable pub doubled : ℕ → ℕ → ℕ
doubled size c = cond (ltb (c + c) size) (c + c) (c + c - size)

unfoldable pub fourfold : Fold → ℕ
fourfold f = let size = nat_abs f.end - nat_abs f.start in doubled size (doubled size (nat_abs f.count))
