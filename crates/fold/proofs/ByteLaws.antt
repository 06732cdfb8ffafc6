-- What bytes make of an open record: the fold on the integers, and an open record. Assumes nothing.
use Prim.Native.Nat.{ℕ}
use mathlib.Core.Path.{◌≡◌, refl, ap, ◌∙◌}
use mathlib.Core.Bool.{true}
use mathlib.Core.List.{List, [], ◌∷◌}
use lib.IntN.{ℤ, nat_abs}
use Rattle.fold.specs.declared.Fold.{Fold}
use Rattle.fold.specs.Fold.{AllBytes, settings, with_accumulator, is_open, fold_byte, fold_bytes}
use Rattle.fold.proofs.OpenLaws.{open-byte, fold_byte-is}
use Rattle.fold.proofs.IntegerFold.{accumulate}

-- the accumulator of an open record, after a chunk
abbrev pub accumulated : Fold → List ℕ → ℤ
accumulated f bs = accumulate (nat_abs f.start) (nat_abs f.end) f.count f.accumulator bs

pub fold_bytes-is : (f : Fold) → is_open f ≡ true → (bs : List ℕ) → AllBytes bs → fold_bytes f bs ≡ with_accumulator f (accumulated f bs)
unfolding fold_bytes fold_byte with_accumulator settings accumulate AllBytes
fold_bytes-is f h [] l = refl
fold_bytes-is f h (b ∷ bs) l =
    fold_bytes-is (fold_byte f b) (open-byte f h b l.0) bs l.1
    ∙ ap (λ (g : Fold). with_accumulator f (accumulated g bs)) (fold_byte-is f h b l.0)

pub open-bytes : (f : Fold) → is_open f ≡ true → (bs : List ℕ) → AllBytes bs → is_open (fold_bytes f bs) ≡ true
unfolding fold_bytes AllBytes
open-bytes f h [] l = h
open-bytes f h (b ∷ bs) l = open-bytes (fold_byte f b) (open-byte f h b l.0) bs l.1
