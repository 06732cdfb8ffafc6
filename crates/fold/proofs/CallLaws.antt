-- What a call answers whose record is not open, and the record is left as it was; and where it is open. Assumes nothing.
use Prim.Native.Nat.{ℕ}
use mathlib.Core.Path.{◌≡◌, refl}
use mathlib.Core.Bool.{true, false}
use mathlib.Core.List.{List}
use lib.IntN.{ℤ}
use Rattle.fold.specs.declared.Fold.{Fold}
use Rattle.fold.specs.declared.opening.Refused.{Refused}
use Rattle.std.specs.Prelude.{Ok, Err}
use Rattle.fxtable.specs.Calls.{answer}
use Rattle.fold.specs.Fold.{rotation, is_open, fold_bytes}
use Rattle.fold.specs.Calls.{opened, opened_as, opening, opening_of, after, folding, joining}
use Rattle.fold.proofs.OpenLaws.{open-rotation}
use Rattle.fold.proofs.RecordLaws.{refused-shut}

module _ (f : Fold) (h : is_open f ≡ false) where
  pub not-open-folding : (bs : List ℕ) → folding f bs ≡ after 9 f
  unfolding folding
  not-open-folding bs = rw h

  pub not-open-joining : (piece : ℤ) (n : ℕ) → joining f piece n ≡ after 9 f
  unfolding joining
  not-open-joining piece n = rw h

-- opening that is refused
pub shut-opening : (f : Fold) (e : Refused) → opened_as e ≡ opened (rotation f) → opening_of (Err e) ≡ opening f
unfolding opening opening_of
shut-opening f e p = rw (refused-shut f e p, p) refl

-- a record that is open
module _ (f : Fold) (h : is_open f ≡ true) where
  pub open-opening : opening_of (Ok f) ≡ opening f
  unfolding opening opening_of opened answer
  open-opening = rw (h, open-rotation f h) refl

  pub folding-open : (bs : List ℕ) → folding f bs ≡ after 0 (fold_bytes f bs)
  unfolding folding
  folding-open bs = rw h
