-- A piece that is folded by itself from 0 is joined as if its bytes had come. Assumes nothing.
use Prim.Native.Nat.{ℕ}
use mathlib.Core.Path.{◌≡◌, refl, sym, ap, subst, ◌∙◌}
use mathlib.Core.Bool.{Bool, true, false}
use mathlib.Core.List.{List}
use lib.IntN.{ℤ, pos, nat_abs}
use lib.ListN.{length}
use Rattle.bits.specs.Testbit.{fits}
use Rattle.bits.specs.Logical.{bitwise_xor}
use Rattle.fold.specs.declared.Fold.{Fold}
use Rattle.fold.specs.Fold.{AllBytes, with_accumulator, is_open}
use Rattle.fold.specs.Calls.{after, folding, net_count, joining}
use Rattle.fold.proofs.CallLaws.{not-open-folding, not-open-joining, folding-open}
use Rattle.fold.proofs.JoinLaws.{rotated_by, joining-open}
use Rattle.fold.proofs.OpenLaws.{open-field}
use Rattle.fold.proofs.IntegerFold.{accumulate, accumulate-joined}
use Rattle.fold.proofs.ByteLaws.{accumulated, fold_bytes-is}

module _ (f : Fold) where
  -- a piece of these bytes
  abbrev piece : List ℕ → ℤ
  piece bs = accumulate (nat_abs f.start) (nat_abs f.end) f.count (pos 0) bs

  accumulated-joined : is_open f ≡ true → (bs : List ℕ) → accumulated f bs ≡ bitwise_xor (rotated_by f (net_count f (length bs))) (piece bs)
  unfolding net_count
  accumulated-joined h bs =
      subst (λ (c : ℤ). accumulate (nat_abs f.start) (nat_abs f.end) c f.accumulator bs
      ≡ bitwise_xor (rotated_by f (net_count f (length bs))) (accumulate (nat_abs f.start) (nat_abs f.end) c (pos 0) bs))
      (open-field f h).count-is (accumulate-joined (nat_abs f.start) (nat_abs f.end) (nat_abs f.count) f.accumulator bs refl)

  -- for a record that is not open too
  pub piece-joins : (bs : List ℕ) → AllBytes bs → fits f.width (piece bs) ≡ true → joining f (piece bs) (length bs) ≡ folding f bs
  piece-joins bs l k = go (is_open f) refl
    where
      go : (t : Bool) → is_open f ≡ t → joining f (piece bs) (length bs) ≡ folding f bs
      go true h =
          joining-open f h (piece bs) (length bs) k
          ∙ ap (λ (z : ℤ). after 0 (with_accumulator f z)) (sym (accumulated-joined h bs))
          ∙ ap (after 0) (sym (fold_bytes-is f h bs l))
          ∙ sym (folding-open f h bs)
      go false h = not-open-joining f h (piece bs) (length bs) ∙ sym (not-open-folding f h bs)
