-- Four bytes that are folded from 0 by themselves, and joined. Assumes nothing.
use Prim.Native.Nat.{ℕ, ◌+◌, ◌*◌, ◌-◌, ◌≤◌}
use native.Mathlib.Omega.{arith}
use mathlib.Core.Path.{◌≡◌, refl, sym, ap, subst, ◌∙◌}
use mathlib.Core.Bool.{Bool, true, false, cond}
use mathlib.Core.List.{List}
use lib.Dec.{ltb}
use lib.IntN.{ℤ, pos, nat_abs}
use lib.ListN.{length}
use borrow.Author.Tests.{ltb-true, ltb-false}
use Rattle.bits.specs.Logical.{bitwise_xor}
use Rattle.bits.specs.Field.{rotate_bit_field}
use Rattle.bits.proofs.Algebra.{xor_zero_r}
use Rattle.bits.proofs.FitsLaws.{zero-fits}
use Rattle.bits.proofs.RotateLaws.{rotate-compose, rotate-full}
use Rattle.fold.specs.declared.Fold.{Fold}
use Rattle.fold.specs.Fold.{AllBytes, settings, with_accumulator, is_open, fold_bytes}
use Rattle.fold.specs.Inner.{doubled, fourfold}
use Rattle.fold.proofs.OpenLaws.{OpenField, open-field, open_at}
use Rattle.fold.proofs.IntegerFold.{accumulate, accumulate-split}
use Rattle.fold.proofs.ByteLaws.{accumulated, fold_bytes-is}

-- ---- counts

pub doubled-le : (size c : ℕ) → c ≤ size → doubled size c ≤ size
unfolding doubled
doubled-le size c h = go (ltb (c + c) size) refl
  where
    go : (t : Bool) → ltb (c + c) size ≡ t → cond t (c + c) (c + c - size) ≤ size
    go true e = omega (arith, ltb-true (c + c) size e)
    go false e = omega arith

rotate-doubled : (x : ℤ) (start end c : ℕ)
    → rotate_bit_field x start end (pos (doubled (end - start) c)) ≡ rotate_bit_field x start end (pos (c + c))
unfolding doubled
rotate-doubled x start end c = go (ltb (c + c) (end - start)) refl
  where
    go : (t : Bool) → ltb (c + c) (end - start) ≡ t
        → rotate_bit_field x start end (pos (cond t (c + c) (c + c - (end - start)))) ≡ rotate_bit_field x start end (pos (c + c))
    go true e = refl
    go false e =
        let m = c + c - (end - start) in
        let s : (end - start) + m ≡ c + c = omega (arith, ltb-false (c + c) (end - start) e) in
        ap (λ (y : ℤ). rotate_bit_field y start end (pos m)) (sym (rotate-full start end x))
        ∙ rotate-compose start end x (pos (end - start)) (pos m)
        ∙ ap (λ (n : ℕ). rotate_bit_field x start end (pos n)) s

pub fourfold-le : (f : Fold) → OpenField f → fourfold f ≤ nat_abs f.end - nat_abs f.start
unfolding fourfold
fourfold-le f o =
    let size = nat_abs f.end - nat_abs f.start in
    doubled-le size (doubled size (nat_abs f.count)) (doubled-le size (nat_abs f.count) o.inside)

rotate-fourfold : (f : Fold) (x : ℤ)
    → rotate_bit_field x (nat_abs f.start) (nat_abs f.end) (pos (fourfold f)) ≡ rotate_bit_field x (nat_abs f.start) (nat_abs f.end) (pos (nat_abs f.count * 4))
unfolding fourfold
rotate-fourfold f x =
    let s = nat_abs f.start in
    let e = nat_abs f.end in
    let c = nat_abs f.count in
    let d = doubled (e - s) c in
    let n : (c + c) + (c + c) ≡ c * 4 = omega arith in
    rotate-doubled x s e d
    ∙ sym (rotate-compose s e x (pos d) (pos d))
    ∙ ap (λ (y : ℤ). rotate_bit_field y s e (pos d)) (rotate-doubled x s e c)
    ∙ rotate-doubled (rotate_bit_field x s e (pos (c + c))) s e c
    ∙ rotate-compose s e x (pos (c + c)) (pos (c + c))
    ∙ ap (λ (m : ℕ). rotate_bit_field x s e (pos m)) n

-- ---- the bytes

-- the record from which a piece is folded
abbrev pub from_zero : Fold → Fold
from_zero f = with_accumulator f (pos 0)

pub open-zero : (f : Fold) → is_open f ≡ true → is_open (from_zero f) ≡ true
open-zero f h = open_at f (pos 0) h (zero-fits f.width)

module _ (f : Fold) (h : is_open f ≡ true) (bs : List ℕ) (l : AllBytes bs) (n : length bs ≡ 4) where
  accumulated-four : accumulated f bs
      ≡ bitwise_xor (rotate_bit_field f.accumulator (nat_abs f.start) (nat_abs f.end) (pos (fourfold f))) (accumulated (from_zero f) bs)
  unfolding with_accumulator settings
  accumulated-four =
      let s = nat_abs f.start in
      let e = nat_abs f.end in
      let c = nat_abs f.count in
      subst (λ (d : ℤ). accumulate s e d f.accumulator bs ≡ bitwise_xor (rotate_bit_field f.accumulator s e (pos (fourfold f))) (accumulate s e d (pos 0) bs))
      (open-field f h).count-is
      (ap (λ (z : ℤ). accumulate s e (pos c) z bs) (sym (xor_zero_r f.accumulator))
      ∙ accumulate-split s e c f.accumulator (pos 0) bs
      ∙ ap (λ (z : ℤ). bitwise_xor z (accumulate s e (pos c) (pos 0) bs))
      (ap (λ (m : ℕ). rotate_bit_field f.accumulator s e (pos (c * m))) n ∙ sym (rotate-fourfold f f.accumulator)))

  pub joined-four : {p : Fold} → p ≡ fold_bytes (from_zero f) bs
      → with_accumulator f (bitwise_xor (rotate_bit_field f.accumulator (nat_abs f.start) (nat_abs f.end) (pos (fourfold f))) p.accumulator) ≡ fold_bytes f bs
  unfolding with_accumulator settings
  joined-four q =
      ap (λ (g : Fold). with_accumulator f (bitwise_xor (rotate_bit_field f.accumulator (nat_abs f.start) (nat_abs f.end) (pos (fourfold f))) g.accumulator))
      (q ∙ fold_bytes-is (from_zero f) (open-zero f h) bs l)
      ∙ ap (with_accumulator f) (sym accumulated-four)
      ∙ sym (fold_bytes-is f h bs l)
