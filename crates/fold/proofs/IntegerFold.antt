-- The fold on the integers: no width and no call stands in this file. Assumes nothing.
--   accumulate start end c a bs    ==  the accumulator a after the bytes bs: for each, a is rotated by c in the field, and xored with it
use Prim.Native.Nat.{ℕ, suc, ◌+◌, ◌*◌, ◌-◌, ◌%◌}
use native.Mathlib.Nat.{mul-suc}
use native.Mathlib.Omega.{arith}
use mathlib.Core.Path.{◌≡◌, refl, sym, ap, ◌∙◌}
use mathlib.Core.Bool.{cond, xor}
use mathlib.Core.List.{List, [], ◌∷◌, ◌++◌}
use lib.Dec.{eqb}
use lib.IntN.{ℤ, pos}
use lib.ListN.{length}
use Rattle.bits.specs.Field.{rotate_bit_field}
use Rattle.bits.specs.Logical.{bitwise_xor}
use Rattle.bits.proofs.Algebra.{xor_assoc, xor_zero_r}
use Rattle.bits.proofs.RotateLaws.{rotate-zero, rotate-compose, rotate-distrib-bitwise}
use Rattle.bits.proofs.RotationCounts.{rotate-reduced}

unfoldable pub accumulate : ℕ → ℕ → ℤ → ℤ → List ℕ → ℤ
accumulate start end c a [] = a
accumulate start end c a (b ∷ bs) = accumulate start end c (bitwise_xor (rotate_bit_field a start end c) (pos b)) bs

module _ (start end : ℕ) (c : ℤ) where
  abbrev rotated : ℤ → ℤ
  rotated a = rotate_bit_field a start end c

  pub rotated-xor : (a b : ℤ) → rotated (bitwise_xor a b) ≡ bitwise_xor (rotated a) (rotated b)
  unfolding bitwise_xor
  rotated-xor a b = rotate-distrib-bitwise start end xor a b c

  pub accumulate-append : (a : ℤ) (xs ys : List ℕ) → accumulate start end c a (xs ++ ys) ≡ accumulate start end c (accumulate start end c a xs) ys
  unfolding accumulate
  accumulate-append a [] ys = refl
  accumulate-append a (x ∷ xs) ys = accumulate-append (bitwise_xor (rotated a) (pos x)) xs ys

-- ---- a piece that is folded by itself

module _ (start end c : ℕ) where
  -- n rotations by c are one by c * n
  pub accumulate-split : (x a : ℤ) (bs : List ℕ)
      → accumulate start end (pos c) (bitwise_xor x a) bs
      ≡ bitwise_xor (rotate_bit_field x start end (pos (c * length bs))) (accumulate start end (pos c) a bs)
  unfolding accumulate
  accumulate-split x a [] =
      let z : c * 0 ≡ 0 = omega arith in
      ap (λ (y : ℤ). bitwise_xor y a) (sym (rotate-zero start end x) ∙ ap (λ (n : ℕ). rotate_bit_field x start end (pos n)) (sym z))
  accumulate-split x a (b ∷ bs) =
      let p = rotate_bit_field x start end (pos c) in
      let q = rotate_bit_field a start end (pos c) in
      let n : c + c * length bs ≡ c * suc (length bs) = omega (arith, mul-suc c (length bs)) in
      ap (λ (z : ℤ). accumulate start end (pos c) z bs) (ap (λ (z : ℤ). bitwise_xor z (pos b)) (rotated-xor start end (pos c) x a) ∙ xor_assoc p q (pos b))
      ∙ accumulate-split p (bitwise_xor q (pos b)) bs
      ∙ ap (λ (z : ℤ). bitwise_xor z (accumulate start end (pos c) (bitwise_xor q (pos b)) bs))
      (rotate-compose start end x (pos c) (pos (c * length bs)) ∙ ap (λ (k : ℕ). rotate_bit_field x start end (pos k)) n)

  pub accumulate-joined : {r : ℕ} (a : ℤ) (bs : List ℕ) → r ≡ cond (eqb (end - start) 0) 0 (c * length bs % (end - start))
      → accumulate start end (pos c) a bs ≡ bitwise_xor (rotate_bit_field a start end (pos r)) (accumulate start end (pos c) (pos 0) bs)
  accumulate-joined a bs e =
      ap (λ (z : ℤ). accumulate start end (pos c) z bs) (sym (xor_zero_r a))
      ∙ accumulate-split a (pos 0) bs
      ∙ ap (λ (z : ℤ). bitwise_xor z (accumulate start end (pos c) (pos 0) bs)) (rotate-reduced a start end (c * length bs) e)
