-- Laws of the fold on the integers: the xor of two strings, and what stays different. Assumes nothing.
use Prim.Native.Nat.{ℕ}
use native.Mathlib.Omega.{arith}
use mathlib.Core.Path.{◌≡◌, refl, sym, ap, ap₂, ◌∙◌}
use mathlib.Core.List.{List, [], ◌∷◌, ◌++◌}
use lib.Bits.{bit_xor}
use lib.IntN.{ℤ, pos}
use lib.ListN.{length}
use Rattle.bits.specs.Field.{rotate_bit_field}
use Rattle.bits.specs.Logical.{bitwise_xor}
use Rattle.bits.proofs.Algebra.{xor_zero_l, xor-interchange, xor-injective-l, xor-injective-r}
use Rattle.bits.proofs.RotateLaws.{rotate-injective}
use Rattle.words.proofs.Digitwise.{xor-naturals}
use Rattle.fold.proofs.IntegerFold.{accumulate, accumulate-append, rotated-xor}
use Rattle.fold_laws.specs.Identifiers.{xor_bytes}

module _ (start end : ℕ) (c : ℤ) where
  abbrev rotated : ℤ → ℤ
  rotated a = rotate_bit_field a start end c

  -- ---- the xor of two strings

  byte-xor : (a b : ℤ) (x y : ℕ)
      → bitwise_xor (rotated (bitwise_xor a b)) (pos (bit_xor x y)) ≡ bitwise_xor (bitwise_xor (rotated a) (pos x)) (bitwise_xor (rotated b) (pos y))
  byte-xor a b x y = ap₂ bitwise_xor (rotated-xor start end c a b) (xor-naturals x y) ∙ xor-interchange (rotated a) (rotated b) (pos x) (pos y)

  accumulate-xor : (a b : ℤ) (xs ys : List ℕ) → length xs ≡ length ys
      → accumulate start end c (bitwise_xor a b) (xor_bytes xs ys) ≡ bitwise_xor (accumulate start end c a xs) (accumulate start end c b ys)
  unfolding accumulate xor_bytes
  accumulate-xor a b [] [] h = refl
  accumulate-xor a b [] (y ∷ ys) h = absurd (omega (arith, h))
  accumulate-xor a b (x ∷ xs) [] h = absurd (omega (arith, h))
  accumulate-xor a b (x ∷ xs) (y ∷ ys) h =
      ap (λ (z : ℤ). accumulate start end c z (xor_bytes xs ys)) (byte-xor a b x y)
      ∙ accumulate-xor (bitwise_xor (rotated a) (pos x)) (bitwise_xor (rotated b) (pos y)) xs ys (omega (arith, h))

  -- from 0
  pub accumulate-linear : (xs ys : List ℕ) → length xs ≡ length ys
      → accumulate start end c (pos 0) (xor_bytes xs ys) ≡ bitwise_xor (accumulate start end c (pos 0) xs) (accumulate start end c (pos 0) ys)
  accumulate-linear xs ys h =
      ap (λ (z : ℤ). accumulate start end c z (xor_bytes xs ys)) (sym (xor_zero_l (pos 0))) ∙ accumulate-xor (pos 0) (pos 0) xs ys h

  -- ---- what stays different

  pub accumulate-injective : (a b : ℤ) (bs : List ℕ) → accumulate start end c a bs ≡ accumulate start end c b bs → a ≡ b
  unfolding accumulate
  accumulate-injective a b [] e = e
  accumulate-injective a b (x ∷ bs) e =
      rotate-injective start end c a b
      (xor-injective-l (rotated a) (rotated b) (pos x) (accumulate-injective (bitwise_xor (rotated a) (pos x)) (bitwise_xor (rotated b) (pos x)) bs e))

  pub one_byte : (a : ℤ) (xs : List ℕ) (x y : ℕ) (ys : List ℕ)
      → accumulate start end c a (xs ++ (x ∷ ys)) ≡ accumulate start end c a (xs ++ (y ∷ ys)) → x ≡ y
  unfolding accumulate
  one_byte a xs x y ys e =
      let k = accumulate start end c a xs in
      let p : pos x ≡ pos y = xor-injective-r (rotated k) (pos x) (pos y)
      (accumulate-injective (bitwise_xor (rotated k) (pos x)) (bitwise_xor (rotated k) (pos y)) ys
      (sym (accumulate-append start end c a xs (x ∷ ys)) ∙ e ∙ accumulate-append start end c a xs (y ∷ ys))) in
      cc
