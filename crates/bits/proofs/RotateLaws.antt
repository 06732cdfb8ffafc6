-- Rotations and reversals of one field, composed. Each is a permutation of the field, so these are facts about index maps.
-- Assumes nothing.
use mathlib.Core.Path.{◌≡◌, sym, ◌∙◌, ap}
use mathlib.Core.Bool.{Bool}
use Prim.Native.Nat.{ℕ, suc, ◌+◌, ◌-◌, ◌%◌, ◌≤◌, ◌<◌}
use native.Mathlib.Nat.{mod-lt}
use native.Mathlib.Omega.{arith}
use lib.IntN.{ℤ, pos, negsuc, neg_ℤ, ◌+ℤ◌, ◌-ℤ◌, +ℤ_idr, +ℤ_invr, +ℤ_assoc, +ℤ_comm, neg_ℤ-+ℤ, neg_ℤ-neg_ℤ}
use Rattle.bits.specs.Logical.{bitwise_not, bitwise}
use Rattle.bits.specs.Division.{mod_ℕ, «mod»}
use Rattle.bits.specs.Field.{rotate_index, reverse_index, rotate_bit_field, reverse_bit_field}
use Rattle.bits.proofs.IntegerLaws.{pos-sub-ge}
use Rattle.bits.proofs.ModLaws.{mod_ℕ-lt, mod_ℕ-small, mod_ℕ-period, mod_ℕ-sub-l, mod_ℕ-sub-r, mod_ℕ-not, not-add}
use Rattle.bits.proofs.FieldAlgebra.{
  permute_field-ext,
  permute_field-id,
  permute_field-compose,
  permute_field-not,
  permute_field-distrib-bitwise,
}

-- ---- index maps

module _ (size : ℕ) (h : 0 < size) where
  pub rotate_index-lt : (c : ℤ) (j : ℕ) → rotate_index size c j < size
  unfolding rotate_index
  rotate_index-lt c j = mod_ℕ-lt (pos j -ℤ c) size h

  pub rotate_index-zero : (j : ℕ) → j < size → rotate_index size (pos 0) j ≡ j
  unfolding rotate_index
  rotate_index-zero j l = ap (λ (x : ℤ). mod_ℕ x size) (+ℤ_idr (pos j)) ∙ mod_ℕ-small j size l

  pub rotate_index-compose : (a b : ℤ) (j : ℕ) → rotate_index size a (rotate_index size b j) ≡ rotate_index size (a +ℤ b) j
  unfolding rotate_index
  rotate_index-compose a b j =
      mod_ℕ-sub-l (pos j -ℤ b) a size h
      ∙ ap (λ (x : ℤ). mod_ℕ x size)
      (+ℤ_assoc (pos j) (neg_ℤ b) (neg_ℤ a) ∙ ap (λ (x : ℤ). pos j +ℤ x) (+ℤ_comm (neg_ℤ b) (neg_ℤ a) ∙ sym (neg_ℤ-+ℤ a b)))

  -- only the count modulo the size matters
  pub rotate_index-mod : (c : ℤ) (j : ℕ) → rotate_index size («mod» c (pos size)) j ≡ rotate_index size c j
  unfolding rotate_index «mod»
  rotate_index-mod c j = mod_ℕ-sub-r (pos j) c size h

  pub rotate_index-period : (c : ℤ) (j : ℕ) → rotate_index size (pos size +ℤ c) j ≡ rotate_index size c j
  unfolding «mod»
  rotate_index-period c j =
      sym (rotate_index-mod (pos size +ℤ c) j)
      ∙ ap (λ (n : ℕ). rotate_index size (pos n) j) (ap (λ (x : ℤ). mod_ℕ x size) (+ℤ_comm (pos size) c) ∙ mod_ℕ-period c size)
      ∙ rotate_index-mod c j

  -- on natural numbers
  pub rotate_index-nat : (c j : ℕ) → rotate_index size (pos c) j ≡ (j + (size - c % size)) % size
  unfolding rotate_index mod_ℕ
  rotate_index-nat c j =
      sym (mod_ℕ-sub-r (pos j) (pos c) size h)
      ∙ sym (mod_ℕ-period (pos j -ℤ pos (c % size)) size)
      ∙ ap (λ (x : ℤ). mod_ℕ x size)
      (+ℤ_assoc (pos j) (neg_ℤ (pos (c % size))) (pos size)
      ∙ ap (λ (x : ℤ). pos j +ℤ x)
      (+ℤ_comm (neg_ℤ (pos (c % size))) (pos size) ∙ pos-sub-ge size (c % size) (omega (arith, mod-lt c h))))

  pub reverse_index-lt : (j : ℕ) → reverse_index size j < size
  unfolding reverse_index
  reverse_index-lt j = omega arith

  pub reverse_index-involutive : (j : ℕ) → j < size → reverse_index size (reverse_index size j) ≡ j
  unfolding reverse_index
  reverse_index-involutive j l = omega arith

  -- the opposite position is -1 - j modulo the size
  reverse_index-mod : (j : ℕ) → j < size → mod_ℕ (negsuc j) size ≡ reverse_index size j
  unfolding reverse_index bitwise_not
  reverse_index-mod j l = mod_ℕ-not (pos j) size h ∙ ap (λ (n : ℕ). size - suc n) (mod_ℕ-small j size l)

  -- a reversal after a rotation is a reversal before the opposite rotation
  pub reverse_index-rotate_index : (c : ℤ) (j : ℕ) → j < size
      → rotate_index size c (reverse_index size j) ≡ reverse_index size (rotate_index size (neg_ℤ c) j)
  unfolding rotate_index reverse_index bitwise_not
  reverse_index-rotate_index c j l =
      ap (λ (n : ℕ). mod_ℕ (pos n -ℤ c) size) (sym (reverse_index-mod j l))
      ∙ mod_ℕ-sub-l (negsuc j) c size h
      ∙ ap (λ (x : ℤ). mod_ℕ x size) (sym (not-add (pos j) (neg_ℤ (neg_ℤ c)) ∙ ap (λ (x : ℤ). negsuc j -ℤ x) (neg_ℤ-neg_ℤ c)))
      ∙ mod_ℕ-not (pos j -ℤ neg_ℤ c) size h

-- ---- the operations, on any field; on an empty one both leave their number

module _ (start end : ℕ) where
  pub rotate-empty : (x : ℤ) (c : ℤ) → end ≤ start → rotate_bit_field x start end c ≡ x
  unfolding rotate_bit_field
  rotate-empty x c h = permute_field-id (rotate_index (end - start) c) x start end (λ j l. absurd (omega arith))

  pub reverse-empty : (x : ℤ) → end ≤ start → reverse_bit_field x start end ≡ x
  unfolding reverse_bit_field
  reverse-empty x h = permute_field-id (reverse_index (end - start)) x start end (λ j l. absurd (omega arith))

  pub rotate-zero : (x : ℤ) → rotate_bit_field x start end (pos 0) ≡ x
  unfolding rotate_bit_field
  rotate-zero x =
      permute_field-id (rotate_index (end - start) (pos 0)) x start end (λ j l. rotate_index-zero (end - start) (omega arith) j l)

  -- by the size of the field
  pub rotate-full : (x : ℤ) → rotate_bit_field x start end (pos (end - start)) ≡ x
  unfolding rotate_bit_field
  rotate-full x =
      permute_field-id (rotate_index (end - start) (pos (end - start))) x start end
      (λ j l. ap (λ (c : ℤ). rotate_index (end - start) c j) (sym (+ℤ_idr (pos (end - start))))
      ∙ rotate_index-period (end - start) (omega arith) (pos 0) j
      ∙ rotate_index-zero (end - start) (omega arith) j l)

  -- only the count modulo the size matters
  pub rotate-mod : (x : ℤ) (c : ℤ) → rotate_bit_field x start end («mod» c (pos (end - start))) ≡ rotate_bit_field x start end c
  unfolding rotate_bit_field
  rotate-mod x c =
      permute_field-ext (rotate_index (end - start) («mod» c (pos (end - start)))) (rotate_index (end - start) c) x start end
      (λ j l. rotate_index-mod (end - start) (omega arith) c j)

  pub rotate-compose : (x : ℤ) (a b : ℤ) → rotate_bit_field (rotate_bit_field x start end a) start end b ≡ rotate_bit_field x start end (a +ℤ b)
  unfolding rotate_bit_field
  rotate-compose x a b =
      permute_field-compose (rotate_index (end - start) a) (rotate_index (end - start) b) x start end
      (λ j l. rotate_index-lt (end - start) (omega arith) b j)
      ∙ permute_field-ext (λ j. rotate_index (end - start) a (rotate_index (end - start) b j)) (rotate_index (end - start) (a +ℤ b)) x start end
      (λ j l. rotate_index-compose (end - start) (omega arith) a b j)

  -- a rotation can be undone, so two integers that are rotated into one are one
  rotate-back : (x c : ℤ) → rotate_bit_field (rotate_bit_field x start end c) start end (neg_ℤ c) ≡ x
  rotate-back x c = rotate-compose x c (neg_ℤ c) ∙ ap (rotate_bit_field x start end) (+ℤ_invr c) ∙ rotate-zero x

  pub rotate-injective : (c x y : ℤ) → rotate_bit_field x start end c ≡ rotate_bit_field y start end c → x ≡ y
  rotate-injective c x y e = sym (rotate-back x c) ∙ ap (λ (z : ℤ). rotate_bit_field z start end (neg_ℤ c)) e ∙ rotate-back y c

  pub reverse_involutive : (x : ℤ) → reverse_bit_field (reverse_bit_field x start end) start end ≡ x
  unfolding reverse_bit_field
  reverse_involutive x =
      permute_field-compose (reverse_index (end - start)) (reverse_index (end - start)) x start end
      (λ j l. reverse_index-lt (end - start) (omega arith) j)
      ∙ permute_field-id (λ j. reverse_index (end - start) (reverse_index (end - start) j)) x start end
      (λ j l. reverse_index-involutive (end - start) (omega arith) j l)

  -- reversing a rotated field is rotating the reversed field the other way
  pub reverse-rotate : (x : ℤ) (c : ℤ)
      → reverse_bit_field (rotate_bit_field x start end c) start end ≡ rotate_bit_field (reverse_bit_field x start end) start end (neg_ℤ c)
  unfolding rotate_bit_field reverse_bit_field
  reverse-rotate x c =
      permute_field-compose (rotate_index (end - start) c) (reverse_index (end - start)) x start end
      (λ j l. reverse_index-lt (end - start) (omega arith) j)
      ∙ permute_field-ext (λ j. rotate_index (end - start) c (reverse_index (end - start) j))
      (λ j. reverse_index (end - start) (rotate_index (end - start) (neg_ℤ c) j)) x start end
      (λ j l. reverse_index-rotate_index (end - start) (omega arith) c j l)
      ∙ sym (permute_field-compose (reverse_index (end - start)) (rotate_index (end - start) (neg_ℤ c)) x start end
      (λ j l. rotate_index-lt (end - start) (omega arith) (neg_ℤ c) j))

  rotate-opposite : (x : ℤ) (c : ℤ)
      → rotate_bit_field x start end («mod» (pos (end - start) -ℤ c) (pos (end - start))) ≡ rotate_bit_field x start end (neg_ℤ c)
  unfolding rotate_bit_field
  rotate-opposite x c =
      rotate-mod x (pos (end - start) -ℤ c)
      ∙ permute_field-ext (rotate_index (end - start) (pos (end - start) -ℤ c)) (rotate_index (end - start) (neg_ℤ c)) x start end
      (λ j l. rotate_index-period (end - start) (omega arith) (neg_ℤ c) j)

  -- the three corollaries that demand 3 names: the third is reverse_involutive

  -- by a and then by b
  pub rotate-rotate : (x : ℤ) (a b : ℤ)
      → rotate_bit_field (rotate_bit_field x start end a) start end b ≡ rotate_bit_field x start end («mod» (a +ℤ b) (pos (end - start)))
  rotate-rotate x a b = rotate-compose x a b ∙ sym (rotate-mod x (a +ℤ b))

  pub reverse-rotate-mod : (x : ℤ) (a : ℤ)
      → reverse_bit_field (rotate_bit_field x start end a) start end
      ≡ rotate_bit_field (reverse_bit_field x start end) start end («mod» (pos (end - start) -ℤ a) (pos (end - start)))
  reverse-rotate-mod x a = reverse-rotate x a ∙ sym (rotate-opposite (reverse_bit_field x start end) a)

  -- reverse, rotate by a, reverse
  pub reverse-rotate-reverse : (x : ℤ) (a : ℤ)
      → reverse_bit_field (rotate_bit_field (reverse_bit_field x start end) start end a) start end
      ≡ rotate_bit_field x start end («mod» (pos (end - start) -ℤ a) (pos (end - start)))
  reverse-rotate-reverse x a =
      reverse-rotate-mod (reverse_bit_field x start end) a
      ∙ ap (λ (y : ℤ). rotate_bit_field y start end («mod» (pos (end - start) -ℤ a) (pos (end - start)))) (reverse_involutive x)

  -- ---- not and the logical operations: both commute with them, since a permutation of the bits does

  pub rotate-not : (x c : ℤ) → rotate_bit_field (bitwise_not x) start end c ≡ bitwise_not (rotate_bit_field x start end c)
  unfolding rotate_bit_field
  rotate-not x c = permute_field-not (rotate_index (end - start) c) x start end

  pub reverse-not : (x : ℤ) → reverse_bit_field (bitwise_not x) start end ≡ bitwise_not (reverse_bit_field x start end)
  unfolding reverse_bit_field
  reverse-not x = permute_field-not (reverse_index (end - start)) x start end

  pub rotate-distrib-bitwise : (op : Bool → Bool → Bool) (x y c : ℤ)
      → rotate_bit_field (bitwise op x y) start end c ≡ bitwise op (rotate_bit_field x start end c) (rotate_bit_field y start end c)
  unfolding rotate_bit_field
  rotate-distrib-bitwise op x y c = permute_field-distrib-bitwise (rotate_index (end - start) c) op x y start end

  pub reverse-distrib-bitwise : (op : Bool → Bool → Bool) (x y : ℤ)
      → reverse_bit_field (bitwise op x y) start end ≡ bitwise op (reverse_bit_field x start end) (reverse_bit_field y start end)
  unfolding reverse_bit_field
  reverse-distrib-bitwise op x y = permute_field-distrib-bitwise (reverse_index (end - start)) op x y start end
