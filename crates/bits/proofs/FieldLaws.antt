-- Laws of fields: the bits of each operation. Assumes nothing.
use mathlib.Core.Path.{◌≡◌, refl, sym, ◌∙◌, ap, ap₂, subst}
use mathlib.Core.Bool.{Bool, true, false, cond, ◌&&◌, true≢false}
use Prim.Native.Nat.{ℕ, suc, ◌+◌, ◌-◌, ◌≤◌, ◌<◌}
use native.Mathlib.Nat.{add-sub_cancel_left}
use native.Mathlib.Omega.{arith}
use lib.Dec.{ltb, leb, eqb}
use lib.IntN.{ℤ, pos, ◌-ℤ◌}
use borrow.Author.Tests.{leb-true, ltb-true, le-leb, lt-leb, lt-ltb, le-ltb, eq-eqb, ne_eqb}
use Rattle.bits.specs.Testbit.{is_negative, testbit}
use Rattle.bits.specs.Shift.{shift_right}
use Rattle.bits.specs.Division.{mod_ℕ}
use Rattle.bits.specs.Field.{
  in_field,
  bit_field,
  set_field,
  copy_bit_field,
  copy_bit,
  permute_field,
  rotate_index,
  reverse_index,
  rotate_bit_field,
  reverse_bit_field,
}
use Rattle.bits.proofs.Booleans.{and-false}
use Rattle.bits.proofs.TestbitLaws.{
  testbit-of_bits-zero,
  testbit-of_bits-shift_right,
  is_negative-of_bits,
  is_negative-shift_right,
}

-- ---- positions

pub in_field-true : (start end i : ℕ) → start ≤ i → i < end → in_field start end i ≡ true
unfolding in_field
in_field-true start end i h l = ap₂ ◌&&◌ (le-leb start i h) (lt-ltb i end l)

pub in_field-lt : (start end i : ℕ) → i < start → in_field start end i ≡ false
unfolding in_field
in_field-lt start end i h = ap (λ (b : Bool). b && ltb i end) (lt-leb start i h)

pub in_field-ge : (start end i : ℕ) → end ≤ i → in_field start end i ≡ false
unfolding in_field
in_field-ge start end i h = ap (λ (b : Bool). leb start i && b) (le-ltb i end h) ∙ and-false (leb start i)

-- a choice by the test whether i lies in the field, decided
pub by_field : (P : Bool → Type 0) (start end i : ℕ)
    → (start ≤ i → i < end → P true) → (in_field start end i ≡ false → P false) → P (in_field start end i)
unfolding in_field
by_field P start end i f g = go (leb start i) (ltb i end) refl refl
  where
    go : (a b : Bool) → leb start i ≡ a → ltb i end ≡ b → P (leb start i && ltb i end)
    go true true p q = subst P (sym (ap₂ ◌&&◌ p q)) (f (leb-true start i p) (ltb-true i end q))
    go true false p q = subst P (sym (ap₂ ◌&&◌ p q)) (g (ap₂ ◌&&◌ p q))
    go false b p q = subst P (sym (ap₂ ◌&&◌ p q)) (g (ap₂ ◌&&◌ p q))

pub in_field-positions : (start end i : ℕ) → in_field start end i ≡ true → (start ≤ i) × (i < end)
in_field-positions start end i =
    by_field (λ b. b ≡ true → (start ≤ i) × (i < end)) start end i (λ l u e. (l, u)) (λ o e. absurd (true≢false (sym e)))

-- ---- bits

pub testbit-set_field : (x : ℤ) (start end : ℕ) (g : ℕ → Bool) (i : ℕ)
    → testbit (set_field x start end g) i ≡ cond (in_field start end i) (g (i - start)) (testbit x i)
unfolding set_field in_field
testbit-set_field x start end g i =
    testbit-of_bits-shift_right end (λ i. cond (in_field start end i) (g (i - start)) (testbit x i)) x i
    ∙ pick (leb start i) (ltb i end)
  where
    pick : (a b : Bool) → cond b (cond (a && b) (g (i - start)) (testbit x i)) (testbit x i) ≡ cond (a && b) (g (i - start)) (testbit x i)
    pick true true = refl
    pick true false = refl
    pick false true = refl
    pick false false = refl

-- inside the field, bit start + j is the new bit j
pub testbit-set_field-in : (x : ℤ) (start end : ℕ) (g : ℕ → Bool) (j : ℕ) → j < end - start → testbit (set_field x start end g) (start + j) ≡ g j
testbit-set_field-in x start end g j h =
    testbit-set_field x start end g (start + j)
    ∙ ap (λ (b : Bool). cond b (g (start + j - start)) (testbit x (start + j))) (in_field-true start end (start + j) (omega arith) (omega arith))
    ∙ ap g (add-sub_cancel_left start j)

pub testbit-set_field-out : (x : ℤ) (start end : ℕ) (g : ℕ → Bool) (i : ℕ)
    → in_field start end i ≡ false → testbit (set_field x start end g) i ≡ testbit x i
testbit-set_field-out x start end g i o =
    testbit-set_field x start end g i ∙ ap (λ (b : Bool). cond b (g (i - start)) (testbit x i)) o

pub testbit-bit_field : (x : ℤ) (start end j : ℕ) → testbit (bit_field x start end) j ≡ ltb j (end - start) && testbit x (start + j)
unfolding bit_field
testbit-bit_field x start end = testbit-of_bits-zero (end - start) (λ j. testbit x (start + j))

pub testbit-copy_bit_field : (x : ℤ) (start end : ℕ) (y : ℤ) (i : ℕ)
    → testbit (copy_bit_field x start end y) i ≡ cond (in_field start end i) (testbit y (i - start)) (testbit x i)
unfolding copy_bit_field
testbit-copy_bit_field x start end y = testbit-set_field x start end (λ j. testbit y j)

pub testbit-copy_bit : (x : ℤ) (k : ℕ) (y : ℤ) (i : ℕ) → testbit (copy_bit x k y) i ≡ cond (eqb i k) (testbit y 0) (testbit x i)
unfolding copy_bit
testbit-copy_bit x k y i =
    testbit-copy_bit_field x k (suc k) y i
    ∙ by_field (λ b. cond b (testbit y (i - k)) (testbit x i) ≡ cond (eqb i k) (testbit y 0) (testbit x i)) k (suc k) i
    (λ h l. let (e, z) = at-k h l in ap (λ (m : ℕ). testbit y m) z ∙ ap (λ (b : Bool). cond b (testbit y 0) (testbit x i)) (sym (eq-eqb i k e)))
    (λ o. ap (λ (b : Bool). cond b (testbit y 0) (testbit x i)) (sym (ne_eqb i k (off-k o))))
  where
    at-k : k ≤ i → i < suc k → (i ≡ k) × (i - k ≡ 0)
    at-k h l = omega arith

    off-k : in_field k (suc k) i ≡ false → i ≡ k → ⊥
    off-k o e = true≢false (sym (in_field-true k (suc k) i (omega arith) (omega arith)) ∙ o)

pub testbit-permute_field : (p : ℕ → ℕ) (x : ℤ) (start end i : ℕ)
    → testbit (permute_field p x start end) i ≡ cond (in_field start end i) (testbit x (start + p (i - start))) (testbit x i)
unfolding permute_field
testbit-permute_field p x start end = testbit-set_field x start end (λ j. testbit x (start + p j))

pub testbit-permute_field-in : (p : ℕ → ℕ) (x : ℤ) (start end j : ℕ) → j < end - start
    → testbit (permute_field p x start end) (start + j) ≡ testbit x (start + p j)
unfolding permute_field
testbit-permute_field-in p x start end = testbit-set_field-in x start end (λ j. testbit x (start + p j))

pub testbit-permute_field-out : (p : ℕ → ℕ) (x : ℤ) (start end i : ℕ) → in_field start end i ≡ false
    → testbit (permute_field p x start end) i ≡ testbit x i
unfolding permute_field
testbit-permute_field-out p x start end = testbit-set_field-out x start end (λ j. testbit x (start + p j))

-- 01: result bit i of the field is bit start + ((i - start - c) mod size) of x
pub testbit-rotate_bit_field : (x : ℤ) (start end : ℕ) (c : ℤ) (i : ℕ)
    → testbit (rotate_bit_field x start end c) i
    ≡ cond (in_field start end i) (testbit x (start + mod_ℕ (pos (i - start) -ℤ c) (end - start))) (testbit x i)
unfolding rotate_bit_field rotate_index
testbit-rotate_bit_field x start end c = testbit-permute_field (rotate_index (end - start) c) x start end

-- the same, counted from the field's start
pub testbit-rotate_bit_field-in : (x : ℤ) (start end : ℕ) (c : ℤ) (j : ℕ) → j < end - start
    → testbit (rotate_bit_field x start end c) (start + j) ≡ testbit x (start + mod_ℕ (pos j -ℤ c) (end - start))
unfolding rotate_bit_field rotate_index
testbit-rotate_bit_field-in x start end c = testbit-permute_field-in (rotate_index (end - start) c) x start end

-- 01: result bit i of the field is bit start + end - 1 - i of x
pub testbit-reverse_bit_field : (x : ℤ) (start end i : ℕ)
    → testbit (reverse_bit_field x start end) i ≡ cond (in_field start end i) (testbit x (start + end - 1 - i)) (testbit x i)
unfolding reverse_bit_field reverse_index
testbit-reverse_bit_field x start end i =
    testbit-permute_field (reverse_index (end - start)) x start end i
    ∙ by_field
    (λ b. cond b (testbit x (start + (end - start - suc (i - start)))) (testbit x i) ≡ cond b (testbit x (start + end - 1 - i)) (testbit x i))
    start end i
    (λ h l. let e : start + (end - start - suc (i - start)) ≡ start + end - 1 - i = omega arith in ap (λ (m : ℕ). testbit x m) e)
    (λ h. refl)

pub is_negative-set_field : (x : ℤ) (start end : ℕ) (g : ℕ → Bool) → is_negative (set_field x start end g) ≡ is_negative x
unfolding set_field
is_negative-set_field x start end g =
    is_negative-of_bits end (λ i. cond (in_field start end i) (g (i - start)) (testbit x i)) (shift_right x end) ∙ is_negative-shift_right x end

pub is_negative-permute_field : (p : ℕ → ℕ) (x : ℤ) (start end : ℕ) → is_negative (permute_field p x start end) ≡ is_negative x
unfolding permute_field
is_negative-permute_field p x start end = is_negative-set_field x start end (λ j. testbit x (start + p j))
