-- Operations on fields that share no position commute. Assumes nothing.
use mathlib.Core.Path.{◌≡◌, refl, sym, ◌∙◌, ap}
use mathlib.Core.Logic.{◌⊎◌, inl, inr}
use mathlib.Core.Bool.{Bool, true, false, cond, true≢false}
use Prim.Native.Nat.{ℕ, suc, ◌+◌, ◌-◌, ◌≤◌, ◌<◌}
use native.Mathlib.Omega.{arith}
use lib.IntN.{ℤ}
use Rattle.bits.specs.Testbit.{testbit}
use Rattle.bits.specs.Field.{
  in_field,
  set_field,
  copy_bit_field,
  copy_bit,
  permute_field,
  rotate_index,
  reverse_index,
  rotate_bit_field,
  reverse_bit_field,
  FieldLocal,
}
use Rattle.bits.proofs.TestbitLaws.{testbit-ext}
use Rattle.bits.proofs.FieldLaws.{in_field-true, in_field-positions, in_field-lt, in_field-ge, testbit-set_field, testbit-set_field-out}
use Rattle.bits.proofs.RotateLaws.{rotate_index-lt, reverse_index-lt}

-- ---- two operations on fields with no position in common

module _ {f g : ℤ → ℤ} (a b c d : ℕ) (F : FieldLocal a b f) (G : FieldLocal c d g)
    (apart : (i : ℕ) → in_field a b i ≡ true → in_field c d i ≡ false) where
  -- a position of the second field is none of the first
  apart-back : (i : ℕ) → in_field c d i ≡ true → in_field a b i ≡ false
  apart-back i k = go (in_field a b i) refl
    where
      go : (t : Bool) → in_field a b i ≡ t → in_field a b i ≡ false
      go true e = absurd (true≢false (sym k ∙ apart i e))
      go false e = e

  commute-bit : (x : ℤ) (i : ℕ) (s t : Bool) → in_field a b i ≡ s → in_field c d i ≡ t → testbit (f (g x)) i ≡ testbit (g (f x)) i
  commute-bit x i true t p q =
      F.inside (g x) x (λ j k. G.outside x j (apart j k)) i p ∙ sym (G.outside (f x) i (apart i p))
  commute-bit x i false true p q =
      F.outside (g x) i p ∙ sym (G.inside (f x) x (λ j k. F.outside x j (apart-back j k)) i q)
  commute-bit x i false false p q =
      F.outside (g x) i p ∙ G.outside x i q ∙ sym (G.outside (f x) i q ∙ F.outside x i p)

  pub fields-commute : (x : ℤ) → f (g x) ≡ g (f x)
  fields-commute x = testbit-ext λ i. commute-bit x i (in_field a b i) (in_field c d i) refl refl

-- ---- fields of which one ends at or before the other's start, and empty fields

pub apart-fields : (a b c d : ℕ) → (b ≤ c) ⊎ (d ≤ a) → (i : ℕ) → in_field a b i ≡ true → in_field c d i ≡ false
apart-fields a b c d (inl h) i e = in_field-lt c d i (omega (arith, in_field-positions a b i e))
apart-fields a b c d (inr h) i e = in_field-ge c d i (omega (arith, in_field-positions a b i e))

-- an empty field is apart from every other, wherever it lies
pub apart-empty : (a b c d : ℕ) → b ≤ a → (i : ℕ) → in_field a b i ≡ true → in_field c d i ≡ false
apart-empty a b c d h i e = absurd (omega (arith, in_field-positions a b i e))

-- ---- the operations on a field

local-set_field : (start end : ℕ) (g : ℤ → ℕ → Bool)
    → ((x y : ℤ) → ((i : ℕ) → in_field start end i ≡ true → testbit x i ≡ testbit y i) → (j : ℕ) → j < end - start → g x j ≡ g y j)
    → FieldLocal start end (λ x. set_field x start end (g x))
local-set_field start end g same = record {
  outside = λ x i o. testbit-set_field-out x start end (g x) i o;
  inside = λ x y agree i k.
      testbit-set_field x start end (g x) i
      ∙ ap (λ (b : Bool). cond b (g x (i - start)) (testbit x i)) k
      ∙ same x y agree (i - start) (omega (arith, in_field-positions start end i k))
      ∙ sym (testbit-set_field y start end (g y) i ∙ ap (λ (b : Bool). cond b (g y (i - start)) (testbit y i)) k);
}

pub local-copy_bit_field : (start end : ℕ) (y : ℤ) → FieldLocal start end (λ x. copy_bit_field x start end y)
unfolding copy_bit_field
local-copy_bit_field start end y = local-set_field start end (λ x j. testbit y j) (λ u v agree j h. refl)

pub local-copy_bit : (k : ℕ) (y : ℤ) → FieldLocal k (suc k) (λ x. copy_bit x k y)
unfolding copy_bit
local-copy_bit k y = local-copy_bit_field k (suc k) y

pub local-permute_field : (p : ℕ → ℕ) (start end : ℕ) → ((j : ℕ) → j < end - start → p j < end - start)
    → FieldLocal start end (λ x. permute_field p x start end)
unfolding permute_field
local-permute_field p start end into =
    local-set_field start end (λ x j. testbit x (start + p j))
    (λ u v agree j h. agree (start + p j) (in_field-true start end (start + p j) (omega arith) (omega (arith, into j h))))

pub local-rotate_bit_field : (start end : ℕ) (c : ℤ) → FieldLocal start end (λ x. rotate_bit_field x start end c)
unfolding rotate_bit_field
local-rotate_bit_field start end c =
    local-permute_field (rotate_index (end - start) c) start end (λ j h. rotate_index-lt (end - start) (omega arith) c j)

pub local-reverse_bit_field : (start end : ℕ) → FieldLocal start end (λ x. reverse_bit_field x start end)
unfolding reverse_bit_field
local-reverse_bit_field start end =
    local-permute_field (reverse_index (end - start)) start end (λ j h. reverse_index-lt (end - start) (omega arith) j)
