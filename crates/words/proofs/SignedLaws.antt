-- Sums, differences and products of integers given by their signs and absolute values. Assumes nothing.
use Prim.Native.Nat.{ℕ, zero, suc, ◌+◌, ◌*◌, ◌-◌, ◌≤◌}
use native.Mathlib.Nat.{le_refl}
use native.Mathlib.Omega.{arith}
use mathlib.Core.Path.{◌≡◌, refl, sym, ap, ap₂, ◌∙◌}
use mathlib.Core.Bool.{Bool, true, false, not, cond, xor}
use lib.Dec.{ltb}
use lib.IntN.{ℤ, pos, negsuc, neg_ℤ, nat_abs, sub_ℕ, neg_ℤ-neg_ℤ, neg_ℤ-+ℤ, ◌+ℤ◌, ◌-ℤ◌, ◌*ℤ◌, zero-*ℤ, *ℤ_comm}
use mir.Syntax.{w64}
use mir.Val.{SFits, to_z, of_z}
use Rattle.bits.specs.Testbit.{is_negative}
use Rattle.words.specs.Sign.{with_sign}
use Rattle.bits.proofs.IntegerLaws.{pos-sub-ge}
use Rattle.words.proofs.WordLaws.{back}

-- an integer has a sign and an absolute value
pub with_sign-nat_abs : (x : ℤ) → with_sign (is_negative x) (nat_abs x) ≡ x
unfolding with_sign is_negative
with_sign-nat_abs (pos n) = refl
with_sign-nat_abs (negsuc n) = refl

pub with_sign-not : (b : Bool) (n : ℕ) → with_sign (not b) n ≡ neg_ℤ (with_sign b n)
unfolding with_sign
with_sign-not true n = sym (neg_ℤ-neg_ℤ (pos n))
with_sign-not false n = refl

pub nat_abs-with_sign : (b : Bool) (n : ℕ) → nat_abs (with_sign b n) ≡ n
unfolding with_sign
nat_abs-with_sign true zero = refl
nat_abs-with_sign true (suc n) = refl
nat_abs-with_sign false n = refl

-- a sum of one sign, and of two signs
pub with_sign-add : (b : Bool) (m n : ℕ) → with_sign b (m + n) ≡ with_sign b m +ℤ with_sign b n
unfolding with_sign
with_sign-add true m n = neg_ℤ-+ℤ (pos m) (pos n)
with_sign-add false m n = refl

pub with_sign-sub : (b : Bool) (m n : ℕ) → n ≤ m → with_sign b (m - n) ≡ with_sign b m +ℤ with_sign (not b) n
unfolding with_sign
with_sign-sub true m n h =
    ap neg_ℤ (sym (pos-sub-ge m n h)) ∙ neg_ℤ-+ℤ (pos m) (neg_ℤ (pos n)) ∙ ap (λ (k : ℤ). neg_ℤ (pos m) +ℤ k) (neg_ℤ-neg_ℤ (pos n))
with_sign-sub false m n h = sym (pos-sub-ge m n h)

-- a product
neg_ℤ-*ℤ-l : (x y : ℤ) → neg_ℤ x *ℤ y ≡ neg_ℤ (x *ℤ y)
neg_ℤ-*ℤ-l (pos zero) y = zero-*ℤ y ∙ sym (ap neg_ℤ (zero-*ℤ y))
neg_ℤ-*ℤ-l (pos (suc m)) (pos n) = refl
neg_ℤ-*ℤ-l (pos (suc m)) (negsuc n) = sym (neg_ℤ-neg_ℤ (pos (suc m * suc n)))
neg_ℤ-*ℤ-l (negsuc m) (pos n) = sym (neg_ℤ-neg_ℤ (pos (suc m * n)))
neg_ℤ-*ℤ-l (negsuc m) (negsuc n) = refl

pub neg_ℤ-*ℤ-r : (x y : ℤ) → x *ℤ neg_ℤ y ≡ neg_ℤ (x *ℤ y)
neg_ℤ-*ℤ-r x y = *ℤ_comm x (neg_ℤ y) ∙ neg_ℤ-*ℤ-l y x ∙ ap neg_ℤ (*ℤ_comm y x)

pub with_sign-mul : (b c : Bool) (m n : ℕ) → with_sign (xor b c) (m * n) ≡ with_sign b m *ℤ with_sign c n
unfolding with_sign xor
with_sign-mul true true m n =
    sym (neg_ℤ-*ℤ-l (pos m) (neg_ℤ (pos n)) ∙ ap neg_ℤ (neg_ℤ-*ℤ-r (pos m) (pos n)) ∙ neg_ℤ-neg_ℤ (pos (m * n)))
with_sign-mul true false m n = sym (neg_ℤ-*ℤ-l (pos m) (pos n))
with_sign-mul false true m n = sym (neg_ℤ-*ℤ-r (pos m) (pos n))
with_sign-mul false false m n = refl

pub with_sign-times : (b : Bool) (m n : ℕ) → with_sign b (m * n) ≡ with_sign b m *ℤ pos n
unfolding with_sign
with_sign-times true m n = sym (neg_ℤ-*ℤ-l (pos m) (pos n))
with_sign-times false m n = refl

-- the absolute value of a sum and of a product
nat_abs-sub_ℕ : (a b : ℕ) → nat_abs (sub_ℕ a (suc b)) ≤ a + suc b
nat_abs-sub_ℕ a b = by-test (ltb a (suc b))
  where
    by-test : (t : Bool) → nat_abs (cond t (negsuc (suc b - suc a)) (pos (a - suc b))) ≤ a + suc b
    by-test true = omega arith
    by-test false = omega arith

pub nat_abs-add : (x y : ℤ) → nat_abs (x +ℤ y) ≤ nat_abs x + nat_abs y
nat_abs-add (pos m) (pos n) = le_refl (m + n)
nat_abs-add (pos m) (negsuc n) = nat_abs-sub_ℕ m n
nat_abs-add (negsuc m) (pos n) = let h = nat_abs-sub_ℕ n m in omega arith
nat_abs-add (negsuc m) (negsuc n) = omega arith

pub nat_abs-neg_ℤ : (x : ℤ) → nat_abs (neg_ℤ x) ≡ nat_abs x
nat_abs-neg_ℤ (pos zero) = refl
nat_abs-neg_ℤ (pos (suc n)) = refl
nat_abs-neg_ℤ (negsuc n) = refl

pub nat_abs-sub : (x y : ℤ) → nat_abs (x -ℤ y) ≤ nat_abs x + nat_abs y
nat_abs-sub x y = omega (arith, nat_abs-add x (neg_ℤ y), nat_abs-neg_ℤ y)

pub nat_abs_mul : (x y : ℤ) → nat_abs (x *ℤ y) ≡ nat_abs x * nat_abs y
nat_abs_mul (pos m) (pos n) = refl
nat_abs_mul (pos m) (negsuc n) = nat_abs-neg_ℤ (pos (m * suc n))
nat_abs_mul (negsuc m) (pos n) = nat_abs-neg_ℤ (pos (suc m * n))
nat_abs_mul (negsuc m) (negsuc n) = refl

-- a word that was taken apart
pub rejoin : {x : ℤ} {b : Bool} {n : ℕ} → SFits w64 x → b ≡ is_negative (to_z w64 (of_z w64 x)) → n ≡ nat_abs (to_z w64 (of_z w64 x)) → with_sign b n ≡ x
rejoin {x} h p q = ap₂ with_sign p q ∙ with_sign-nat_abs (to_z w64 (of_z w64 x)) ∙ back h
