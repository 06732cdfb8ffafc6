-- The limbs of -z from those of z, from the lowest: below the first limb that is not 0 they are 0, that limb is taken from 2^32, and each above it
-- is complemented. Assumes nothing.
use Prim.Native.Nat.{ℕ, zero, suc, ◌+◌, ◌-◌, ◌/◌, ◌%◌, ◌^◌, ◌≤◌, ◌<◌}
use native.Mathlib.Numerals.{add-one}
use native.Mathlib.Omega.{arith}
use mathlib.Core.Path.{◌≡◌, refl, sym, ap, ap₂, ◌∙◌}
use mathlib.Core.Bool.{Bool, true, false, cond, not, ◌||◌}
use mathlib.Core.List.{List, [], ◌∷◌, ◌++◌, append_assoc, append-nil}
use lib.Dec.{eqb}
use lib.IntN.{ℤ, pos, negsuc, neg_ℤ}
use lib.ListN.{length, take, drop, set, get_or, length-set, drop_of_length-le}
use lib.Pow.{pow_pos}
use lib.Seq.{take_all, take-suc-set, drop-set-lt, drop-cons, drop-drop, get_or-drop}
use borrow.Author.Tests.{eqb-true, eqb-false}
use Rattle.bits.specs.Shift.{floor_div, shift_right}
use Rattle.bits.specs.Division.{mod_ℕ}
use Rattle.bits.specs.Logical.{bitwise_not}
use Rattle.bits.proofs.ModLaws.{mod_ℕ-not}
use Rattle.bits.proofs.ShiftLaws.{shift_right-not}
use Rattle.limbwords.specs.Value.{value, limbs_of}
use Rattle.limbwords.proofs.ValueLaws.{limbs_of-value}

-- a limb of -z, where a lower limb of z is not 0 and where none is
abbrev pub negated_limb : Bool → ℕ → ℕ
negated_limb lower n = cond lower (2 ^ 32 - 1 - n) ((2 ^ 32 - n) % 2 ^ 32)

unfoldable pub negated_from : Bool → List ℕ → List ℕ
negated_from lower [] = []
negated_from lower (n ∷ ns) = negated_limb lower n ∷ negated_from (lower || not (eqb n 0)) ns

-- ---- -z, by its lowest limb

low-neg_ℤ : (z : ℤ) → (2 ^ 32 - mod_ℕ z (2 ^ 32)) % 2 ^ 32 ≡ mod_ℕ (neg_ℤ z) (2 ^ 32)
unfolding mod_ℕ
low-neg_ℤ (pos zero) = refl
low-neg_ℤ (pos (suc n)) = omega arith
low-neg_ℤ (negsuc n) = omega arith

high-neg_ℤ-zero : (z : ℤ) → mod_ℕ z (2 ^ 32) ≡ 0 → neg_ℤ (shift_right z 32) ≡ shift_right (neg_ℤ z) 32
unfolding mod_ℕ shift_right floor_div
high-neg_ℤ-zero (pos zero) h = refl
high-neg_ℤ-zero (pos (suc n)) h = let e : suc n / 2 ^ 32 ≡ suc (n / 2 ^ 32) = omega arith in ap (λ (m : ℕ). neg_ℤ (pos m)) e
high-neg_ℤ-zero (negsuc n) h = let e : suc (n / 2 ^ 32) ≡ suc n / 2 ^ 32 = omega arith in ap pos e

high-neg_ℤ : (z : ℤ) → (mod_ℕ z (2 ^ 32) ≡ 0 → ⊥) → bitwise_not (shift_right z 32) ≡ shift_right (neg_ℤ z) 32
unfolding mod_ℕ shift_right floor_div bitwise_not
high-neg_ℤ (pos zero) h = absurd (h refl)
high-neg_ℤ (pos (suc n)) h = let e : suc n / 2 ^ 32 ≡ n / 2 ^ 32 = omega arith in ap negsuc e
high-neg_ℤ (negsuc n) h = let e : n / 2 ^ 32 ≡ suc n / 2 ^ 32 = omega arith in ap pos e

-- ---- all limbs

complement : (k : ℕ) (z : ℤ) → negated_from true (limbs_of k z) ≡ limbs_of k (bitwise_not z)
unfolding negated_from limbs_of
complement zero z = refl
complement (suc k) z =
    let e : 2 ^ 32 - 1 - mod_ℕ z (2 ^ 32) ≡ 2 ^ 32 - suc (mod_ℕ z (2 ^ 32)) = omega arith in
    ap₂ ◌∷◌ (e ∙ sym (mod_ℕ-not z (2 ^ 32) (pow_pos 32))) (complement k (shift_right z 32) ∙ ap (limbs_of k) (sym (shift_right-not z 32)))

negation : (k : ℕ) (z : ℤ) → negated_from false (limbs_of k z) ≡ limbs_of k (neg_ℤ z)
unfolding negated_from limbs_of
negation zero z = refl
negation (suc k) z = ap₂ ◌∷◌ (low-neg_ℤ z) (go (eqb (mod_ℕ z (2 ^ 32)) 0) refl (negation k (shift_right z 32)))
  where
    go : (b : Bool) → eqb (mod_ℕ z (2 ^ 32)) 0 ≡ b → negated_from false (limbs_of k (shift_right z 32)) ≡ limbs_of k (neg_ℤ (shift_right z 32))
        → negated_from (not b) (limbs_of k (shift_right z 32)) ≡ limbs_of k (shift_right (neg_ℤ z) 32)
    go true e above = above ∙ ap (limbs_of k) (high-neg_ℤ-zero z (eqb-true (mod_ℕ z (2 ^ 32)) 0 e))
    go false e above = complement k (shift_right z 32) ∙ ap (limbs_of k) (high-neg_ℤ z (eqb-false (mod_ℕ z (2 ^ 32)) 0 e))

pub negated-value : (xs : List ℕ) → ((i : ℕ) → get_or xs i 0 < 2 ^ 32) → negated_from false xs ≡ limbs_of (length xs) (neg_ℤ (value xs))
negated-value xs b = ap (negated_from false) (sym (limbs_of-value xs b)) ∙ negation (length xs) (value xs)

-- ---- limb by limb: the first j are negated, the others are as they were

pub record Negated (first xs : List ℕ) (lower : Bool) (j : ℕ) : Type 0 where
  pub within : j ≤ length first
  pub size : length xs ≡ length first
  pub rest : drop j xs ≡ drop j first
  pub done : take j xs ++ negated_from lower (drop j first) ≡ negated_from false first

pub negated-none : (xs : List ℕ) → Negated xs xs false 0
negated-none xs = record { within = omega arith; size = refl; rest = refl; done = refl }

pub negated-more : {first xs : List ℕ} {lower : Bool} {j : ℕ} (next : Bool) (v : ℕ) → Negated first xs lower j → j < length first
    → v ≡ negated_limb lower (get_or xs j 0) → next ≡ (lower || not (eqb (get_or xs j 0) 0))
    → Negated first (set xs j v) next (j + 1)
unfolding negated_from
negated-more {first} {xs} {lower} {j} next v s h e l = record {
  within = omega arith;
  size = length-set xs j v ∙ s.size;
  rest = drop-set-lt (j + 1) xs j v (omega arith) ∙ sym (drop-drop 1 j xs) ∙ ap (drop 1) s.rest ∙ drop-drop 1 j first;
  done =
      rw (add-one j)
      (ap (λ (l : List ℕ). l ++ negated_from next (drop (suc j) first)) (take-suc-set xs j v (omega (arith, s.size)))
      ∙ append_assoc (take j xs) (v ∷ []) (negated_from next (drop (suc j) first))
      ∙ ap₂ (λ (n : ℕ) (b : Bool). take j xs ++ (n ∷ negated_from b (drop (suc j) first))) e l
      ∙ ap (λ (n : ℕ). take j xs ++ negated_from lower (n ∷ drop (suc j) first)) same
      ∙ ap (λ (l : List ℕ). take j xs ++ negated_from lower l) (sym (drop-cons first j 0 h))
      ∙ s.done);
}
  where
    same : get_or xs j 0 ≡ get_or first j 0
    same =
        let at : j + 0 ≡ j = omega arith in
        rw at at (sym (get_or-drop j xs 0 0) ∙ ap (λ (l : List ℕ). get_or l 0 0) s.rest ∙ get_or-drop j first 0 0)

pub negated-all : {first xs : List ℕ} {lower : Bool} {j : ℕ} → Negated first xs lower j → length first ≤ j → xs ≡ negated_from false first
unfolding negated_from
negated-all {first} {xs} {lower} {j} s h =
    sym (take_all j xs (omega (arith, s.size)))
    ∙ sym (append-nil (take j xs))
    ∙ ap (λ (l : List ℕ). take j xs ++ negated_from lower l) (sym (drop_of_length-le first h))
    ∙ s.done
