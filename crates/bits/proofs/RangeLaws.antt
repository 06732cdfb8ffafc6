-- `within` is the order of the integers at both ends, each included: x is a plus a natural number, and b is x plus one. What a range says of its
-- numbers; a field's start and end. Assumes nothing.
use Prim.Native.Nat.{ℕ, zero, zero-le, suc, ◌≤◌}
use mathlib.Core.Path.{◌≡◌, refl, sym, ap, ap₂, ◌∙◌}
use mathlib.Core.Bool.{Bool, true, false, ◌&&◌}
use native.Mathlib.Omega.{arith}
use lib.Dec.{leb}
use lib.IntN.{ℤ, pos, negsuc, neg_ℤ, nat_abs, ◌+ℤ◌, +ℤ_idr}
use lib.Signed.{le_z}
use borrow.Author.Tests.{leb-true, le-leb}
use Rattle.bits.specs.Testbit.{is_negative}
use Rattle.bits.specs.Range.{within}
use Rattle.bits.proofs.Booleans.{both_left, both_right}
use Rattle.bits.proofs.IntegerLaws.{le_z-true, le_z-+ℤ, gap}

le_z-sum : (a : ℤ) (d : ℕ) {x : ℤ} → a +ℤ pos d ≡ x → le_z a x ≡ true
le_z-sum a d e = ap₂ le_z (sym (+ℤ_idr a)) (sym e) ∙ le_z-+ℤ a (pos 0) (pos d) ∙ le-leb 0 d (omega arith)

pub within-sum : (a : ℤ) (d e : ℕ) {x b : ℤ} → a +ℤ pos d ≡ x → x +ℤ pos e ≡ b → within a x b ≡ true
unfolding within
within-sum a d e {x} p q = ap₂ ◌&&◌ (le_z-sum a d p) (le_z-sum x e q)

pub sum-within : (a x b : ℤ) → within a x b ≡ true → ((d : ℕ) × (a +ℤ pos d ≡ x)) × ((e : ℕ) × (x +ℤ pos e ≡ b))
unfolding within
sum-within a x b h = (
  (nat_abs (neg_ℤ a +ℤ x), gap a x (le_z-true (both_left (le_z a x) (le_z x b) h))),
  (nat_abs (neg_ℤ x +ℤ b), gap x b (le_z-true (both_right (le_z a x) (le_z x b) h))),
)

-- at the ends and beside them; a range whose ends are exchanged has no number
within-edges : (within (negsuc 1) (negsuc 2) (pos 3) ≡ false) × ((within (negsuc 1) (negsuc 1) (pos 3) ≡ true) × ((within (negsuc 1) (pos 3) (pos 3) ≡ true)
    × ((within (negsuc 1) (pos 4) (pos 3) ≡ false) × (within (pos 1) (pos 0) (negsuc 0) ≡ false))))
unfolding within
within-edges = (refl, (refl, (refl, (refl, refl))))

-- ---- numbers in a range

pub natural-pos : (x : ℤ) → is_negative x ≡ false → pos (nat_abs x) ≡ x
unfolding is_negative
natural-pos (pos n) h = refl
natural-pos (negsuc n) h = let z : ◌≡◌ {A = ℕ} 0 1 = cc in absurd (omega arith)

pub within-pos : (s k : ℕ) (x : ℤ) → within (pos s) x (pos k) ≡ true → (is_negative x ≡ false) × (s ≤ nat_abs x) × (nat_abs x ≤ k)
unfolding within is_negative
within-pos s k (pos n) h = (refl, leb-true s n (both_left (leb s n) (leb n k) h), leb-true n k (both_right (leb s n) (leb n k) h))
within-pos s k (negsuc n) h = let z : ◌≡◌ {A = ℕ} 0 1 = cc in absurd (omega arith)

pub within_both : (m : ℕ) (d : ℤ) → within (neg_ℤ (pos m)) d (pos m) ≡ true → nat_abs d ≤ m
unfolding within
within_both m (pos n) h = leb-true n m (both_right (le_z (neg_ℤ (pos m)) (pos n)) (leb n m) h)
within_both zero (negsuc n) h = let z : ◌≡◌ {A = ℕ} 0 1 = cc in absurd (omega arith)
within_both (suc m) (negsuc n) h = let l = leb-true n m (both_left (leb n m) true h) in omega arith

pub both-within : (m : ℕ) (d : ℤ) → nat_abs d ≤ m → within (neg_ℤ (pos m)) d (pos m) ≡ true
unfolding within
both-within zero (pos n) h = ap₂ ◌&&◌ (le-leb 0 n zero-le) (le-leb n 0 h)
both-within zero (negsuc n) h = absurd (omega arith)
both-within (suc m) (pos n) h = le-leb n (suc m) h
both-within (suc m) (negsuc n) h = ap (λ (t : Bool). t && true) (le-leb n m (omega arith))

-- the start and the end of a field, up to a last position
pub within-field : (last : ℕ) (start end : ℤ) → within (pos 0) start (pos last) ≡ true → within start end (pos last) ≡ true
    → (is_negative start ≡ false) × (is_negative end ≡ false) × (nat_abs start ≤ nat_abs end) × (nat_abs end ≤ last)
within-field last start end h k =
    let s = within-pos 0 last start h in
    let e = within-pos (nat_abs start) last end (rw (natural-pos start s.0) k) in
    (s.0, e.0, e.1, e.2)
