-- Laws of the division of an integer by a natural number m > 0: floor_div is the quotient and mod_ℕ the remainder. Assumes nothing.
use mathlib.Core.Path.{◌≡◌, refl, sym, ◌∙◌, ap}
use Prim.Native.Nat.{ℕ, zero, suc, ◌+◌, ◌*◌, ◌-◌, ◌/◌, ◌%◌, ◌<◌}
use native.Mathlib.Nat.{div-add-mod', mod-lt, mod-eq_of_lt, zero-mod}
use native.Mathlib.Omega.{arith}
use lib.Arith.{comp_comp, digits_div, digits_mod}
use lib.IntN.{ℤ, pos, negsuc, pred_ℤ, neg_ℤ, ◌+ℤ◌, ◌-ℤ◌, ◌*ℤ◌, +ℤ_idl, +ℤ_idr, +ℤ_comm, +ℤ_invr, -ℤ-+ℤ_cancel, neg_ℤ-+ℤ, pred_ℤ-+ℤ}
use Rattle.bits.specs.Logical.{bitwise_not}
use Rattle.bits.specs.Shift.{floor_div}
use Rattle.bits.specs.Division.{mod_ℕ}
use Rattle.bits.proofs.IntegerLaws.{+ℤ-swap, *ℤ-distrib-+ℤ, sub_ℕ-lt}

-- ---- not, as a difference

-- bitwise_not x is -1 - x
pub not-pred : (x : ℤ) → bitwise_not x ≡ pred_ℤ (neg_ℤ x)
unfolding bitwise_not
not-pred (pos zero) = refl
not-pred (pos (suc n)) = refl
not-pred (negsuc n) = refl

pub not-add : (x y : ℤ) → bitwise_not (x +ℤ y) ≡ bitwise_not x -ℤ y
not-add x y =
    not-pred (x +ℤ y)
    ∙ ap pred_ℤ (neg_ℤ-+ℤ x y)
    ∙ sym (pred_ℤ-+ℤ (neg_ℤ x) (neg_ℤ y))
    ∙ ap (λ (k : ℤ). k -ℤ y) (sym (not-pred x))

pub not-sub : (x y : ℤ) → bitwise_not (bitwise_not x +ℤ y) ≡ x -ℤ y
unfolding bitwise_not
not-sub (pos n) y = not-add (negsuc n) y
not-sub (negsuc n) y = not-add (pos n) y

-- ---- x is q m + r with r < m for floor_div x m and mod_ℕ x m, and for no other q and r

-- -(k + 1) m + r, for r < m
pub negsuc-digits : (k m r : ℕ) → r < m → negsuc k *ℤ pos m +ℤ pos r ≡ negsuc (k * m + (m - suc r))
negsuc-digits k m r h =
    (let e : suc k * m ≡ suc (k * m + (m - 1)) = omega arith in ap (λ (n : ℕ). neg_ℤ (pos n) +ℤ pos r) e)
    ∙ sub_ℕ-lt r (suc (k * m + (m - 1))) (omega arith)
    ∙ (let e : suc (k * m + (m - 1)) - suc r ≡ k * m + (m - suc r) = omega arith in ap negsuc e)

pub floor_div-digits : (q : ℤ) (m r : ℕ) → r < m → floor_div (q *ℤ pos m +ℤ pos r) m ≡ q
unfolding floor_div
floor_div-digits (pos k) m r h = ap pos (digits_div k h)
floor_div-digits (negsuc k) m r h =
    ap (λ (x : ℤ). floor_div x m) (negsuc-digits k m r h) ∙ ap negsuc (digits_div k (omega arith))

pub mod_ℕ-digits : (q : ℤ) (m r : ℕ) → r < m → mod_ℕ (q *ℤ pos m +ℤ pos r) m ≡ r
unfolding mod_ℕ
mod_ℕ-digits (pos k) m r h = digits_mod k h
mod_ℕ-digits (negsuc k) m r h =
    ap (λ (x : ℤ). mod_ℕ x m) (negsuc-digits k m r h) ∙ ap (λ (n : ℕ). m - suc n) (digits_mod k (omega arith)) ∙ comp_comp h

pub floor_div-mod_ℕ : (x : ℤ) (m : ℕ) → 0 < m → floor_div x m *ℤ pos m +ℤ pos (mod_ℕ x m) ≡ x
unfolding floor_div mod_ℕ
floor_div-mod_ℕ (pos n) m h = ap pos (div-add-mod' n m)
floor_div-mod_ℕ (negsuc n) m h =
    negsuc-digits (n / m) m (m - suc (n % m)) (omega arith)
    ∙ (let e : n / m * m + (m - suc (m - suc (n % m))) ≡ n = omega (arith, div-add-mod' n m, mod-lt n h) in ap negsuc e)

pub mod_ℕ-lt : (x : ℤ) (m : ℕ) → 0 < m → mod_ℕ x m < m
unfolding mod_ℕ
mod_ℕ-lt (pos n) m h = mod-lt n h
mod_ℕ-lt (negsuc n) m h = omega arith

pub mod_ℕ-small : (n m : ℕ) → n < m → mod_ℕ (pos n) m ≡ n
unfolding mod_ℕ
mod_ℕ-small n m h = mod-eq_of_lt h

-- ---- multiples of m

multiple : (x q : ℤ) (m : ℕ) → 0 < m → x +ℤ q *ℤ pos m ≡ (floor_div x m +ℤ q) *ℤ pos m +ℤ pos (mod_ℕ x m)
multiple x q m h =
    ap (λ (k : ℤ). k +ℤ q *ℤ pos m) (sym (floor_div-mod_ℕ x m h))
    ∙ +ℤ-swap (floor_div x m *ℤ pos m) (pos (mod_ℕ x m)) (q *ℤ pos m)
    ∙ ap (λ (k : ℤ). k +ℤ pos (mod_ℕ x m)) (sym (*ℤ-distrib-+ℤ (floor_div x m) q (pos m)))

pub floor_div-multiple : (x q : ℤ) (m : ℕ) → 0 < m → floor_div (x +ℤ q *ℤ pos m) m ≡ floor_div x m +ℤ q
floor_div-multiple x q m h =
    ap (λ (k : ℤ). floor_div k m) (multiple x q m h) ∙ floor_div-digits (floor_div x m +ℤ q) m (mod_ℕ x m) (mod_ℕ-lt x m h)

pub mod_ℕ-multiple : (x q : ℤ) (m : ℕ) → 0 < m → mod_ℕ (x +ℤ q *ℤ pos m) m ≡ mod_ℕ x m
mod_ℕ-multiple x q m h =
    ap (λ (k : ℤ). mod_ℕ k m) (multiple x q m h) ∙ mod_ℕ-digits (floor_div x m +ℤ q) m (mod_ℕ x m) (mod_ℕ-lt x m h)

pub mod_ℕ-period : (x : ℤ) (m : ℕ) → mod_ℕ (x +ℤ pos m) m ≡ mod_ℕ x m
mod_ℕ-period x zero = ap (λ (k : ℤ). mod_ℕ k zero) (+ℤ_idr x)
mod_ℕ-period x (suc m) =
    (let e : suc m ≡ 1 * suc m = omega arith in ap (λ (n : ℕ). mod_ℕ (x +ℤ pos n) (suc m)) e) ∙ mod_ℕ-multiple x (pos 1) (suc m) (omega arith)

-- ---- sums and differences

pub mod_ℕ-add-l : (x y : ℤ) (m : ℕ) → 0 < m → mod_ℕ (pos (mod_ℕ x m) +ℤ y) m ≡ mod_ℕ (x +ℤ y) m
mod_ℕ-add-l x y m h =
    sym (mod_ℕ-multiple (pos (mod_ℕ x m) +ℤ y) (floor_div x m) m h)
    ∙ ap (λ (k : ℤ). mod_ℕ k m)
    (+ℤ-swap (pos (mod_ℕ x m)) y (floor_div x m *ℤ pos m)
    ∙ ap (λ (k : ℤ). k +ℤ y) (+ℤ_comm (pos (mod_ℕ x m)) (floor_div x m *ℤ pos m) ∙ floor_div-mod_ℕ x m h))

pub mod_ℕ-add-r : (x y : ℤ) (m : ℕ) → 0 < m → mod_ℕ (x +ℤ pos (mod_ℕ y m)) m ≡ mod_ℕ (x +ℤ y) m
mod_ℕ-add-r x y m h =
    ap (λ (k : ℤ). mod_ℕ k m) (+ℤ_comm x (pos (mod_ℕ y m)))
    ∙ mod_ℕ-add-l y x m h
    ∙ ap (λ (k : ℤ). mod_ℕ k m) (+ℤ_comm y x)

pub mod_ℕ-not : (x : ℤ) (m : ℕ) → 0 < m → mod_ℕ (bitwise_not x) m ≡ m - suc (mod_ℕ x m)
unfolding bitwise_not mod_ℕ
mod_ℕ-not (pos n) m h = refl
mod_ℕ-not (negsuc n) m h = sym (comp_comp (mod-lt n h))

pub mod_ℕ-sub-l : (x y : ℤ) (m : ℕ) → 0 < m → mod_ℕ (pos (mod_ℕ x m) -ℤ y) m ≡ mod_ℕ (x -ℤ y) m
mod_ℕ-sub-l x y m h = mod_ℕ-add-l x (neg_ℤ y) m h

by-not : (x y : ℤ) (m : ℕ) → 0 < m → mod_ℕ (x -ℤ y) m ≡ m - suc (mod_ℕ (bitwise_not x +ℤ y) m)
by-not x y m h = ap (λ (k : ℤ). mod_ℕ k m) (sym (not-sub x y)) ∙ mod_ℕ-not (bitwise_not x +ℤ y) m h

pub mod_ℕ-sub-r : (x y : ℤ) (m : ℕ) → 0 < m → mod_ℕ (x -ℤ pos (mod_ℕ y m)) m ≡ mod_ℕ (x -ℤ y) m
mod_ℕ-sub-r x y m h =
    by-not x (pos (mod_ℕ y m)) m h ∙ ap (λ (n : ℕ). m - suc n) (mod_ℕ-add-r (bitwise_not x) y m h) ∙ sym (by-not x y m h)

pub mod_ℕ-self : (x : ℤ) (m : ℕ) → mod_ℕ (x -ℤ x) m ≡ 0
unfolding mod_ℕ
mod_ℕ-self x m = ap (λ (k : ℤ). mod_ℕ k m) (+ℤ_invr x) ∙ zero-mod m

pub mod_ℕ-inj : (c d m : ℕ) → c < m → d < m → mod_ℕ (pos c -ℤ pos d) m ≡ 0 → c ≡ d
mod_ℕ-inj c d m h l e =
    sym (mod_ℕ-small c m h)
    ∙ ap (λ (k : ℤ). mod_ℕ k m) (sym (-ℤ-+ℤ_cancel (pos c) (pos d)))
    ∙ sym (mod_ℕ-add-l (pos c -ℤ pos d) (pos d) m (omega arith))
    ∙ ap (λ (n : ℕ). mod_ℕ (pos n +ℤ pos d) m) e
    ∙ ap (λ (k : ℤ). mod_ℕ k m) (+ℤ_idl (pos d))
    ∙ mod_ℕ-small d m l
