-- Laws of quotients and remainders: each pair satisfies its condition, and no other pair does. Assumes nothing.
--   floor_div x m         q m <= x < (q + 1) m
--   div x y, mod x y     x = q y + m with 0 <= m < |y|
--   div0 x y, mod0 x y   x = q y + m with -|y| <= 2 m < |y|
use mathlib.Core.Path.{◌≡◌, refl, sym, ◌∙◌, ap, subst}
use mathlib.Core.Logic.{◌≢◌}
use mathlib.Core.Bool.{Bool, true, false, cond}
use Prim.Native.Nat.{ℕ, zero, suc, ◌+◌, ◌*◌, ◌-◌, ◌/◌, ◌≤◌, ◌<◌}
use native.Mathlib.Omega.{arith}
use lib.Dec.{T, leb, ltb, leb-zero, leb-suc-zero, leb-suc-suc, ltb→lt}
use lib.IntN.{
  ℤ,
  pos,
  negsuc,
  suc_ℤ,
  pred_ℤ,
  neg_ℤ,
  nat_abs,
  ◌+ℤ◌,
  ◌-ℤ◌,
  ◌*ℤ◌,
  +ℤ_idr,
  +ℤ_assoc,
  +ℤ-neg_ℤ_cancel,
  -ℤ-+ℤ_cancel,
  neg_ℤ-neg_ℤ,
  suc_ℤ-*ℤ,
  pred_ℤ-*ℤ,
}
use lib.Signed.{le_z, lt_z, ◌≤ℤ◌, ◌<ℤ◌, le_z_yes, lt_z_yes}
use borrow.Author.Tests.{leb-true, leb-false, le-leb, lt-ltb}
use Rattle.bits.specs.Testbit.{is_negative}
use Rattle.bits.specs.Shift.{floor_div}
use Rattle.bits.specs.Division.{div, mod_ℕ, «mod», div0, mod0}
use Rattle.bits.proofs.IntegerLaws.{
  +ℤ-swap,
  pos-sub-lt,
  nat_abs-pos,
  *ℤ-negsuc-neg_ℤ,
  le_z-true,
  lt_z-true,
  lt_z-+ℤ,
  le_z-+ℤ,
  le_z-neg_ℤ-+ℤ,
  lt_z-neg_ℤ-+ℤ,
  gap,
}
use Rattle.bits.proofs.ModLaws.{floor_div-digits, mod_ℕ-digits, floor_div-mod_ℕ, mod_ℕ-lt}

-- ---- floor_div x m is the greatest integer that is at most x / m

le-sum : (a : ℤ) (r : ℕ) → a ≤ℤ (a +ℤ pos r)
le-sum a r = le_z-true (ap (λ (k : ℤ). le_z k (a +ℤ pos r)) (sym (+ℤ_idr a)) ∙ le_z-+ℤ a (pos 0) (pos r) ∙ leb-zero r)

lt-next : (q : ℤ) (m r : ℕ) → lt_z (q *ℤ pos m +ℤ pos r) (suc_ℤ q *ℤ pos m) ≡ ltb r m
lt-next q m r = ap (λ (k : ℤ). lt_z (q *ℤ pos m +ℤ pos r) k) (suc_ℤ-*ℤ q (pos m)) ∙ lt_z-+ℤ (q *ℤ pos m) (pos r) (pos m)

pub floor_div-bounds : (x : ℤ) (m : ℕ) → 0 < m → ((floor_div x m *ℤ pos m) ≤ℤ x) × (x <ℤ (suc_ℤ (floor_div x m) *ℤ pos m))
floor_div-bounds x m h =
    subst (λ (k : ℤ). ((floor_div x m *ℤ pos m) ≤ℤ k) × (k <ℤ (suc_ℤ (floor_div x m) *ℤ pos m))) (floor_div-mod_ℕ x m h) (
      le-sum (floor_div x m *ℤ pos m) (mod_ℕ x m),
      lt_z-true (lt-next (floor_div x m) m (mod_ℕ x m) ∙ lt-ltb (mod_ℕ x m) m (mod_ℕ-lt x m h)),
    )

pub floor_div-unique : (x q : ℤ) (m : ℕ) → (q *ℤ pos m) ≤ℤ x → x <ℤ (suc_ℤ q *ℤ pos m) → q ≡ floor_div x m
floor_div-unique x q m lo hi =
    sym (floor_div-digits q m r (ltb→lt r m (subst T (ap (λ (k : ℤ). lt_z k (suc_ℤ q *ℤ pos m)) (sym e) ∙ lt-next q m r) hi.lt)))
    ∙ ap (λ (k : ℤ). floor_div k m) e
  where
    r : ℕ
    r = nat_abs (neg_ℤ (q *ℤ pos m) +ℤ x)

    e : q *ℤ pos m +ℤ pos r ≡ x
    e = gap (q *ℤ pos m) x lo

-- ---- div and mod

div-*ℤ : (x y : ℤ) → div x y *ℤ y ≡ floor_div x (nat_abs y) *ℤ pos (nat_abs y)
unfolding div
div-*ℤ x (pos b) = refl
div-*ℤ x (negsuc b) =
    *ℤ-negsuc-neg_ℤ (neg_ℤ (floor_div x (suc b))) b ∙ ap (λ (q : ℤ). q *ℤ pos (suc b)) (neg_ℤ-neg_ℤ (floor_div x (suc b)))

pub div-mod : (x y : ℤ) → y ≢ pos 0 → x ≡ (div x y *ℤ y) +ℤ «mod» x y
unfolding «mod»
div-mod x y h =
    sym (floor_div-mod_ℕ x (nat_abs y) (nat_abs-pos y h)) ∙ ap (λ (k : ℤ). k +ℤ pos (mod_ℕ x (nat_abs y))) (sym (div-*ℤ x y))

pub mod-bounds : (x y : ℤ) → y ≢ pos 0 → (pos 0 ≤ℤ «mod» x y) × («mod» x y <ℤ pos (nat_abs y))
unfolding «mod»
mod-bounds x y h = (
  le_z-true (leb-zero (mod_ℕ x (nat_abs y))),
  lt_z-true (lt-ltb (mod_ℕ x (nat_abs y)) (nat_abs y) (mod_ℕ-lt x (nat_abs y) (nat_abs-pos y h))),
)

pub div-digits : (q y : ℤ) (r : ℕ) → r < nat_abs y → div ((q *ℤ y) +ℤ pos r) y ≡ q
unfolding div
div-digits q (pos b) r h = floor_div-digits q b r h
div-digits q (negsuc b) r h =
    ap (λ (k : ℤ). neg_ℤ (floor_div (k +ℤ pos r) (suc b))) (*ℤ-negsuc-neg_ℤ q b)
    ∙ ap neg_ℤ (floor_div-digits (neg_ℤ q) (suc b) r h)
    ∙ neg_ℤ-neg_ℤ q

pub mod-digits : (q y : ℤ) (r : ℕ) → r < nat_abs y → «mod» ((q *ℤ y) +ℤ pos r) y ≡ pos r
unfolding «mod»
mod-digits q (pos b) r h = ap pos (mod_ℕ-digits q b r h)
mod-digits q (negsuc b) r h =
    ap (λ (k : ℤ). pos (mod_ℕ (k +ℤ pos r) (suc b))) (*ℤ-negsuc-neg_ℤ q b) ∙ ap pos (mod_ℕ-digits (neg_ℤ q) (suc b) r h)

-- y is not 0, since 0 <= m < |y|
pub div-mod-unique : (x y q m : ℤ) → x ≡ (q *ℤ y) +ℤ m → pos 0 ≤ℤ m → m <ℤ pos (nat_abs y) → (q ≡ div x y) × (m ≡ «mod» x y)
div-mod-unique x y q (pos r) e lo hi = (
  sym (ap (λ (k : ℤ). div k y) e ∙ div-digits q y r (ltb→lt r (nat_abs y) hi.lt)),
  sym (ap (λ (k : ℤ). «mod» k y) e ∙ mod-digits q y r (ltb→lt r (nat_abs y) hi.lt)),
)
div-mod-unique x y q (negsuc n) e lo hi = absurd lo.le

-- ---- div0 and mod0 are div and mod of x + |y| / 2, moved back

leb-same : (a b c d : ℕ) → (a ≤ b → c ≤ d) → (c ≤ d → a ≤ b) → leb a b ≡ leb c d
leb-same a b c d f g = go (leb a b) (leb c d) refl refl
  where
    go : (s t : Bool) → leb a b ≡ s → leb c d ≡ t → s ≡ t
    go true true p q = refl
    go true false p q = absurd (omega (arith, f (leb-true a b p), leb-false c d q))
    go false true p q = absurd (omega (arith, g (leb-true c d q), leb-false a b p))
    go false false p q = refl

le_z-neg_ℤ : (a b : ℕ) → le_z (neg_ℤ (pos a)) (neg_ℤ (pos b)) ≡ leb b a
le_z-neg_ℤ zero zero = refl
le_z-neg_ℤ zero (suc b) = sym (leb-suc-zero b)
le_z-neg_ℤ (suc a) zero = sym (leb-zero (suc a))
le_z-neg_ℤ (suc a) (suc b) = sym (leb-suc-suc b a)

le_z-neg_ℤ-pos : (a b : ℕ) → le_z (neg_ℤ (pos a)) (pos b) ≡ true
le_z-neg_ℤ-pos zero b = leb-zero b
le_z-neg_ℤ-pos (suc a) b = refl

double-negsuc-lt : (n b : ℕ) → lt_z (pos 2 *ℤ negsuc n) (pos b) ≡ true
double-negsuc-lt n b = let e : 2 * suc n ≡ suc (suc (2 * n)) = omega arith in ap (λ (k : ℕ). lt_z (neg_ℤ (pos k)) (pos b)) e

-- -b <= 2 m exactly where 0 <= m + b / 2
half-low : (m : ℤ) (b : ℕ) → le_z (neg_ℤ (pos b)) (pos 2 *ℤ m) ≡ le_z (pos 0) (m +ℤ pos (b / 2))
half-low (pos n) b = le_z-neg_ℤ-pos b (2 * n) ∙ sym (leb-zero (n + b / 2))
half-low (negsuc n) b =
    le_z-neg_ℤ b (2 * suc n)
    ∙ leb-same (2 * suc n) b (suc n) (b / 2) (λ h. omega arith) (λ h. omega arith)
    ∙ le_z-neg_ℤ-+ℤ (pos (suc n)) (pos (b / 2))

-- 2 m < b exactly where m + b / 2 < b
half_high : (m : ℤ) (b : ℕ) → lt_z (pos 2 *ℤ m) (pos b) ≡ lt_z (m +ℤ pos (b / 2)) (pos b)
half_high (pos n) b = leb-same (suc (2 * n)) b (suc (n + b / 2)) b (λ h. omega arith) (λ h. omega arith)
half_high (negsuc n) b =
    double-negsuc-lt n b ∙ sym (lt_z-neg_ℤ-+ℤ (pos (suc n)) (pos (b / 2)) (pos b) ∙ lt-ltb (b / 2) (suc n + b) (omega arith))

pub div0-mod0 : (x y : ℤ) → y ≢ pos 0 → x ≡ (div0 x y *ℤ y) +ℤ mod0 x y
unfolding div0 mod0
div0-mod0 x y h =
    sym (+ℤ-neg_ℤ_cancel x (pos (nat_abs y / 2)))
    ∙ ap (λ (k : ℤ). k -ℤ pos (nat_abs y / 2)) (div-mod (x +ℤ pos (nat_abs y / 2)) y h)
    ∙ +ℤ_assoc (div (x +ℤ pos (nat_abs y / 2)) y *ℤ y) («mod» (x +ℤ pos (nat_abs y / 2)) y) (neg_ℤ (pos (nat_abs y / 2)))

pub mod0-bounds : (x y : ℤ) → y ≢ pos 0 → (neg_ℤ (pos (nat_abs y)) ≤ℤ (pos 2 *ℤ mod0 x y)) × ((pos 2 *ℤ mod0 x y) <ℤ pos (nat_abs y))
unfolding mod0
mod0-bounds x y h = (
  le_z_yes (subst T (sym (half-low (r -ℤ half) (nat_abs y))) w.0.le),
  lt_z_yes (subst T (sym (half_high (r -ℤ half) (nat_abs y))) w.1.lt),
)
  where
    half : ℤ
    half = pos (nat_abs y / 2)

    r : ℤ
    r = «mod» (x +ℤ half) y

    w : (pos 0 ≤ℤ (r -ℤ half +ℤ half)) × ((r -ℤ half +ℤ half) <ℤ pos (nat_abs y))
    w = subst (λ (k : ℤ). (pos 0 ≤ℤ k) × (k <ℤ pos (nat_abs y))) (sym (-ℤ-+ℤ_cancel r half)) (mod-bounds (x +ℤ half) y h)

-- y is not 0, since -|y| <= 2 m < |y|
pub div0-mod0-unique : (x y q m : ℤ) → x ≡ (q *ℤ y) +ℤ m → neg_ℤ (pos (nat_abs y)) ≤ℤ (pos 2 *ℤ m) → (pos 2 *ℤ m) <ℤ pos (nat_abs y)
    → (q ≡ div0 x y) × (m ≡ mod0 x y)
unfolding div0 mod0
div0-mod0-unique x y q m e lo hi = (u.0, sym (+ℤ-neg_ℤ_cancel m half) ∙ ap (λ (k : ℤ). k -ℤ half) u.1)
  where
    half : ℤ
    half = pos (nat_abs y / 2)

    u : (q ≡ div (x +ℤ half) y) × (m +ℤ half ≡ «mod» (x +ℤ half) y)
    u =
        div-mod-unique (x +ℤ half) y q (m +ℤ half) (ap (λ (k : ℤ). k +ℤ half) e ∙ +ℤ_assoc (q *ℤ y) m half)
        (le_z_yes (subst T (half-low m (nat_abs y)) lo.le)) (lt_z_yes (subst T (half_high m (nat_abs y)) hi.lt))

-- ---- div0 and mod0 from div and mod: the same where 2 m < |y|, and else one divisor further

pub div0-mod0-low : (x y : ℤ) → 2 * mod_ℕ x (nat_abs y) < nat_abs y → (div0 x y ≡ div x y) × (mod0 x y ≡ «mod» x y)
unfolding «mod»
div0-mod0-low x y h = (sym u.0, sym u.1)
  where
    r : ℕ
    r = mod_ℕ x (nat_abs y)

    u : (div x y ≡ div0 x y) × (pos r ≡ mod0 x y)
    u =
        div0-mod0-unique x y (div x y) (pos r) (div-mod x y (λ e. omega (arith, ap nat_abs e)))
        (le_z-true (le_z-neg_ℤ-pos (nat_abs y) (2 * r))) (lt_z-true (lt-ltb (2 * r) (nat_abs y) h))

next-*ℤ : (q y : ℤ) → cond (is_negative y) (pred_ℤ q) (suc_ℤ q) *ℤ y ≡ (q *ℤ y) +ℤ pos (nat_abs y)
unfolding is_negative
next-*ℤ q (pos b) = suc_ℤ-*ℤ q (pos b)
next-*ℤ q (negsuc b) = pred_ℤ-*ℤ q (negsuc b)

-- the quotient moves by 1 in the direction in which q y grows
pub div0-mod0-high : (x y : ℤ) → y ≢ pos 0 → nat_abs y ≤ 2 * mod_ℕ x (nat_abs y)
    → (div0 x y ≡ cond (is_negative y) (pred_ℤ (div x y)) (suc_ℤ (div x y))) × (mod0 x y ≡ «mod» x y -ℤ pos (nat_abs y))
unfolding «mod»
div0-mod0-high x y ne h = (sym u.0, sym u.1)
  where
    b : ℕ
    b = nat_abs y

    r : ℕ
    r = mod_ℕ x b

    r-lt : r < b
    r-lt = mod_ℕ-lt x b (nat_abs-pos y ne)

    q : ℤ
    q = cond (is_negative y) (pred_ℤ (div x y)) (suc_ℤ (div x y))

    m : ℤ
    m = pos r -ℤ pos b

    m-negsuc : m ≡ negsuc (b - suc r)
    m-negsuc = pos-sub-lt r b r-lt

    sum : x ≡ (q *ℤ y) +ℤ m
    sum =
        div-mod x y ne
        ∙ sym (+ℤ-neg_ℤ_cancel ((div x y *ℤ y) +ℤ pos r) (pos b))
        ∙ ap (λ (k : ℤ). k -ℤ pos b)
        (+ℤ-swap (div x y *ℤ y) (pos r) (pos b) ∙ ap (λ (k : ℤ). k +ℤ pos r) (sym (next-*ℤ (div x y) y)))
        ∙ +ℤ_assoc (q *ℤ y) (pos r) (neg_ℤ (pos b))

    low : le_z (neg_ℤ (pos b)) (pos 2 *ℤ m) ≡ true
    low =
        ap (λ (k : ℤ). le_z (neg_ℤ (pos b)) (pos 2 *ℤ k)) m-negsuc
        ∙ le_z-neg_ℤ b (2 * suc (b - suc r))
        ∙ le-leb (2 * suc (b - suc r)) b (omega (arith, r-lt))

    high : lt_z (pos 2 *ℤ m) (pos b) ≡ true
    high = ap (λ (k : ℤ). lt_z (pos 2 *ℤ k) (pos b)) m-negsuc ∙ double-negsuc-lt (b - suc r) b

    u : (q ≡ div0 x y) × (m ≡ mod0 x y)
    u = div0-mod0-unique x y q m sum (le_z-true low) (lt_z-true high)
