-- Laws of the integers that the kit's library does not have: induction by steps, sums and products, and the order. Assumes nothing.
use mathlib.Core.Path.{◌≡◌, refl, sym, ◌∙◌, ap, ap₂, subst}
use mathlib.Core.Logic.{◌≢◌}
use mathlib.Core.Bool.{Bool, true, cond}
use Prim.Native.Nat.{ℕ, zero, suc, ◌+◌, ◌-◌, ◌≤◌, ◌<◌}
use native.Mathlib.Omega.{arith}
use lib.Dec.{T, leb-zero, leb-suc-zero, leb-suc-suc}
use lib.IntN.{
  ℤ,
  pos,
  negsuc,
  suc_ℤ,
  pred_ℤ,
  neg_ℤ,
  nat_abs,
  sub_ℕ,
  suc-pred,
  ◌+ℤ◌,
  ◌-ℤ◌,
  ◌*ℤ◌,
  +ℤ_idl,
  +ℤ_assoc,
  +ℤ_comm,
  +ℤ_invl,
  +ℤ_invr,
  +ℤ-suc_ℤ,
  suc_ℤ-+ℤ,
  pred_ℤ-+ℤ,
  zero-*ℤ,
  suc_ℤ-*ℤ,
  pred_ℤ-*ℤ,
}
use lib.Signed.{le_z, lt_z, ◌≤ℤ◌, ◌<ℤ◌, le_z_yes, lt_z_yes, yes_non_neg, pos-nat_abs}
use borrow.Author.Tests.{lt-ltb, le-ltb}

-- ---- sums and products of integers

-- every integer is reached from 0 by steps up and down
pub ℤ-step : (P : ℤ → Type 0) → P (pos 0) → ((k : ℤ) → P k → P (suc_ℤ k)) → ((k : ℤ) → P k → P (pred_ℤ k)) → (k : ℤ) → P k
ℤ-step P z up down (pos zero) = z
ℤ-step P z up down (pos (suc n)) = up (pos n) (ℤ-step P z up down (pos n))
ℤ-step P z up down (negsuc zero) = down (pos zero) z
ℤ-step P z up down (negsuc (suc n)) = down (negsuc n) (ℤ-step P z up down (negsuc n))

pub +ℤ-swap : (a b c : ℤ) → a +ℤ b +ℤ c ≡ a +ℤ c +ℤ b
+ℤ-swap a b c = +ℤ_assoc a b c ∙ ap (λ (k : ℤ). a +ℤ k) (+ℤ_comm b c) ∙ sym (+ℤ_assoc a c b)

pub *ℤ-distrib-+ℤ : (a b c : ℤ) → (a +ℤ b) *ℤ c ≡ a *ℤ c +ℤ b *ℤ c
*ℤ-distrib-+ℤ a b c =
    ℤ-step (λ a. (a +ℤ b) *ℤ c ≡ a *ℤ c +ℤ b *ℤ c)
    (ap times (+ℤ_idl b) ∙ sym (+ℤ_idl (b *ℤ c)) ∙ ap plus (sym (zero-*ℤ c)))
    (λ a e. ap times (suc_ℤ-+ℤ a b) ∙ suc_ℤ-*ℤ (a +ℤ b) c ∙ move a c e ∙ ap plus (sym (suc_ℤ-*ℤ a c)))
    (λ a e. ap times (pred_ℤ-+ℤ a b) ∙ pred_ℤ-*ℤ (a +ℤ b) c ∙ move a (neg_ℤ c) e ∙ ap plus (sym (pred_ℤ-*ℤ a c)))
    a
  where
    times : ℤ → ℤ
    times k = k *ℤ c

    plus : ℤ → ℤ
    plus k = k +ℤ b *ℤ c

    move : (a d : ℤ) → (a +ℤ b) *ℤ c ≡ a *ℤ c +ℤ b *ℤ c → (a +ℤ b) *ℤ c +ℤ d ≡ a *ℤ c +ℤ d +ℤ b *ℤ c
    move a d e = ap (λ (k : ℤ). k +ℤ d) e ∙ +ℤ-swap (a *ℤ c) (b *ℤ c) d

-- the difference of two naturals, by its sign
pub sub_ℕ-lt : (a b : ℕ) → a < b → sub_ℕ a b ≡ negsuc (b - suc a)
sub_ℕ-lt a b h = ap (λ (t : Bool). cond t (negsuc (b - suc a)) (pos (a - b))) (lt-ltb a b h)

pub sub_ℕ-ge : (a b : ℕ) → b ≤ a → sub_ℕ a b ≡ pos (a - b)
sub_ℕ-ge a b h = ap (λ (t : Bool). cond t (negsuc (b - suc a)) (pos (a - b))) (le-ltb a b h)

pub pos-sub-lt : (a b : ℕ) → a < b → pos a -ℤ pos b ≡ negsuc (b - suc a)
pos-sub-lt a zero h = absurd (omega arith)
pos-sub-lt a (suc b) h = sub_ℕ-lt a (suc b) h

pub pos-sub-ge : (a b : ℕ) → b ≤ a → pos a -ℤ pos b ≡ pos (a - b)
pos-sub-ge a zero h = let e : a + 0 ≡ a - 0 = omega arith in ap pos e
pos-sub-ge a (suc b) h = sub_ℕ-ge a (suc b) h

pub nat_abs-pos : (y : ℤ) → y ≢ pos 0 → 0 < nat_abs y
nat_abs-pos (pos zero) h = absurd (h refl)
nat_abs-pos (pos (suc n)) h = omega arith
nat_abs-pos (negsuc n) h = omega arith

pub *ℤ-negsuc-neg_ℤ : (q : ℤ) (b : ℕ) → q *ℤ negsuc b ≡ neg_ℤ q *ℤ pos (suc b)
*ℤ-negsuc-neg_ℤ (pos zero) b = zero-*ℤ (negsuc b) ∙ sym (zero-*ℤ (pos (suc b)))
*ℤ-negsuc-neg_ℤ (pos (suc n)) b = refl
*ℤ-negsuc-neg_ℤ (negsuc n) b = refl

-- ---- the order of integers

pub le_z-true : {a b : ℤ} → le_z a b ≡ true → a ≤ℤ b
le_z-true e = le_z_yes (subst T (sym e) tt)

pub lt_z-true : {a b : ℤ} → lt_z a b ≡ true → a <ℤ b
lt_z-true e = lt_z_yes (subst T (sym e) tt)

lt_z-suc_ℤ : (a b : ℤ) → lt_z (suc_ℤ a) (suc_ℤ b) ≡ lt_z a b
lt_z-suc_ℤ (pos a) (pos b) = leb-suc-suc (suc a) b
lt_z-suc_ℤ (pos a) (negsuc zero) = leb-suc-zero (suc a)
lt_z-suc_ℤ (pos a) (negsuc (suc b)) = refl
lt_z-suc_ℤ (negsuc zero) (pos b) = leb-suc-suc 0 b ∙ leb-zero b
lt_z-suc_ℤ (negsuc zero) (negsuc zero) = refl
lt_z-suc_ℤ (negsuc zero) (negsuc (suc b)) = sym (leb-suc-zero (suc b))
lt_z-suc_ℤ (negsuc (suc a)) (pos b) = refl
lt_z-suc_ℤ (negsuc (suc a)) (negsuc zero) = sym (leb-suc-suc 0 a ∙ leb-zero a)
lt_z-suc_ℤ (negsuc (suc a)) (negsuc (suc b)) = sym (leb-suc-suc (suc b) a)

le_z-lt_z : (a b : ℤ) → le_z a b ≡ lt_z a (suc_ℤ b)
le_z-lt_z (pos a) (pos b) = sym (leb-suc-suc a b)
le_z-lt_z (pos a) (negsuc zero) = sym (leb-suc-zero a)
le_z-lt_z (pos a) (negsuc (suc b)) = refl
le_z-lt_z (negsuc a) (pos b) = refl
le_z-lt_z (negsuc a) (negsuc zero) = leb-zero a
le_z-lt_z (negsuc a) (negsuc (suc b)) = refl

pub lt_z-+ℤ : (c a b : ℤ) → lt_z (c +ℤ a) (c +ℤ b) ≡ lt_z a b
lt_z-+ℤ c a b =
    ℤ-step (λ c. lt_z (c +ℤ a) (c +ℤ b) ≡ lt_z a b)
    (ap₂ lt_z (+ℤ_idl a) (+ℤ_idl b))
    (λ c e. ap₂ lt_z (suc_ℤ-+ℤ c a) (suc_ℤ-+ℤ c b) ∙ lt_z-suc_ℤ (c +ℤ a) (c +ℤ b) ∙ e)
    (λ c e. ap₂ lt_z (pred_ℤ-+ℤ c a) (pred_ℤ-+ℤ c b)
    ∙ sym (lt_z-suc_ℤ (pred_ℤ (c +ℤ a)) (pred_ℤ (c +ℤ b)))
    ∙ ap₂ lt_z (suc-pred (c +ℤ a)) (suc-pred (c +ℤ b))
    ∙ e)
    c

pub le_z-+ℤ : (c a b : ℤ) → le_z (c +ℤ a) (c +ℤ b) ≡ le_z a b
le_z-+ℤ c a b =
    le_z-lt_z (c +ℤ a) (c +ℤ b) ∙ ap (λ (k : ℤ). lt_z (c +ℤ a) k) (sym (+ℤ-suc_ℤ c b)) ∙ lt_z-+ℤ c a (suc_ℤ b) ∙ sym (le_z-lt_z a b)

pub add_back : (a b : ℤ) → a +ℤ (neg_ℤ a +ℤ b) ≡ b
add_back a b = sym (+ℤ_assoc a (neg_ℤ a) b) ∙ ap (λ (k : ℤ). k +ℤ b) (+ℤ_invr a) ∙ +ℤ_idl b

pub le_z-neg_ℤ-+ℤ : (a b : ℤ) → le_z a b ≡ le_z (pos 0) (neg_ℤ a +ℤ b)
le_z-neg_ℤ-+ℤ a b = sym (le_z-+ℤ (neg_ℤ a) a b) ∙ ap (λ (k : ℤ). le_z k (neg_ℤ a +ℤ b)) (+ℤ_invl a)

pub lt_z-neg_ℤ-+ℤ : (a b c : ℤ) → lt_z (neg_ℤ a +ℤ b) c ≡ lt_z b (a +ℤ c)
lt_z-neg_ℤ-+ℤ a b c = sym (lt_z-+ℤ a (neg_ℤ a +ℤ b) c) ∙ ap (λ (k : ℤ). lt_z k (a +ℤ c)) (add_back a b)

-- from a up to b is a natural number
pub gap : (a b : ℤ) → a ≤ℤ b → a +ℤ pos (nat_abs (neg_ℤ a +ℤ b)) ≡ b
gap a b h = ap (λ (k : ℤ). a +ℤ k) (pos-nat_abs (neg_ℤ a +ℤ b) (yes_non_neg from_zero)) ∙ add_back a b
  where
    from_zero : pos 0 ≤ℤ (neg_ℤ a +ℤ b)
    from_zero = le_z_yes (subst T (le_z-neg_ℤ-+ℤ a b) h.le)
