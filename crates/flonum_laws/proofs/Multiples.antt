-- Of the multiples of u, `closest n u * u` is nearest to n; and where another is as near, n lies halfway. Assumes nothing.
use Prim.Native.Nat.{ℕ, zero, suc, ◌+◌, ◌*◌, ◌/◌, ◌%◌, ◌-◌, ◌≤◌, ◌<◌}
use native.Mathlib.Nat.{add-mul, add-zero, le_trans, le_of_eq, le_of_lt, eq-or-lt_of_le, one-mul, mul-le-mul_right, lt_of_mul-lt-mul_right, div-add-mod', mod-lt}
use native.Mathlib.Numerals.{add-one}
use native.Mathlib.Omega.{arith}
use mathlib.Core.Path.{◌≡◌, sym, ap, ◌∙◌, subst}
use mathlib.Core.Logic.{◌⊎◌, inl, inr}
use mathlib.Core.Bool.{Bool, true, false, not}
use lib.Dec.{T, leb, leb→le, nleb→lt, lit<}
use lib.Ieee.Nearest.{closest}
use Rattle.flonum.proofs.Magnitudes.{Picks, closest-picks}

-- |a - b|
abbrev pub apart : ℕ → ℕ → ℕ
apart a b = (a - b) + (b - a)

pub le-or-gt : (a b : ℕ) → (a ≤ b) ⊎ (b < a)
le-or-gt a b = go (leb a b) (leb→le a b) (nleb→lt a b)
  where
    go : (t : Bool) → (T t → a ≤ b) → (T (not t) → b < a) → (a ≤ b) ⊎ (b < a)
    go true h k = inl (h tt)
    go false h k = inr (k tt)

pub next_multiple : (w u : ℕ) → w * u + u ≡ (w + 1) * u
next_multiple w u = omega (arith, add-mul w 1 u, one-mul u)

pub even_sum : (w : ℕ) → (w + w % 2) % 2 ≡ 0
even_sum w = omega arith

-- n is w u + r, with r < u
module _ (n u w r : ℕ) (e : w * u + r ≡ n) (l : r < u) where
  -- every multiple is at least r or u - r away
  bound : (t : ℕ) → (r ≤ apart (t * u) n) ⊎ (u - r ≤ apart (t * u) n)
  bound t = elim (le-or-gt t w) [
    | inl h ↦ inl (below (w * u) (t * u) e (mul-le-mul_right u h))
    | inr h ↦ inr (beyond (w * u) (t * u) e (le_trans (le_of_eq (next_multiple w u)) (mul-le-mul_right u (let k : w + 1 ≤ t = omega arith in k))))
  ]
    where
      below : (wu tu : ℕ) → wu + r ≡ n → tu ≤ wu → r ≤ apart tu n
      below wu tu e h = omega arith

      beyond : (wu tu : ℕ) → wu + r ≡ n → wu + u ≤ tu → u - r ≤ apart tu n
      beyond wu tu e h = omega arith

  at_low : (wu d : ℕ) → wu + r ≡ n → r * 2 ≤ u → (r ≤ d) ⊎ (u - r ≤ d) → apart wu n ≤ d
  at_low wu d e h (inl k) = omega arith
  at_low wu d e h (inr k) = omega arith

  at_high : (wu d : ℕ) → wu + r ≡ n → u ≤ r * 2 → (r ≤ d) ⊎ (u - r ≤ d) → apart (wu + u) n ≤ d
  at_high wu d e h (inl k) = omega arith
  at_high wu d e h (inr k) = omega arith

  low-nearest : (t : ℕ) → r * 2 ≤ u → apart (w * u) n ≤ apart (t * u) n
  low-nearest t h = at_low (w * u) (apart (t * u) n) e h (bound t)

  high-nearest : (t : ℕ) → u ≤ r * 2 → apart ((w + 1) * u) n ≤ apart (t * u) n
  high-nearest t h = subst (λ (c : ℕ). apart c n ≤ apart (t * u) n) (next_multiple w u) (at_high (w * u) (apart (t * u) n) e h (bound t))

  -- halfway both are
  half : (t : ℕ) → r * 2 ≡ u → (b : ℕ) → b < 2 → apart ((w + b) * u) n ≤ apart (t * u) n
  half t q zero x = subst (λ (c : ℕ). apart (c * u) n ≤ apart (t * u) n) (sym (add-zero w)) (low-nearest t (le_of_eq q))
  half t q (suc zero) x = high-nearest t (le_of_eq (sym q))
  half t q (suc (suc k)) x = absurd (too_many k x)
    where
      too_many : (k : ℕ) → suc (suc k) < 2 → ⊥
      too_many k h = omega arith

  picked-nearest : (t c : ℕ) → Picks w (r * 2) u c → (r * 2 ≤ u) ⊎ (u < r * 2) → apart (c * u) n ≤ apart (t * u) n
  picked-nearest t c p (inr h) = subst (λ (x : ℕ). apart (x * u) n ≤ apart (t * u) n) (add-one w ∙ sym (p.more h)) (high-nearest t (le_of_lt h))
  picked-nearest t c p (inl h) = elim (eq-or-lt_of_le h) [
    | inr k ↦ subst (λ (x : ℕ). apart (x * u) n ≤ apart (t * u) n) (sym (p.less k)) (low-nearest t h)
    | inl q ↦ subst (λ (x : ℕ). apart (x * u) n ≤ apart (t * u) n) (sym (p.same q)) (half t q (w % 2) (mod-lt w (lit< tt)))
  ]

  -- two multiples c u and t u lie around n: their sum is twice n, and n is between two neighbours
  sum-halves : (c t : ℕ) → (c + t) * u ≡ (w + w) * u + r * 2 → (r ≡ 0 → c ≡ w) → (t ≡ c → ⊥) → r * 2 ≡ u
  sum-halves c t s z d =
      let top : c + t < w + w + 2 = lt_of_mul-lt-mul_right u (let x : (c + t) * u < (w + w + 2) * u = omega (arith, add-mul (w + w) 2 u) in x) in
      let low : w + w < c + t + 1 = lt_of_mul-lt-mul_right u (let x : (w + w) * u < (c + t + 1) * u = omega (arith, add-mul (c + t) 1 u, one-mul u) in x) in
      elim (le-or-gt (c + t) (w + w)) [
        | inl h ↦
            let same : c + t ≡ w + w = omega arith in
            let none : r ≡ 0 = rest-zero ((c + t) * u) ((w + w) * u) (ap (λ (x : ℕ). x * u) same) s in
            absurd (d (other (z none) same))
        | inr h ↦
            let next : c + t ≡ w + w + 1 = omega arith in
            rest-one ((c + t) * u) ((w + w) * u) (ap (λ (x : ℕ). x * u) next ∙ sym (next_multiple (w + w) u)) s
      ]
    where
      rest-zero : (a b : ℕ) → a ≡ b → a ≡ b + r * 2 → r ≡ 0
      rest-zero a b p q = omega arith

      rest-one : (a b : ℕ) → a ≡ b + u → a ≡ b + r * 2 → r * 2 ≡ u
      rest-one a b p q = omega arith

      other : c ≡ w → c + t ≡ w + w → t ≡ c
      other p q = omega arith

pub nearest-multiple : (n u t : ℕ) → 0 < u → apart (closest n u * u) n ≤ apart (t * u) n
nearest-multiple n u t U = picked-nearest n u (n / u) (n % u) (div-add-mod' n u) (mod-lt n U) t (closest n u) (closest-picks n u) (le-or-gt (n % u * 2) u)

around : (a b n : ℕ) → apart a n ≡ apart b n → (b ≡ a → ⊥) → a + b ≡ n + n
around a b n h d = elim (le-or-gt a n) [
  | inl p ↦ elim (le-or-gt b n) [ inl q ↦ absurd (d (omega arith)) | inr q ↦ omega arith ]
  | inr p ↦ elim (le-or-gt b n) [ inl q ↦ omega arith | inr q ↦ absurd (d (omega arith)) ]
]

pub halfway : (n u t : ℕ) → 0 < u → apart (closest n u * u) n ≡ apart (t * u) n → (t * u ≡ closest n u * u → ⊥) → n % u * 2 ≡ u
halfway n u t U h d =
    let c = closest n u in
    sum-halves n u (n / u) (n % u) (div-add-mod' n u) (mod-lt n U) c t
    (add-mul c t u ∙ around (c * u) (t * u) n h d ∙ twice (n / u * u) (n % u) n (div-add-mod' n u) (add-mul (n / u) (n / u) u))
    (λ z. (closest-picks n u).less (small (n % u) z))
    (λ p. d (ap (λ (x : ℕ). x * u) p))
  where
    twice : (a r n : ℕ) {b : ℕ} → a + r ≡ n → b ≡ a + a → n + n ≡ b + r * 2
    twice a r n p q = omega arith

    small : (r : ℕ) → r ≡ 0 → r * 2 < u
    small r z = omega arith
