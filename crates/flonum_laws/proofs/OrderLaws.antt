-- `<` of flonums is asymmetric, and "not less" goes on through a number that is no NaN; so for `>`. Assumes nothing.
use Prim.Native.Nat.{ℕ, zero, suc, ◌+◌, ◌*◌, ◌≤◌, ◌<◌}
use native.Mathlib.Nat.{le_trans, le_of_eq, le_of_mul-le-mul_right, mul-le-mul_right, mul_right_comm, mul-pos, zero-mul, not-le_of_lt}
use native.Mathlib.Omega.{arith}
use mathlib.Core.Path.{◌≡◌, refl, ap, ◌∙◌}
use mathlib.Core.Bool.{Bool, true, false, not, true≢false}
use lib.Dec.{T, ltb, ltb→lt, nltb→le}
use lib.Ieee.{Float, nan, inf, fin, up, down, lt, is_nan, below}
use lib.Ieee.Bits.{is_false}
use lib.Ieee.Fits.{down_pos}
use Rattle.flonum.specs.Extremes.{above}
use Rattle.flonum.proofs.Values.{holds, fails}

pub record Order (better : Float → Float → Bool) : Type 0 where
  pub one_way : (x y : Float) → better x y ≡ true → better y x ≡ false
  pub onward : (x y z : Float) → is_nan y ≡ false → better x y ≡ false → better y z ≡ false → better x z ≡ false

-- ---- ±a / p against ±b / q, by cross products
not-both : (a b : ℕ) → T (ltb a b) → T (not (ltb b a))
not-both a b h = go (ltb b a) (ltb→lt b a)
  where
    go : (c : Bool) → (T c → b < a) → T (not c)
    go true k = let l : b < a = k tt in let g : a < b = ltb→lt a b h in absurd (let f : ⊥ = omega arith in f)
    go false k = tt

below_one_way : (s t : Bool) (a b : ℕ) → T (below s a t b) → T (not (below t b s a))
below_one_way false false a b h = not-both a b h
below_one_way false true a b h = absurd h
below_one_way true false a b h = tt
below_one_way true true a b h = not-both b a h

product-zero : (a d : ℕ) → 0 < d → a * d ≤ 0 → a ≡ 0
product-zero zero d D h = refl
product-zero (suc a) d D h = absurd (not-le_of_lt (mul-pos (let k : 0 < suc a = omega arith in k) D) h)

left-zero : (a b : ℕ) → a + b ≤ 0 → a ≤ 0
left-zero a b h = omega arith

right_zero : (a b : ℕ) → a + b ≤ 0 → b ≤ 0
right_zero a b h = omega arith

-- a / p, b / q and c / r
module _ (a p b q c r : ℕ) (P : 0 < p) (Q : 0 < q) (R : 0 < r) where
  chain : b * p ≤ a * q → c * q ≤ b * r → c * p ≤ a * r
  chain h k =
      le_of_mul-le-mul_right
      (le_trans (le_of_eq (mul_right_comm c p q))
      (le_trans (mul-le-mul_right p k)
      (le_trans (le_of_eq (mul_right_comm b r p))
      (le_trans (mul-le-mul_right r h) (le_of_eq (mul_right_comm a q r))))))
      Q

  -- a zero is at least a number only if that is a zero
  zero-chain : b ≡ 0 → c * q ≤ b * r → c ≡ 0
  zero-chain z h = product-zero c q Q (le_trans h (le_of_eq (ap (λ (x : ℕ). x * r) z ∙ zero-mul r)))

none : (a d : ℕ) → a ≡ 0 → a * d ≡ 0
none a d z = ap (λ (x : ℕ). x * d) z ∙ zero-mul d

below-onward : (s t u : Bool) (a p b q c r : ℕ) → 0 < p → 0 < q → 0 < r
    → T (not (below s (a * q) t (b * p))) → T (not (below t (b * r) u (c * q))) → T (below s (a * r) u (c * p)) → ⊥
below-onward false false false a p b q c r P Q R h k l =
    not-le_of_lt (ltb→lt (a * r) (c * p) l) (chain a p b q c r P Q R (nltb→le (a * q) (b * p) h) (nltb→le (b * r) (c * q) k))
below-onward false true false a p b q c r P Q R h k l =
    let z : c ≡ 0 = product-zero c q Q (right_zero (b * r) (c * q) (nltb→le 0 (b * r + c * q) k)) in
    not-le_of_lt (ltb→lt (a * r) (c * p) l) (le_trans (le_of_eq (none c p z)) (let g : 0 ≤ a * r = omega arith in g))
below-onward s t true a p b q c r P Q R h k l = go s t h k l
  where
    go : (s t : Bool) → T (not (below s (a * q) t (b * p))) → T (not (below t (b * r) true (c * q))) → T (below s (a * r) true (c * p)) → ⊥
    go false t h k l = l
    go true false h k l =
        let z : a ≡ 0 = product-zero a q Q (left-zero (a * q) (b * p) (nltb→le 0 (a * q + b * p) h)) in
        not-le_of_lt (ltb→lt (c * p) (a * r) l) (le_trans (le_of_eq (none a r z)) (let g : 0 ≤ c * p = omega arith in g))
    go true true h k l = not-le_of_lt (ltb→lt (c * p) (a * r) l) (chain c r b q a p R Q P (nltb→le (c * q) (b * r) k) (nltb→le (b * p) (a * q) h))
below-onward true t false a p b q c r P Q R h k l = go t h k
  where
    clash : a ≡ 0 → c ≡ 0 → ⊥
    clash x z = let g : 0 < a * r + c * p = ltb→lt 0 (a * r + c * p) l in let f : ⊥ = omega (arith, none a r x, none c p z) in f

    go : (t : Bool) → T (not (below true (a * q) t (b * p))) → T (not (below t (b * r) false (c * q))) → ⊥
    go false h k =
        let w = nltb→le 0 (a * q + b * p) h in
        clash (product-zero a q Q (left-zero (a * q) (b * p) w)) (zero-chain a p b q c r P Q R (product-zero b p P (right_zero (a * q) (b * p) w)) (nltb→le (b * r) (c * q) k))
    go true h k =
        let w = nltb→le 0 (b * r + c * q) k in
        clash (zero-chain c r b q a p R Q P (product-zero b r R (left-zero (b * r) (c * q) w)) (nltb→le (b * p) (a * q) h)) (product-zero c q Q (right_zero (b * r) (c * q) w))

-- ---- flonums
lt-one-way : (x y : Float) → T (lt x y) → T (not (lt y x))
unfolding lt
lt-one-way nan y h = absurd h
lt-one-way (inf s) nan h = absurd h
lt-one-way (inf true) (inf true) h = absurd h
lt-one-way (inf true) (inf false) h = tt
lt-one-way (inf false) (inf t) h = absurd h
lt-one-way (inf true) (fin t n d) h = tt
lt-one-way (inf false) (fin t n d) h = absurd h
lt-one-way (fin s m e) nan h = absurd h
lt-one-way (fin s m e) (inf true) h = absurd h
lt-one-way (fin s m e) (inf false) h = tt
lt-one-way (fin s m e) (fin t n d) h = below_one_way s t (m * up e * down d) (n * up d * down e) h

lt-onward : (x y z : Float) → is_nan y ≡ false → T (not (lt x y)) → T (not (lt y z)) → T (lt x z) → ⊥
unfolding lt is_nan
lt-onward nan y z n h k l = l
lt-onward (inf false) nan z n h k l = true≢false n
lt-onward (inf false) (inf t) nan n h k l = l
lt-onward (inf false) (inf t) (inf u) n h k l = l
lt-onward (inf false) (inf t) (fin u c d) n h k l = l
lt-onward (inf false) (fin t b g) nan n h k l = l
lt-onward (inf false) (fin t b g) (inf u) n h k l = l
lt-onward (inf false) (fin t b g) (fin u c d) n h k l = l
lt-onward (inf true) nan z n h k l = true≢false n
lt-onward (inf true) (inf false) z n h k l = h
lt-onward (inf true) (inf true) nan n h k l = l
lt-onward (inf true) (inf true) (inf true) n h k l = l
lt-onward (inf true) (inf true) (inf false) n h k l = k
lt-onward (inf true) (inf true) (fin u c d) n h k l = k
lt-onward (inf true) (fin t b g) z n h k l = h
lt-onward (fin s a e) nan z n h k l = true≢false n
lt-onward (fin s a e) (inf false) z n h k l = h
lt-onward (fin s a e) (inf true) nan n h k l = l
lt-onward (fin s a e) (inf true) (inf true) n h k l = l
lt-onward (fin s a e) (inf true) (inf false) n h k l = k
lt-onward (fin s a e) (inf true) (fin u c d) n h k l = k
lt-onward (fin s a e) (fin t b g) nan n h k l = l
lt-onward (fin s a e) (fin t b g) (inf true) n h k l = l
lt-onward (fin s a e) (fin t b g) (inf false) n h k l = k
lt-onward (fin s a e) (fin t b g) (fin u c d) n h k l =
    below-onward s t u (a * up e) (down e) (b * up g) (down g) (c * up d) (down d) (down_pos e) (down_pos g) (down_pos d) h k l

no : (b : Bool) → (T b → ⊥) → b ≡ false
no true h = absurd (h tt)
no false h = refl

pub lt_order : Order lt
lt_order = record {
  one_way = λ x y h. is_false (lt y x) (lt-one-way x y (holds h));
  onward = λ x y z n h k. no (lt x z) (lt-onward x y z n (fails h) (fails k));
}

pub above-order : Order above
unfolding above
above-order = record { one_way = λ x y h. lt_order.one_way y x h; onward = λ x y z n h k. lt_order.onward z y x n k h }
