-- Digits appended to a number, and a number multiplied and divided by powers, one step at a time. Assumes nothing.
use Prim.Native.Nat.{ℕ, ◌+◌, ◌-◌, ◌*◌, ◌/◌, ◌%◌, ◌^◌, ◌≤◌, ◌<◌}
use native.Mathlib.Nat.{le_refl, lt_of_le_of_lt, mul_assoc, mul-one, mul-le-mul_left, le-mul_of_pos_right, one-le-pow, pow-zero, pow-suc, pow-succ', div-one, mod-one, div-div-eq-div-mul}
use native.Mathlib.Numerals.{add-one}
use native.Mathlib.Omega.{arith}
use mathlib.Core.Path.{◌≡◌, refl, sym, ap, subst, ◌∙◌}
use mathlib.Core.Bool.{false, ◌||◌}
use mathlib.Core.List.{List, [], ◌∷◌}
use lib.ListN.{length, get_or, take, drop, take-append-drop}
use lib.Pow.{pow-add}
use lib.Seq.{take-suc, take_all}
use Rattle.text.specs.Numerals.{digit, numeral_from}
use Rattle.text.proofs.NumeralLaws.{numeral_from-append}
use Rattle.text.specs.Naturals.{natural}
use Rattle.fltext.specs.Limbs.{Becomes}
use Rattle.fltext.specs.Packing.{nonzero}
use Rattle.fltext.proofs.RoundLaws.{nonzero-mod}

-- ---- one number after another in the same limbs

pub becomes-same : (a : List ℕ) {n : ℕ} → natural a ≡ n → Becomes n a a
becomes-same a e = record { number = e; size = refl }

pub becomes-as : {m n : ℕ} {a b : List ℕ} → Becomes m a b → m ≡ n → Becomes n a b
becomes-as f e = record { number = f.number ∙ e; size = f.size }

-- a step f of a number that has become m
pub becomes-step : {m n : ℕ} {a x y : List ℕ} (f : ℕ → ℕ) → Becomes m a x → Becomes (f (natural x)) x y → f m ≡ n → Becomes n a y
becomes-step f s t e = record { number = t.number ∙ ap f s.number ∙ e; size = t.size ∙ s.size }

-- the room that was enough for all is enough for a step
pub becomes-room : {m : ℕ} {a x : List ℕ} (f : ℕ → ℕ) (n : ℕ) → Becomes m a x → f m ≤ n → n < 2 ^ (32 * length a) → f (natural x) < 2 ^ (32 * length x)
becomes-room {m} {a} {x} f n s h g = rw (s.number, s.size) (lt_of_le_of_lt h g)

-- ---- digits

module _ (b n : ℕ) (cs : List ℕ) where
  pub append-none : n ≡ numeral_from b n (take 0 cs)
  unfolding numeral_from
  append-none = refl

  pub append-more : (i : ℕ) → i < length cs → numeral_from b n (take i cs) * b + digit (get_or cs i 0) ≡ numeral_from b n (take (i + 1) cs)
  unfolding numeral_from
  append-more i h = sym (rw (add-one, take-suc cs i 0 h) (numeral_from-append b n (take i cs) (get_or cs i 0 ∷ [])))

  pub append-all : (i : ℕ) → length cs ≤ i → numeral_from b n (take i cs) ≡ numeral_from b n cs
  append-all i h = ap (numeral_from b n) (take_all i cs h)

-- more digits make no smaller number
pub numeral_from-ge : (b n : ℕ) (cs : List ℕ) → 0 < b → n ≤ numeral_from b n cs
unfolding numeral_from
numeral_from-ge b n [] h = le_refl n
numeral_from-ge b n (c ∷ cs) h = omega (arith, le-mul_of_pos_right n h, numeral_from-ge b (n * b + digit c) cs h)

pub append-le : (b n i : ℕ) (cs : List ℕ) → 0 < b → numeral_from b n (take i cs) ≤ numeral_from b n cs
append-le b n i cs h =
    subst (λ (m : ℕ). numeral_from b n (take i cs) ≤ m) (sym (numeral_from-append b n (take i cs) (drop i cs)) ∙ ap (numeral_from b n) (take-append-drop i cs))
    (numeral_from-ge b (numeral_from b n (take i cs)) (drop i cs) h)

-- ---- powers

power-more : (b i : ℕ) → b ^ i * b ≡ b ^ (i + 1)
power-more b i = rw (add-one i) (sym (pow-suc b i))

pub power_le : (b : ℕ) {i n : ℕ} → 0 < b → i ≤ n → b ^ i ≤ b ^ n
power_le b {i} {n} h l =
    let e : i + (n - i) ≡ n = omega arith in
    subst (λ (m : ℕ). b ^ i ≤ m) (sym (pow-add b i (n - i)) ∙ ap (λ (k : ℕ). b ^ k) e) (le-mul_of_pos_right (b ^ i) (one-le-pow (n - i) b h))

module _ (b n : ℕ) where
  pub multiply-none : n ≡ n * b ^ 0
  multiply-none = sym (ap (λ (k : ℕ). n * k) (pow-zero b) ∙ mul-one n)

  pub multiply-more : (i : ℕ) → n * b ^ i * b + 0 ≡ n * b ^ (i + 1)
  multiply-more i =
      let e : n * b ^ i * b + 0 ≡ n * b ^ i * b = omega arith in
      e ∙ mul_assoc n (b ^ i) b ∙ ap (λ (k : ℕ). n * k) (power-more b i)

  pub divide-none : n ≡ n / b ^ 0
  divide-none = sym (ap (λ (k : ℕ). n / k) (pow-zero b) ∙ div-one n)

  pub divide-more : (i : ℕ) → n / b ^ i / b ≡ n / b ^ (i + 1)
  divide-more i = div-div-eq-div-mul n (b ^ i) b ∙ ap (λ (k : ℕ). n / k) (power-more b i)

  pub rest-none : false ≡ nonzero (n % b ^ 0)
  unfolding nonzero
  rest-none = sym (ap nonzero (ap (λ (k : ℕ). n % k) (pow-zero b) ∙ mod-one n))

  pub rest_more : (i : ℕ) → 0 < b → nonzero (n % b ^ i) || nonzero (n / b ^ i % b) ≡ nonzero (n % b ^ (i + 1))
  rest_more i h = sym (ap (λ (k : ℕ). nonzero (n % k)) (ap (λ (k : ℕ). b ^ k) (add-one i) ∙ pow-succ' b i) ∙ nonzero-mod n b (b ^ i) h (one-le-pow i b h))

pub multiply-le : (b n : ℕ) {i m : ℕ} → 0 < b → i ≤ m → n * b ^ i ≤ n * b ^ m
multiply-le b n h l = mul-le-mul_left n (power_le b h l)
