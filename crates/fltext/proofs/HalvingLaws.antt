-- A number halved until 53 bits are left: how often, and what was taken off. Assumes nothing.
use Prim.Native.Nat.{ℕ, ◌+◌, ◌*◌, ◌/◌, ◌%◌, ◌^◌, ◌≤◌, ◌<◌, min}
use native.Mathlib.Nat.{le_trans, le_of_lt, le_antisymm, lt_of_le_of_lt, mul_comm, min-eq_left, min-eq_right, min-le_left, div-le_self, div-div-eq-div-mul, le-div_iff_mul-le, div-lt_iff_lt-mul}
use native.Mathlib.Omega.{arith}
use mathlib.Core.Path.{◌≡◌, refl, sym, ap, ap₂, subst, ◌∙◌}
use mathlib.Core.Bool.{Bool, true, false, ◌||◌, or_assoc}
use mathlib.Core.List.{List}
use lib.Dec.{ltb, lit<}
use lib.ListN.{length, get_or}
use lib.Pow.{pow-add, pow_pos}
use lib.Ieee.Digits.{size-le}
use borrow.Author.Tests.{ltb-true, ltb-false}
use Rattle.text.specs.Naturals.{natural}
use Rattle.fltext.specs.Limbs.{Becomes}
use Rattle.fltext.specs.Packing.{nonzero, rounded_up, packed, dropped, nearest_bits}
use Rattle.fltext.proofs.RoundLaws.{size-gt}
use Rattle.text.proofs.NaturalLaws.{natural-lt}
use Rattle.fltext.proofs.ScaleLaws.{becomes-same, becomes-step, divide-none, divide-more, rest-none, rest_more}

-- ---- how many bits are taken off

halves : (n k : ℕ) → n / 2 ^ k / 2 ≡ n / 2 / 2 ^ k
halves n k = div-div-eq-div-mul n (2 ^ k) 2 ∙ ap (λ (m : ℕ). n / m) (mul_comm (2 ^ k) 2) ∙ sym (div-div-eq-div-mul n 2 (2 ^ k))

more-dropped : (n k : ℕ) → 2 ^ 53 ≤ n / 2 ^ k / 2 → k + 1 ≤ dropped n
unfolding dropped
more-dropped n k h =
    let l : 2 ^ (53 + k) ≤ n / 2 =
    subst (λ (m : ℕ). m ≤ n / 2) (sym (pow-add 2 53 k)) ((le-div_iff_mul-le (pow_pos k)).0 (subst (λ (m : ℕ). 2 ^ 53 ≤ m) (halves n k) h)) in
    omega (arith, size-gt (n / 2) (53 + k) l)

all-dropped : (n k : ℕ) → n / 2 ^ k / 2 < 2 ^ 53 → dropped n ≤ k
unfolding dropped
all-dropped n k h =
    let l : n / 2 < 2 ^ (53 + k) =
    subst (λ (m : ℕ). n / 2 < m) (sym (pow-add 2 53 k)) ((div-lt_iff_lt-mul (pow_pos k)).0 (subst (λ (m : ℕ). m < 2 ^ 53) (halves n k) h)) in
    omega (arith, size-le (n / 2) (53 + k) l)

-- ---- one half after another

pub record Halved (first : List ℕ) (rest : Bool) (xs : List ℕ) (below : Bool) (k : ℕ) : Type 0 where
  pub least : k ≤ dropped (natural first)
  pub left : below ≡ rest || nonzero (natural first % 2 ^ k)
  pub limbs : Becomes (natural first / 2 ^ k) first xs

pub halved_none : (xs : List ℕ) (rest : Bool) → Halved xs rest xs rest 0
halved_none xs rest = record {
  least = omega arith;
  left = or-false rest ∙ ap (λ (b : Bool). rest || b) (rest-none 2 (natural xs));
  limbs = becomes-same xs (divide-none 2 (natural xs));
}
  where
    or-false : (b : Bool) → b ≡ b || false
    or-false true = refl
    or-false false = refl

-- few enough that they can be counted
pub halved-count : {first xs : List ℕ} {rest below : Bool} {k : ℕ} → Halved first rest xs below k → ((i : ℕ) → get_or first i 0 < 2 ^ 32) → k ≤ 32 * length first
unfolding dropped
halved-count {first} s b =
    omega (arith, s.least, size-le (natural first / 2) (32 * length first) (lt_of_le_of_lt (div-le_self (natural first) 2) (natural-lt first b)))

module _ {first xs ys : List ℕ} {rest below : Bool} {k q : ℕ} (s : Halved first rest xs below k) (h : Becomes (natural xs / 2) xs ys)
    (m : q ≡ min (natural ys) (2 ^ 53)) where
  now : natural ys ≡ natural first / 2 ^ k / 2
  now = h.number ∙ ap (λ (n : ℕ). n / 2) s.limbs.number

  module _ (g : 2 ^ 53 ≤ q) where
    large : 2 ^ 53 ≤ natural ys
    large = le_trans g (subst (λ (n : ℕ). n ≤ natural ys) (sym m) (min-le_left (natural ys) (2 ^ 53)))

    pub halved-less : natural ys < natural xs
    halved-less = omega (arith, large, h.number)

    pub halved-more : {next : Bool} → next ≡ below || nonzero (natural xs % 2) → Halved first rest ys next (k + 1)
    halved-more {next} e = record {
      least = more-dropped (natural first) k (subst (λ (n : ℕ). 2 ^ 53 ≤ n) now large);
      left =
          e
          ∙ ap₂ (λ (b : Bool) (n : ℕ). b || nonzero (n % 2)) s.left s.limbs.number
          ∙ or_assoc rest (nonzero (natural first % 2 ^ k)) (nonzero (natural first / 2 ^ k % 2))
          ∙ ap (λ (b : Bool). rest || b) (rest_more 2 (natural first) k (lit< tt));
      limbs = becomes-step (λ n. n / 2) s.limbs h (divide-more 2 (natural first) k);
    }

  module _ (g : q < 2 ^ 53) where
    small : q ≡ natural ys
    small = go (ltb (natural ys) (2 ^ 53)) refl
      where
        go : (b : Bool) → ltb (natural ys) (2 ^ 53) ≡ b → q ≡ natural ys
        go true e = m ∙ min-eq_left (le_of_lt (ltb-true (natural ys) (2 ^ 53) e))
        go false e = absurd (omega (arith, m ∙ min-eq_right (ltb-false (natural ys) (2 ^ 53) e)))

    count : k ≡ dropped (natural first)
    count = le_antisymm s.least (all-dropped (natural first) k (subst (λ (n : ℕ). n < 2 ^ 53) (small ∙ now) g))

    pub halved-all : (negative : Bool) → packed negative k (rounded_up q (nonzero (natural xs % 2)) below) ≡ nearest_bits negative (natural first) rest
    unfolding nearest_bits
    halved-all negative =
        ap₂ (λ (a : ℕ) (b : Bool). packed negative k (rounded_up a (nonzero (natural xs % 2)) b)) (small ∙ now ∙ halves (natural first) k) s.left
        ∙ ap (λ (n : ℕ). packed negative k (rounded_up (natural first / 2 / 2 ^ k) (nonzero (n % 2)) (rest || nonzero (natural first % 2 ^ k)))) s.limbs.number
        ∙ ap
        (λ (j : ℕ). packed negative j (rounded_up (natural first / 2 / 2 ^ j) (nonzero (natural first / 2 ^ j % 2)) (rest || nonzero (natural first % 2 ^ j))))
        count
