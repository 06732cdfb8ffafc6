-- Laws of the logical operations: their bits and signs, and what distributes over all of them. Assumes nothing.
use mathlib.Core.Path.{◌≡◌, refl, sym, ◌∙◌, ap, ap₂}
use mathlib.Core.Bool.{Bool, true, false, not, cond, ◌&&◌, ◌||◌, xor}
use Prim.Native.Nat.{ℕ, ◌-◌, ◌/◌, ◌^◌, max}
use native.Mathlib.Omega.{arith}
use lib.IntN.{ℤ, pos, negsuc}
use Rattle.bits.specs.Testbit.{odd, is_negative, testbit, bit_length, fill}
use Rattle.bits.specs.Logical.{bitwise_not, bitwise, bitwise_and, bitwise_ior, bitwise_xor, bitwise_if}
use Rattle.bits.proofs.Booleans.{not-not}
use Rattle.bits.proofs.TestbitLaws.{by-lt, testbit-ext, testbit-above, testbit-fill, testbit-of_bits, is_negative-fill, is_negative-of_bits}

-- ---- bits

pub testbit-not : (x : ℤ) (i : ℕ) → testbit (bitwise_not x) i ≡ not (testbit x i)
unfolding testbit bitwise_not
testbit-not (pos n) i = refl
testbit-not (negsuc n) i = sym (not-not (odd (n / 2 ^ i)))

pub testbit-bitwise : (op : Bool → Bool → Bool) (x y : ℤ) (i : ℕ) → testbit (bitwise op x y) i ≡ op (testbit x i) (testbit y i)
unfolding bitwise
testbit-bitwise op x y i =
    testbit-of_bits (max (bit_length x) (bit_length y)) (λ i. op (testbit x i) (testbit y i)) (fill (op (is_negative x) (is_negative y))) i
    ∙ by-lt
    (λ b. cond b (op (testbit x i) (testbit y i))
    (testbit (fill (op (is_negative x) (is_negative y))) (i - max (bit_length x) (bit_length y)))
    ≡ op (testbit x i) (testbit y i))
    i (max (bit_length x) (bit_length y)) (λ h. refl)
    (λ h. testbit-fill (op (is_negative x) (is_negative y)) (i - max (bit_length x) (bit_length y))
    ∙ sym (ap₂ op (testbit-above x i (omega arith)) (testbit-above y i (omega arith))))

pub is_negative-not : (x : ℤ) → is_negative (bitwise_not x) ≡ not (is_negative x)
unfolding is_negative bitwise_not
is_negative-not (pos n) = refl
is_negative-not (negsuc n) = refl

pub is_negative-bitwise : (op : Bool → Bool → Bool) (x y : ℤ) → is_negative (bitwise op x y) ≡ op (is_negative x) (is_negative y)
unfolding bitwise
is_negative-bitwise op x y =
    is_negative-of_bits (max (bit_length x) (bit_length y)) (λ i. op (testbit x i) (testbit y i)) (fill (op (is_negative x) (is_negative y)))
    ∙ is_negative-fill (op (is_negative x) (is_negative y))

pub testbit-and : (x y : ℤ) (i : ℕ) → testbit (bitwise_and x y) i ≡ testbit x i && testbit y i
unfolding bitwise_and
testbit-and = testbit-bitwise ◌&&◌

pub testbit-ior : (x y : ℤ) (i : ℕ) → testbit (bitwise_ior x y) i ≡ testbit x i || testbit y i
unfolding bitwise_ior
testbit-ior = testbit-bitwise ◌||◌

pub testbit-xor : (x y : ℤ) (i : ℕ) → testbit (bitwise_xor x y) i ≡ xor (testbit x i) (testbit y i)
unfolding bitwise_xor
testbit-xor = testbit-bitwise xor

pub testbit-if : (x y z : ℤ) (i : ℕ) → testbit (bitwise_if x y z) i ≡ cond (testbit x i) (testbit y i) (testbit z i)
unfolding bitwise_if
testbit-if x y z i =
    testbit-ior (bitwise_and x y) (bitwise_and (bitwise_not x) z) i
    ∙ ap₂ ◌||◌ (testbit-and x y i) (testbit-and (bitwise_not x) z i ∙ ap (λ (b : Bool). b && testbit z i) (testbit-not x i))
    ∙ choice (testbit x i) (testbit y i) (testbit z i)
  where
    choice : (a b c : Bool) → (a && b) || (not a && c) ≡ cond a b c
    choice true true c = refl
    choice true false c = refl
    choice false b c = refl

-- ---- not, 0 and -1 are results of Boolean operations too

pub not-bitwise : (x : ℤ) → bitwise_not x ≡ bitwise (λ a b. not a) x x
not-bitwise x = testbit-ext λ i. testbit-not x i ∙ sym (testbit-bitwise (λ a b. not a) x x i)

fill-bitwise : (s : Bool) (x y : ℤ) → fill s ≡ bitwise (λ a b. s) x y
fill-bitwise s x y = testbit-ext λ i. testbit-fill s i ∙ sym (testbit-bitwise (λ a b. s) x y i)

-- so what distributes over every operation commutes with not, and keeps 0 and -1
pub distrib-not : (F : ℤ → ℤ) → ((op : Bool → Bool → Bool) (x y : ℤ) → F (bitwise op x y) ≡ bitwise op (F x) (F y))
    → (x : ℤ) → F (bitwise_not x) ≡ bitwise_not (F x)
distrib-not F distrib x = ap F (not-bitwise x) ∙ distrib (λ a b. not a) x x ∙ sym (not-bitwise (F x))

pub distrib-fill : (F : ℤ → ℤ) → ((op : Bool → Bool → Bool) (x y : ℤ) → F (bitwise op x y) ≡ bitwise op (F x) (F y))
    → (s : Bool) → F (fill s) ≡ fill s
distrib-fill F distrib s =
    ap F (fill-bitwise s (fill s) (fill s)) ∙ distrib (λ a b. s) (fill s) (fill s) ∙ sym (fill-bitwise s (F (fill s)) (F (fill s)))
