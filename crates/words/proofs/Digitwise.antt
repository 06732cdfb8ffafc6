-- An operation on the binary digits of two natural numbers is that operation on all bits of the integers; and, ior and xor are such. Assumes nothing.
use mathlib.Core.Path.{◌≡◌, refl, sym, ◌∙◌, ap, ap₂}
use mathlib.Core.Bool.{Bool, true, false, cond, ◌&&◌, ◌||◌, xor}
use Prim.Native.Nat.{ℕ, zero, suc, ◌+◌, ◌*◌, ◌/◌, ◌%◌, ◌^◌, ◌<◌, min, max}
use native.Mathlib.Omega.{arith}
use lib.Bits.{bit_and, bit_or, bit_xor, differ, and_step, or_step, xor_step, and_lt, or_lt, xor_lt}
use lib.IntN.{ℤ, pos}
use lib.Signed.{mag}
use Rattle.bits.specs.Testbit.{testbit, cons_bit}
use Rattle.bits.specs.Logical.{bitwise_xor}
use Rattle.bits.specs.Shift.{floor_div}
use Rattle.bits.proofs.LogicalLaws.{testbit-xor}
use Rattle.bits.proofs.TestbitLaws.{testbit-ext, cond-lt, testbit-half, testbit-cons_bit-zero, testbit-cons_bit-suc}
use Rattle.bits.proofs.ValueLaws.{cons_bit-half}

-- f is op on two of the digits 0 and 1
abbrev pub Agree : (ℕ → ℕ → ℕ) → (Bool → Bool → Bool) → Bool → Bool → Type 0
Agree f op p q = f (cond p 1 0) (cond q 1 0) ≡ cond (op p q) 1 0

-- F works on each digit as op does
pub record Digitwise (op : Bool → Bool → Bool) (F : ℕ → ℕ → ℕ) : Type 0 where
  pub digit : ℕ → ℕ → ℕ
  pub step : (a b : ℕ) → F a b ≡ F (a / 2) (b / 2) * 2 + digit (a % 2) (b % 2)
  pub digits : (p q : Bool) → Agree digit op p q
  pub fits : (k a b : ℕ) → a < 2 ^ k → b < 2 ^ k → F a b < 2 ^ k

-- the lowest digit is bit 0
pub digit-testbit : (n : ℕ) → n % 2 ≡ cond (testbit (pos n) 0) 1 0
unfolding cons_bit floor_div
digit-testbit n =
    omega (arith, ap mag (cons_bit-half (pos n)), cond-lt (testbit (pos n) 0) 1 0 (omega arith) (omega arith))

cons-digitwise : {op : Bool → Bool → Bool} {F : ℕ → ℕ → ℕ} → Digitwise op F
    → (a b : ℕ) → pos (F a b) ≡ cons_bit (op (testbit (pos a) 0) (testbit (pos b) 0)) (pos (F (a / 2) (b / 2)))
unfolding cons_bit
cons-digitwise {F} c a b =
    ap pos (c.step a b)
    ∙ ap (λ (d : ℕ). pos (F (a / 2) (b / 2) * 2 + d))
    (ap₂ c.digit (digit-testbit a) (digit-testbit b) ∙ c.digits (testbit (pos a) 0) (testbit (pos b) 0))

-- the bits of F's number are op of the bits
pub testbit-digitwise : {op : Bool → Bool → Bool} {F : ℕ → ℕ → ℕ} → Digitwise op F
    → (i a b : ℕ) → testbit (pos (F a b)) i ≡ op (testbit (pos a) i) (testbit (pos b) i)
unfolding floor_div
testbit-digitwise {op} {F} c zero a b =
    ap (λ (z : ℤ). testbit z 0) (cons-digitwise c a b)
    ∙ testbit-cons_bit-zero (op (testbit (pos a) 0) (testbit (pos b) 0)) (pos (F (a / 2) (b / 2)))
testbit-digitwise {op} {F} c (suc i) a b =
    ap (λ (z : ℤ). testbit z (suc i)) (cons-digitwise c a b)
    ∙ testbit-cons_bit-suc (op (testbit (pos a) 0) (testbit (pos b) 0)) (pos (F (a / 2) (b / 2))) i
    ∙ testbit-digitwise c i (a / 2) (b / 2)
    ∙ sym (ap₂ op (testbit-half (pos a) i) (testbit-half (pos b) i))

-- a fact of two Booleans, shown at each value
each : (P : Bool → Bool → Type 0) → P true true → P true false → P false true → P false false → (p q : Bool) → P p q
each P a b c d true true = a
each P a b c d true false = b
each P a b c d false true = c
each P a b c d false false = d

pub and-digitwise : Digitwise ◌&&◌ bit_and
and-digitwise = record { digit = min; step = and_step; digits = each (Agree min ◌&&◌) refl refl refl refl; fits = and_lt }

pub ior-digitwise : Digitwise ◌||◌ bit_or
ior-digitwise = record { digit = max; step = or_step; digits = each (Agree max ◌||◌) refl refl refl refl; fits = or_lt }

pub xor-digitwise : Digitwise xor bit_xor
unfolding xor
xor-digitwise = record { digit = differ; step = xor_step; digits = each (Agree differ xor) refl refl refl refl; fits = xor_lt }

pub xor-naturals : (a b : ℕ) → pos (bit_xor a b) ≡ bitwise_xor (pos a) (pos b)
xor-naturals a b = testbit-ext (λ i. testbit-digitwise xor-digitwise i a b ∙ sym (testbit-xor (pos a) (pos b) i))
