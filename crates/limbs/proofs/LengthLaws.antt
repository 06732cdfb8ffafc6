-- How long the result of a logical operation can be. Assumes nothing.
use Prim.Native.Nat.{ℕ, ◌*◌, ◌-◌, ◌≤◌, ◌<◌}
use native.Mathlib.Omega.{arith}
use mathlib.Core.Path.{ap₂, sym, ◌∙◌}
use mathlib.Core.Bool.{Bool, ◌&&◌, ◌||◌}
use mathlib.Core.List.{List}
use lib.IntN.{ℤ}
use lib.ListN.{length}
use Rattle.bits.specs.Testbit.{bit_length}
use Rattle.bits.specs.Logical.{bitwise, bitwise_not, bitwise_and, bitwise_ior, bitwise_if}
use Rattle.bits.proofs.TestbitLaws.{testbit-above}
use Rattle.bits.proofs.LengthLaws.{bit_length-least-bits, bit_length-not}
use Rattle.bits.proofs.LogicalLaws.{testbit-bitwise, is_negative-bitwise}
use Rattle.limbwords.specs.Value.{value}
use Rattle.limbwords.proofs.ValueLaws.{value-length}

bitwise-length : (op : Bool → Bool → Bool) (x y : ℤ) (k : ℕ) → bit_length x ≤ k → bit_length y ≤ k → bit_length (bitwise op x y) ≤ k
bitwise-length op x y k h l =
    bit_length-least-bits (bitwise op x y) k (λ i g.
    testbit-bitwise op x y i
    ∙ ap₂ op (testbit-above x i (omega arith)) (testbit-above y i (omega arith))
    ∙ sym (is_negative-bitwise op x y))

-- n limbs are enough for each operand
pub bitwise-enough : (op : Bool → Bool → Bool) (xs ys : List ℕ) (n : ℕ) → 0 < length xs → 0 < length ys → length xs ≤ n → length ys ≤ n
    → bit_length (bitwise op (value xs) (value ys)) < 32 * n
bitwise-enough op xs ys n p q h l =
    let a = value-length xs p in
    let b = value-length ys q in
    omega (arith, bitwise-length op (value xs) (value ys) (32 * n - 1) (omega arith) (omega arith))

pub if-enough : (xs ys zs : List ℕ) (n : ℕ) → 0 < length xs → 0 < length ys → 0 < length zs → length xs ≤ n → length ys ≤ n → length zs ≤ n
    → bit_length (bitwise_if (value xs) (value ys) (value zs)) < 32 * n
unfolding bitwise_if bitwise_and bitwise_ior
if-enough xs ys zs n p q r h l m =
    let a = value-length xs p in
    let b = value-length ys q in
    let c = value-length zs r in
    let d = bit_length-not (value xs) in
    omega (
      arith,
      bitwise-length ◌||◌ (bitwise ◌&&◌ (value xs) (value ys)) (bitwise ◌&&◌ (bitwise_not (value xs)) (value zs)) (32 * n - 1)
          (bitwise-length ◌&&◌ (value xs) (value ys) (32 * n - 1) (omega arith) (omega arith))
          (bitwise-length ◌&&◌ (bitwise_not (value xs)) (value zs) (32 * n - 1) (omega arith) (omega arith)),
    )
