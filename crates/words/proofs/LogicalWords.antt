-- An operation on the binary digits of two words is that operation on all bits of the integers they stand for. Assumes nothing.
use mathlib.Core.Path.{◌≡◌, sym, ◌∙◌, ap, ap₂}
use mathlib.Core.Bool.{Bool, ◌&&◌}
use Prim.Native.Nat.{ℕ, suc, ◌-◌, ◌^◌, ◌≤◌, ◌<◌}
use native.Mathlib.Nat.{mod-eq_of_lt, lt_of_lt_of_le}
use native.Mathlib.Omega.{arith}
use lib.Bits.{bit_and, bit_or, bit_xor}
use lib.IntN.{ℤ, pos, negsuc}
use lib.Pow.{pow_mono}
use mir.Syntax.{w64}
use mir.Val.{Fits, SFits, to_z, of_z}
use mir.ValLaws.{of_z_fits, of_z-to_z, to_z-Fits}
use borrow.Author.Tests.{lt-ltb}
use Rattle.bits.specs.Testbit.{testbit}
use Rattle.bits.specs.Logical.{bitwise, bitwise_and, bitwise_ior, bitwise_xor}
use Rattle.bits.specs.Division.{mod_ℕ}
use Rattle.bits.proofs.TestbitLaws.{by-lt, testbit-ext, testbit-mag-lt}
use Rattle.bits.proofs.LogicalLaws.{testbit-bitwise}
use Rattle.bits.proofs.ValueLaws.{testbit-mod_ℕ-pow}
use Rattle.words.proofs.Digitwise.{Digitwise, testbit-digitwise, and-digitwise, ior-digitwise, xor-digitwise}

-- ---- the bits of a word

wide : (n : ℕ) → n < 2 ^ 63 → n < 2 ^ 64
wide n h = omega arith

word-mod_ℕ : {x : ℤ} → SFits w64 x → of_z w64 x ≡ mod_ℕ x (2 ^ 64)
unfolding mod_ℕ
word-mod_ℕ {x = pos n} h = sym (mod-eq_of_lt (wide n h.sfits))
word-mod_ℕ {x = negsuc n} h = ap (λ (m : ℕ). 2 ^ 64 - suc m) (sym (mod-eq_of_lt (wide n h.sfits)))

-- below 64 they are those of the integer
pub testbit-word : {x : ℤ} → SFits w64 x → (i : ℕ) → i < 64 → testbit (pos (of_z w64 x)) i ≡ testbit x i
testbit-word {x} h i l =
    ap (λ (n : ℕ). testbit (pos n) i) (word-mod_ℕ h)
    ∙ testbit-mod_ℕ-pow x 64 i
    ∙ ap (λ (b : Bool). b && testbit x i) (lt-ltb i 64 l)

-- from 63 on the integer's bits are its sign
pub testbit-word-sign : {x : ℤ} → SFits w64 x → (i : ℕ) → 63 ≤ i → testbit x i ≡ testbit x 63
testbit-word-sign {x} h i l =
    testbit-mag-lt x i (lt_of_lt_of_le h.sfits (pow_mono l)) ∙ sym (testbit-mag-lt x 63 h.sfits)

-- ---- an operation on words

-- the word's integer is op of the integers
pub digitwise-word : {op : Bool → Bool → Bool} {F : ℕ → ℕ → ℕ} → Digitwise op F → {x y : ℤ} → SFits w64 x → SFits w64 y
    → to_z w64 (F (of_z w64 x) (of_z w64 y)) ≡ bitwise op x y
digitwise-word {op} {F} c {x} {y} h k = testbit-ext (λ i. by-lt (λ b. testbit z i ≡ op (testbit x i) (testbit y i)) i 64 (below i) (above i) ∙ sym (testbit-bitwise op x y i))
  where
    n : ℕ
    n = F (of_z w64 x) (of_z w64 y)

    n-fits : Fits w64 n
    n-fits = record { fits = c.fits 64 (of_z w64 x) (of_z w64 y) (of_z_fits w64 x h).fits (of_z_fits w64 y k).fits }

    z : ℤ
    z = to_z w64 n

    z-fits : SFits w64 z
    z-fits = to_z-Fits w64 n n-fits

    below : (i : ℕ) → i < 64 → testbit z i ≡ op (testbit x i) (testbit y i)
    below i l =
        sym (testbit-word z-fits i l)
        ∙ ap (λ (m : ℕ). testbit (pos m) i) (of_z-to_z w64 n n-fits)
        ∙ testbit-digitwise c i (of_z w64 x) (of_z w64 y)
        ∙ ap₂ op (testbit-word h i l) (testbit-word k i l)

    above : (i : ℕ) → 64 ≤ i → testbit z i ≡ op (testbit x i) (testbit y i)
    above i l =
        testbit-word-sign z-fits i (omega arith)
        ∙ below 63 (omega arith)
        ∙ sym (ap₂ op (testbit-word-sign h i (omega arith)) (testbit-word-sign k i (omega arith)))

-- ---- the machine's operations

pub and_word : {x y : ℤ} → SFits w64 x → SFits w64 y → to_z w64 (bit_and (of_z w64 x) (of_z w64 y)) ≡ bitwise_and x y
unfolding bitwise_and
and_word h k = digitwise-word and-digitwise h k

pub ior-word : {x y : ℤ} → SFits w64 x → SFits w64 y → to_z w64 (bit_or (of_z w64 x) (of_z w64 y)) ≡ bitwise_ior x y
unfolding bitwise_ior
ior-word h k = digitwise-word ior-digitwise h k

pub xor-word : {x y : ℤ} → SFits w64 x → SFits w64 y → to_z w64 (bit_xor (of_z w64 x) (of_z w64 y)) ≡ bitwise_xor x y
unfolding bitwise_xor
xor-word h k = digitwise-word xor-digitwise h k
