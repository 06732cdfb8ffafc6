-- The logical operations on limbs. Assumes nothing.
use Prim.Native.Nat.{ℕ, suc, ◌+◌, ◌*◌, ◌-◌, ◌^◌, ◌<◌}
use native.Mathlib.Nat.{zero-add}
use native.Mathlib.Omega.{arith}
use mathlib.Core.Path.{◌≡◌, sym, ap, ap₂, ◌∙◌}
use mathlib.Core.Bool.{Bool, cond, not, ◌&&◌, ◌||◌}
use mathlib.Core.List.{List}
use lib.Bits.{bit_and, bit_or, and_lt, or_lt}
use lib.IntN.{ℤ, pos}
use lib.ListN.{length, get_or}
use lib.Pow.{pow_pos}
use Rattle.bits.specs.Testbit.{testbit}
use Rattle.bits.specs.Logical.{bitwise_not, bitwise, bitwise_if}
use Rattle.bits.specs.Shift.{shift_right}
use Rattle.bits.specs.Division.{mod_ℕ}
use Rattle.bits.proofs.ModLaws.{mod_ℕ-not, mod_ℕ-small}
use Rattle.bits.proofs.ShiftLaws.{shift_right-zero, shift_right-not}
use Rattle.bits.proofs.LogicalLaws.{testbit-not, testbit-bitwise, testbit-if}
use Rattle.bits.proofs.Booleans.{all₃}
use Rattle.words.proofs.Digitwise.{testbit-digitwise, and-digitwise, ior-digitwise}
use Rattle.limbwords.specs.Value.{value}
use Rattle.limbwords.specs.Results.{bits_from, limb_at}
use Rattle.limbwords.proofs.LimbLaws.{bits_from-lt, testbit-bits_from, word-ext, limb-value}

pub bits_from-not : (z : ℤ) (at : ℕ) → 4294967295 - bits_from z at ≡ bits_from (bitwise_not z) at
unfolding bits_from
bits_from-not z at =
    let e : 4294967295 - mod_ℕ (shift_right z at) (2 ^ 32) ≡ 2 ^ 32 - suc (mod_ℕ (shift_right z at) (2 ^ 32)) = omega arith in
    e ∙ sym (mod_ℕ-not (shift_right z at) (2 ^ 32) (pow_pos 32)) ∙ ap (λ (y : ℤ). mod_ℕ y (2 ^ 32)) (sym (shift_right-not z at))

-- the complement of a limb, bit by bit
pub not-bits : (a : ℕ) → a < 2 ^ 32 → (t : ℕ) → t < 32 → testbit (pos (4294967295 - a)) t ≡ not (testbit (pos a) t)
unfolding bits_from
not-bits a h t k =
    let low : bits_from (pos a) 0 ≡ a = ap (λ (y : ℤ). mod_ℕ y (2 ^ 32)) (shift_right-zero (pos a)) ∙ mod_ℕ-small a (2 ^ 32) h in
    ap (λ (n : ℕ). testbit (pos (4294967295 - n)) t) (sym low)
    ∙ ap (λ (n : ℕ). testbit (pos n) t) (bits_from-not (pos a) 0)
    ∙ testbit-bits_from (bitwise_not (pos a)) 0 t k
    ∙ ap (testbit (bitwise_not (pos a))) (zero-add t)
    ∙ testbit-not (pos a) t

-- an operation on the digits of two limbs
pub bits_from-bitwise : (op : Bool → Bool → Bool) (x y : ℤ) (at r : ℕ) → r < 2 ^ 32
    → ((t : ℕ) → t < 32 → testbit (pos r) t ≡ op (testbit (pos (bits_from x at)) t) (testbit (pos (bits_from y at)) t)) → r ≡ bits_from (bitwise op x y) at
bits_from-bitwise op x y at r h e =
    word-ext r (bitwise op x y) at h (λ t k.
    e t k ∙ ap₂ op (testbit-bits_from x at t k) (testbit-bits_from y at t k) ∙ sym (testbit-bitwise op x y (at + t)))

-- the same of the limbs of two operands
pub limb-bitwise : (op : Bool → Bool → Bool) (xs ys : List ℕ) (j : ℕ) {r : ℕ} → ((i : ℕ) → get_or xs i 0 < 2 ^ 32) → ((i : ℕ) → get_or ys i 0 < 2 ^ 32)
    → j < length xs → j < length ys → r < 2 ^ 32
    → ((t : ℕ) → t < 32 → testbit (pos r) t ≡ op (testbit (pos (get_or xs j 0)) t) (testbit (pos (get_or ys j 0)) t))
    → r ≡ limb_at (bitwise op (value xs) (value ys)) j
limb-bitwise op xs ys j {r} b c h k l e =
    bits_from-bitwise op (value xs) (value ys) (32 * j) r l (λ t m.
    e t m ∙ ap₂ (λ (p q : ℕ). op (testbit (pos p) t) (testbit (pos q) t)) (limb-value xs j b h) (limb-value ys j c k))

-- a choice between two limbs, bit by bit
choose-bits : (m a b : ℕ) → m < 2 ^ 32 → (t : ℕ) → t < 32
    → testbit (pos (bit_or (bit_and m a) (bit_and (4294967295 - m) b))) t ≡ cond (testbit (pos m) t) (testbit (pos a) t) (testbit (pos b) t)
choose-bits m a b h t l =
    testbit-digitwise ior-digitwise t (bit_and m a) (bit_and (4294967295 - m) b)
    ∙ ap₂ ◌||◌ (testbit-digitwise and-digitwise t m a)
    (testbit-digitwise and-digitwise t (4294967295 - m) b ∙ ap (λ (c : Bool). c && testbit (pos b) t) (not-bits m h t l))
    ∙ all₃ (λ m a b. m && a || not m && b) cond tt (testbit (pos m) t) (testbit (pos a) t) (testbit (pos b) t)

-- as a limb of the choice
pub bits_from-if : (x y z : ℤ) (at : ℕ) {m a b : ℕ} → m ≡ bits_from x at → a ≡ bits_from y at → b ≡ bits_from z at
    → bit_or (bit_and m a) (bit_and (4294967295 - m) b) ≡ bits_from (bitwise_if x y z) at
bits_from-if x y z at {m} {a} {b} p q r =
    let u : m < 2 ^ 32 = rw p (bits_from-lt x at) in
    let v : a < 2 ^ 32 = rw q (bits_from-lt y at) in
    let w : b < 2 ^ 32 = rw r (bits_from-lt z at) in
    word-ext (bit_or (bit_and m a) (bit_and (4294967295 - m) b)) (bitwise_if x y z) at
    (or_lt 32 (bit_and m a) (bit_and (4294967295 - m) b) (and_lt 32 m a u v) (and_lt 32 (4294967295 - m) b (omega arith) w))
    (λ t l. choose-bits m a b u t l
    ∙ rw (p, q, r, testbit-bits_from x at t l, testbit-bits_from y at t l, testbit-bits_from z at t l, testbit-if x y z (at + t)))
