-- The reversal of 64 bits by six swaps, of bits at the distances 1, 2, 4, 8, 16 and 32; and that of a field. Assumes nothing.
use Prim.Native.Nat.{ℕ, suc, ◌+◌, ◌-◌, ◌/◌, ◌^◌, ◌<◌}
use native.Mathlib.Omega.{arith}
use mathlib.Core.Path.{◌≡◌, refl, ap, ◌∙◌, subst}
use mathlib.Core.Bool.{xor}
use lib.IntN.{pos}
use lib.Pow.{shr_lt}
use Rattle.bits.specs.Testbit.{odd, testbit}
use Rattle.bits.specs.Field.{reverse_bit_field}
use Rattle.words.proofs.FieldWords.{testbit-div}
use Rattle.words.proofs.RotateWords.{reverse_bits}
use Rattle.words.proofs.SwapLaws.{below, swapped, source, paired, fair, unmoved, swap-moves, moves-reverse}

-- ---- six swaps

-- they reverse the 64 bits
pub testbit-reversed : (w : ℕ) {a b c d e r : ℕ} → a ≡ swapped 64 w 1 0x5555555555555555 → b ≡ swapped 64 a 2 0x3333333333333333
    → c ≡ swapped 64 b 4 0x0F0F0F0F0F0F0F0F → d ≡ swapped 64 c 8 0x00FF00FF00FF00FF → e ≡ swapped 64 d 16 0x0000FFFF0000FFFF
    → r ≡ swapped 64 e 32 0x00000000FFFFFFFF → (t : ℕ) → t < 64 → testbit (pos r) t ≡ testbit (pos w) (63 - t)
unfolding below paired source fair testbit odd xor
testbit-reversed w p q s u v x =
    let a = swap-moves (unmoved 64 w) 1 0x5555555555555555 p refl in
    let b = swap-moves a 2 0x3333333333333333 q refl in
    let c = swap-moves b 4 0x0F0F0F0F0F0F0F0F s refl in
    let d = swap-moves c 8 0x00FF00FF00FF00FF u refl in
    let e = swap-moves d 16 0x0000FFFF0000FFFF v refl in
    moves-reverse (swap-moves e 32 0x00000000FFFFFFFF x refl) refl

-- ---- a field

-- the bits of a field of some size in the opposite order stand at the top of the word that has v's
pub reversed-field : (v r size : ℕ) → size < 64 → v < 2 ^ size → r < 2 ^ 64
    → ((t : ℕ) → t < 64 → testbit (pos r) t ≡ testbit (pos v) (63 - t)) → pos (r / 2 / 2 ^ (63 - size)) ≡ reverse_bit_field (pos v) 0 size
reversed-field v r size s h l bits =
    let e : 63 ≡ size + (63 - size) = omega arith in
    reverse_bits (r / 2 / 2 ^ (63 - size)) v size (shr_lt size (63 - size) (subst (λ (k : ℕ). r / 2 < 2 ^ k) e (omega arith))) h (λ j u.
    let same : 63 - (1 + (63 - size + j)) ≡ size - suc j = omega arith in
    testbit-div (r / 2) (63 - size) j
    ∙ testbit-div r 1 (63 - size + j)
    ∙ bits (1 + (63 - size + j)) (omega arith)
    ∙ ap (testbit (pos v)) same)
