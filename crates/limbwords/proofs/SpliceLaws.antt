-- A word put together from the low bits of one word and the high bits of another. Assumes nothing.
use Prim.Native.Nat.{ℕ, ◌+◌, ◌*◌, ◌-◌, ◌/◌, ◌%◌, ◌^◌, ◌≤◌, ◌<◌}
use native.Mathlib.Nat.{mod-lt}
use native.Mathlib.Omega.{arith}
use mathlib.Core.Path.{◌≡◌, sym, ◌∙◌, subst}
use mathlib.Core.Bool.{cond}
use lib.Dec.{ltb}
use lib.IntN.{pos}
use lib.Pow.{pow_pos, shr_lt}
use borrow.Author.Tests.{lt-ltb, le-ltb}
use Rattle.bits.specs.Testbit.{testbit}
use Rattle.bits.proofs.TestbitLaws.{by-lt}
use Rattle.words.proofs.FieldWords.{testbit-mod-lt, testbit-div-ge, testbit-digits, digits-lt-pow}

-- it is a word again
pub splice-lt : (low high k : ℕ) → k ≤ 32 → high < 2 ^ 32 → high / 2 ^ k * 2 ^ k + low % 2 ^ k < 2 ^ 32
splice-lt low high k h l =
    let e : 32 ≡ 32 - k + k = omega arith in
    digits-lt-pow k 32 (high / 2 ^ k) (low % 2 ^ k) h (shr_lt (32 - k) k (subst (λ (n : ℕ). high < 2 ^ n) e l)) (mod-lt low (pow_pos k))

-- its bits
pub testbit-splice : (low high k t : ℕ)
    → testbit (pos (high / 2 ^ k * 2 ^ k + low % 2 ^ k)) t ≡ cond (ltb t k) (testbit (pos low) t) (testbit (pos high) t)
testbit-splice low high k t =
    testbit-digits (high / 2 ^ k) (low % 2 ^ k) k t (mod-lt low (pow_pos k))
    ∙ by-lt
    (λ b. cond b (testbit (pos (low % 2 ^ k)) t) (testbit (pos (high / 2 ^ k)) (t - k)) ≡ cond b (testbit (pos low) t) (testbit (pos high) t))
    t k
    (testbit-mod-lt low k t)
    (testbit-div-ge high k t)

-- the test of a position in a limb, and of the position in the whole
pub ltb-sub : (m t n : ℕ) → ltb t (n - m) ≡ ltb (m + t) n
ltb-sub m t n =
    by-lt (λ b. b ≡ ltb (m + t) n) t (n - m) (λ l. sym (lt-ltb (m + t) n (omega arith))) (λ l. sym (le-ltb (m + t) n (omega arith)))
