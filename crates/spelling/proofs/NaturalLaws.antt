-- The number that limbs are without a sign: its hexadecimal digits, its size, and the limbs of a number and of its negation. Assumes nothing.
use Prim.Native.Nat.{ℕ, zero, suc, ◌+◌, ◌*◌, ◌-◌, ◌/◌, ◌%◌, ◌^◌, ◌≤◌, ◌<◌}
use native.Mathlib.Nat.{mul_assoc, div-one, div-eq_of_lt, add-mul-mod_self_left}
use native.Mathlib.Omega.{arith}
use mathlib.Core.Path.{◌≡◌, sym, ap, ◌∙◌, subst}
use mathlib.Core.Bool.{true, false}
use mathlib.Core.List.{List, [], ◌∷◌}
use lib.IntN.{ℤ, pos, negsuc, neg_ℤ, nat_abs}
use lib.ListN.{length, get_or, drop}
use lib.Pow.{pow_pos, pow-lt, pow-add, shr_lt, shr-shr, field}
use lib.Signed.{mag}
use lib.Seq.{drop-cons}
use Rattle.bits.specs.Testbit.{is_negative}
use Rattle.bits.specs.Shift.{floor_div, shift_right}
use Rattle.bits.specs.Division.{mod_ℕ}
use Rattle.words.specs.Sign.{with_sign}
use Rattle.bits.proofs.LengthLaws.{mag-lt}
use Rattle.words.proofs.SignedLaws.{with_sign-not}
use Rattle.limbwords.specs.Value.{value, limbs_of}
use Rattle.limbwords.proofs.ValueLaws.{value-length, limbs_of-value}
use Rattle.text.specs.Naturals.{natural}
use Rattle.text.proofs.NaturalLaws.{natural-lt}
use Rattle.text.proofs.NumeralLaws.{pow-hex}
use Rattle.text.proofs.ReadingLimbs.{signed-absolute}

-- ---- digits of limbs

-- digits that lie whole in the lowest limb
low_digit : (n h k : ℕ) → k ≤ 28 → (n + 2 ^ 32 * h) / 2 ^ k % 2 ^ 4 ≡ n / 2 ^ k % 2 ^ 4
low_digit n h k l =
    let at : 32 ≡ 4 + k + (28 - k) = omega arith in
    let m : 2 ^ 32 * h ≡ 2 ^ (4 + k) * (2 ^ (28 - k) * h) =
    ap (λ (p : ℕ). p * h) (ap (λ (i : ℕ). 2 ^ i) at ∙ pow-add 2 (4 + k) (28 - k)) ∙ mul_assoc (2 ^ (4 + k)) (2 ^ (28 - k)) h in
    sym (field (n + 2 ^ 32 * h) 4 k)
    ∙ ap (λ (p : ℕ). p / 2 ^ k) (ap (λ (p : ℕ). (n + p) % 2 ^ (4 + k)) m ∙ add-mul-mod_self_left n (2 ^ (4 + k)) (2 ^ (28 - k) * h))
    ∙ field n 4 k

natural-drop : (xs : List ℕ) (j : ℕ) → ((i : ℕ) → get_or xs i 0 < 2 ^ 32) → natural xs / 2 ^ (32 * j) ≡ natural (drop j xs)
unfolding natural
natural-drop xs zero b = div-one (natural xs)
natural-drop [] (suc j) b = div-eq_of_lt (pow_pos (32 * suc j))
natural-drop (n ∷ ns) (suc j) b =
    let at : 32 * suc j ≡ 32 + 32 * j = omega arith in
    let above : (n + 2 ^ 32 * natural ns) / 2 ^ 32 ≡ natural ns = omega (arith, b 0) in
    ap (λ (i : ℕ). (n + 2 ^ 32 * natural ns) / 2 ^ i) at
    ∙ sym (shr-shr (n + 2 ^ 32 * natural ns) 32 (32 * j))
    ∙ ap (λ (m : ℕ). m / 2 ^ (32 * j)) above
    ∙ natural-drop ns j (λ i. b (suc i))

pub natural-digit : (xs : List ℕ) (i : ℕ) → ((j : ℕ) → get_or xs j 0 < 2 ^ 32) → i < 8 * length xs
    → get_or xs (i / 8) 0 / 2 ^ (4 * (i % 8)) % 16 ≡ natural xs / 16 ^ i % 16
unfolding natural
natural-digit xs i b h =
    let at : 4 * i ≡ 32 * (i / 8) + 4 * (i % 8) = omega arith in
    sym (ap (λ (m : ℕ). natural xs / m % 16) (pow-hex i ∙ ap (λ (k : ℕ). 2 ^ k) at)
    ∙ ap (λ (m : ℕ). m % 16)
    (sym (shr-shr (natural xs) (32 * (i / 8)) (4 * (i % 8)))
    ∙ ap (λ (m : ℕ). m / 2 ^ (4 * (i % 8))) (natural-drop xs (i / 8) b ∙ ap natural (drop-cons xs (i / 8) 0 (omega arith))))
    ∙ low_digit (get_or xs (i / 8) 0) (natural (drop (suc (i / 8)) xs)) (4 * (i % 8)) (omega arith))

-- ---- size

pub natural-lt-hex : (xs : List ℕ) → ((j : ℕ) → get_or xs j 0 < 2 ^ 32) → natural xs < 16 ^ (8 * length xs)
natural-lt-hex xs b =
    let at : 32 * length xs ≡ 4 * (8 * length xs) = omega arith in
    subst (λ (m : ℕ). natural xs < m) (ap (λ (k : ℕ). 2 ^ k) at ∙ sym (pow-hex (8 * length xs))) (natural-lt xs b)

-- ---- the limbs of a number

natural-limbs_of : (k n : ℕ) → n < 2 ^ (32 * k) → natural (limbs_of k (pos n)) ≡ n
unfolding natural limbs_of mod_ℕ shift_right floor_div
natural-limbs_of zero n h = omega arith
natural-limbs_of (suc k) n h =
    let at : 32 * suc k ≡ 32 * k + 32 = omega arith in
    let above = natural-limbs_of k (n / 2 ^ 32) (shr_lt (32 * k) 32 (subst (λ (i : ℕ). n < 2 ^ i) at h)) in
    omega (arith, above)

absolute-le : (z : ℤ) → nat_abs z ≤ mag z + 1
absolute-le (pos n) = omega arith
absolute-le (negsuc n) = omega arith

-- as many limbs as z has hold its absolute value
natural-absolute : (xs : List ℕ) → 0 < length xs → natural (limbs_of (length xs) (pos (nat_abs (value xs)))) ≡ nat_abs (value xs)
natural-absolute xs h =
    natural-limbs_of (length xs) (nat_abs (value xs))
    (omega (
      arith,
      absolute-le (value xs),
      mag-lt (value xs) (32 * length xs - 1) (omega (arith, value-length xs h)),
      pow-lt {i = 32 * length xs - 1} {j = 32 * length xs} (omega arith),
    ))

-- limbs that are not negative, and the limbs of -z for limbs that are
pub natural-nonnegative : (xs : List ℕ) → ((j : ℕ) → get_or xs j 0 < 2 ^ 32) → 0 < length xs → is_negative (value xs) ≡ false → natural xs ≡ nat_abs (value xs)
unfolding with_sign
natural-nonnegative xs b h e =
    ap natural (sym (limbs_of-value xs b) ∙ ap (limbs_of (length xs)) (sym (signed-absolute (value xs) e))) ∙ natural-absolute xs h

pub natural-negative : (xs : List ℕ) → 0 < length xs → is_negative (value xs) ≡ true → natural (limbs_of (length xs) (neg_ℤ (value xs))) ≡ nat_abs (value xs)
unfolding with_sign
natural-negative xs h e =
    ap (λ (z : ℤ). natural (limbs_of (length xs) z)) (ap neg_ℤ (sym (signed-absolute (value xs) e)) ∙ sym (with_sign-not true (nat_abs (value xs))))
    ∙ natural-absolute xs h
