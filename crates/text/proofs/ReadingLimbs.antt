-- The limbs of a natural number, given a sign. Assumes nothing.
use Prim.Native.Nat.{ℕ, zero, suc, ◌*◌, ◌^◌, ◌≤◌, ◌<◌}
use native.Mathlib.Nat.{le_refl, lt_of_le_of_lt}
use native.Mathlib.Omega.{arith}
use mathlib.Core.Path.{◌≡◌, refl, sym, ap, ap₂, subst, ◌∙◌}
use mathlib.Core.Bool.{Bool, true, false}
use mathlib.Core.List.{List, ◌∷◌}
use lib.IntN.{ℤ, pos, nat_abs, neg_ℤ}
use lib.ListN.{length, take, get_or}
use lib.Signed.{mag}
use Rattle.bits.specs.Testbit.{is_negative, bit_length}
use Rattle.bits.specs.Shift.{shift_right}
use Rattle.bits.specs.Division.{mod_ℕ}
use Rattle.words.specs.Sign.{with_sign}
use Rattle.bits.proofs.LengthLaws.{bit_length-le, mag-lt}
use Rattle.words.proofs.SignedLaws.{with_sign-nat_abs, with_sign-not}
use Rattle.limbwords.specs.Value.{value, limbs_of, limb_count, shortest}
use Rattle.limbwords.proofs.ValueLaws.{value-length, length-limbs_of, value-limbs_of, limbs_of-value, limb_count-le}

-- ---- the sign

take-limbs_of : (j k : ℕ) (z : ℤ) → j ≤ k → take j (limbs_of k z) ≡ limbs_of j z
unfolding limbs_of
take-limbs_of zero k z h = refl
take-limbs_of (suc j) zero z h = absurd (omega arith)
take-limbs_of (suc j) (suc k) z h = ap (λ (l : List ℕ). mod_ℕ z (2 ^ 32) ∷ l) (take-limbs_of j k (shift_right z 32) (omega arith))

pub signed-absolute : (z : ℤ) {negative : Bool} → is_negative z ≡ negative → with_sign negative (nat_abs z) ≡ z
signed-absolute z h = ap (λ (b : Bool). with_sign b (nat_abs z)) (sym h) ∙ with_sign-nat_abs z

mag-with_sign : (negative : Bool) (n : ℕ) → mag (with_sign negative n) ≤ n
unfolding with_sign
mag-with_sign true zero = le_refl 0
mag-with_sign true (suc n) = omega arith
mag-with_sign false n = le_refl n

-- a sign takes no more bits than the number has
signed-length : (negative : Bool) (n k : ℕ) → bit_length (pos n) < k → bit_length (with_sign negative n) < k
signed-length negative n k h =
    let l = lt_of_le_of_lt (mag-with_sign negative n) (mag-lt (pos n) (bit_length (pos n)) (le_refl (bit_length (pos n)))) in
    omega (arith, bit_length-le (with_sign negative n) (bit_length (pos n)) l)

-- what set_sign leaves
module _ (negative : Bool) (xs : List ℕ) (p : is_negative (value xs) ≡ false) where
  abbrev signed : ℤ
  signed = with_sign negative (nat_abs (value xs))

  pub positive-limbs : ((i : ℕ) → get_or xs i 0 < 2 ^ 32) → negative ≡ false → xs ≡ limbs_of (length xs) signed
  positive-limbs b e =
      sym (ap (limbs_of (length xs)) (ap (λ (t : Bool). with_sign t (nat_abs (value xs))) e ∙ signed-absolute (value xs) p) ∙ limbs_of-value xs b)

  pub negative-limbs : {out : List ℕ} → negative ≡ true → out ≡ limbs_of (length xs) (neg_ℤ (value xs)) → out ≡ limbs_of (length xs) signed
  negative-limbs e f =
      f
      ∙ ap (limbs_of (length xs))
      (sym (ap (λ (t : Bool). with_sign t (nat_abs (value xs))) e ∙ with_sign-not false (nat_abs (value xs)) ∙ ap neg_ℤ (signed-absolute (value xs) p)))

  module _ {out : List ℕ} (h : 0 < length xs) (e : out ≡ limbs_of (length xs) signed) where
    room : bit_length signed < 32 * length xs
    unfolding with_sign
    room =
        signed-length negative (nat_abs (value xs)) (32 * length xs)
        (subst (λ (z : ℤ). bit_length z < 32 * length xs) (sym (signed-absolute (value xs) p)) (value-length xs h))

    signed-count : limb_count (value out) ≡ limb_count signed
    signed-count = ap limb_count (ap value e ∙ value-limbs_of (length xs) signed room)

    within : limb_count signed ≤ length xs
    within = limb_count-le signed (length xs) room

    pub signed-limbs : {r : ℕ} → r ≡ limb_count (value out) → (r ≡ limb_count signed) × ((take r out ≡ shortest signed) × (r ≤ length out))
    unfolding shortest
    signed-limbs {r} c =
        let d = c ∙ signed-count in (
          d,
          (
            ap₂ take d e ∙ take-limbs_of (limb_count signed) (length xs) signed within,
            omega (arith, d, within, ap length e, length-limbs_of (length xs) signed),
          ),
        )
