-- The flonum of digits and an exponent, as its limbs are worked out: four bits for each digit and 1,075 are room enough. Assumes nothing.
use Prim.Native.Nat.{ℕ, zero, suc, ◌+◌, ◌-◌, ◌*◌, ◌/◌, ◌%◌, ◌^◌, ◌≤◌, ◌<◌}
use native.Mathlib.Nat.{le_trans, le_refl, lt_of_lt_of_le, lt_of_le_of_lt, mul-le-mul_left, mul-lt-mul_of_pos_right, le-mul_of_pos_right, one-le-pow, pow-le-pow_left}
use native.Mathlib.Omega.{arith}
use mathlib.Core.Path.{◌≡◌, refl, sym, ap, ap₂, subst, ◌∙◌}
use mathlib.Core.Bool.{Bool, true, false, ◌&&◌}
use mathlib.Core.List.{List, [], ◌∷◌, ◌++◌}
use lib.Dec.{lit<, lit≤}
use lib.ListN.{length, take, length-append}
use lib.Pow.{pow-add, pow_pos, pow_mono}
use lib.Ieee.{binary64, round, of_bits}
use Rattle.text.specs.Numerals.{numeral, numeral_from}
use Rattle.text.proofs.NumeralLaws.{are_digits-append, numeral_from-append, numeral-lt, pow-hex}
use Rattle.fltext.specs.Forms.{base, radix, places}
use Rattle.fltext.specs.Readings.{flonum}
use Rattle.text.specs.Naturals.{natural}
use Rattle.fltext.specs.Limbs.{Becomes}
use Rattle.fltext.specs.Inner.{Digits, scaled, room_for, Cleared}
use Rattle.fltext.specs.Packing.{nonzero, nearest_bits, quotient_bits}
use Rattle.fltext.proofs.RoundLaws.{round-bits}
use Rattle.fltext.proofs.ScaleLaws.{becomes-as, becomes-step, becomes-room, numeral_from-ge}

base-bounds : (h : Bool) → (0 < base h) × (base h ≤ 16)
unfolding base
base-bounds true = (lit< tt, lit≤ tt)
base-bounds false = (lit< tt, lit≤ tt)

radix-bounds : (h : Bool) → (0 < radix h) × (radix h ≤ 16)
unfolding radix
radix-bounds true = (lit< tt, lit≤ tt)
radix-bounds false = (lit< tt, lit≤ tt)

pub power-bound : (b n : ℕ) → b ≤ 16 → b ^ n ≤ 2 ^ (4 * n)
power-bound b n h = subst (λ (k : ℕ). b ^ n ≤ k) (pow-hex n) (pow-le-pow_left h n)

-- ---- the numerator: the number of all digits, in units of 2^-1075

abbrev pub all : Bool → List ℕ → List ℕ → ℕ
all h w f = numeral_from (base h) (numeral (base h) w) f

abbrev numerator : Bool → List ℕ → List ℕ → ℕ → ℕ
numerator h w f p = all h w f * radix h ^ p * 2 ^ 1075

module _ {h : Bool} {w f : List ℕ} (d : Digits h w f) where
  all-lt : all h w f < 2 ^ (4 * (length w + length f))
  unfolding numeral
  all-lt =
      subst (λ (k : ℕ). all h w f < 2 ^ (4 * k)) (length-append w f)
      (subst (λ (n : ℕ). n < 2 ^ (4 * length (w ++ f))) (numeral_from-append (base h) 0 w f)
      (lt_of_lt_of_le (numeral-lt (base h) (w ++ f) (are_digits-append (base h) w f ∙ ap₂ ◌&&◌ d.whole d.fraction)) (power-bound (base h) (length (w ++ f)) (base-bounds h).1)))

  module _ (p : ℕ) where
    scaled-le : all h w f * radix h ^ p ≤ numerator h w f p
    scaled-le = le-mul_of_pos_right (all h w f * radix h ^ p) (pow_pos 1075)

    all-le : all h w f ≤ numerator h w f p
    all-le = le_trans (le-mul_of_pos_right (all h w f) (one-le-pow p (radix h) (radix-bounds h).0)) scaled-le

    -- 2 to the sum of the three exponents
    powers : 2 ^ (4 * (length w + length f)) * 2 ^ (4 * p) * 2 ^ 1075 ≡ 2 ^ room_for (length w + length f + p)
    unfolding room_for
    powers =
        ap (λ (k : ℕ). k * 2 ^ 1075) (sym (pow-add 2 (4 * (length w + length f)) (4 * p))) ∙ sym (pow-add 2 (4 * (length w + length f) + 4 * p) 1075)
        ∙ ap (λ (k : ℕ). 2 ^ k) (let e : 4 * (length w + length f) + 4 * p + 1075 ≡ 4 * (length w + length f + p) + 1075 = omega arith in e)

    module _ {a : List ℕ} (c : Cleared (length w + length f + p) a) where
      room : numerator h w f p < 2 ^ (32 * length a)
      room =
          lt_of_lt_of_le
          (subst (λ (k : ℕ). numerator h w f p < k) powers
          (mul-lt-mul_of_pos_right
          (lt_of_le_of_lt (mul-le-mul_left (all h w f) (power-bound (radix h) p (radix-bounds h).1)) (mul-lt-mul_of_pos_right all-lt (pow_pos (4 * p))))
          (pow_pos 1075)))
          (pow_mono c.room)

      module _ {b : ℕ} (e : b ≡ base h) where
        pub whole_room : numeral_from b (natural a) w < 2 ^ (32 * length a)
        unfolding numeral
        whole_room = rw (e, c.zeros) (lt_of_le_of_lt (le_trans (numeral_from-ge (base h) (numeral (base h) w) f (base-bounds h).0) all-le) room)

        pub after-whole : {x : List ℕ} → Becomes (numeral_from b (natural a) w) a x → Becomes (numeral (base h) w) a x
        unfolding numeral
        after-whole t = becomes-as t (ap₂ (λ (m n : ℕ). numeral_from m n w) e c.zeros)

        pub fraction-room : {x : List ℕ} → Becomes (numeral (base h) w) a x → numeral_from b (natural x) f < 2 ^ (32 * length x)
        fraction-room t = becomes-room (λ n. numeral_from b n f) (numerator h w f p) t (rw e all-le) room

        pub after-fraction : {x y : List ℕ} → Becomes (numeral (base h) w) a x → Becomes (numeral_from b (natural x) f) x y → Becomes (all h w f) a y
        after-fraction t u = becomes-step (λ n. numeral_from b n f) t u (ap (λ (k : ℕ). numeral_from k (numeral (base h) w) f) e)

      module _ {r : ℕ} (e : r ≡ radix h) where
        pub power-room : {x : List ℕ} → Becomes (all h w f) a x → natural x * r ^ p < 2 ^ (32 * length x)
        power-room t = becomes-room (λ n. n * r ^ p) (numerator h w f p) t (rw e scaled-le) room

        pub after-power : {x y : List ℕ} → Becomes (all h w f) a x → Becomes (natural x * r ^ p) x y → Becomes (all h w f * radix h ^ p) a y
        after-power t u = becomes-step (λ n. n * r ^ p) t u (ap (λ (k : ℕ). all h w f * k ^ p) e)

      pub units-room : {x : List ℕ} → Becomes (all h w f * radix h ^ p) a x → natural x * 2 ^ 1075 < 2 ^ (32 * length x)
      units-room t = becomes-room (λ n. n * 2 ^ 1075) (numerator h w f p) t (le_refl (numerator h w f p)) room

      pub after-units : {x y : List ℕ} → Becomes (all h w f * radix h ^ p) a x → Becomes (natural x * 2 ^ 1075) x y → Becomes (scaled h w f p * 2 ^ 1075) a y
      unfolding scaled
      after-units t u = becomes-step (λ n. n * 2 ^ 1075) t u refl

-- ---- the whole fraction

pub quotient-bits : (s h : Bool) (n q : ℕ) {r : ℕ} {a x y : List ℕ} {rest : Bool} → r ≡ radix h → Becomes (n * 2 ^ 1075) a x → rest ≡ nonzero (natural x % r ^ q) → Becomes (natural x / r ^ q) x y
    → nearest_bits s (natural y) rest ≡ quotient_bits s n (radix h ^ q)
unfolding quotient_bits
quotient-bits s h n q er t g k =
    ap₂ (nearest_bits s) (k.number ∙ ap₂ (λ (i j : ℕ). i / j ^ q) t.number er) (g ∙ ap₂ (λ (i j : ℕ). nonzero (i % j ^ q)) t.number er)

pub flonum-bits : (s h : Bool) (w f : List ℕ) (u d : ℕ) {m p q : ℕ} → m ≡ places h (length f) → p ≡ u - (d + m) → q ≡ d + m - u
    → of_bits binary64 (quotient_bits s (scaled h w f p) (radix h ^ q)) ≡ flonum s h w f u d
unfolding flonum quotient_bits scaled
flonum-bits s h w f u d {m} {p} {q} em ep eq =
    round-bits s (all h w f * radix h ^ p) (radix h ^ q) (one-le-pow q (radix h) (radix-bounds h).0)
    ∙ ap₂ (λ (i j : ℕ). round binary64 s (all h w f * radix h ^ i) (radix h ^ j)) (ep ∙ ap (λ (i : ℕ). u - (d + i)) em) (eq ∙ ap (λ (i : ℕ). d + i - u) em)

-- ---- a part of limbs that are 0
zero-part : (n : ℕ) (xs : List ℕ) → natural xs ≡ 0 → natural (take n xs) ≡ 0
unfolding natural
zero-part zero xs e = refl
zero-part (suc n) [] e = refl
zero-part (suc n) (x ∷ xs) e =
    let first : x ≡ 0 = omega arith in
    let others : natural xs ≡ 0 = omega arith in
    ap₂ (λ (i j : ℕ). i + 2 ^ 32 * j) first (zero-part n xs others)

pub cleared-part : {m n : ℕ} (xs : List ℕ) → length (take n xs) ≡ n → room_for m ≤ 32 * n → natural xs ≡ 0 → Cleared m (take n xs)
cleared-part {m} {n} xs l r z = record { room = subst (λ (k : ℕ). room_for m ≤ 32 * k) (sym l) r; zeros = zero-part n xs z }
