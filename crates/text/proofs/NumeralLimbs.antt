-- Hexadecimal digits as limbs: eight digits are a limb of their number, and limbs put one after another are those of an integer. Assumes nothing.
use Prim.Native.Nat.{ℕ, zero, suc, ◌+◌, ◌*◌, ◌-◌, ◌/◌, ◌%◌, ◌^◌, ◌≤◌, ◌<◌}
use native.Mathlib.Nat.{pow-le-pow_right, mod-eq_of_lt, div-eq_of_lt, lt_of_lt_of_le}
use native.Mathlib.Numerals.{add-one}
use native.Mathlib.Omega.{arith}
use mathlib.Core.Path.{◌≡◌, refl, sym, ap, ap₂, subst, ◌∙◌}
use mathlib.Core.Bool.{Bool, true, false}
use mathlib.Core.List.{List, [], ◌∷◌, ◌++◌, append_assoc}
use lib.Dec.{leb, lit<}
use lib.IntN.{ℤ, pos}
use lib.ListN.{length, take, drop, set, length-append, length-drop, length-take, take-append-drop}
use lib.Seq.{set_at, drop-cons, take-add}
use borrow.Author.Tests.{leb-true, leb-false}
use Rattle.bits.specs.Shift.{floor_div, shift_right}
use Rattle.bits.specs.Division.{mod_ℕ}
use Rattle.bits.proofs.ShiftLaws.{shift_right-zero, shift_right-compose}
use Rattle.limbwords.specs.Value.{limbs_of}
use Rattle.limbwords.specs.Results.{bits_from, limb_at}
use Rattle.limbwords.proofs.ValueLaws.{length-limbs_of}
use Rattle.text.specs.Numerals.{are_digits, numeral}
use Rattle.text.proofs.NumeralLaws.{pow-hex, are_digits-first, are_digits-rest, numeral-lt, numeral-quotient, numeral-remainder}

-- ---- limbs one after another

limbs_of-more : (k : ℕ) (z : ℤ) → limbs_of (suc k) z ≡ limbs_of k z ++ (limb_at z k ∷ [])
unfolding limbs_of bits_from
limbs_of-more zero z = ap (λ (y : ℤ). mod_ℕ y (2 ^ 32) ∷ []) (sym (shift_right-zero z))
limbs_of-more (suc k) z =
    let e : 32 + 32 * k ≡ 32 * suc k = omega arith in
    ap (λ (l : List ℕ). mod_ℕ z (2 ^ 32) ∷ l)
    (limbs_of-more k (shift_right z 32)
    ∙ ap (λ (y : ℤ). limbs_of k (shift_right z 32) ++ (mod_ℕ y (2 ^ 32) ∷ [])) (shift_right-compose z 32 (32 * k) ∙ ap (shift_right z) e))

-- one limb more put into a buffer
pub put-more : (z : ℤ) (first out : List ℕ) (j v : ℕ) → out ≡ limbs_of j z ++ drop j first → v ≡ limb_at z j → j < length first
    → set out j v ≡ limbs_of (j + 1) z ++ drop (j + 1) first
put-more z first out j v e f h =
    ap₂ (λ (l : List ℕ) (n : ℕ). set l j n) (e ∙ ap (λ (l : List ℕ). limbs_of j z ++ l) (drop-cons first j 0 h)) f
    ∙ set_at (limbs_of j z) _ (drop (suc j) first) (limb_at z j) j (length-limbs_of j z)
    ∙ sym (append_assoc (limbs_of j z) (limb_at z j ∷ []) (drop (suc j) first))
    ∙ ap (λ (l : List ℕ). l ++ drop (suc j) first) (sym (limbs_of-more j z))
    ∙ rw (add-one j) refl

pub put-length : (z : ℤ) (first out : List ℕ) (j : ℕ) → out ≡ limbs_of j z ++ drop j first → j ≤ length first → length out ≡ length first
put-length z first out j e h =
    ap length e
    ∙ length-append (limbs_of j z) (drop j first)
    ∙ omega (arith, length-limbs_of j z, length-drop j first)

pub limb-natural : (n j : ℕ) → limb_at (pos n) j ≡ n / 2 ^ (32 * j) % 2 ^ 32
unfolding bits_from shift_right floor_div mod_ℕ
limb-natural n j = refl

-- above all of a natural number
pub limb-above : (n j : ℕ) → n < 2 ^ (32 * j) → 0 ≡ limb_at (pos n) j
limb-above n j h = sym (limb-natural n j ∙ ap (λ (m : ℕ). m % 2 ^ 32) (div-eq_of_lt h))

-- ---- hexadecimal digits

-- at most so many digits
pub numeral-below : (cs : List ℕ) (k : ℕ) → are_digits 16 cs ≡ true → length cs ≤ k → numeral 16 cs < 2 ^ (4 * k)
numeral-below cs k e h =
    subst (λ (p : ℕ). numeral 16 cs < p) (pow-hex k) (lt_of_lt_of_le (numeral-lt 16 cs e) (pow-le-pow_right {n = 16} (lit< tt) h))

module _ (cs : List ℕ) (e : are_digits 16 cs ≡ true) where
  -- without the last 8 j digits
  upper : (left j : ℕ) → left + 8 * j ≡ length cs → numeral 16 (take left cs) ≡ numeral 16 cs / 2 ^ (32 * j)
  upper left j h =
      let l : length (drop left cs) ≡ 8 * j = omega (arith, length-drop left cs) in
      let m : 4 * (8 * j) ≡ 32 * j = omega arith in
      sym (ap₂ (λ (n p : ℕ). n / p) (ap (numeral 16) (sym (take-append-drop left cs)))
      (sym (ap (λ (k : ℕ). 16 ^ k) l ∙ pow-hex (8 * j) ∙ ap (λ (k : ℕ). 2 ^ k) m))
      ∙ numeral-quotient 16 (take left cs) (drop left cs) (are_digits-rest 16 left cs e))

  -- the last eight of these digits, or all where there are fewer
  lower : (left : ℕ) → left ≤ length cs → numeral 16 (take (left - (left - 8)) (drop (left - 8) cs)) ≡ numeral 16 (take left cs) % 2 ^ 32
  lower left h = go (leb 8 left) refl
    where
      part : List ℕ
      part = take (left - (left - 8)) (drop (left - 8) cs)

      sure : are_digits 16 part ≡ true
      sure = are_digits-first 16 (left - (left - 8)) (drop (left - 8) cs) (are_digits-rest 16 (left - 8) cs e)

      go : (b : Bool) → leb 8 left ≡ b → numeral 16 part ≡ numeral 16 (take left cs) % 2 ^ 32
      go true q =
          let k = leb-true 8 left q in
          let a : left - 8 + (left - (left - 8)) ≡ left = omega arith in
          let l : length part ≡ 8 = omega (arith, length-take (left - (left - 8)) (drop (left - 8) cs), length-drop (left - 8) cs) in
          sym (ap₂ (λ (c : List ℕ) (n : ℕ). numeral 16 c % 16 ^ n) (ap (λ (n : ℕ). take n cs) (sym a) ∙ take-add (left - 8) (left - (left - 8)) cs) (sym l)
          ∙ numeral-remainder 16 (take (left - 8) cs) part sure)
      go false q =
          let k = leb-false 8 left q in
          let a : left - 8 ≡ 0 = omega arith in
          let b : left - (left - 8) ≡ left = omega arith in
          let s : part ≡ take left cs = ap₂ (λ (m n : ℕ). take m (drop n cs)) b a in
          ap (numeral 16) s
          ∙ sym (mod-eq_of_lt (numeral-below (take left cs) 8 (are_digits-first 16 left cs e) (omega (arith, length-take left cs))))

  -- eight digits, counted from the last, are a limb
  digits-limb : (left j : ℕ) {from : ℕ} → left + 8 * j ≡ length cs → from ≡ left - 8
      → numeral 16 (take (left - from) (drop from cs)) ≡ limb_at (pos (numeral 16 cs)) j
  digits-limb left j h f =
      ap (λ (n : ℕ). numeral 16 (take (left - n) (drop n cs))) f
      ∙ lower left (omega arith) ∙ ap (λ (n : ℕ). n % 2 ^ 32) (upper left j h) ∙ sym (limb-natural (numeral 16 cs) j)

  -- and above all of them comes 0
  digits_above : (j : ℕ) → length cs ≤ 8 * j → 0 ≡ limb_at (pos (numeral 16 cs)) j
  digits_above j h =
      let m : 4 * (8 * j) ≡ 32 * j = omega arith in
      limb-above (numeral 16 cs) j (subst (λ (k : ℕ). numeral 16 cs < 2 ^ k) m (numeral-below cs (8 * j) e h))

-- ---- limb by limb: j are put, and `left` digits are left

pub record Filled (digits first out : List ℕ) (left j : ℕ) : Type 0 where
  pub rest : left ≡ length digits - 8 * j
  pub turns : 8 * j ≤ length digits + 7
  pub limbs : out ≡ limbs_of j (pos (numeral 16 digits)) ++ drop j first

pub filled_none : (digits first : List ℕ) → Filled digits first first (length digits) 0
unfolding limbs_of
filled_none digits first = record { rest = omega arith; turns = omega arith; limbs = refl }

module _ {digits first out : List ℕ} {left j : ℕ} (s : Filled digits first out left j) (room : (length digits + 7) / 8 < length first) where
  pub filled-length : length out ≡ length first
  filled-length = put-length (pos (numeral 16 digits)) first out j s.limbs (omega (arith, s.turns))

  module _ (e : are_digits 16 digits ≡ true) where
    pub filled_more : (from : ℕ) {v : ℕ} → 0 < left → from ≡ left - 8 → v ≡ numeral 16 (take (left - from) (drop from digits))
        → Filled digits first (set out j v) from (j + 1)
    filled_more from {v} h f g = record {
      rest = omega (arith, s.rest);
      turns = omega (arith, s.rest);
      limbs =
          put-more (pos (numeral 16 digits)) first out j v s.limbs (g ∙ digits-limb digits e left j (omega (arith, s.rest)) f) (omega (arith, s.turns));
    }

    pub filled-all : left ≡ 0 → set out j 0 ≡ limbs_of (j + 1) (pos (numeral 16 digits)) ++ drop (j + 1) first
    filled-all h = put-more (pos (numeral 16 digits)) first out j 0 s.limbs (digits_above digits e j (omega (arith, s.rest))) (omega (arith, s.turns))
