-- What reading leaves in the buffer: the limbs of a number, with its sign, are its first limbs, and the answer counts them. Assumes nothing.
use Prim.Native.Nat.{ℕ, ◌+◌, ◌*◌, ◌/◌, ◌^◌, ◌≤◌, ◌<◌}
use native.Mathlib.Omega.{arith}
use mathlib.Core.Path.{◌≡◌, refl, sym, ap, subst, ◌∙◌}
use mathlib.Core.Bool.{Bool, true, false, cond, ◌&&◌, ◌||◌, true≢false}
use mathlib.Core.List.{List, ◌++◌}
use lib.Dec.{leb, ltb}
use lib.IntN.{ℤ, pos, nat_abs}
use lib.ListN.{length, take, drop}
use lib.Seq.{take_at, take-append-le}
use borrow.Author.Tests.{eq-eqb, ne_eqb}
use Rattle.bits.specs.Testbit.{is_negative, bit_length}
use Rattle.words.specs.Sign.{with_sign}
use Rattle.bits.proofs.LengthLaws.{bit_length-le}
use Rattle.limbwords.specs.Value.{value, limbs_of, limb_count, shortest}
use Rattle.limbwords.proofs.ValueLaws.{length-limbs_of, value-limbs_of}
use Rattle.words.proofs.SignedLaws.{nat_abs-with_sign}
use Rattle.text.specs.declared.ReadError.{ReadError}
use Rattle.std.specs.Prelude.{Result, Ok, Err}
use Rattle.text.specs.Numerals.{are_digits, numeral, is_hex, is_integer, integer}
use Rattle.text.specs.Readings.{enough, limb_reading, Holds}
use Rattle.text.specs.Inner.{Lays, IsNumeral}
use Rattle.text.proofs.ReadingParts.{digits-length, hex-is, integer-is}
use Rattle.text.proofs.NumeralLimbs.{numeral-below, put-length}

-- ---- the natural number, before it has its sign

-- the limbs that its digits take, with one for the sign, are enough
pub digits-room : (cs : List ℕ) {n : ℕ} → are_digits 16 cs ≡ true → n ≡ (length cs + 7) / 8 + 1 → bit_length (pos (numeral 16 cs)) < 32 * n
digits-room cs e f =
    let q = (length cs + 7) / 8 in
    omega (arith, f, bit_length-le (pos (numeral 16 cs)) (4 * (8 * q)) (numeral-below cs (8 * q) e (omega arith)))

-- and for a word, three
pub word_room : (n : ℕ) → n < 2 ^ 64 → bit_length (pos n) < 32 * 3
word_room n h = omega (arith, bit_length-le (pos n) 64 h)

module _ (n m : ℕ) (first : List ℕ) {out : List ℕ} (e : out ≡ limbs_of n (pos m) ++ drop n first) (h : bit_length (pos m) < 32 * n) where
  first-value : value (take n out) ≡ pos m
  first-value =
      ap (λ (l : List ℕ). value (take n l)) e
      ∙ ap value (take_at (limbs_of n (pos m)) (drop n first) n (length-limbs_of n (pos m)))
      ∙ value-limbs_of n (pos m) h

  pub first-natural : is_negative (value (take n out)) ≡ false
  unfolding is_negative
  first-natural = ap is_negative first-value

  pub first_signed : (negative : Bool) → with_sign negative (nat_abs (value (take n out))) ≡ with_sign negative m
  first_signed negative = ap (λ (z : ℤ). with_sign negative (nat_abs z)) first-value

  pub first-within : n ≤ length first → n ≤ length out
  first-within k = omega (arith, put-length (pos m) first out n e k)

-- ---- what is laid

pub lays-none : (z : ℤ) (out : List ℕ) {fits : Bool} → fits ≡ false → Lays z fits (Err ReadError.TooLarge) out
lays-none z out {fits} e = record { answer = rw e refl; limbs = λ q. absurd (true≢false (sym q ∙ e)) }

pub lays-first : (z : ℤ) (part rest : List ℕ) {r : ℕ} → r ≡ limb_count z → take r part ≡ shortest z → r ≤ length part
    → Lays z true (Ok r) (part ++ rest)
lays-first z part rest {r} e f h = record {
  answer = ap Ok e;
  limbs = λ q. ap (λ (n : ℕ). take n (part ++ rest)) (sym e) ∙ take-append-le r part rest h ∙ f;
}

pub lays-as : {z y : ℤ} {fits : Bool} {r : Result ℕ ReadError} {out : List ℕ} → Lays z true r out → z ≡ y → fits ≡ true → Lays y fits r out
lays-as {z} {y} {fits} {r} {out} w e f = subst (λ (t : Bool). Lays y t r out) (sym f) (subst (λ (x : ℤ). Lays x true r out) e w)

-- ---- what the call answers

-- whether the limbs fit, as the definition has it and as the code tests it
abbrev pub limbs_fit : List ℕ → ℕ → Bool
limbs_fit cs k = (is_hex cs || ltb (nat_abs (integer cs)) (2 ^ 64)) && leb (enough cs) k

module _ (cs : List ℕ) (k : ℕ) {negative : Bool} {b : ℕ} {ds : List ℕ} (w : IsNumeral cs negative b ds) where
  pub hexadecimal-fits : b ≡ 16 → limbs_fit cs k ≡ leb ((length ds + 7) / 8 + 1) k
  unfolding enough
  hexadecimal-fits h = rw (hex-is cs w ∙ eq-eqb b 16 h, digits-length cs w) refl

  pub bounded-fits : (b ≡ 16 → ⊥) → limbs_fit cs k ≡ ltb (numeral b ds) (2 ^ 64) && leb 3 k
  unfolding enough
  bounded-fits h =
      rw (hex-is cs w ∙ ne_eqb b 16 h)
      (ap (λ (m : ℕ). ltb m (2 ^ 64) && leb 3 k) (ap nat_abs (integer-is cs w) ∙ nat_abs-with_sign negative (numeral b ds)))

pub limbs-malformed : (cs : List ℕ) (k : ℕ) (out : List ℕ) → is_integer cs ≡ false
    → (Err ReadError.Malformed ≡ limb_reading cs k) × Holds cs (Err ReadError.Malformed) out
unfolding limb_reading
limbs-malformed cs k out e = (rw e refl, record { limbs = λ n q. let z : ◌≡◌ {A = ℕ} 0 1 = cc in absurd (omega arith) })

pub limbs-read : (cs : List ℕ) (k : ℕ) {z : ℤ} {fits : Bool} {r : Result ℕ ReadError} {out : List ℕ} → is_integer cs ≡ true → integer cs ≡ z
    → limbs_fit cs k ≡ fits → Lays z fits r out → (r ≡ limb_reading cs k) × Holds cs r out
unfolding limb_reading
limbs-read cs k {z} {fits} {r} {out} e f g w = (
  w.answer ∙ sym (rw (e, g) (ap (λ (y : ℤ). cond fits (Ok (limb_count y)) (Err ReadError.TooLarge)) f)),
  record { limbs = λ n q. go fits w n q },
)
  where
    go : (t : Bool) → Lays z t r out → (n : ℕ) → r ≡ Ok n → take n out ≡ shortest (integer cs)
    go true v n q =
        let a = v.answer in
        let s : n ≡ limb_count z = cc in
        ap (λ (m : ℕ). take m out) s ∙ v.limbs refl ∙ ap shortest (sym f)
    go false v n q =
        let a = v.answer in
        let c : ◌≡◌ {A = ℕ} 0 1 = cc in
        absurd (omega arith)
