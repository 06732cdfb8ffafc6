-- The parts of a text, as the code reads them, and the integer that they are. Assumes nothing.
use Prim.Native.Nat.{ℕ, ◌+◌, ◌-◌, ◌≤◌, ◌<◌}
use native.Mathlib.Omega.{arith}
use mathlib.Core.Path.{◌≡◌, refl, sym, ap, subst, ◌∙◌}
use mathlib.Core.Bool.{Bool, true, false, cond, ◌||◌}
use mathlib.Core.Logic.{◌⊎◌, inl, inr, ⊎_elim}
use mathlib.Core.List.{List}
use lib.Dec.{eqb, ltb}
use lib.ListN.{length, take, drop, length-drop, get_or}
use borrow.Author.Tests.{lt-ltb, le-ltb, eq-eqb, ne_eqb}
use borrow.Author.Rules.{part_to_end}
use Rattle.text.specs.declared.form.Parts.{Parts}
use Rattle.words.specs.Sign.{with_sign}
use Rattle.bits.proofs.Booleans.{and_second}
use Rattle.text.specs.Numerals.{digit, are_digits, numeral, byte_at, one_of, letter_base, zero_base, prefix_base, is_hash, sign_at, is_minus, after_sign, base, is_hex, digits_from, is_integer, integer}
use Rattle.text.specs.Inner.{parts, IsNumeral}
use Rattle.text.proofs.NumeralLaws.{digit_at}

-- ---- one byte

pub one_of-true : (a b c : ℕ) → (c ≡ a) ⊎ (c ≡ b) → one_of a b c ≡ true
unfolding one_of
one_of-true a b c k = ⊎_elim (λ e. rw (eq-eqb c a e) refl) (λ e. rw (eq-eqb c b e) (or-true (eqb c a))) k
  where
    or-true : (t : Bool) → t || true ≡ true
    or-true true = refl
    or-true false = refl

pub one_of-false : (a b c : ℕ) → ((c ≡ a) ⊎ (c ≡ b) → ⊥) → one_of a b c ≡ false
unfolding one_of
one_of-false a b c k = rw (ne_eqb c a (λ e. k (inl e)), ne_eqb c b (λ e. k (inr e))) refl

pub hash-is : (cs : List ℕ) {c : ℕ} → c ≡ byte_at cs 0 → is_hash cs ≡ eqb c 35
unfolding is_hash
hash-is cs e = rw (← e) refl

pub prefix_base-ten : (cs : List ℕ) (i : ℕ) {c : ℕ} → c ≡ byte_at cs i → (c ≡ 48 → ⊥) → prefix_base cs i ≡ 10
unfolding prefix_base
prefix_base-ten cs i {c} e h = rw (← e, ne_eqb c 48 h) refl

pub prefix_base-zero : (cs : List ℕ) (i : ℕ) {c d : ℕ} → c ≡ byte_at cs i → c ≡ 48 → d ≡ byte_at cs (i + 1) → prefix_base cs i ≡ zero_base d
unfolding prefix_base
prefix_base-zero cs i {c} e h f = rw (← e, eq-eqb c 48 h, ← f) refl

-- no base is above 16
cond_small : (t : Bool) {m n : ℕ} → m ≤ 16 → n ≤ 16 → cond t m n ≤ 16
cond_small true h k = h
cond_small false h k = k

letter_base-small : (c : ℕ) → letter_base c ≤ 16
unfolding letter_base
letter_base-small c =
    cond_small (one_of 88 120 c) (omega arith)
    (cond_small (one_of 68 100 c) (omega arith) (cond_small (one_of 79 111 c) (omega arith) (cond_small (one_of 66 98 c) (omega arith) (omega arith))))

zero_base-small : (c : ℕ) → zero_base c ≤ 16
unfolding zero_base
zero_base-small c = cond_small (one_of 88 120 c) (omega arith) (cond_small (one_of 66 98 c) (omega arith) (omega arith))

base-small : (cs : List ℕ) → base cs ≤ 16
unfolding base prefix_base
base-small cs =
    cond_small (is_hash cs) (letter_base-small (byte_at cs 1))
    (cond_small (eqb (byte_at cs (after_sign cs)) 48) (zero_base-small (byte_at cs (after_sign cs + 1))) (omega arith))

-- ---- the parts, from what the code has read

pub parts-hash : (cs : List ℕ) {letter sign b start : ℕ} → is_hash cs ≡ true → letter ≡ byte_at cs 1 → sign ≡ byte_at cs 2 → b ≡ letter_base letter
    → start ≡ cond (one_of 43 45 (byte_at cs 2)) (2 + 1) 2 → record { negative = eqb sign 45; base = b; start = start } ≡ parts cs
unfolding parts sign_at is_minus after_sign base digits_from
parts-hash cs h l s b a = rw (h, b, l, s, a) refl

pub parts-plain : (cs : List ℕ) {sign after b : ℕ} {ten : Bool} → is_hash cs ≡ false → sign ≡ byte_at cs 0
    → after ≡ cond (one_of 43 45 (byte_at cs 0)) (0 + 1) 0 → b ≡ prefix_base cs after → eqb b 10 ≡ ten
    → record { negative = eqb sign 45; base = b; start = cond ten after (after + 2) } ≡ parts cs
unfolding parts sign_at is_minus after_sign base digits_from
parts-plain cs h s a b t = rw (← t, b, a, s, h) refl

-- each of them
module _ (cs : List ℕ) {p : Parts} (e : p ≡ parts cs) where
  pub negative-is : p.negative ≡ is_minus cs
  unfolding parts
  negative-is = ap (λ (q : Parts). q.negative) e

  pub base-is : p.base ≡ base cs
  unfolding parts
  base-is = ap (λ (q : Parts). q.base) e

  pub start_is : p.start ≡ digits_from cs
  unfolding parts
  start_is = ap (λ (q : Parts). q.start) e

-- ---- whether they are an integer, and which

module _ (cs : List ℕ) {b start : ℕ} (f : b ≡ base cs) (s : start ≡ digits_from cs) where
  -- the bytes that the code looks at
  abbrev pub rest : List ℕ
  rest = take (length cs - start) (drop start cs)

  pub rest-is : rest ≡ drop (digits_from cs) cs
  rest-is = part_to_end cs start ∙ ap (λ (n : ℕ). drop n cs) s

  pub too_short : length cs ≤ start → is_integer cs ≡ false
  unfolding is_integer
  too_short h = rw (le-ltb (digits_from cs) (length cs) (subst (λ (n : ℕ). length cs ≤ n) s h)) refl

  digits_are : are_digits (base cs) (drop (digits_from cs) cs) ≡ are_digits b rest
  digits_are = cc (f, rest-is)

  module _ (h : start < length cs) where
    -- no byte may be another than a digit
    pub all_digits : is_integer cs ≡ are_digits b rest
    unfolding is_integer
    all_digits =
        sym (and_second (ltb (digits_from cs) (length cs)) (are_digits (base cs) (drop (digits_from cs) cs))
        (lt-ltb (digits_from cs) (length cs) (subst (λ (n : ℕ). n < length cs) s h)))
        ∙ digits_are

    -- there is a digit, so there is a base
    pub base-bounds : are_digits b rest ≡ true → (0 < b) × (b ≤ 16)
    base-bounds e =
        let d : digit (get_or rest 0 0) < b = digit_at b rest 0 e (omega (arith, ap length rest-is, length-drop (digits_from cs) cs, s, h)) in
        (omega arith, omega (arith, f, base-small cs))

module _ (cs : List ℕ) {negative : Bool} {b : ℕ} {ds : List ℕ} (w : IsNumeral cs negative b ds) where
  pub hex-is : is_hex cs ≡ eqb b 16
  unfolding is_hex
  hex-is = ap (λ (n : ℕ). eqb n 16) (sym w.base)

  pub digits-length : length ds ≡ length cs - digits_from cs
  digits-length = ap length w.digits ∙ length-drop (digits_from cs) cs

  pub integer-is : integer cs ≡ with_sign negative (numeral b ds)
  unfolding integer
  integer-is = cc (w.sign, w.base, w.digits)
