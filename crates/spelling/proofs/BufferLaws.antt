-- A text put at the start of a buffer: bytes in front and a text in the part after them, and the answer of spelling. Assumes nothing.
use Prim.Native.Nat.{ℕ, ◌+◌, ◌*◌, ◌-◌, ◌^◌, ◌≤◌, ◌<◌}
use native.Mathlib.Omega.{arith}
use mathlib.Core.Path.{◌≡◌, refl, sym, ap, ap₂, ◌∙◌}
use mathlib.Core.Bool.{Bool, true, false, cond, not, ◌&&◌}
use mathlib.Core.List.{List, [], ◌∷◌, ◌++◌, append-nil, append_assoc}
use lib.Dec.{leb, ltb}
use lib.IntN.{neg_ℤ, nat_abs}
use lib.ListN.{length, take, drop, get_or, length-drop, length-append, drop_of_length-le}
use lib.Seq.{take-append_seam, drop-append_seam, drop-drop, sets, sets-eq}
use borrow.Author.Tests.{lt-ltb, le-ltb, le-leb, ltb-true, leb-true}
use borrow.Author.Rules.{part_to_end}
use borrow.Rule.Slice.PartMut.{put_mid}
use Rattle.bits.specs.Testbit.{is_negative}
use Rattle.outcomes.specs.Outcome.{Outcome, done}
use Rattle.outcomes.specs.Buffer.{laid, afterwards, count_of}
use Rattle.outcomes.proofs.OutcomeLaws.{passed, failed}
use Rattle.limbwords.specs.Value.{value, limbs_of}
use Rattle.limbwords.proofs.LimbLaws.{sign-last}
use Rattle.spelling.specs.Spellings.{digits, hex_length, spelled, has_capacity, spelling, Spells}
use Rattle.text.specs.Naturals.{natural}
use Rattle.spelling.proofs.NaturalLaws.{natural-nonnegative, natural-negative}
use Rattle.spelling.proofs.DigitLaws.{length_digits}

-- ---- bytes put in front, and the part after them lent and come back

abbrev pub headed : List ℕ → List ℕ → List ℕ
headed out front = sets out 0 front

module _ (out front : List ℕ) (h : length front ≤ length out) where
  headed-is : headed out front ≡ front ++ drop (length front) out
  headed-is =
      let e : 0 + length front ≡ length front = omega arith in
      sets-eq front out 0 (omega arith) ∙ ap (λ (i : ℕ). front ++ drop i out) e

  part-is : take (length (headed out front) - length front) (drop (length front) (headed out front)) ≡ drop (length front) out
  part-is =
      part_to_end (headed out front) (length front)
      ∙ ap (drop (length front)) headed-is
      ∙ drop-append_seam front (drop (length front) out)

  pub part_length : length (take (length (headed out front) - length front) (drop (length front) (headed out front))) ≡ length out - length front
  part_length = ap length part-is ∙ length-drop (length front) out

  -- it came back with a text at its start
  pub part-back : (part text : List ℕ) (k : ℕ)
      → part ≡ text ++ drop k (take (length (headed out front) - length front) (drop (length front) (headed out front)))
      → put_mid (length front) (length (headed out front) - length front) (headed out front) part ≡ front ++ (text ++ drop (k + length front) out)
  part-back part text k e =
      let n = length front in
      let new = headed out front in
      let swap : n + k ≡ k + n = omega arith in
      ap₂ (λ (head tail : List ℕ). head ++ (part ++ tail))
      (ap (take n) headed-is ∙ take-append_seam front (drop n out))
      (drop_of_length-le (drop n new) {i = length new - n} (omega (arith, length-drop n new)))
      ∙ ap (λ (l : List ℕ). front ++ l)
      (append-nil part
      ∙ e
      ∙ ap (λ (l : List ℕ). text ++ drop k l) part-is
      ∙ ap (λ (l : List ℕ). text ++ l) (drop-drop k n out ∙ ap (λ (i : ℕ). drop i out) swap))

-- ---- the answer

abbrev pub dash : Bool → List ℕ
dash negative = cond negative (45 ∷ []) []

abbrev pub hexadecimal : ℕ → List ℕ
hexadecimal n = 48 ∷ 120 ∷ digits 16 (hex_length n) n

module _ (xs out : List ℕ) where
  has-capacity : 0 < length xs → 8 * length xs + 3 ≤ length out → has_capacity xs out ≡ true
  unfolding has_capacity
  has-capacity h l = ap₂ ◌&&◌ (lt-ltb 0 (length xs) h) (le-leb (8 * length xs + 3) (length out) l)

  no-capacity : (0 < length xs → 8 * length xs + 3 ≤ length out → ⊥) → has_capacity xs out ≡ false
  unfolding has_capacity
  no-capacity h = go (ltb 0 (length xs)) (leb (8 * length xs + 3) (length out)) refl refl
    where
      go : (b c : Bool) → ltb 0 (length xs) ≡ b → leb (8 * length xs + 3) (length out) ≡ c → (b && c) ≡ false
      go true true p q = absurd (h (ltb-true 0 (length xs) p) (leb-true (8 * length xs + 3) (length out) q))
      go true false p q = refl
      go false c p q = refl

  pub spells-none : (0 < length xs → 8 * length xs + 3 ≤ length out → ⊥) → Spells xs out 0 out
  unfolding spelling count_of afterwards
  spells-none h = let e = failed 8 (done (spelled (value xs))) (no-capacity h) in record { count = rw e refl; buffer = rw e refl }

  -- 0x and the digits of n, the absolute value, after a sign or none
  module _ (negative : Bool) (n r : ℕ) (out' : List ℕ) where
    spells : 0 < length xs → 8 * length xs + 3 ≤ length out → is_negative (value xs) ≡ negative → n ≡ nat_abs (value xs)
        → r ≡ length (dash negative) + (hex_length n + 2)
        → out' ≡ dash negative ++ (hexadecimal n ++ drop r out)
        → Spells xs out r out'
    unfolding spelling spelled count_of afterwards laid
    spells h l signed absolute counted put = record {
      count = long ∙ sym (ap count_of is-spelling);
      buffer =
          put
          ∙ sym (append_assoc (dash negative) (hexadecimal n) (drop r out))
          ∙ ap (λ (k : ℕ). text ++ drop k out) from_start
          ∙ sym (ap (λ (o : Outcome (List ℕ)). afterwards o out 0) is-spelling);
    }
      where
        text : List ℕ
        text = dash negative ++ hexadecimal n

        is-spelling : spelling xs out ≡ done text
        is-spelling =
            passed 8 (done (spelled (value xs))) (has-capacity h l)
            ∙ ap₂ (λ (s : Bool) (m : ℕ). done (dash s ++ hexadecimal m)) signed (sym absolute)

        long : r ≡ length text
        long = omega (arith, counted, length-append (dash negative) (hexadecimal n), length_digits 16 (hex_length n) n)

        from_start : r ≡ 0 + length text
        from_start = omega (arith, long)

-- ---- by the last limb

module _ (xs out : List ℕ) (b : (i : ℕ) → get_or xs i 0 < 2 ^ 32) (h : 0 < length xs) (l : 8 * length xs + 3 ≤ length out) where
  -- no sign
  pub spells-nonnegative : (r : ℕ) (out' : List ℕ) → get_or xs (length xs - 1) 0 < 0x80000000
      → r ≡ hex_length (natural xs) + 2
      → out' ≡ hexadecimal (natural xs) ++ drop r out
      → Spells xs out r out'
  spells-nonnegative r out' last counted put = spells xs out false (natural xs) r out' h l sign (natural-nonnegative xs b h sign) (omega arith) put
    where
      sign : is_negative (value xs) ≡ false
      sign = sign-last xs b h ∙ ap not (lt-ltb (get_or xs (length xs - 1) 0) 0x80000000 last)

  -- a sign, and the limbs of the negation after it
  pub spells-negative : (ys : List ℕ) (r : ℕ) (part : List ℕ) → 0x80000000 ≤ get_or xs (length xs - 1) 0
      → ys ≡ limbs_of (length xs) (neg_ℤ (value xs))
      → r ≡ hex_length (natural ys) + 2
      → part ≡ hexadecimal (natural ys) ++ drop r (take (length (headed out (45 ∷ [])) - 1) (drop 1 (headed out (45 ∷ []))))
      → Spells xs out (r + 1) (put_mid 1 (length (headed out (45 ∷ [])) - 1) (headed out (45 ∷ [])) part)
  spells-negative ys r part last negated counted put =
      spells xs out true (natural ys) (r + 1) (put_mid 1 (length (headed out (45 ∷ [])) - 1) (headed out (45 ∷ [])) part) h l sign
      (ap natural negated ∙ natural-negative xs h sign)
      (omega arith)
      (part-back out (45 ∷ []) (omega arith) part (hexadecimal (natural ys)) r put)
    where
      sign : is_negative (value xs) ≡ true
      sign = sign-last xs b h ∙ ap not (le-ltb (get_or xs (length xs - 1) 0) 0x80000000 last)
