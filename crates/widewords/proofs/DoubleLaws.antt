-- Integers of two words that wrap: a sum and a difference by words, with the carry and the borrow. Assumes nothing.
use Rattle.std.proofs.Common.{◌≡◌, ℕ, suc, ◌+◌, ◌-◌, ◌*◌, ◌/◌, ◌%◌, ◌^◌, ◌<◌, ◌≤◌, Bool, true, false, ltb, ℤ, pos, negsuc, ◌+ℤ◌, ◌-ℤ◌, sym, refl, ap, ◌∙◌, ap₂, true≢false, le_refl, lt_of_lt_of_le, mod-eq_of_lt, mul-le-mul, arith, pow_pos, pow_mono, ltb-false, ltb-true}
use lib.Arith.{digits_mod}
use lib.Signed.{mag}
use mir.Val.{bool_byte}
use Rattle.bits.specs.Testbit.{is_negative}
use Rattle.bits.specs.Division.{mod_ℕ}
use Rattle.bits.proofs.IntegerLaws.{pos-sub-ge}
use Rattle.widewords.specs.Double.{double_word}
use Rattle.bits.proofs.ModLaws.{mod_ℕ-small, mod_ℕ-add-l, mod_ℕ-add-r, mod_ℕ-sub-l, mod_ℕ-sub-r}

-- ---- words in base b, whatever b is

below-square : (b high low : ℕ) → high < b → low < b → high * b + low < b * b
below-square b high low h l = let k : suc high * b ≤ b * b = mul-le-mul h (le_refl b) in omega arith

-- with a carry c of the low words and one k of the high words, which is lost
carried : (b h₁ l₁ h₂ l₂ c k high low : ℕ) → l₁ + l₂ ≡ c * b + low → h₁ + h₂ + c ≡ k * b + high
    → h₁ * b + l₁ + (h₂ * b + l₂) ≡ k * (b * b) + (high * b + low)
carried b h₁ l₁ h₂ l₂ c k high low p q =
    let s : h₁ * b + l₁ + (h₂ * b + l₂) ≡ (h₁ + h₂) * b + (l₁ + l₂) = omega arith in
    let t : (h₁ + h₂) * b + (c * b + low) ≡ (h₁ + h₂ + c) * b + low = omega arith in
    let u : (k * b + high) * b + low ≡ k * (b * b) + (high * b + low) = omega arith in
    s ∙ ap (λ (n : ℕ). (h₁ + h₂) * b + n) p ∙ t ∙ ap (λ (n : ℕ). n * b + low) q ∙ u

sum-mod : (b h₁ l₁ h₂ l₂ c k high low : ℕ) → l₁ + l₂ ≡ c * b + low → h₁ + h₂ + c ≡ k * b + high → high < b → low < b
    → high * b + low ≡ (h₁ * b + l₁ + (h₂ * b + l₂)) % (b * b)
sum-mod b h₁ l₁ h₂ l₂ c k high low p q h l =
    sym (ap (λ (n : ℕ). n % (b * b)) (carried b h₁ l₁ h₂ l₂ c k high low p q) ∙ digits_mod k (below-square b high low h l))

-- ---- the carry

pub carry-word : (sum term other : ℕ) (t : Bool) → term < 2 ^ 64 → other < 2 ^ 64 → sum ≡ (term + other) % 2 ^ 64 → ltb sum term ≡ t
    → term + other ≡ bool_byte t * 2 ^ 64 + sum
carry-word sum term other true h k e t = let l = ltb-true sum term t in omega arith
carry-word sum term other false h k e t = let l = ltb-false sum term t in omega arith

high_sum : (m n c high : ℕ) → high ≡ ((m + n) % 2 ^ 64 + c) % 2 ^ 64 → m + n + c ≡ (m + n + c) / 2 ^ 64 * 2 ^ 64 + high
high_sum m n c high e = omega arith

pub sum-words : (h₁ l₁ h₂ l₂ c high low : ℕ) → l₁ + l₂ ≡ c * 2 ^ 64 + low → high ≡ ((h₁ + h₂) % 2 ^ 64 + c) % 2 ^ 64 → high < 2 ^ 64 → low < 2 ^ 64
    → high * 2 ^ 64 + low ≡ (h₁ * 2 ^ 64 + l₁ + (h₂ * 2 ^ 64 + l₂)) % 2 ^ 128
sum-words h₁ l₁ h₂ l₂ c high low e f h l = sum-mod (2 ^ 64) h₁ l₁ h₂ l₂ c _ high low e (high_sum h₁ h₂ c high f) h l

-- ---- the borrow: the difference is what, with the second number, wraps to the first

borrow-word : (l₁ l₂ low : ℕ) (t : Bool) → l₁ < 2 ^ 64 → l₂ < 2 ^ 64 → low < 2 ^ 64 → (low + l₂) % 2 ^ 64 ≡ l₁ → ltb l₁ l₂ ≡ t → low + l₂ ≡ bool_byte t * 2 ^ 64 + l₁
borrow-word l₁ l₂ low true h k l e t = let d = ltb-true l₁ l₂ t in omega arith
borrow-word l₁ l₂ low false h k l e t = let d = ltb-false l₁ l₂ t in omega arith

high-back : (m h₁ h₂ c high : ℕ) → (m + h₂) % 2 ^ 64 ≡ h₁ → (high + c) % 2 ^ 64 ≡ m → high + h₂ + c ≡ (high + h₂ + c) / 2 ^ 64 * 2 ^ 64 + h₁
high-back m h₁ h₂ c high e f = omega arith

difference-back : (h₁ l₁ h₂ l₂ m high low : ℕ) → h₁ < 2 ^ 64 → l₁ < 2 ^ 64 → l₂ < 2 ^ 64 → low < 2 ^ 64 → (low + l₂) % 2 ^ 64 ≡ l₁
    → (m + h₂) % 2 ^ 64 ≡ h₁ → (high + bool_byte (ltb l₁ l₂)) % 2 ^ 64 ≡ m
    → h₁ * 2 ^ 64 + l₁ ≡ (high * 2 ^ 64 + low + (h₂ * 2 ^ 64 + l₂)) % 2 ^ 128
difference-back h₁ l₁ h₂ l₂ m high low p q r l e f g =
    sum-mod (2 ^ 64) high low h₂ l₂ (bool_byte (ltb l₁ l₂)) _ h₁ l₁ (borrow-word l₁ l₂ low (ltb l₁ l₂) q r l e refl) (high-back m h₁ h₂ _ high f g) p q

-- ---- integers, of which words hold what they are modulo 2^128

pub modulo : {x y : ℤ} → x ≡ y → mod_ℕ x (2 ^ 128) ≡ mod_ℕ y (2 ^ 128)
modulo e = ap (λ (z : ℤ). mod_ℕ z (2 ^ 128)) e

module _ (x y : ℤ) {d e : ℕ} (p : d ≡ mod_ℕ x (2 ^ 128)) (q : e ≡ mod_ℕ y (2 ^ 128)) where
  pub sum-modulo : mod_ℕ (pos d +ℤ pos e) (2 ^ 128) ≡ mod_ℕ (x +ℤ y) (2 ^ 128)
  sum-modulo =
      ap₂ (λ (a b : ℕ). mod_ℕ (pos a +ℤ pos b) (2 ^ 128)) p q
      ∙ mod_ℕ-add-l x (pos (mod_ℕ y (2 ^ 128))) (2 ^ 128) (pow_pos 128)
      ∙ mod_ℕ-add-r x y (2 ^ 128) (pow_pos 128)

  pub difference-modulo : mod_ℕ (pos d -ℤ pos e) (2 ^ 128) ≡ mod_ℕ (x -ℤ y) (2 ^ 128)
  difference-modulo =
      ap₂ (λ (a b : ℕ). mod_ℕ (pos a -ℤ pos b) (2 ^ 128)) p q
      ∙ mod_ℕ-sub-l x (pos (mod_ℕ y (2 ^ 128))) (2 ^ 128) (pow_pos 128)
      ∙ mod_ℕ-sub-r x y (2 ^ 128) (pow_pos 128)

-- r + e wraps to d
undo : (m : ℕ) (r d e : ℕ) → 0 < m → r < m → d ≡ (r + e) % m → r ≡ mod_ℕ (pos d -ℤ pos e) m
unfolding mod_ℕ
undo m r d e h l p =
    let k : r + e - e ≡ r = omega arith in
    sym (ap (λ (n : ℕ). mod_ℕ (pos n -ℤ pos e) m) p
    ∙ mod_ℕ-sub-l (pos (r + e)) (pos e) m h
    ∙ ap (λ (z : ℤ). mod_ℕ z m) (pos-sub-ge (r + e) e (omega arith) ∙ ap pos k)
    ∙ mod_ℕ-small r m l)

pub difference-words : (h₁ l₁ h₂ l₂ m high low : ℕ) → h₁ < 2 ^ 64 → l₁ < 2 ^ 64 → l₂ < 2 ^ 64 → high < 2 ^ 64 → low < 2 ^ 64 → (low + l₂) % 2 ^ 64 ≡ l₁
    → (m + h₂) % 2 ^ 64 ≡ h₁ → (high + bool_byte (ltb l₁ l₂)) % 2 ^ 64 ≡ m
    → high * 2 ^ 64 + low ≡ mod_ℕ (pos (h₁ * 2 ^ 64 + l₁) -ℤ pos (h₂ * 2 ^ 64 + l₂)) (2 ^ 128)
difference-words h₁ l₁ h₂ l₂ m high low p q r h l e f g =
    undo (2 ^ 128) (high * 2 ^ 64 + low) _ (h₂ * 2 ^ 64 + l₂) (pow_pos 128) (below-square (2 ^ 64) high low h l) (difference-back h₁ l₁ h₂ l₂ m high low p q r l e f g)

pub low-alone : (n : ℕ) → double_word (record { high = 0; low = n }) ≡ n
unfolding double_word
low-alone n = omega arith

pub double-small : (high low : ℕ) → high < 2 ^ 64 → low < 2 ^ 64 → mod_ℕ (pos (high * 2 ^ 64 + low)) (2 ^ 128) ≡ high * 2 ^ 64 + low
double-small high low h l = mod_ℕ-small (high * 2 ^ 64 + low) (2 ^ 128) (below-square (2 ^ 64) high low h l)

-- ---- a word, with its sign in the high word

-- with b - 1 for b
word-complement : (a n : ℕ) → n ≤ a → a * suc a + (a - n) ≡ suc a * suc a - suc n
word-complement a n h = omega arith

below : (n : ℕ) → n < 2 ^ 63 → n % 2 ^ 128 ≡ n
below n h = mod-eq_of_lt (lt_of_lt_of_le h (pow_mono {i = 63} {j = 128} (omega arith)))

pub word-negative : (x : ℤ) {m : ℕ} → is_negative x ≡ true → m ≡ mag x → mag x < 2 ^ 63 → 18446744073709551615 * 2 ^ 64 + (18446744073709551615 - m) ≡ mod_ℕ x (2 ^ 128)
unfolding mod_ℕ is_negative
word-negative (pos n) t e h = absurd (true≢false (sym t))
word-negative (negsuc n) t e h =
    ap (λ (k : ℕ). 18446744073709551615 * 2 ^ 64 + (18446744073709551615 - k)) e
    ∙ word-complement 18446744073709551615 n (omega arith)
    ∙ sym (ap (λ (k : ℕ). 2 ^ 128 - suc k) (below n h))

pub word-nonnegative : (x : ℤ) {m : ℕ} → is_negative x ≡ false → m ≡ mag x → mag x < 2 ^ 63 → 0 * 2 ^ 64 + m ≡ mod_ℕ x (2 ^ 128)
unfolding mod_ℕ is_negative
word-nonnegative (pos n) {m} t e h = let z : 0 * 2 ^ 64 + m ≡ m = omega arith in z ∙ e ∙ sym (below n h)
word-nonnegative (negsuc n) t e h = absurd (true≢false t)
