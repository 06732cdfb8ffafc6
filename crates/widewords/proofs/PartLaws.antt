-- The parts of an integer at a width, from its words modulo 2^128: what a word says as a signed number, and that the words say enough.
-- Assumes nothing.
use Rattle.std.proofs.Common.{◌≡◌, ℕ, suc, ◌+◌, ◌-◌, ◌*◌, ◌/◌, ◌%◌, ◌^◌, ◌<◌, ◌≤◌, true, ℤ, pos, negsuc, ◌+ℤ◌, nat_abs, sym, ap, ◌∙◌, subst, ap₂, mod-lt, arith, lit<, pow_pos, pow-add, shr-shr, shr_lt}
use lib.Arith.{digits_div}
use lib.Pow.{split, high, low, mod-pow-add}
use Rattle.bits.specs.Testbit.{testbit, fits}
use Rattle.bits.specs.Division.{mod_ℕ, «mod», div0, mod0}
use Rattle.bits.proofs.FitsLaws.{double, holds}
use Rattle.bits.proofs.IntegerLaws.{pos-sub-lt}
use Rattle.bits.proofs.DivisionLaws.{div0-mod0-low, div0-mod0-high}
use Rattle.bits.proofs.ModLaws.{mod_ℕ-add-l}
use Rattle.bits.proofs.ValueLaws.{mod0-pow-bits, mod0-pow-same, testbit-div0-pow}
use Rattle.words.proofs.FieldWords.{testbit-mod_ℕ-lt, testbit-mod-lt, testbit-div}
use Rattle.widewords.specs.declared.double.Double.{Double}
use Rattle.widewords.specs.Double.{double_word}

-- ---- the low bits of a word as a signed number, from a mask of ones

module _ (w n bits ones : ℕ) (h : 0 < w) (e : bits ≡ n % 2 ^ w) (o : ones + 1 ≡ 2 ^ w) where
  pub signed_low : bits ≤ ones / 2 → pos bits ≡ mod0 (pos n) (pos (2 ^ w))
  unfolding mod_ℕ «mod»
  signed_low l = ap pos e ∙ sym (div0-mod0-low (pos n) (pos (2 ^ w)) (omega (arith, double w h))).1

  pub signed_high : ones / 2 < bits → negsuc (ones - bits) ≡ mod0 (pos n) (pos (2 ^ w))
  unfolding mod_ℕ «mod»
  signed_high l =
      let s : ones - bits ≡ 2 ^ w - suc (n % 2 ^ w) = omega arith in
      ap negsuc s
      ∙ sym ((div0-mod0-high (pos n) (pos (2 ^ w)) (λ z. omega (arith, ap (λ (x : ℤ). nat_abs x) z, pow_pos w)) (omega (arith, double w h))).1
      ∙ pos-sub-lt (n % 2 ^ w) (2 ^ w) (mod-lt n (pow_pos w)))

-- ---- the quotient of two words by 2^w, as a word

module _ (w : ℕ) (s : Double) (p : 1 ≤ w) (h : w ≤ 64) where
  abbrev k : ℕ
  k = 64 - w

  -- the high word moved up loses its highest bits, and leaves room for k more below
  moved : (lo : ℕ) → lo < 2 ^ k → (s.high * 2 ^ k + lo) % 2 ^ 64 ≡ (s.high % 2 ^ w) * 2 ^ k + lo
  moved lo l =
      let e : 64 ≡ w + k = omega arith in
      let n = s.high * 2 ^ k + lo in
      ap (λ (j : ℕ). n % 2 ^ j) e
      ∙ mod-pow-add n w k
      ∙ ap₂ (λ (a b : ℕ). (a % 2 ^ w) * 2 ^ k + b) (high s.high k l) (low s.high k l)

  regroup : (a m q r : ℕ) → s.high * (a * m) + (q * m + r) ≡ (s.high * a + q) * m + r
  regroup a m q r = omega arith

  digits : double_word s ≡ (s.high * 2 ^ k + s.low / 2 ^ w) * 2 ^ w + s.low % 2 ^ w
  unfolding double_word
  digits =
      let e : k + w ≡ 64 = omega arith in
      let d : 2 ^ 64 ≡ 2 ^ k * 2 ^ w = ap (λ (j : ℕ). 2 ^ j) (sym e) ∙ pow-add 2 k w in
      ap (λ (m : ℕ). s.high * m + s.low) d
      ∙ ap (λ (m : ℕ). s.high * (2 ^ k * 2 ^ w) + m) (sym (split s.low w))
      ∙ regroup (2 ^ k) (2 ^ w) (s.low / 2 ^ w) (s.low % 2 ^ w)

  -- the low word is moved down in two steps, of which none is by 64
  pub quotient-word : s.low < 2 ^ 64 → s.high * 2 ^ k % 2 ^ 64 + s.low / 2 / 2 ^ (w - 1) ≡ double_word s / 2 ^ w % 2 ^ 64
  quotient-word l =
      let e : 64 ≡ k + w = omega arith in
      let one : 1 + (w - 1) ≡ w = omega arith in
      let z : s.high * 2 ^ k ≡ s.high * 2 ^ k + 0 = omega arith in
      let q = s.low / 2 ^ w in
      let zero : (s.high % 2 ^ w) * 2 ^ k + 0 + q ≡ (s.high % 2 ^ w) * 2 ^ k + q = omega arith in
      ap₂ (λ (m n : ℕ). m + n) (ap (λ (m : ℕ). m % 2 ^ 64) z ∙ moved 0 (pow_pos k)) (shr-shr s.low 1 (w - 1) ∙ ap (λ (j : ℕ). s.low / 2 ^ j) one)
      ∙ zero
      ∙ sym (ap (λ (m : ℕ). m / 2 ^ w % 2 ^ 64) digits
      ∙ ap (λ (m : ℕ). m % 2 ^ 64) (digits_div (s.high * 2 ^ k + q) (mod-lt s.low (pow_pos w)))
      ∙ moved q (shr_lt k w (subst (λ (j : ℕ). s.low < 2 ^ j) e l)))

-- ---- the words say both parts

module _ (w : ℕ) (p : 1 ≤ w) (h : w ≤ 64) where
  -- of two words s: the low part by the low word, and the high part by the quotient q of t, which is s and half of 2^w
  pub low_word : (s : Double) → s.low < 2 ^ 64 → mod0 (pos s.low) (pos (2 ^ w)) ≡ mod0 (pos (double_word s)) (pos (2 ^ w))
  unfolding double_word
  low_word s l = mod0-pow-bits w _ _ p (λ i k.
      ap (λ (n : ℕ). testbit (pos n) i) (sym (low s.high 64 l)) ∙ testbit-mod-lt (s.high * 2 ^ 64 + s.low) 64 i (omega arith))

  pub high_word : (n t q half : ℕ) → half ≡ 2 ^ (w - 1) → t ≡ mod_ℕ (pos n +ℤ pos half) (2 ^ 128) → q ≡ t / 2 ^ w % 2 ^ 64
      → mod0 (pos q) (pos (2 ^ 64)) ≡ mod0 (div0 (pos n) (pos (2 ^ w))) (pos (2 ^ 64))
  high_word n t q half a b c =
      let e : half ≡ 2 ^ w / 2 = omega (arith, double w p) in
      mod0-pow-bits 64 _ _ (lit< tt) (λ i k.
      ap (λ (m : ℕ). testbit (pos m) i) c
      ∙ testbit-mod-lt (t / 2 ^ w) 64 i k
      ∙ testbit-div t w i
      ∙ ap (λ (m : ℕ). testbit (pos m) (w + i)) b
      ∙ testbit-mod_ℕ-lt (pos n +ℤ pos half) 128 (w + i) (omega arith)
      ∙ ap (λ (m : ℕ). testbit (pos n +ℤ pos m) (w + i)) e
      ∙ sym (testbit-div0-pow w (pos n) i))

  -- of an integer s
  pub low-exact : (s : ℤ) → mod0 (pos (mod_ℕ s (2 ^ 128))) (pos (2 ^ w)) ≡ mod0 s (pos (2 ^ w))
  low-exact s = mod0-pow-bits w _ _ p (λ i k. testbit-mod_ℕ-lt s 128 i (omega arith))

  pub high-exact : (s : ℤ) → fits 64 (div0 s (pos (2 ^ w))) ≡ true
      → mod0 (div0 (pos (mod_ℕ s (2 ^ 128))) (pos (2 ^ w))) (pos (2 ^ 64)) ≡ div0 s (pos (2 ^ w))
  high-exact s f =
      mod0-pow-bits 64 _ _ (lit< tt) (λ i k.
      let l : w + i < 128 = omega arith in
      let half = pos (2 ^ w / 2) in
      testbit-div0-pow w (pos (mod_ℕ s (2 ^ 128))) i
      ∙ sym (testbit-mod_ℕ-lt (pos (mod_ℕ s (2 ^ 128)) +ℤ half) 128 (w + i) l)
      ∙ ap (λ (n : ℕ). testbit (pos n) (w + i)) (mod_ℕ-add-l s half (2 ^ 128) (pow_pos 128))
      ∙ testbit-mod_ℕ-lt (s +ℤ half) 128 (w + i) l
      ∙ sym (testbit-div0-pow w s i))
      ∙ mod0-pow-same 64 (div0 s (pos (2 ^ w))) (lit< tt) (holds f)
