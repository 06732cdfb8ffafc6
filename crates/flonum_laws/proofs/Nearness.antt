-- fixnum->flonum answers a flonum than which none is closer, and at a tie the even one. Assumes nothing.
use Prim.Native.Nat.{ℕ, zero, suc, ◌+◌, ◌*◌, ◌%◌, ◌^◌, ◌-◌, ◌≤◌, ◌<◌}
use native.Mathlib.Nat.{lt_of_lt_of_le, mul-one}
use native.Mathlib.Omega.{arith}
use mathlib.Core.Path.{◌≡◌, refl, sym, ap, ap₂, ◌∙◌, subst}
use mathlib.Core.Logic.{◌⊎◌, inl, inr}
use mathlib.Core.Bool.{Bool, true, false, cond, beq, false≢true}
use lib.Dec.{T, lit<}
use lib.Pow.{pow_pos, pow_mono}
use lib.IntN.{ℤ, pos, negsuc, nat_abs}
use lib.Signed.{mag}
use lib.Ieee.{Float, nan, inf, fin, binary64, up, down, size, round, of_int, fits}
use lib.Ieee.Back.{round_whole}
use lib.Ieee.Exact.{HasValue}
use lib.Ieee.Fits.{down_pos, round-fits}
use lib.Ieee.Positive.{den}
use lib.Ieee.Scale.{finite}
use borrow.Author.Tests.{ltb-true}
use Rattle.bits.specs.Testbit as bits
use Rattle.bits.specs.Testbit.{is_negative}
use Rattle.words.specs.Sign.{with_sign}
use Rattle.outcomes.specs.Outcome.{done, guard, guard_at}
use Rattle.fxtable.specs.Domains.{is_width}
use Rattle.fxtable.proofs.CallLaws.{width-bounds}
use Rattle.flonum.specs.declared.answer.Answer.TheVariants.{Flonum}
use Rattle.flonum.specs.declared.answer.FlatAnswer.{FlatAnswer}
use Rattle.flonum.specs.Calls.{flat, flonum_answer, fixnum_to_flonum}
use Rattle.flonum.proofs.CallLaws.{converted}
use Rattle.flonum_laws.specs.Quotients.{negative, numerator, Representable, Equals}
use Rattle.flonum_laws.specs.Nearness.{distance, Nearest, to_flonum, NearnessStatement}
use Rattle.flonum_laws.proofs.Multiples.{apart}
use Rattle.flonum_laws.proofs.Grid.{digits, dropped, grid, scaled, few-digits, grid-nearest, grid-near, grid-even, round-value}
use Rattle.flonum_laws.proofs.EvenBits.{bits_of_value, one-flonum, last_bit}
use Rattle.flonum_laws.proofs.Distances.{gap, same_sign, sign-times, distance_is, gap-scaled, cross-le, cross-back, Scaled, scaled-of}

equal : (t s : Bool) → beq t s ≡ true → t ≡ s
equal true true h = refl
equal true false h = absurd (false≢true h)
equal false true h = absurd (false≢true h)
equal false false h = refl

zero-or-pos : (n : ℕ) → (n ≡ 0) ⊎ (0 < n)
zero-or-pos zero = inl refl
zero-or-pos (suc n) = inr (omega arith)

-- x is ±n rounded to 53 digits, and y any flonum: the distances in units of 2 ^ -1074
module _ (s : Bool) (n : ℕ) (m : ℕ) (e : ℤ) (value : m * up e * 2 ^ 1074 ≡ grid (scaled n) * down e) (t : Bool) (k : ℕ) (g : ℤ) (held : T (fits binary64 (fin t k g))) where
  abbrev y : Scaled (k * up g) (down g)
  y = scaled-of t k g held

  abbrev units : ℕ
  units = y.digits * 2 ^ y.scale

  x-scaled : distance (fin s m e) (with_sign s n) * 2 ^ 1074 ≡ apart (grid (scaled n)) (scaled n) * down e
  x-scaled =
      ap (λ (d : ℕ). d * 2 ^ 1074) (distance_is s s m e n)
      ∙ gap-scaled s s (m * up e) (down e) n (grid (scaled n)) (2 ^ 1074) value
      ∙ ap (λ (b : Bool). cond b (apart (grid (scaled n)) (scaled n)) (grid (scaled n) + scaled n) * down e) (same_sign s)

  y-scaled : distance (fin t k g) (with_sign s n) * 2 ^ 1074 ≡ gap t s units (scaled n) * down g
  y-scaled = ap (λ (d : ℕ). d * 2 ^ 1074) (distance_is t s k g n) ∙ gap-scaled t s (k * up g) (down g) n units (2 ^ 1074) y.is

  none-closer : apart (grid (scaled n)) (scaled n) ≤ gap t s units (scaled n)
  none-closer = go (beq t s)
    where
      from_zero : (g n u : ℕ) → apart g n ≤ apart (0 * 2 ^ 0) n → apart g n ≤ u + n
      from_zero g n u h = omega arith

      go : (b : Bool) → apart (grid (scaled n)) (scaled n) ≤ cond b (apart units (scaled n)) (units + scaled n)
      go true = grid-nearest (scaled n) y.digits y.scale y.few
      go false = from_zero (grid (scaled n)) (scaled n) units (grid-nearest (scaled n) 0 0 (lit< tt))

  pub closest-pair : distance (fin s m e) (with_sign s n) * down g ≤ distance (fin t k g) (with_sign s n) * down e
  closest-pair = cross-le _ _ (down e) (down g) _ _ (2 ^ 1074) x-scaled y-scaled (pow_pos 1074) none-closer

  -- a flonum of the other sign is as close only where n is 0
  across : (scaled n ≡ 0) ⊎ (0 < scaled n) → apart (grid (scaled n)) (scaled n) ≡ units + scaled n → digits (scaled n) % 2 ≡ 0
  across (inl z) h = subst (λ (x : ℕ). digits x % 2 ≡ 0) (sym z) (unfold size in refl)
  across (inr p) h = absurd (too_far (apart (grid (scaled n)) (scaled n)) units (scaled n) (grid-near (scaled n) p) h)
    where
      too_far : (d u n : ℕ) → d < n → d ≡ u + n → ⊥
      too_far d u n a b = omega arith

  even-digits : T (fits binary64 (fin s m e)) → (fin t k g ≡ fin s m e → ⊥) → apart (grid (scaled n)) (scaled n) ≡ gap t s units (scaled n) → digits (scaled n) % 2 ≡ 0
  even-digits h d = go t s held h d (beq t s) refl
    where
      go : (t s : Bool) → T (fits binary64 (fin t k g)) → T (fits binary64 (fin s m e)) → (fin t k g ≡ fin s m e → ⊥) → (b : Bool) → beq t s ≡ b
          → apart (grid (scaled n)) (scaled n) ≡ cond b (apart units (scaled n)) (units + scaled n) → digits (scaled n) % 2 ≡ 0
      go t s k' h d false b q = across (zero-or-pos (scaled n)) q
      go t s k' h d true b q = grid-even (scaled n) y.digits y.scale y.few q (λ p. d (one-flonum (fin t k g) (fin s m e) s (grid (scaled n)) k' h (equal t s b, y.is ∙ ap (λ (u : ℕ). u * down g) p) (refl, value)))

  pub even-pair : T (fits binary64 (fin s m e)) → (fin t k g ≡ fin s m e → ⊥) → distance (fin s m e) (with_sign s n) * down g ≡ distance (fin t k g) (with_sign s n) * down e → digits (scaled n) % 2 ≡ 0
  even-pair h d q = even-digits h d (cross-back _ _ (down e) (down g) _ _ (2 ^ 1074) x-scaled y-scaled (down_pos e) (down_pos g) q)

-- ---- x is nearest
finite-of-value : (x : Float) (s : Bool) (a c : ℕ) → HasValue x s a c → T (finite x)
finite-of-value nan s a c v = v
finite-of-value (inf t) s a c v = v
finite-of-value (fin t m e) s a c v = tt

module _ (s : Bool) (n : ℕ) where
  abbrev Rounded : Float → Type 0
  Rounded x = HasValue x s (grid (scaled n)) (2 ^ 1074)

  none-closer-to : (x y : Float) → Rounded x → Representable y → distance x (with_sign s n) * den y ≤ distance y (with_sign s n) * den x
  none-closer-to nan y v r = absurd v
  none-closer-to (inf t) y v r = absurd v
  none-closer-to (fin t m e) nan v r = absurd r.bounded
  none-closer-to (fin t m e) (inf u) v r = absurd r.bounded
  none-closer-to (fin t m e) (fin u k g) v r =
      subst (λ (b : Bool). distance (fin b m e) (with_sign s n) * down g ≤ distance (fin u k g) (with_sign s n) * down e) (sym v.0) (closest-pair s n m e v.1 u k g r.held)

  even-of : (x y : Float) → T (fits binary64 x) → Rounded x → Representable y → (y ≡ x → ⊥) → distance x (with_sign s n) * den y ≡ distance y (with_sign s n) * den x → digits (scaled n) % 2 ≡ 0
  even-of nan y h v r d q = absurd v
  even-of (inf t) y h v r d q = absurd v
  even-of (fin t m e) nan h v r d q = absurd r.bounded
  even-of (fin t m e) (inf u) h v r d q = absurd r.bounded
  even-of (fin t m e) (fin u k g) h v r d q =
      even-pair s n m e v.1 u k g r.held (subst (λ (b : Bool). T (fits binary64 (fin b m e))) v.0 h) (λ p. d (p ∙ ap (λ (b : Bool). fin b m e) (sym v.0)))
      (subst (λ (b : Bool). distance (fin b m e) (with_sign s n) * down g ≡ distance (fin u k g) (with_sign s n) * down e) v.0 q)

  nearest-of : (x : Float) → T (fits binary64 x) → Rounded x → Nearest (with_sign s n) x
  nearest-of x h v = record {
    representable = record { held = h; bounded = finite-of-value x s (grid (scaled n)) (2 ^ 1074) v };
    closest = λ y r. none-closer-to x y v r;
    even = λ y r d q. ap (λ (b : ℕ). b % 2) (bits_of_value x s (grid (scaled n)) v) ∙ last_bit (digits (scaled n)) (dropped (scaled n)) (few-digits (scaled n)) (even-of x y h v r d q) s;
  }

-- ---- an integer by its sign and magnitude
pub parts-of : (z : ℤ) → with_sign (is_negative z) (nat_abs z) ≡ z
unfolding with_sign is_negative
parts-of (pos n) = refl
parts-of (negsuc n) = refl

of_int_is : (z : ℤ) → of_int binary64 z ≡ round binary64 (is_negative z) (nat_abs z) 1
unfolding of_int is_negative
of_int_is (pos n) = refl
of_int_is (negsuc n) = refl

of_int-nearest : (z : ℤ) → nat_abs z < 2 ^ 64 → Nearest z (of_int binary64 z)
of_int-nearest z h =
    subst (λ (x : Float). Nearest z x) (sym (of_int_is z))
    (subst (λ (k : ℤ). Nearest k (round binary64 (is_negative z) (nat_abs z) 1)) (parts-of z)
    (nearest-of (is_negative z) (nat_abs z) (round binary64 (is_negative z) (nat_abs z) 1) (round-fits binary64 (is_negative z) (nat_abs z) 1) (round-value (is_negative z) (nat_abs z) h)))

-- ---- sign and value of a flonum with a whole value
pub negative_of : (x : Float) (s : Bool) (a c : ℕ) → HasValue x s a c → negative x ≡ s
unfolding negative
negative_of nan s a c v = absurd v
negative_of (inf t) s a c v = absurd v
negative_of (fin t m e) s a c v = v.0

pub equals-of : (x : Float) (s : Bool) (a : ℕ) → HasValue x s a 1 → Equals x (with_sign s a)
equals-of nan s a v = absurd v
equals-of (inf t) s a v = absurd v
equals-of (fin t m e) s a v = record {
  bounded = tt;
  exact = unfold numerator negative in ap₂ with_sign v.0 (sym (mul-one (m * up e)) ∙ v.1) ∙ sym (sign-times s a (down e));
}

-- ---- calls
above_zero : (k : ℕ) → suc k ≡ 0 → ⊥
above_zero k h = omega arith

module _ (w : ℕ) (n : ℤ) where
  abbrev staged : Bool → Bool → FlatAnswer
  staged a b = flat (flonum_answer (guard a 1 (guard b 4 (done (of_int binary64 n)))))

  refusal_is : (to_flonum w n).refusal ≡ cond (is_width w) (cond (bits.fits w n) 0 4) 1
  unfolding to_flonum fixnum_to_flonum flonum_answer guard guard_at flat
  refusal_is = go (is_width w) (bits.fits w n)
    where
      go : (a b : Bool) → (staged a b).refusal ≡ cond a (cond b 0 4) 1
      go true true = refl
      go true false = refl
      go false b = refl

  -- a call that is done has passed both tests
  passes : (to_flonum w n).refusal ≡ 0 → (is_width w ≡ true) × (bits.fits w n ≡ true)
  passes h = go (is_width w) (bits.fits w n) (sym refusal_is ∙ h)
    where
      go : (a b : Bool) → cond {A = ℕ} a (cond b 0 4) 1 ≡ 0 → (a ≡ true) × (b ≡ true)
      go true true h = (refl, refl)
      go true false h = absurd (above_zero 3 h)
      go false b h = absurd (above_zero 0 h)

  answer-is : (to_flonum w n).refusal ≡ 0 → to_flonum w n ≡ flat (Flonum (of_int binary64 n))
  unfolding to_flonum
  answer-is h = let p = passes h in sym (ap flat (converted w n p.0 p.1))

  flonum-is : (to_flonum w n).refusal ≡ 0 → of_int binary64 n ≡ (to_flonum w n).flonum
  unfolding flat
  flonum-is h = sym (ap (λ (a : FlatAnswer). a.flonum) (answer-is h))

  abs-under : (to_flonum w n).refusal ≡ 0 → nat_abs n < 2 ^ 64
  unfolding bits.fits
  abs-under h =
      let b = width-bounds w (passes h).0 in
      let l : mag n < 2 ^ (w - 1) = ltb-true (mag n) (2 ^ (w - 1)) (passes h).1 in
      let m : 2 ^ (w - 1) ≤ 2 ^ 63 = pow_mono {i = w - 1} {j = 63} (omega arith) in
      go n (lt_of_lt_of_le l m)
    where
      go : (z : ℤ) → mag z < 2 ^ 63 → nat_abs z < 2 ^ 64
      go (pos k) l = omega arith
      go (negsuc k) l = omega arith

  nearest-is : (to_flonum w n).refusal ≡ 0 → Nearest n (to_flonum w n).flonum
  nearest-is h = subst (Nearest n) (flonum-is h) (of_int-nearest n (abs-under h))

  sign-is : (to_flonum w n).refusal ≡ 0 → negative (to_flonum w n).flonum ≡ is_negative n
  sign-is h = ap negative (sym (flonum-is h) ∙ of_int_is n) ∙ negative_of (round binary64 (is_negative n) (nat_abs n) 1) (is_negative n) (grid (scaled (nat_abs n))) (2 ^ 1074) (round-value (is_negative n) (nat_abs n) (abs-under h))

  exact-is : (to_flonum w n).refusal ≡ 0 → nat_abs n ≤ 2 ^ 53 → Equals (to_flonum w n).flonum n
  exact-is h l =
      subst (λ (x : Float). Equals x n) (sym (of_int_is n) ∙ flonum-is h)
      (subst (Equals (round binary64 (is_negative n) (nat_abs n) 1)) (parts-of n) (equals-of (round binary64 (is_negative n) (nat_abs n) 1) (is_negative n) (nat_abs n) (round_whole binary64 (is_negative n) (nat_abs n) l)))

pub nearest-flonum : NearnessStatement
nearest-flonum = record {
  refusal = refusal_is;
  nearest = nearest-is;
  sign = sign-is;
  exact = exact-is;
  widths = λ v w n h k. answer-is v n h ∙ sym (answer-is w n k);
}
