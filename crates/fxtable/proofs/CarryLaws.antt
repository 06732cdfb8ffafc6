-- The two parts of an integer at a width, as codes 22 to 24 answer them: they make it, the second is 0 exactly where it is a fixnum, and those
-- of a sum, a difference and a product of three fixnums are fixnums. Assumes nothing.
use Prim.Native.Nat.{ℕ, ◌+◌, ◌*◌, ◌-◌, ◌≤◌, ◌<◌, ◌^◌}
use native.Mathlib.Nat.{le-suc, le_refl, mul-le-mul}
use native.Mathlib.Omega.{arith}
use mathlib.Core.Path.{◌≡◌, sym, ap, ◌∙◌, subst}
use mathlib.Core.Bool.{true}
use lib.IntN.{ℤ, pos, negsuc, nat_abs, ◌+ℤ◌, ◌-ℤ◌, ◌*ℤ◌, +ℤ_idl, zero-*ℤ}
use lib.Pow.{pow_pos, pow_mono}
use lib.Signed.{mag, nat_abs-le}
use Rattle.bits.specs.Testbit.{fits}
use Rattle.bits.proofs.DivisionLaws.{div0-mod0}
use Rattle.bits.proofs.ValueLaws.{mod0-pow-same}
use Rattle.bits.proofs.FitsLaws.{holds, low_fits, high_fits, high_zero}
use Rattle.words.proofs.WordLaws.{fits-mag}
use Rattle.words.proofs.SignedLaws.{nat_abs-add, nat_abs-sub, nat_abs_mul}
use Rattle.fxtable.specs.Domains.{is_width}
use Rattle.fxtable.specs.Operations.{parts_of}
use Rattle.fxtable.proofs.CallLaws.{width-bounds}

-- ---- the parts of any integer

-- they make it
pub parts_whole : (w : ℕ) (s : ℤ) → ((parts_of w s).1 *ℤ pos (2 ^ w)) +ℤ (parts_of w s).0 ≡ s
unfolding parts_of
parts_whole w s = sym (div0-mod0 s (pos (2 ^ w)) (λ e. omega (arith, ap nat_abs e, pow_pos w)))

-- those of a fixnum, and what has such parts
pub parts-small : (w : ℕ) (s : ℤ) → 0 < w → fits w s ≡ true → parts_of w s ≡ (s, pos 0)
unfolding parts_of
parts-small w s p f = cc (mod0-pow-same w s p (holds f), high_zero w s p f)

pub small-parts : (w : ℕ) (s : ℤ) → 0 < w → (parts_of w s).1 ≡ pos 0 → ((parts_of w s).0 ≡ s) × (fits w s ≡ true)
unfolding parts_of
small-parts w s p e = (same, subst (λ (x : ℤ). fits w x ≡ true) same (low_fits w s p))
  where
    same : (parts_of w s).0 ≡ s
    same =
        sym (ap (λ (q : ℤ). (q *ℤ pos (2 ^ w)) +ℤ (parts_of w s).0) e ∙ ap (λ (q : ℤ). q +ℤ (parts_of w s).0) (zero-*ℤ (pos (2 ^ w))) ∙ +ℤ_idl (parts_of w s).0)
        ∙ parts_whole w s

-- ---- of three fixnums

-- both results are fixnums
abbrev pub Fit : ℕ → ℤ × ℤ → Type 0
Fit w r = (fits w r.0 ≡ true) × (fits w r.1 ≡ true)

mag-le : (x : ℤ) → mag x ≤ nat_abs x
mag-le (pos n) = le_refl n
mag-le (negsuc n) = le-suc n

-- what is at most b^2 + b, and b more, is below 2 b^2
room : (b n : ℕ) → 4 ≤ b → n ≤ b * b + b + b → n < b * (2 * b)
room b n h l = let k : 4 * b ≤ b * b = mul-le-mul h (le_refl b) in omega arith

parts-fit : (w : ℕ) (s : ℤ) → 0 < w → 4 ≤ 2 ^ (w - 1) → nat_abs s ≤ 2 ^ (w - 1) * 2 ^ (w - 1) + 2 ^ (w - 1) → Fit w (parts_of w s)
unfolding parts_of
parts-fit w s p h l =
    let b = 2 ^ (w - 1) in
    (low_fits w s p, high_fits w s p (room b (mag (s +ℤ pos b)) h (omega (arith, mag-le (s +ℤ pos b), nat_abs-add s (pos b)))))

module _ (w : ℕ) (a : is_width w ≡ true) (x y z : ℤ) (f : fits w x ≡ true) (g : fits w y ≡ true) (h : fits w z ≡ true) where
  half : ℕ
  half = 2 ^ (w - 1)

  large : 4 ≤ half
  unfolding half
  large = pow_mono {i = 2} (omega (arith, width-bounds w a))

  square : 2 * half ≤ half * half
  square = mul-le-mul (omega (arith, large)) (le_refl half)

  absolute : (v : ℤ) → fits w v ≡ true → nat_abs v ≤ half
  unfolding half
  absolute v k = nat_abs-le v (fits-mag w v k)

  fit : (s : ℤ) → nat_abs s ≤ half * half + half → Fit w (parts_of w s)
  unfolding half
  fit s = parts-fit w s (omega (arith, width-bounds w a)) large

  pub sum-parts-fit : Fit w (parts_of w ((x +ℤ y) +ℤ z))
  sum-parts-fit = fit ((x +ℤ y) +ℤ z) (omega (arith, square, absolute x f, absolute y g, absolute z h, nat_abs-add (x +ℤ y) z, nat_abs-add x y))

  pub difference-parts-fit : Fit w (parts_of w ((x -ℤ y) -ℤ z))
  difference-parts-fit = fit ((x -ℤ y) -ℤ z) (omega (arith, square, absolute x f, absolute y g, absolute z h, nat_abs-sub (x -ℤ y) z, nat_abs-sub x y))

  pub product-parts-fit : Fit w (parts_of w ((x *ℤ y) +ℤ z))
  product-parts-fit = fit ((x *ℤ y) +ℤ z) (omega (arith, absolute z h, nat_abs-add (x *ℤ y) z, nat_abs_mul x y, mul-le-mul (absolute x f) (absolute y g)))
