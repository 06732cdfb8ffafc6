-- NaNs, finite flonums and signs. Assumes nothing.
use Rattle.std.proofs.Common.{◌≡◌, ℕ, zero, suc, ◌+◌, ◌/◌, ◌%◌, ◌^◌, Bool, true, false, cond, not, T, eqb, leb, sym, refl, ap, ◌∙◌, subst, mod-lt, arith, lit<}
use native.Mathlib.Nat.{mod-mod}
use mathlib.Core.Bool.{false≢true}
use lib.Arith.{lt→nleb}
use lib.Ieee.{Float, nan, inf, fin, Format, binary64, prec, low, odd, of_fields, of_bits, to_bits, nan_bits, is_nan, fits, hid, ones}
use lib.Ieee.Bits.{is_false, of_bits-to_bits, nan_bits_is}
use lib.Ieee.Scale.{finite}
use Rattle.std.specs.Float.{float_is_finite}
use Rattle.flonum.specs.Rounding.{clear_sign}

-- ---- the sign
clear-odd : (d : ℕ) (s : Bool) (q k l : ℕ) → clear_sign (odd d s q k l) ≡ odd d false q k l
unfolding clear_sign odd
clear-odd d s zero k l = refl
clear-odd d s (suc q) k l = refl

clear-fields : (f : Format) (s : Bool) (x t : ℕ) → clear_sign (of_fields f s x t) ≡ of_fields f false x t
unfolding of_fields
clear-fields f s zero t = clear-odd (prec f) s t 0 (low f)
clear-fields f s (suc x) t = go (eqb (suc x) (ones f)) (eqb t 0)
  where
    go : (a b : Bool) → clear_sign (cond a (cond b (inf s) nan) (odd (prec f) s (hid f + t) x (low f))) ≡ cond a (cond b (inf false) nan) (odd (prec f) false (hid f + t) x (low f))
    go true true = unfold clear_sign in refl
    go true false = unfold clear_sign in refl
    go false b = clear-odd (prec f) s (hid f + t) x (low f)

clear-bits : (n : ℕ) → clear_sign (of_bits binary64 n) ≡ of_bits binary64 (n % 0x8000_0000_0000_0000)
unfolding of_bits
clear-bits n =
    clear-fields binary64 (leb 0x8000_0000_0000_0000 n) (n % 0x8000_0000_0000_0000 / 2 ^ 52) (n % 2 ^ 52)
    ∙ ap (λ (b : Bool). of_fields binary64 b (n % 0x8000_0000_0000_0000 / 2 ^ 52) (n % 2 ^ 52)) (sym (is_false (leb 0x8000_0000_0000_0000 (n % 0x8000_0000_0000_0000)) (lt→nleb _ _ (mod-lt n (lit< tt)))))
    ∙ ap (λ (k : ℕ). of_fields binary64 (leb 0x8000_0000_0000_0000 (n % 0x8000_0000_0000_0000)) (k / 2 ^ 52) (n % 2 ^ 52)) (sym (mod-mod n 0x8000_0000_0000_0000))
    ∙ ap (λ (k : ℕ). of_fields binary64 (leb 0x8000_0000_0000_0000 (n % 0x8000_0000_0000_0000)) (n % 0x8000_0000_0000_0000 % 0x8000_0000_0000_0000 / 2 ^ 52) k) (let e : n % 2 ^ 52 ≡ n % 0x8000_0000_0000_0000 % 2 ^ 52 = omega arith in e)

pub cleared : (x : Float) → T (fits binary64 x) → of_bits binary64 (to_bits binary64 x % 0x8000_0000_0000_0000) ≡ clear_sign x
cleared x h = sym (clear-bits (to_bits binary64 x)) ∙ ap clear_sign (of_bits-to_bits binary64 x h)

clear-nan : (x : Float) → is_nan (clear_sign x) ≡ is_nan x
unfolding is_nan clear_sign
clear-nan nan = refl
clear-nan (inf s) = refl
clear-nan (fin s m e) = refl

pub cleared-no-nan : (x : Float) → T (fits binary64 x) → T (not (is_nan x)) → T (not (nan_bits binary64 (to_bits binary64 x % 0x8000_0000_0000_0000)))
cleared-no-nan x h n = subst (λ (b : Bool). T (not b)) (sym (nan_bits_is binary64 (to_bits binary64 x % 0x8000_0000_0000_0000) ∙ ap is_nan (cleared x h) ∙ clear-nan x)) n

pub nan_is : (x : Float) → is_nan x ≡ true → x ≡ nan
unfolding is_nan
nan_is nan t = refl
nan_is (inf s) t = absurd (false≢true t)
nan_is (fin s m e) t = absurd (false≢true t)

pub no_nan : (b : Bool) (x : Float) → b ≡ is_nan x → b ≡ false → T (not (is_nan x))
no_nan b x e f = subst (λ (z : Bool). T (not z)) (sym (sym e ∙ f)) tt

pub its-nan : (b : Bool) (x : Float) → b ≡ is_nan x → b ≡ true → x ≡ nan
its-nan b x e f = nan_is x (sym e ∙ f)

-- ---- what the library calls finite
pub finite-library : (x : Float) → float_is_finite x ≡ finite x
unfolding float_is_finite
finite-library nan = refl
finite-library (inf s) = refl
finite-library (fin s m e) = refl
