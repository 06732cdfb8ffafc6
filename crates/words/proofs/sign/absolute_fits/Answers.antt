-- `words::sign::absolute_fits` meets its contract. Assumes nothing.
use Prim.Native.Nat.{ℕ, ◌+◌, ◌-◌, ◌≤◌, ◌<◌, ◌^◌}
use native.Mathlib.Omega.{arith}
use mathlib.Core.Path.{◌≡◌, refl, sym, ap, ◌∙◌}
use mathlib.Core.Bool.{Bool, true, false}
use lib.Dec.{leb, ltb}
use lib.Pow.{pow_mono}
use mir.Val.{bool_byte}
use borrow.Author.Tests.{leb-true, leb-false, lt-ltb, le-ltb}
use Rattle.words.specs.Sign.{with_sign}
use Rattle.bits.specs.Testbit.{fits}
use Rattle.words.proofs.WordLaws.{fits_negative, fits-nonnegative}
use Rattle.words.proofs.sign.absolute_fits.Goals as goal

below_next : (n h : ℕ) → ltb n (h + 1) ≡ leb n h
below_next n h = go (leb n h) refl
  where
    go : (t : Bool) → leb n h ≡ t → ltb n (h + 1) ≡ t
    go true e = lt-ltb n (h + 1) (omega (arith, leb-true n h e))
    go false e = le-ltb n (h + 1) (omega (arith, leb-false n h e))

test : (negative : Bool) (w n : ℕ) → ltb n (2 ^ (w - 1) + bool_byte negative) ≡ fits w (with_sign negative n)
test true w n = below_next n (2 ^ (w - 1)) ∙ sym (fits_negative w n)
test false w n = let e : 2 ^ (w - 1) + 0 ≡ 2 ^ (w - 1) = omega arith in ap (ltb n) e ∙ sym (fits-nonnegative w n)

one_more : (negative : Bool) (w : ℕ) → w ≤ 64 → 2 ^ (w - 1) + bool_byte negative < 2 ^ 64
one_more true w h = let p = pow_mono {i = w - 1} {j = 63} (omega arith) in omega arith
one_more false w h = let p = pow_mono {i = w - 1} {j = 63} (omega arith) in omega arith

pub overflow_add-result : goal.overflow_add-result
overflow_add-result c =
    let a = c.before in
    record { fits = rw (c.power-half.ensures, c.from.ensures) (one_more a.args.negative a.args.width a.requires.1) }

pub returns : goal.returns
returns c =
    let a = c.args in
    rw c.from.ensures
    (ap (λ (p : ℕ). ltb a.n (p + bool_byte a.negative)) c.power-half.ensures ∙ test a.negative a.width a.n)
