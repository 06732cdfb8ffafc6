-- The words of a shift, and the shifts to either side, by sign and absolute value, and by sign and magnitude. Assumes nothing.
use Prim.Native.Nat.{ℕ, ◌*◌, ◌/◌, ◌<◌, ◌^◌}
use native.Mathlib.Omega.{arith}
use mathlib.Core.Path.{◌≡◌, refl, ap, ◌∙◌}
use mathlib.Core.Bool.{Bool, true, false}
use mathlib.Core.List.{List}
use lib.IntN.{ℤ, pos, negsuc, nat_abs, ◌*ℤ◌}
use lib.Signed.{mag}
use mir.Syntax.{w64}
use mir.Val.{to_z, of_z}
use Rattle.bits.specs.Testbit.{is_negative}
use Rattle.words.specs.Sign.{with_sign, of_magnitude}
use Rattle.bits.specs.Shift.{floor_div, shift_left, shift_right, arithmetic_shift}
use Rattle.fxtable.specs.Domains.{arg}
use Rattle.words.proofs.SignedLaws.{with_sign-times}
use Rattle.words.proofs.WordLaws.{back-word}

-- the words of a shift: the number, and how far it goes
pub record ShiftWords (xs : List ℤ) (k : ℕ) : Type 0 where
  pub number : to_z w64 (of_z w64 (arg xs 0)) ≡ arg xs 0
  pub distance : k ≡ nat_abs (arg xs 1)
  pub bound : k < 64

pub shift-words : {xs : List ℤ} {k : ℕ} → nat_abs (arg xs 1) < 64 → mag (arg xs 0) < 2 ^ 63 → mag (arg xs 1) < 2 ^ 63
    → k ≡ nat_abs (to_z w64 (of_z w64 (arg xs 1))) → ShiftWords xs k
shift-words {xs} {k} h x d e =
    let p : k ≡ nat_abs (arg xs 1) = e ∙ ap nat_abs (back-word (arg xs 1) d) in
    record { number = back-word (arg xs 0) x; distance = p; bound = rw p h }

-- a shift of the words is that of the arguments
pub on-shift : {xs : List ℤ} {k : ℕ} → ShiftWords xs k → (f : ℤ → ℕ → ℤ) → f (to_z w64 (of_z w64 (arg xs 0))) k ≡ f (arg xs 0) (nat_abs (arg xs 1))
on-shift s f = cc (s.number, s.distance)

-- ---- by sign and absolute value, and by sign and magnitude

pub left-product : (x : ℤ) (b : Bool) (n k : ℕ) → with_sign b n ≡ x → with_sign b (n * 2 ^ k) ≡ shift_left x k
unfolding shift_left
left-product x b n k e = with_sign-times b n (2 ^ k) ∙ ap (λ (y : ℤ). y *ℤ pos (2 ^ k)) e

pub right-magnitude : (x : ℤ) (k : ℕ) → of_magnitude (is_negative x) (mag x / 2 ^ k) ≡ shift_right x k
unfolding of_magnitude is_negative shift_right floor_div
right-magnitude (pos n) k = refl
right-magnitude (negsuc n) k = refl

-- ---- one shift is two

pub shift-right : (x d : ℤ) → is_negative d ≡ true → arithmetic_shift x d ≡ shift_right x (nat_abs d)
unfolding is_negative arithmetic_shift
shift-right x (pos n) h = let z : ◌≡◌ {A = ℕ} 0 1 = cc in absurd (omega arith)
shift-right x (negsuc n) h = refl

pub shift-left : (x d : ℤ) → is_negative d ≡ false → arithmetic_shift x d ≡ shift_left x (nat_abs d)
unfolding is_negative arithmetic_shift
shift-left x (pos n) h = refl
shift-left x (negsuc n) h = let z : ◌≡◌ {A = ℕ} 0 1 = cc in absurd (omega arith)
