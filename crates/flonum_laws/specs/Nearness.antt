-- What fixnum->flonum promises, over whole numbers.
--   distance x z         ==  |x - z| times x's denominator
--   Nearest z x          ==  x is a finite flonum, and none is closer to z: |x - z| <= |y - z|, both sides times both denominators;
--                            and where another is as close, x is the even one: the last of its bits is 0
--   to_flonum w n         ==  the answer of the call, with its refusal number and its flonum
--   NearnessStatement    ==  what a user relies on
use Rattle.std.specs.Prelude.{ℕ, ◌*◌, ◌%◌, ◌^◌, ◌≤◌, ◌≡◌, cond, ℤ, pos, nat_abs, ◌-ℤ◌, ◌*ℤ◌, Float}
use Rattle.std.specs.Float.{binary64}
use Rattle.std.specs.Float.Ieee.{to_bits}
use Rattle.std.specs.Float.Ieee.Positive.{den}
use Rattle.bits.specs.Testbit.{fits, is_negative}
use Rattle.fxtable.specs.Domains.{is_width}
use Rattle.flonum.specs.declared.answer.FlatAnswer.{FlatAnswer}
use Rattle.flonum.specs.Calls.{flat, fixnum_to_flonum}
use Rattle.flonum_laws.specs.Quotients.{negative, numerator, Representable, Equals}

unfoldable pub distance : Float → ℤ → ℕ
distance x z = nat_abs (numerator x -ℤ z *ℤ pos (den x))

pub record Nearest (z : ℤ) (x : Float) : Type 0 where
  pub representable : Representable x
  pub closest : (y : Float) → Representable y → distance x z * den y ≤ distance y z * den x
  pub even : (y : Float) → Representable y → (y ≡ x → ⊥) → distance x z * den y ≡ distance y z * den x → to_bits binary64 x % 2 ≡ 0

unfoldable pub to_flonum : ℕ → ℤ → FlatAnswer
to_flonum w n = flat (fixnum_to_flonum w n)

pub record NearnessStatement : Type 0 where
  -- refused by 1 for the width, then by 4 for the number, and never else
  pub refusal : (w : ℕ) (n : ℤ) → (to_flonum w n).refusal ≡ cond (is_width w) (cond (fits w n) 0 4) 1
  pub nearest : (w : ℕ) (n : ℤ) → (to_flonum w n).refusal ≡ 0 → Nearest n (to_flonum w n).flonum
  -- 0 gives the positive zero
  pub sign : (w : ℕ) (n : ℤ) → (to_flonum w n).refusal ≡ 0 → negative (to_flonum w n).flonum ≡ is_negative n
  -- up to 2^53 nothing is rounded
  pub exact : (w : ℕ) (n : ℤ) → (to_flonum w n).refusal ≡ 0 → nat_abs n ≤ 2 ^ 53 → Equals (to_flonum w n).flonum n
  -- every width that accepts the number gives the same flonum
  pub widths : (v w : ℕ) (n : ℤ) → (to_flonum v n).refusal ≡ 0 → (to_flonum w n).refusal ≡ 0 → to_flonum v n ≡ to_flonum w n
