-- What a division by b > 0, or by y with |y| = b, must answer. No public call's contract cites these.
--   Allowed nearest b m     ==  whether m may be the remainder: -b <= 2 m < b where nearest, and else 0 <= m < b
--   Divided nearest x y q   ==  q holds div0 and mod0 of x by y where nearest, and else div and mod
use Rattle.std.specs.Prelude.{◌≡◌, ℕ, Bool, true, false, cond, ℤ, pos, ◌*ℤ◌, neg_ℤ, ◌≤ℤ◌, ◌<ℤ◌}
use Rattle.bits.specs.Testbit.{fits}
use Rattle.words.specs.Sign.{with_sign}
use Rattle.bits.specs.Division.{div, «mod», div0, mod0}
use Rattle.widewords.specs.declared.division.Quotient.{Quotient}

unfoldable pub Allowed : Bool → ℕ → ℤ → Type 0
Allowed true b m = (neg_ℤ (pos b) ≤ℤ (pos 2 *ℤ m)) × ((pos 2 *ℤ m) <ℤ pos b)
Allowed false b m = (pos 0 ≤ℤ m) × (m <ℤ pos b)

pub record Divided (nearest : Bool) (x y : ℤ) (q : Quotient) : Type 0 where
  pub quotient : with_sign q.negative q.absolute ≡ cond nearest (div0 x y) (div x y)
  pub rest : with_sign q.remainder_negative q.remainder ≡ cond nearest (mod0 x y) («mod» x y)
  pub word : fits 64 (with_sign q.remainder_negative q.remainder) ≡ true
