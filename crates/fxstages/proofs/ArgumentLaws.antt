-- What an accepted call says of its arguments, from the domains of its code. Assumes nothing.
use Prim.Native.Nat.{ℕ, ◌-◌, ◌≤◌, ◌<◌}
use native.Mathlib.Nat.{lt_of_lt_of_le}
use native.Mathlib.Omega.{arith}
use mathlib.Core.Path.{◌≡◌, sym, ◌∙◌, subst}
use mathlib.Core.Bool.{Bool, true, false, ◌&&◌}
use mathlib.Core.List.{List}
use lib.IntN.{ℤ, nat_abs}
use borrow.Author.Tests.{ltb-true}
use Rattle.bits.specs.Testbit.{is_negative, fits}
use Rattle.bits.proofs.Booleans.{both_left, both_right}
use Rattle.bits.proofs.IntegerLaws.{pos-sub-ge}
use Rattle.bits.proofs.RangeLaws.{natural-pos, within-pos, within_both, within-field}
use Rattle.outcomes.specs.Tests.{all_hold}
use Rattle.fxtable.specs.declared.domains.Domain.{Domain}
use Rattle.fxtable.specs.declared.domains.Domain.TheVariants.{Divisor, Position, FieldEnd, NewBit, SignedDistance, Distance, Rotation}
use Rattle.fxtable.specs.Domains.{arg, accepts}
use Rattle.fxtable.specs.Table.{row_of}
use Rattle.fxtable.specs.Calls.{is_count}
use Rattle.fxtable.specs.Inner.{Accepted}
use Rattle.fxtable.proofs.CallLaws.{between, width-bounds, fits-arg}
use Rattle.fxstages.proofs.DomainLaws.{domain_of, in-domains}

-- a field's start and end are arguments 1 and 2
pub record FieldArguments (xs : List ℤ) : Type 0 where
  pub start : is_negative (arg xs 1) ≡ false
  pub end : is_negative (arg xs 2) ≡ false
  pub ordered : nat_abs (arg xs 1) ≤ nat_abs (arg xs 2)
  pub below : nat_abs (arg xs 2) < 64

module _ {w code : ℕ} {xs : List ℤ} {n : ℕ} (a : Accepted w code xs n) where
  -- an argument below a code's least count is a fixnum
  pub fixnum-at : (i : ℕ) → i < (row_of code).least → fits w (arg xs i) ≡ true
  unfolding is_count
  fixnum-at i h = fits-arg w xs n i a.fixnums (lt_of_lt_of_le h (between (row_of code).least n (row_of code).most a.arity).0)

  abbrev lies : ℕ → Bool
  lies i = accepts (domain_of code i) w xs (arg xs i)

  all_lie : lies 1 && (lies 2 && (lies 3 && true)) ≡ true
  unfolding all_hold
  all_lie = sym (in-domains w xs n code a.arity) ∙ a.domains

  second : {d : Domain} → domain_of code 1 ≡ d → accepts d w xs (arg xs 1) ≡ true
  second e = subst (λ (d : Domain). accepts d w xs (arg xs 1) ≡ true) e (both_left (lies 1) _ all_lie)

  third : {d : Domain} → domain_of code 2 ≡ d → accepts d w xs (arg xs 2) ≡ true
  third e = subst (λ (d : Domain). accepts d w xs (arg xs 2) ≡ true) e (both_left (lies 2) _ (both_right (lies 1) _ all_lie))

  fourth : {d : Domain} → domain_of code 3 ≡ d → accepts d w xs (arg xs 3) ≡ true
  fourth e = subst (λ (d : Domain). accepts d w xs (arg xs 3) ≡ true) e (both_left (lies 3) true (both_right (lies 2) _ (both_right (lies 1) _ all_lie)))

  bounds : (24 ≤ w) × (w ≤ 64)
  bounds = width-bounds w a.width

  pub divisor-positive : domain_of code 1 ≡ Divisor → 0 < nat_abs (arg xs 1)
  unfolding accepts
  divisor-positive e = ltb-true 0 (nat_abs (arg xs 1)) (second e)

  pub position-lt : domain_of code 1 ≡ Position → nat_abs (arg xs 1) < w
  unfolding accepts
  position-lt e = omega (arith, bounds, (within-pos 0 (w - 1) (arg xs 1) (second e)).2)

  pub distance-lt : domain_of code 1 ≡ Distance → nat_abs (arg xs 1) < 64
  unfolding accepts
  distance-lt e = omega (arith, bounds, (within-pos 0 (w - 1) (arg xs 1) (second e)).2)

  pub signed-distance-lt : domain_of code 1 ≡ SignedDistance → nat_abs (arg xs 1) < 64
  unfolding accepts
  signed-distance-lt e = omega (arith, bounds, within_both (w - 1) (arg xs 1) (second e))

  pub new-bit : domain_of code 2 ≡ NewBit → (is_negative (arg xs 2) ≡ false) × (nat_abs (arg xs 2) ≤ 1)
  unfolding accepts
  new-bit e = let b = within-pos 0 1 (arg xs 2) (third e) in (b.0, b.2)

  pub field : domain_of code 1 ≡ Position → domain_of code 2 ≡ FieldEnd → FieldArguments xs
  unfolding accepts
  field p q =
      let f = within-field (w - 1) (arg xs 1) (arg xs 2) (second p) (third q) in
      record { start = f.0; end = f.1; ordered = f.2; below = omega (arith, bounds, f.3) }

  pub end_lt : domain_of code 1 ≡ Position → domain_of code 2 ≡ FieldEnd → nat_abs (arg xs 2) < w
  unfolding accepts
  end_lt p q = omega (arith, bounds, (within-field (w - 1) (arg xs 1) (arg xs 2) (second p) (third q)).3)

  pub rotation : FieldArguments xs → domain_of code 3 ≡ Rotation
      → (is_negative (arg xs 3) ≡ false) × (nat_abs (arg xs 3) ≤ nat_abs (arg xs 2) - nat_abs (arg xs 1))
  unfolding accepts
  rotation f e =
      let c =
      within-pos 0 (nat_abs (arg xs 2) - nat_abs (arg xs 1)) (arg xs 3)
      (rw (sym (pos-sub-ge (nat_abs (arg xs 2)) (nat_abs (arg xs 1)) f.ordered), natural-pos (arg xs 1) f.start, natural-pos (arg xs 2) f.end) (fourth e)) in
      (c.0, c.2)
