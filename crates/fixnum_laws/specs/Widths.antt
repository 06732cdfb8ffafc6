-- One call at two widths: what it answers at the wider one, where it is done at the narrower.
--   is_carry code                      ==  whether the code is one of the three carry operations
--   exact_sum code xs                  ==  the integer of which a carry operation answers the two parts
--   changes_sign v code xs             ==  whether the call is a copy-bit that changes bit v - 1, which is the sign at width v
--   other_side x k, same_side x k       ==  x moved by 2^k, to the other side of 0 or further on its own
--   WidthStatement v w code args n    ==  what the widths v and w answer to one call, where v is the narrower and the call is done there
use Rattle.std.specs.Prelude.{ℕ, ◌-◌, ◌<◌, ◌^◌, ◌≡◌, Bool, true, false, cond, not, ◌&&◌, List, leb, eqb, ℤ, pos, nat_abs, ◌+ℤ◌, ◌-ℤ◌, ◌*ℤ◌}
use Rattle.std.specs.Bool.{beq}
use Rattle.bits.specs.Testbit.{is_negative}
use Rattle.outcomes.specs.Outcome.{done}
use Rattle.fxtable.specs.Domains.{arg}
use Rattle.fxtable.specs.Operations.{parts_of}
use Rattle.fxtable.specs.Calls.{answer, counted, fixnum_answer}

unfoldable pub is_carry : ℕ → Bool
is_carry code = leb 22 code && leb code 24

unfoldable pub exact_sum : ℕ → List ℤ → ℤ
exact_sum code xs =
    cond (eqb code 22) ((arg xs 0 +ℤ arg xs 1) +ℤ arg xs 2)
    (cond (eqb code 23) ((arg xs 0 -ℤ arg xs 1) -ℤ arg xs 2)
    ((arg xs 0 *ℤ arg xs 1) +ℤ arg xs 2))

unfoldable pub changes_sign : ℕ → ℕ → List ℤ → Bool
changes_sign v code xs =
    eqb code 34 && (eqb (nat_abs (arg xs 1)) (v - 1) && not (beq (eqb (nat_abs (arg xs 2)) 1) (is_negative (arg xs 0))))

unfoldable pub other_side : ℤ → ℕ → ℤ
other_side x k = cond (is_negative x) (x +ℤ pos (2 ^ k)) (x -ℤ pos (2 ^ k))

unfoldable pub same_side : ℤ → ℕ → ℤ
same_side x k = cond (is_negative x) (x -ℤ pos (2 ^ k)) (x +ℤ pos (2 ^ k))

pub record WidthStatement (v w code : ℕ) (args : List ℤ) (n : ℕ) : Type 0 where
  -- the call is done at w too
  pub done-too : (fixnum_answer w code args n).refusal ≡ 0
  -- and answers the same, but for a carry operation, and for a copy-bit that changes the sign at v
  pub same : is_carry code ≡ false → changes_sign v code (counted args n) ≡ false → fixnum_answer w code args n ≡ fixnum_answer v code args n
  -- a carry operation answers, at each width, the two parts of one integer
  pub carry-narrow : is_carry code ≡ true → fixnum_answer v code args n ≡ answer (done (parts_of v (exact_sum code (counted args n))))
  pub carry-wide : is_carry code ≡ true → fixnum_answer w code args n ≡ answer (done (parts_of w (exact_sum code (counted args n))))
  pub carry-whole : is_carry code ≡ true
      → ((fixnum_answer v code args n).second *ℤ pos (2 ^ v)) +ℤ (fixnum_answer v code args n).first
      ≡ ((fixnum_answer w code args n).second *ℤ pos (2 ^ w)) +ℤ (fixnum_answer w code args n).first
  -- such a copy-bit moves its number by 2^(v - 1): at v to the other side of 0, at a wider one not
  pub sign_narrow : changes_sign v code (counted args n) ≡ true → fixnum_answer v code args n ≡ answer (done (other_side (arg args 0) (v - 1), pos 0))
  pub sign-wide : v < w → changes_sign v code (counted args n) ≡ true → fixnum_answer w code args n ≡ answer (done (same_side (arg args 0) (v - 1), pos 0))
