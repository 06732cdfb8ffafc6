-- Calls that answer a number: an operand that is legal or not, a position, and what fits one word. Assumes nothing.
use Prim.Native.Nat.{ℕ, ◌%◌, ◌≤◌, ◌<◌}
use native.Mathlib.Nat.{add-zero}
use native.Mathlib.Omega.{arith}
use mathlib.Core.Path.{◌≡◌, refl, sym, ap, ◌∙◌, subst}
use mathlib.Core.Bool.{Bool, true, false, cond}
use lib.Dec.{T, lit<}
use lib.IntN.{ℤ, pos}
use Rattle.bits.specs.Testbit.{testbit, bit_length, fits}
use Rattle.bits.proofs.LengthLaws.{fits-length}
use Rattle.bits.proofs.FitsLaws.{is_true}
use Rattle.words.proofs.Digitwise.{digit-testbit}
use Rattle.limbwords.specs.Results.{bits_from}
use Rattle.limbwords.proofs.LimbLaws.{testbit-bits_from}

-- the lowest bit of 32 bits from a position on
pub bit-from : (z : ℤ) (at r : ℕ) → r ≡ bits_from z at → pos (r % 2) ≡ cond (testbit z at) (pos 1) (pos 0)
bit-from z at r e =
    ap pos (digit-testbit r)
    ∙ choice (testbit (pos r) 0)
    ∙ ap (λ (b : Bool). cond b (pos 1) (pos 0))
    (ap (λ (n : ℕ). testbit (pos n) 0) e ∙ testbit-bits_from z at 0 (lit< tt) ∙ ap (testbit z) (add-zero at))
  where
    choice : (b : Bool) → pos (cond b 1 0) ≡ cond b (pos 1) (pos 0)
    choice true = refl
    choice false = refl

-- ---- one word

-- a length below 64 is that of a word, and no other
pub fits_word : (z : ℤ) → bit_length z < 64 → fits 64 z ≡ true
fits_word z h = is_true ((fits-length 64 z (lit< tt)).1 h)

pub exceeds-word : (z : ℤ) → 64 ≤ bit_length z → fits 64 z ≡ false
exceeds-word z h = go (fits 64 z) refl
  where
    go : (b : Bool) → fits 64 z ≡ b → fits 64 z ≡ false
    go true e = absurd (omega (arith, (fits-length 64 z (lit< tt)).0 (subst T (sym e) tt)))
    go false e = e
