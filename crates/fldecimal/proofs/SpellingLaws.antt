-- A text that is read back as a flonum. Assumes nothing.
use Rattle.std.proofs.Common.{◌≡◌, ℕ, ◌≤◌, T, List, length, take, sym, ap, ◌∙◌, arith}
use lib.Ieee.{Float, binary64, fits, to_bits, of_bits}
use lib.Ieee.Bits.{of_bits-to_bits}
use Rattle.std.specs.Prelude.{Ok}
use Rattle.fltext.specs.Readings.{flonum_reading}
use Rattle.fldecimal.specs.Spellings.{Spells}

-- flonums with the same bits are the same
pub same_bits : {x y : Float} → T (fits binary64 x) → T (fits binary64 y) → to_bits binary64 x ≡ to_bits binary64 y → y ≡ x
same_bits {x} {y} h g e = sym (of_bits-to_bits binary64 y g) ∙ ap (of_bits binary64) (sym e) ∙ of_bits-to_bits binary64 x h

pub spells-read : {x : Float} {r : ℕ} {out : List ℕ} → r ≤ length out → flonum_reading (take r out) ≡ Ok x → Spells x r out
spells-read h e = record { within = h; reads = λ l. e }

pub spells-none : (x : Float) (out : List ℕ) → Spells x 0 out
spells-none x out = record { within = omega arith; reads = λ l. absurd (omega arith) }
