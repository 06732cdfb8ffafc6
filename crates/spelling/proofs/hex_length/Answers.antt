-- `spelling::hex_length` meets its contract: digits that are 0 go, from the first on. Assumes nothing.
use native.Mathlib.Omega.{arith}
use Prim.Native.Nat.{◌+◌, ◌-◌}
use mathlib.Core.Path.{◌≡◌, sym, ◌∙◌}
use Rattle.spelling.proofs.NaturalLaws.{natural-lt-hex}
use Rattle.spelling.proofs.DigitLaws.{below_less, below-settled, below_one}
use Rattle.spelling.proofs.hex_length.Goals as goal

pub loop-i-init : goal.loop-i-init
loop-i-init c = (omega arith, record { some = omega arith; below = natural-lt-hex _ (λ j. (c.type_inv.x j).fits) })

pub returns-then-nibble-ne0 : goal.returns-then-nibble-ne0
returns-then-nibble-ne0 c =
    let e : c.loop-i.i - 1 + 1 ≡ c.loop-i.i = omega arith in
    rw e (below-settled c.loop-i.invariant.1 (λ e. c.if-nibble-ne0.true (c.nibble.ensures ∙ e)), omega arith)

pub loop-i-preserved : goal.loop-i-preserved
loop-i-preserved c = (omega arith, below_less c.loop-i.invariant.1 (omega arith) (sym c.nibble.ensures ∙ c.if-nibble-ne0.false))

pub returns : goal.returns
returns c =
    let s = c.loop-i.invariant in
    let h = s.1.some in
    let e : 1 ≡ c.loop-i.i = omega arith in
    rw e (below_one s.1 (omega arith), s.0)
