-- `widewords::double::add` meets its contract. Assumes nothing.
use Rattle.std.proofs.Common.{arith, refl}
use Rattle.bits.specs.Division.{mod_ℕ}
use Rattle.widewords.specs.Double.{double_word}
use Rattle.widewords.proofs.DoubleLaws.{sum-words}
use Rattle.widewords.proofs.double.add.Goals as goal

pub returns : goal.returns
unfolding double_word mod_ℕ
returns c =
    let a = c.args in
    sum-words a.s.high a.s.low a.t.high a.t.low _ _ _ (c.carries-carry.ensures a.t.low (omega arith) refl)
    (rw c.from.ensures) (omega arith) (omega arith)
