-- `flspelling::spell_flonum` meets its contract: no room, or the text. Assumes nothing.
use native.Mathlib.Omega.{arith}
use mathlib.Core.Path.{ap}
use lib.ListN.{length}
use Rattle.flspelling.proofs.SpellsLaws.{spells-none, text-fits, spells-put, put-counts}
use Rattle.flspelling.proofs.spell_flonum.Goals as goal

pub returns-then-out-lt24 : goal.returns-then-out-lt24
returns-then-out-lt24 c = record { prefix_len = tt; spells = spells-none _ _ (omega arith) }

pub copy-requires : goal.copy-requires
copy-requires c =
    let n = c.new-output.ensures in
    let h = text-fits _ (ap length n.same_bytes) n.empty c.put_bits.ensures c.text-text.ensures in
    omega (arith, h)

pub returns : goal.returns
returns c =
    let n = c.new-output.ensures in
    let room = ap length n.same_bytes in
    let p = c.put_bits.ensures in
    let t = c.text-text.ensures in
    record {
      prefix_len = put-counts _ room n.empty p t _ _ (omega arith) c.bits.ensures c.copy.ensures;
      spells = spells-put _ room n.empty p t _ _ (omega arith) c.bits.ensures c.copy.ensures;
    }
