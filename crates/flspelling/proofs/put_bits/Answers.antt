-- `flspelling::put_bits` meets its contract. Assumes nothing.
use Prim.Native.Nat.{◌/◌, ◌%◌, ◌^◌}
use Rattle.flspelling.specs.Spellings.{magnitude, sign, text_of_bits}
use Rattle.output.proofs.PutsLaws.{puts_then}
use Rattle.flspelling.proofs.put_bits.Goals as goal

pub returns : goal.returns
unfolding text_of_bits
returns c =
    let b = c.args.b in
    puts_then (sign b) (magnitude (b / 2 ^ 52 % 2048) (b % 2 ^ 52)) c.put_sign.ensures c.put_magnitude.ensures
