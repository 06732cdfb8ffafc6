-- `text::long::put_digits` meets its contract, limb by limb. Assumes nothing.
use Prim.Native.Nat.{◌+◌, ◌*◌, ◌-◌}
use native.Mathlib.Omega.{arith}
use mathlib.Core.Path.{◌≡◌, refl}
use lib.ListN.{length, drop, length-take}
use Rattle.limbwords.specs.Value.{limbs_of}
use Rattle.text.proofs.NumeralLaws.{are_digits-first, are_digits-rest}
use Rattle.text.proofs.NumeralLimbs.{filled_more, filled-all}
use Rattle.text.proofs.long.put_digits.Goals as goal

pub loop-j-init : goal.loop-j-init
unfolding limbs_of
loop-j-init c = record { rest = refl; turns = omega arith; limbs = refl }

pub digits_limb-requires : goal.digits_limb-requires
digits_limb-requires c =
    let from = c.saturating_sub.result in
    let n = length c.args.digits.now - 8 * c.loop-j.j - from in
    (are_digits-first 16 n _ (are_digits-rest 16 from c.args.digits.now c.requires.digits_value), omega (arith, length-take n (drop from c.args.digits.now), c.saturating_sub.ensures))

pub loop-j-preserved : goal.loop-j-preserved
loop-j-preserved c =
    let e : length c.args.digits.now - 8 * (c.loop-j.j + 1) ≡ c.saturating_sub.result = omega (arith, c.saturating_sub.ensures) in
    rw e (filled_more c.loop-j.invariant c.requires.digits_in_bounds c.requires.digits_value c.saturating_sub.result (omega (arith, c.loop-j-test.true, c.div_ceil-n.ensures)) c.saturating_sub.ensures c.digits_limb.ensures)

pub returns : goal.returns
returns c =
    let h = c.loop-j-test.false in
    let k = c.loop-j.auto.j-end in
    let e : c.div_ceil-n.result ≡ c.loop-j.j = omega (arith, h, k) in
    record {
      value = omega (arith, c.div_ceil-n.ensures);
      out_after = rw e (filled-all c.loop-j.invariant c.requires.digits_in_bounds c.requires.digits_value (omega (arith, e, c.div_ceil-n.ensures)));
    }
