-- `fold::record::Open::fold_byte` meets its contract. Assumes nothing.
use native.Mathlib.Omega.{arith}
use native.Mathlib.Nat.{lt_trans}
use mathlib.Core.Path.{sym, ap, ap₂, ◌∙◌}
use mir.Syntax.{w64}
use mir.ValLaws.{to_z_pos}
use lib.IntN.{ℤ, pos, nat_abs}
use Rattle.bits.specs.Field.{rotate_bit_field}
use Rattle.bits.specs.Logical.{bitwise_xor}
use Rattle.fold.specs.Fold.{with_accumulator}
use Rattle.fold.proofs.OpenLaws.{open-field, byte_fits, fold_byte-is}
use Rattle.fold.proofs.record.Open.fold_byte.Goals as goal

pub rotate_and_xor-requires-clause-inside : goal.rotate_and_xor-requires-clause-inside
rotate_and_xor-requires-clause-inside c = omega (arith, (open-field c.args.self.fold c.args.self.accepted).inside)

pub rotate_and_xor-requires-clause-fixnum : goal.rotate_and_xor-requires-clause-fixnum
rotate_and_xor-requires-clause-fixnum c =
    rw (c.from.ensures, to_z_pos w64 c.args.byte (lt_trans c.ranges.byte.fits (omega arith)))
    (byte_fits c.args.self.fold c.args.self.accepted c.args.byte c.ranges.byte.fits)

pub returns : goal.returns
returns c =
    let f = c.args.self.fold in
    let h = c.args.self.accepted in
    let b = c.args.byte in
    c.rotate_and_xor.ensures
    ∙ ap₂ (λ (d y : ℤ). with_accumulator f (bitwise_xor (rotate_bit_field f.accumulator (nat_abs f.start) (nat_abs f.end) d) y))
    (ap pos c.count.ensures ∙ (open-field f h).count-is) (rw c.from.ensures (to_z_pos w64 b (lt_trans c.ranges.byte.fits (omega arith))))
    ∙ sym (fold_byte-is f h b c.ranges.byte.fits)
