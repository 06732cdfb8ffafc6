-- `fxstages::domains::accepts` meets its contract. Assumes nothing.
use Prim.Native.Nat.{ℕ, ◌-◌}
use native.Mathlib.Omega.{arith}
use mathlib.Core.Path.{◌≡◌, sym, ap, ◌∙◌}
use mathlib.Core.Bool.{true}
use mathlib.Core.List.{List}
use lib.Dec.{ltb}
use lib.IntN.{ℤ, pos, nat_abs}
use mir.Syntax.{w64}
use mir.Val.{SFits, to_z}
use mir.ValLaws.{to_z_pos}
use Rattle.words.proofs.WordLaws.{back, back-word}
use Rattle.fxtable.specs.declared.domains.Domain.{Domain}
use Rattle.fxtable.specs.Domains.{arg, accepts, is_width}
use Rattle.fxtable.proofs.CallLaws.{width-bounds}
use Rattle.fxstages.proofs.DomainLaws.{field-size, negated-last}
use Rattle.fxstages.proofs.domains.accepts.Goals as goal

-- the domain that an arm of the match stands for
arm : {d e : Domain} (w : ℕ) (xs : List ℤ) (x : ℤ) → d ≡ e → accepts e w xs x ≡ accepts d w xs x
arm w xs x e = ap (λ (d : Domain). accepts d w xs x) (sym e)

pub overflow_sub-last : goal.overflow_sub-last
overflow_sub-last c = let b = width-bounds c.args.width c.requires.width_value.0 in omega arith

pub overflow_cast-last : goal.overflow_cast-last
overflow_cast-last c = let b = width-bounds c.args.width c.requires.width_value.0 in record { sfits = omega arith }

-- the last position, as a word
last : (width : ℕ) → is_width width ≡ true → to_z w64 (width - 1) ≡ pos (width - 1)
last width h = let b = width-bounds width h in to_z_pos w64 (width - 1) (omega arith)

pub overflow_sub-last-in-SignedDistance : goal.overflow_sub-last-in-SignedDistance
overflow_sub-last-in-SignedDistance c =
    rw (last c.args.width c.requires.width_value.0) (negated-last c.args.width c.requires.width_value.0).1

pub overflow_sub-args : goal.overflow_sub-args
unfolding arg
overflow_sub-args c =
    let end : SFits w64 (arg c.args.args 2) = record { sfits = omega arith } in
    rw (back-word (arg c.args.args 2) (omega arith), back-word (arg c.args.args 1) (omega arith))
    (field-size (arg c.args.args 1) (arg c.args.args 2) (c.requires.args_value c.in-Rotation.is) end)

pub returns-in-Fixnum : goal.returns-in-Fixnum
unfolding accepts
returns-in-Fixnum c = arm _ _ _ c.in-Fixnum.is

pub returns-in-Divisor : goal.returns-in-Divisor
unfolding accepts arg
returns-in-Divisor c =
    ap (ltb 0) (c.absolute.ensures ∙ ap nat_abs (back-word (arg c.args.args c.args.i) (omega arith)))
    ∙ arm _ _ _ c.in-Divisor.is

pub returns-in-Position : goal.returns-in-Position
unfolding accepts arg
returns-in-Position c =
    (rw (back-word (arg c.args.args c.args.i) (omega arith), (last c.args.width c.requires.width_value.0)) at c.within.ensures)
    ∙ arm _ _ _ c.in-Position.is

pub returns-in-FieldEnd : goal.returns-in-FieldEnd
unfolding accepts arg
returns-in-FieldEnd c =
    (rw (back-word (arg c.args.args 1) (omega arith), back-word (arg c.args.args c.args.i) (omega arith), (last c.args.width c.requires.width_value.0)) at c.within-in-FieldEnd.ensures)
    ∙ arm _ _ _ c.in-FieldEnd.is

pub returns-in-NewBit : goal.returns-in-NewBit
unfolding accepts arg
returns-in-NewBit c =
    (rw (back-word (arg c.args.args c.args.i) (omega arith)) at c.within-in-NewBit.ensures)
    ∙ arm _ _ _ c.in-NewBit.is

pub returns-in-SignedDistance : goal.returns-in-SignedDistance
unfolding accepts arg
returns-in-SignedDistance c =
    (rw ((last c.args.width c.requires.width_value.0), (negated-last c.args.width c.requires.width_value.0).0, back-word (arg c.args.args c.args.i) (omega arith)) at c.within-in-SignedDistance.ensures)
    ∙ arm _ _ _ c.in-SignedDistance.is

pub returns-in-Distance : goal.returns-in-Distance
unfolding accepts arg
returns-in-Distance c =
    (rw (back-word (arg c.args.args c.args.i) (omega arith), (last c.args.width c.requires.width_value.0)) at c.within-in-Distance.ensures)
    ∙ arm _ _ _ c.in-Distance.is

pub returns-in-Rotation : goal.returns-in-Rotation
unfolding accepts arg
returns-in-Rotation c =
    let end = back-word (arg c.args.args 2) (omega arith) in
    let start = back-word (arg c.args.args 1) (omega arith) in
    (rw (back-word (arg c.args.args c.args.i) (omega arith), end, start, rw (end, start) at (back (overflow_sub-args c.before))) at c.is_rotation.ensures)
    ∙ arm _ _ _ c.in-Rotation.is
