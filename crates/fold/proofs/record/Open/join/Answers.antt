-- `fold::record::Open::join` meets its contract. Assumes nothing.
use native.Mathlib.Omega.{arith}
use Prim.Native.Nat.{ℕ}
use mathlib.Core.Path.{◌≡◌, sym, ap, ap₂, ◌∙◌}
use mathlib.Core.Bool.{Bool, true, ◌&&◌}
use lib.IntN.{ℤ}
use Rattle.bits.specs.Testbit.{fits}
use Rattle.bits.specs.Logical.{bitwise_xor}
use Rattle.words.proofs.WordLaws.{back}
use Rattle.outcomes.specs.Refusal.{code_of}
use Rattle.fxtable.specs.Domains.{is_width}
use Rattle.fold.specs.declared.Fold.{Fold}
use Rattle.fold.specs.Fold.{with_accumulator, is_open}
use Rattle.fold.specs.Calls.{after}
use Rattle.fold.proofs.OpenLaws.{open-width}
use Rattle.fold.proofs.JoinLaws.{rotated_by, net-le, joining-open, joining-no-fixnum}
use Rattle.fold.proofs.record.Open.join.Goals as goal

-- the code's test of the piece
tested : (f : Fold) → is_open f ≡ true → {y z : ℤ} {t : Bool} → t ≡ is_width f.width && fits f.width y → y ≡ z → t ≡ fits f.width z
tested f h e p = e ∙ ap₂ ◌&&◌ (open-width f h) (ap (fits f.width) p)

pub returns-then-not-is_fixnum-clause-err : goal.returns-then-not-is_fixnum-clause-err
unfolding code_of
returns-then-not-is_fixnum-clause-err c =
    sym (joining-no-fixnum c.args.self.fold c.args.self.accepted c.args.piece c.args.length (sym (tested c.args.self.fold c.args.self.accepted c.is_fixnum.ensures (back c.ranges.piece)) ∙ c.if-not-is_fixnum.true))

pub rotate_and_xor-requires-clause-inside : goal.rotate_and_xor-requires-clause-inside
rotate_and_xor-requires-clause-inside c = omega (arith, c.net_count.ensures, net-le c.args.self.fold c.args.length)

pub returns-clause-ok : goal.returns-clause-ok
returns-clause-ok c =
    let f = c.args.self.fold in
    ap (after 0)
    (c.rotate_and_xor.ensures
    ∙ ap₂ (λ (m : ℕ) (y : ℤ). with_accumulator f (bitwise_xor (rotated_by f m) y)) c.net_count.ensures (back c.ranges.piece))
    ∙ sym (joining-open f c.args.self.accepted c.args.piece c.args.length (sym (tested f c.args.self.accepted c.is_fixnum.ensures (back c.ranges.piece)) ∙ c.if-not-is_fixnum.false))
