-- `widewords::double::of_wide` meets its contract. Assumes nothing.
use Rattle.std.proofs.Common.{◌+◌, ◌*◌, ◌^◌, Bool, ℤ, pos, neg_ℤ, sym, ap, ◌∙◌, arith}
use lib.IntN.{+ℤ_idl}
use Rattle.bits.specs.Division.{mod_ℕ}
use Rattle.words.specs.Sign.{with_sign}
use Rattle.widewords.specs.Wide.{wide_value}
use Rattle.widewords.specs.Double.{double_word}
use Rattle.widewords.proofs.DoubleLaws.{double-small}
use Rattle.widewords.proofs.double.of_wide.Goals as goal

pub returns-then-s : goal.returns-then-s
unfolding double_word wide_value with_sign
returns-then-s c =
    let s = c.args.s in
    c.subtract.ensures
    ∙ ap (λ (z : ℤ). mod_ℕ z (2 ^ 128)) (+ℤ_idl (neg_ℤ (pos (s.high * 2 ^ 64 + s.low))) ∙ sym (ap (λ (b : Bool). with_sign b (s.high * 2 ^ 64 + s.low)) c.if-s.true))

pub returns-else-s : goal.returns-else-s
unfolding double_word wide_value with_sign
returns-else-s c =
    let s = c.args.s in
    sym (double-small s.high s.low (omega arith) (omega arith))
    ∙ ap (λ (z : ℤ). mod_ℕ z (2 ^ 128)) (sym (ap (λ (b : Bool). with_sign b (s.high * 2 ^ 64 + s.low)) c.if-s.false))
