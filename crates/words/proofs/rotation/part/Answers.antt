-- `words::rotation::part` meets its contract. Assumes nothing.
use native.Mathlib.Nat.{lt_of_lt_of_le}
use native.Mathlib.Omega.{arith}
use mathlib.Core.Path.{◌≡◌, ap, ap₂, ◌∙◌}
use Prim.Native.Nat.{◌*◌, ◌-◌, ◌<◌, ◌^◌}
use lib.IntN.{pos, nat_abs}
use lib.Pow.{pow_mono, pow_pos}
use mir.Syntax.{w64}
use mir.ValLaws.{to_z_pos}
use Rattle.bits.specs.Shift.{shift_right}
use Rattle.bits.specs.Division.{mod_ℕ}
use Rattle.bits.specs.Logical.{bitwise_and}
use Rattle.words.proofs.FieldWords.{digits-lt-pow}
use Rattle.words.proofs.WordLaws.{back, back-word, cast-word}
use Rattle.words.proofs.RotationLaws.{part-and, part-lt}
use Rattle.words.proofs.rotation.part.Goals as goal

ones_lt : (c : goal.After-ones) → c.ones.result < 2 ^ 63
ones_lt c =
    let a = c.args in
    let p = c.requires in
    let l = digits-lt-pow a.start a.end (2 ^ (a.end - a.start) - 1) 0 p.0 (omega (arith, pow_pos (a.end - a.start))) (pow_pos a.start) in
    omega (arith, c.ones.ensures, l, pow_mono {i = a.end} {j = 63} (omega (arith, p.1)))

pub overflow_cast-ones : goal.overflow_cast-ones
overflow_cast-ones c = record { sfits = ones_lt c }

value : (c : goal.After-and) → let a = c.args in c.and.result ≡ pos (mod_ℕ (shift_right a.x a.start) (2 ^ (a.end - a.start)) * 2 ^ a.start)
value c =
    let a = c.args in
    c.and.ensures
    ∙ ap₂ bitwise_and (back c.ranges.x) (to_z_pos w64 c.ones.result (ones_lt c.before) ∙ ap pos c.ones.ensures)
    ∙ part-and a.x a.start (a.end - a.start)

pub overflow_cast-result : goal.overflow_cast-result
overflow_cast-result c =
    let a = c.args in
    let p = c.requires in
    cast-word (back-word c.and.result c.and.type_inv ∙ value c) (lt_of_lt_of_le (part-lt a.x a.start a.end p.0) (pow_mono {j = 63} (omega (arith, p.1))))

pub returns : goal.returns
returns c = ap nat_abs (back-word c.and.result c.and.type_inv ∙ value c)
