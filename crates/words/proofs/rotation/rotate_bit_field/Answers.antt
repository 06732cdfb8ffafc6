-- `words::rotation::rotate_bit_field` meets its contract. Assumes nothing.
use native.Mathlib.Nat.{lt_of_lt_of_le}
use native.Mathlib.Omega.{arith}
use mathlib.Core.Path.{◌≡◌, ap, ap₂, subst, sym, ◌∙◌}
use Prim.Native.Nat.{ℕ, ◌+◌, ◌*◌, ◌/◌, ◌-◌, ◌<◌, ◌^◌}
use lib.IntN.{ℤ, pos}
use lib.Pow.{pow_mono, pow_pos}
use mir.Syntax.{w64}
use mir.Val.{to_z, of_z}
use mir.ValLaws.{to_z_pos}
use Rattle.bits.specs.Field.{rotate_bit_field}
use Rattle.bits.specs.Logical.{bitwise_ior, bitwise_xor}
use Rattle.words.proofs.FieldWords.{digits-lt-pow}
use Rattle.words.proofs.WordLaws.{back, back-word}
use Rattle.words.proofs.RotationLaws.{part-lt, rotated_of, rotated-place-lt, summed, rotated}
use Rattle.words.proofs.rotation.rotate_bit_field.Goals as goal

-- x as a callee reads it
abbrev word_of : ℤ → ℤ
word_of x = to_z w64 (of_z w64 x)

-- a number below 2^end
word : {n e : ℕ} → e < 64 → n < 2 ^ e → n < 2 ^ 63
word h l = lt_of_lt_of_le l (pow_mono {j = 63} (omega arith))

field-word : (c : goal.After-part) → c.part.result < 2 ^ 63
field-word c =
    let a = c.args in
    word c.requires.1 (subst (λ (n : ℕ). n < 2 ^ a.end) (sym c.part.ensures) (part-lt (word_of a.x) a.start a.end c.requires.0))

pub overflow_cast-part : goal.overflow_cast-part
overflow_cast-part c = record { sfits = field-word c }

pub shifted-up-requires : goal.shifted-up-requires
shifted-up-requires c =
    let a = c.args in
    let p = c.requires in
    let l = part-lt (word_of a.x) a.start (a.end - a.c) (omega (arith, p)) in
    let m = digits-lt-pow a.c a.end c.part-2.result 0 (omega (arith, p)) (subst (λ (n : ℕ). n < 2 ^ (a.end - a.c)) (sym c.part-2.ensures) l) (pow_pos a.c) in
    (omega (arith, p), omega (arith, m, pow_mono {i = a.end} {j = 63} (omega (arith, p))))

abbrev sum : goal.After-part-3 → ℕ
sum c = c.shifted-up.result + c.part-3.result / 2 ^ (c.args.end - c.args.c - c.args.start)

sum_is : (c : goal.After-part-3) → sum c ≡ rotated_of (word_of c.args.x) c.args.start c.args.end c.args.c * 2 ^ c.args.start
sum_is c =
    let a = c.args in
    let p = c.requires in
    summed (word_of a.x) a.start a.end a.c p.0 p.2 c.part-2.ensures c.shifted-up.ensures c.part-3.ensures

sum-word : (c : goal.After-part-3) → sum c < 2 ^ 63
sum-word c =
    let a = c.args in
    let p = c.requires in
    word p.1 (subst (λ (n : ℕ). n < 2 ^ a.end) (sym (sum_is c)) (rotated-place-lt (word_of a.x) a.start a.end a.c p.0 p.2))

pub overflow_add-up : goal.overflow_add-up
overflow_add-up c = record { fits = omega (arith, sum-word c) }

pub overflow_cast-up : goal.overflow_cast-up
overflow_cast-up c = record { sfits = sum-word c }

pub returns : goal.returns
returns c =
    let t = c.before in
    let x = t.before.before.before in
    let f = x.before in
    let a = t.args in
    let p = t.requires in
    back-word c.ior.result c.ior.type_inv
    ∙ c.ior.ensures
    ∙ ap₂ bitwise_ior
    (back-word x.xor-rest.result x.xor-rest.type_inv ∙ x.xor-rest.ensures ∙ ap (bitwise_xor (word_of a.x)) (to_z_pos w64 f.part.result (field-word f)))
    (to_z_pos w64 (sum t) (sum-word t))
    ∙ rotated (word_of a.x) a.start a.end a.c p.0 p.2 f.part.ensures (sum_is t)
    ∙ ap (λ (x : ℤ). rotate_bit_field x a.start a.end (pos a.c)) (back t.ranges.x)
