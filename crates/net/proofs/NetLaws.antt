-- The net count of one more call, as a remainder of natural numbers. Assumes nothing.
use Prim.Native.Nat.{ℕ, ◌+◌, ◌-◌, ◌%◌, ◌≤◌, ◌<◌}
use native.Mathlib.Omega.{arith}
use native.Mathlib.Nat.{add-mod, mod-lt, mod-eq_of_lt, mod-eq-sub-mod, mod_self}
use mathlib.Core.Path.{◌≡◌, ap, sym, ◌∙◌}
use lib.IntN.{pos}
use Rattle.bits.specs.FieldList.{count_call, rotate, reverse}
use Rattle.bits.proofs.RotationCounts.{count_call-rotate, count_call-reverse}

rotated : (size net count : ℕ) → count_call size (rotate (pos count)) (pos net) ≡ pos ((net % size + count % size) % size)
rotated size net count = count_call-rotate size net count ∙ ap pos (add-mod net count size)

pub rotate-below : (size net count : ℕ) → net % size < size - count % size → pos (net % size + count % size) ≡ count_call size (rotate (pos count)) (pos net)
rotate-below size net count h = sym (rotated size net count ∙ ap pos (mod-eq_of_lt (omega (arith, h))))

pub rotate-above : (size net count : ℕ) → 0 < size → size - count % size ≤ net % size
    → pos (net % size - (size - count % size)) ≡ count_call size (rotate (pos count)) (pos net)
rotate-above size net count h k =
    sym (rotated size net count ∙ ap pos (mod-eq-sub-mod (omega (arith, k)) ∙ mod-eq_of_lt (omega (arith, k, mod-lt net h, mod-lt count h)))
    ∙ ap pos (omega (arith, k, mod-lt count h)))

pub reverse-some : (size net : ℕ) → 0 < net → net < size → pos (size - net) ≡ count_call size reverse (pos net)
reverse-some size net h k = sym (count_call-reverse size net (omega arith) ∙ ap pos (mod-eq_of_lt (omega arith)))

pub reverse-none : (size net : ℕ) → net ≡ 0 → pos 0 ≡ count_call size reverse (pos net)
reverse-none size net h =
    let whole : size - net ≡ size = omega arith in
    sym (count_call-reverse size net (omega arith) ∙ ap (λ (n : ℕ). pos (n % size)) whole ∙ ap pos (mod_self size))
