-- The count of a rotation, reduced by the size of the field, and the net count after one more call. Assumes nothing.
use Prim.Native.Nat.{ℕ, ◌+◌, ◌-◌, ◌%◌, ◌≤◌, ◌<◌}
use native.Mathlib.Nat.{mod-lt}
use native.Mathlib.Omega.{arith}
use mathlib.Core.Path.{◌≡◌, refl, sym, ap, ◌∙◌}
use mathlib.Core.Bool.{Bool, true, false, cond}
use lib.Dec.{eqb}
use lib.IntN.{ℤ, pos}
use borrow.Author.Tests.{eqb-true, eqb-false}
use Rattle.bits.specs.Division.{mod_ℕ, «mod»}
use Rattle.bits.specs.Field.{rotate_bit_field}
use Rattle.bits.specs.FieldList.{rotate, reverse, count_call}
use Rattle.bits.proofs.IntegerLaws.{pos-sub-ge}
use Rattle.bits.proofs.RotateLaws.{rotate-empty, rotate-mod}

pub reduced-le : {r : ℕ} (count size : ℕ) → r ≡ cond (eqb size 0) 0 (count % size) → r ≤ size
reduced-le {r} count size e = go (eqb size 0) refl e
  where
    go : (b : Bool) → eqb size 0 ≡ b → r ≡ cond b 0 (count % size) → r ≤ size
    go true q f = omega (arith, f)
    go false q f = let h : 0 < size = omega (arith, eqb-false size 0 q) in omega (arith, f, mod-lt count h)

rotate-by-mod : (x : ℤ) (start end count : ℕ) → rotate_bit_field x start end (pos (count % (end - start))) ≡ rotate_bit_field x start end (pos count)
unfolding «mod» mod_ℕ
rotate-by-mod x start end count = rotate-mod start end x (pos count)

pub rotate-reduced : {r : ℕ} (x : ℤ) (start end count : ℕ) → r ≡ cond (eqb (end - start) 0) 0 (count % (end - start))
    → rotate_bit_field x start end (pos count) ≡ rotate_bit_field x start end (pos r)
rotate-reduced {r} x start end count e = go (eqb (end - start) 0) refl e
  where
    go : (b : Bool) → eqb (end - start) 0 ≡ b → r ≡ cond b 0 (count % (end - start)) → rotate_bit_field x start end (pos count) ≡ rotate_bit_field x start end (pos r)
    go true q f =
        let h : end ≤ start = omega (arith, eqb-true (end - start) 0 q) in
        rotate-empty start end x (pos count) h ∙ sym (rotate-empty start end x (pos r) h)
    go false q f = sym (ap (λ (n : ℕ). rotate_bit_field x start end (pos n)) f ∙ rotate-by-mod x start end count)

-- ---- net counts, of natural numbers

pub count_call-rotate : (size net count : ℕ) → count_call size (rotate (pos count)) (pos net) ≡ pos ((net + count) % size)
unfolding count_call «mod» mod_ℕ
count_call-rotate size net count = refl

pub count_call-reverse : (size net : ℕ) → net ≤ size → count_call size reverse (pos net) ≡ pos ((size - net) % size)
unfolding count_call «mod» mod_ℕ
count_call-reverse size net h = ap (λ (z : ℤ). pos (mod_ℕ z size)) (pos-sub-ge size net h)
