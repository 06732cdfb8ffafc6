-- The arguments of the operations on a bit and on a field, and their results on words. Assumes nothing.
use Prim.Native.Nat.{ℕ, zero, suc, ◌+◌, ◌-◌, ◌≤◌, ◌<◌, ◌^◌}
use native.Mathlib.Nat.{lt_of_lt_of_le}
use native.Mathlib.Omega.{arith}
use mathlib.Core.Path.{◌≡◌, refl, sym, ap, subst, ◌∙◌}
use mathlib.Core.Bool.{true, cond}
use lib.Dec.{eqb}
use mathlib.Core.List.{List}
use lib.Pow.{pow_pos, pow_mono}
use lib.IntN.{ℤ, pos, nat_abs}
use lib.Signed.{mag}
use mir.Syntax.{w64}
use mir.Val.{SFits, to_z, of_z}
use Rattle.bits.specs.Testbit.{testbit, fits, fill, of_bits}
use Rattle.bits.specs.Shift.{shift_right}
use Rattle.bits.specs.Division.{mod_ℕ, mod0}
use Rattle.bits.specs.Field.{copy_bit_field, copy_bit}
use Rattle.bits.proofs.ModLaws.{mod_ℕ-lt}
use Rattle.words.proofs.FieldWords.{extend-copy_bit, mod0-copy_bit}
use Rattle.words.proofs.WordLaws.{back-word, fits-mag}
use Rattle.fxtable.specs.declared.domains.Domain.TheVariants.{Position}
use Rattle.fxtable.specs.Domains.{arg, domain_at}
use Rattle.fxtable.specs.Table.{rows, row_of}
use Rattle.fxtable.specs.Inner.{Accepted}
use Rattle.fxstages.proofs.DomainLaws.{domain_of}
use Rattle.fxstages.proofs.ArgumentLaws.{FieldArguments, position-lt}
use Rattle.fxtable.proofs.TableLaws.{from-to}

pub position-call : {w code : ℕ} {xs : List ℤ} {n : ℕ} → (33 ≤ code) × (code ≤ 34) → Accepted w code xs n → nat_abs (arg xs 1) < w
unfolding rows row_of domain_at
position-call {w} {code} {xs} {n} h a = position-lt a (from-to (λ c. domain_of c 1 ≡ Position) 33 2 (refl, (refl, tt)) code h.0 (omega arith))

-- the words of a call on a field: the number, and the field's start and end
pub record FieldWords (xs : List ℤ) (start end : ℕ) : Type 0 where
  pub number : to_z w64 (of_z w64 (arg xs 0)) ≡ arg xs 0
  pub first : start ≡ nat_abs (arg xs 1)
  pub last : end ≡ nat_abs (arg xs 2)
  pub bounds : (start ≤ end) × (end < 64)

pub field-words : {xs : List ℤ} {start end : ℕ} → FieldArguments xs → mag (arg xs 0) < 2 ^ 63 → mag (arg xs 1) < 2 ^ 63 → mag (arg xs 2) < 2 ^ 63
    → start ≡ nat_abs (to_z w64 (of_z w64 (arg xs 1))) → end ≡ nat_abs (to_z w64 (of_z w64 (arg xs 2))) → FieldWords xs start end
field-words {xs} {start} {end} f x a b s e =
    let p : start ≡ nat_abs (arg xs 1) = s ∙ ap nat_abs (back-word (arg xs 1) a) in
    let q : end ≡ nat_abs (arg xs 2) = e ∙ ap nat_abs (back-word (arg xs 2) b) in
    record { number = back-word (arg xs 0) x; first = p; last = q; bounds = omega (arith, p, q, f.ordered, f.below) }

-- what an operation makes of the words, and of the arguments
pub on-field : {xs : List ℤ} {start end : ℕ} → FieldWords xs start end → (F : ℤ → ℕ → ℕ → ℤ)
    → F (to_z w64 (of_z w64 (arg xs 0))) start end ≡ F (arg xs 0) (nat_abs (arg xs 1)) (nat_abs (arg xs 2))
on-field f F = cc (f.number, f.first, f.last)

-- a field as a number
pub field_lt : (x : ℤ) (start end : ℕ) {v : ℕ} → v ≡ mod_ℕ (shift_right x start) (2 ^ (end - start)) → v < 2 ^ (end - start)
field_lt x start end e =
    subst (λ (n : ℕ). n < 2 ^ (end - start)) (sym e) (mod_ℕ-lt (shift_right x start) (2 ^ (end - start)) (pow_pos (end - start)))

-- and so a signed word
pub field-word : (v start : ℕ) {end : ℕ} → v < 2 ^ (end - start) → end < 64 → SFits w64 (pos v)
field-word v start {end} h l = record { sfits = lt_of_lt_of_le h (pow_mono {j = 63} (omega arith)) }

-- a bit copied, by its position
pub copy-below : (w k bit : ℕ) (x : ℤ) → k < w - 1 → fits w x ≡ true
    → copy_bit_field x k (k + 1) (pos bit) ≡ mod0 (copy_bit x k (pos bit)) (pos (2 ^ w))
copy-below w k bit x h l =
    (let e : k + 1 ≡ suc k = omega arith in ap (λ (m : ℕ). copy_bit_field x k m (pos bit)) e)
    ∙ sym (mod0-copy_bit w x k (pos bit) h (fits-mag w x l))

bit-number : (n : ℕ) → n ≤ 1 → cond (eqb n 1) 1 0 ≡ n
bit-number zero h = refl
bit-number (suc zero) h = refl
bit-number (suc (suc n)) h = absurd (omega arith)

pub copy-sign : (w k bit : ℕ) (x : ℤ) → w ≡ suc k → bit ≤ 1
    → of_bits k (testbit x) (fill (eqb bit 1)) ≡ mod0 (copy_bit x k (pos bit)) (pos (2 ^ w))
copy-sign w k bit x h l =
    extend-copy_bit (eqb bit 1) x k ∙ rw (bit-number bit l, h)
