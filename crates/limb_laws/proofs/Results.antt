-- What a done call has written is legal: its integer fits 1,024 limbs. Assumes nothing.
use Prim.Native.Nat.{ℕ, suc, ◌+◌, ◌/◌, ◌≤◌}
use native.Mathlib.Omega.{arith}
use mathlib.Core.Path.{◌≡◌, refl, sym, ap, ◌∙◌, subst}
use mathlib.Core.Bool.{Bool, true, false, not, ◌&&◌, ◌||◌}
use mathlib.Core.List.{List}
use lib.Dec.{eqb, leb, lit<}
use lib.IntN.{ℤ, pos, nat_abs}
use lib.Signed.{le_z}
use borrow.Author.Tests.{leb-true, eqb-false}
use Rattle.bits.specs.Testbit.{bit_length, fits}
use Rattle.bits.specs.Logical.{bitwise_not, bitwise, bitwise_and, bitwise_ior, bitwise_if}
use Rattle.bits.specs.Field as fields
use Rattle.bits.proofs.LengthLaws.{fits-length, fits_not}
use Rattle.bits.proofs.FitsLaws.{is_true, holds, bitwise-fits, right-fits}
use Rattle.bits.proofs.LengthBounds.{bit_field-length, copy_bit_field-length, rotate_bit_field-length, reverse_bit_field-length}
use Rattle.outcomes.specs.Outcome.{Outcome, refused, done, guard, guard_at, map_done, refusal_of}
use Rattle.outcomes.specs.Buffer.{fitted}
use Rattle.limbwords.specs.Value.{value, limb_count}
use Rattle.limbstages.specs.Buffer.{stored, written}
use Rattle.limbstages.specs.Stages.{most_limbs, is_operand, operand, natural, is_field, field, is_new_bit, new_bit, sized}
use Rattle.limbstages.proofs.StageLaws.{operand-limbs, field-numbers, new-bit-numbers}
use Rattle.limbs.specs.Operations.{not_outcome, bitwise_outcome, if_outcome, copy_bit_outcome, bit_field_outcome, copy_bit_field_outcome, shift_outcome, shift_left_outcome, shift_right_outcome, rotate_outcome, reverse_outcome}
use Rattle.limb_laws.specs.Replies.{Output, reply_to, limbs_in, has_room, Legal}
use Rattle.limb_laws.specs.Operands.{Call, outcome_of}
use Rattle.limb_laws.proofs.LegalLaws.{limbs-fit, shortest-legal, done-as}

-- ---- integers of up to 1,024 limbs

abbrev Fits : ℤ → Type 0
Fits z = fits 32768 z ≡ true

by_length : (z : ℤ) → bit_length z ≤ 32767 → Fits z
by_length z h = is_true ((fits-length 32768 z (lit< tt)).1 (omega arith))

operand-fits : (x : List ℕ) → is_operand x ≡ true → Fits (value x)
operand-fits x l = limbs-fit x (operand-limbs x l)

operand-bits : (x : List ℕ) → is_operand x ≡ true → bit_length (value x) ≤ 32767
operand-bits x l = omega (arith, (fits-length 32768 (value x) (lit< tt)).0 (holds (operand-fits x l)))

if-fits : (x y z : ℤ) → Fits x → Fits y → Fits z → Fits (bitwise_if x y z)
unfolding bitwise_if bitwise_and bitwise_ior
if-fits x y z f g h =
    bitwise-fits 32768 (lit< tt) ◌||◌ (bitwise ◌&&◌ x y) (bitwise ◌&&◌ (bitwise_not x) z)
    (bitwise-fits 32768 (lit< tt) ◌&&◌ x y f g)
    (bitwise-fits 32768 (lit< tt) ◌&&◌ (bitwise_not x) z (fits_not 32768 x ∙ f) h)

-- ---- a call without a refusal has an integer of that size

abbrev Sound : Outcome ℤ → Type 0
Sound o = refusal_of o ≡ 0 → (z : ℤ) × (o ≡ done z) × Fits z

sound : (z : ℤ) → Fits z → Sound (done z)
sound z f e = (z, refl, f)

-- a stage that is passed
stage : (t : Bool) (k : ℕ) (o : Outcome ℤ) → eqb k 0 ≡ false → (t ≡ true → Sound o) → Sound (guard t k o)
unfolding guard guard_at refusal_of
stage true k o n next = next refl
stage false k o n next = λ e. absurd (eqb-false k 0 n e)

operand-stage : (x : List ℕ) (o : Outcome ℤ) → (is_operand x ≡ true → Sound o) → Sound (operand x o)
unfolding operand
operand-stage x o next = stage (is_operand x) 7 o refl next

field-stage : (start end : ℤ) (o : Outcome ℤ) → (nat_abs end ≤ 32767 → Sound o) → Sound (field start end o)
unfolding field
field-stage start end o next = stage (is_field start end) 5 o refl (λ f. next (field-numbers start end f).last)

natural-stage : (n : ℤ) (o : Outcome ℤ) → Sound o → Sound (natural n o)
unfolding natural
natural-stage n o next = stage (le_z (pos 0) n) 5 o refl (λ _. next)

new-bit-stage : (k bit : ℤ) (o : Outcome ℤ) → (nat_abs k ≤ 32766 → Sound o) → Sound (new_bit k bit o)
unfolding new_bit
new-bit-stage k bit o next = stage (is_new_bit k bit) 5 o refl (λ f. next (new-bit-numbers k bit f).0.1)

sized-stage : (z : ℤ) → Sound (sized z)
unfolding sized most_limbs limb_count
sized-stage z = stage (leb (limb_count z) 1024) 6 (done z) refl (λ f. sound z (by_length z (omega (arith, leb-true (bit_length z / 32 + 1) 1024 f))))

outcome-sound : (c : Call) → Sound (outcome_of c)
unfolding outcome_of not_outcome bitwise_outcome if_outcome copy_bit_outcome bit_field_outcome copy_bit_field_outcome shift_outcome shift_left_outcome shift_right_outcome rotate_outcome
    reverse_outcome fields.copy_bit
outcome-sound (Call.bitwise_not x) = operand-stage x _ (λ l. sound _ (fits_not 32768 (value x) ∙ operand-fits x l))
outcome-sound (Call.bitwise op x y) =
    operand-stage x _ (λ l. operand-stage y _ (λ m. sound _ (bitwise-fits 32768 (lit< tt) op (value x) (value y) (operand-fits x l) (operand-fits y m))))
outcome-sound (Call.bitwise_if x y w) =
    operand-stage x _ (λ l. operand-stage y _ (λ m. operand-stage w _ (λ n.
    sound _ (if-fits (value x) (value y) (value w) (operand-fits x l) (operand-fits y m) (operand-fits w n)))))
outcome-sound (Call.copy_bit x position bit) =
    operand-stage x _ (λ l. new-bit-stage position bit _ (λ n.
    sound _ (by_length _ (copy_bit_field-length (value x) (nat_abs position) (suc (nat_abs position)) bit 32767 (operand-bits x l) (omega arith)))))
outcome-sound (Call.bit_field x start end) =
    operand-stage x _ (λ l. field-stage start end _ (λ n. sound _ (by_length _ (omega (arith, bit_field-length (value x) (nat_abs start) (nat_abs end))))))
outcome-sound (Call.copy_bit_field x start end y) =
    operand-stage x _ (λ l. operand-stage y _ (λ m. field-stage start end _ (λ n.
    sound _ (by_length _ (copy_bit_field-length (value x) (nat_abs start) (nat_abs end) (value y) 32767 (operand-bits x l) n)))))
outcome-sound (Call.shift x distance) = operand-stage x _ (λ l. sized-stage _)
outcome-sound (Call.shift_left x distance) = operand-stage x _ (λ l. natural-stage distance _ (sized-stage _))
outcome-sound (Call.shift_right x distance) =
    operand-stage x _ (λ l. natural-stage distance _ (sound _ (right-fits 32768 (value x) (nat_abs distance) (operand-fits x l))))
outcome-sound (Call.rotate x start end count) =
    operand-stage x _ (λ l. field-stage start end _ (λ n. natural-stage count _
    (sound _ (by_length _ (rotate_bit_field-length (value x) (nat_abs start) (nat_abs end) count 32767 (operand-bits x l) n)))))
outcome-sound (Call.reverse x start end) =
    operand-stage x _ (λ l. field-stage start end _ (λ n.
    sound _ (by_length _ (reverse_bit_field-length (value x) (nat_abs start) (nat_abs end) 32767 (operand-bits x l) n))))

-- ---- replies

replied : (o : Outcome ℤ) (p : Output) → (reply_to o p).answer.refusal ≡ 0 → refusal_of o ≡ 0
unfolding reply_to written stored map_done refusal_of fitted
replied (refused k detail) p e = e
replied (done z) p e = refl

pub result-legal : (c : Call) (p : Output) → (reply_to (outcome_of c) p).answer.refusal ≡ 0 → Legal (limbs_in (reply_to (outcome_of c) p) p)
unfolding has_room
result-legal c p e =
    let (z, d, f) = outcome-sound c (replied (outcome_of c) p e) in
    subst Legal (sym (done-as p z d (ap (λ (n : ℕ). not (eqb n 8)) e)).limbs) (shortest-legal z f)
