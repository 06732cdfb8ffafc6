-- The shortest length of an integer, measured from the top: a limb that only continues the one below it can go. Assumes nothing.
use Prim.Native.Nat.{ℕ, ◌+◌, ◌*◌, ◌-◌, ◌/◌, ◌≤◌, ◌<◌}
use native.Mathlib.Omega.{arith}
use mathlib.Core.Path.{◌≡◌, refl, sym, ap, ◌∙◌}
use mathlib.Core.Bool.{Bool, true, false, cond, not}
use lib.Dec.{eqb, ltb, lit<}
use lib.IntN.{ℤ, pos}
use borrow.Author.Tests.{not-true, not-false, ltb-true, ltb-false, eqb-true, eqb-false, eq-eqb, ne_eqb}
use Rattle.bits.specs.Testbit.{is_negative, testbit, bit_length}
use Rattle.bits.proofs.TestbitLaws.{by-lt, testbit-above, testbit-zero}
use Rattle.bits.proofs.ValueLaws.{testbit-mask}
use Rattle.bits.proofs.LengthLaws.{bit_length-least-bits}
use Rattle.limbwords.specs.Value.{limb_count}
use Rattle.limbwords.specs.Results.{bits_from, limb_at}
use Rattle.limbmeasure.specs.Padding.{continued}
use Rattle.limbwords.proofs.ValueLaws.{limb_count-le}
use Rattle.limbwords.proofs.LimbLaws.{bits_from-lt, testbit-bits_from, bits_from-above, length-below, top_bit}

-- the top bit of a continuing limb is that of the limb below it
top-continued : (s : Bool) → testbit (pos (cond s 0xFFFFFFFF 0)) 31 ≡ s
top-continued true = testbit-mask 32 31
top-continued false = testbit-zero 31

-- the top bit of limb k, as the test has it
top : (z : ℤ) (k : ℕ) → testbit z (32 * k + 31) ≡ not (ltb (bits_from z (32 * k)) 0x80000000)
top z k = sym (testbit-bits_from z (32 * k) 31 (lit< tt)) ∙ top_bit (bits_from z (32 * k)) (bits_from-lt z (32 * k))

module _ (z : ℤ) (k : ℕ) (h : bit_length z < 32 * (k + 2)) where
  -- where the top limb continues limb k, the top bit of limb k is the sign
  sign : bits_from z (32 * (k + 1)) ≡ continued (bits_from z (32 * k)) → testbit z (32 * k + 31) ≡ is_negative z
  unfolding continued
  sign e =
      top z k
      ∙ sym (top-continued (not (ltb (bits_from z (32 * k)) 0x80000000)))
      ∙ ap (λ (n : ℕ). testbit (pos n) 31) (sym e)
      ∙ testbit-bits_from z (32 * (k + 1)) 31 (lit< tt)
      ∙ testbit-above z (32 * (k + 1) + 31) (omega arith)

  -- and that limb can go
  shorter : bits_from z (32 * (k + 1)) ≡ continued (bits_from z (32 * k)) → bit_length z < 32 * (k + 1)
  unfolding continued
  shorter e = omega (arith, bit_length-least-bits z (32 * k + 31) each)
    where
      rest : bit_length z ≤ 32 * (k + 1)
      rest =
          length-below z (32 * (k + 1)) (32 * (k + 2)) (omega arith) (omega arith)
          (e ∙ ap (λ (s : Bool). cond s 0xFFFFFFFF 0) (sym (top z k) ∙ sign e) ∙ sym (bits_from-above z (32 * (k + 2)) (omega arith)))

      each : (i : ℕ) → 32 * k + 31 ≤ i → testbit z i ≡ is_negative z
      each i l =
          by-lt (λ b. testbit z i ≡ is_negative z) i (32 * (k + 1))
          (λ u. let r : i ≡ 32 * k + 31 = omega arith in ap (testbit z) r ∙ sign e)
          (λ u. testbit-above z i (omega (arith, rest)))

  -- a length that is shorter by a limb has a top limb that continues the one below it
  continues : bit_length z < 32 * (k + 1) → bits_from z (32 * (k + 1)) ≡ continued (bits_from z (32 * k))
  unfolding continued
  continues l =
      bits_from-above z (32 * (k + 1)) (omega arith)
      ∙ ap (λ (s : Bool). cond s 0xFFFFFFFF 0) (sym (testbit-above z (32 * k + 31) (omega arith)) ∙ top z k)

  -- the top limb does not continue the one below it: the length is settled
  settled : (bits_from z (32 * (k + 1)) ≡ continued (bits_from z (32 * k)) → ⊥) → limb_count z ≡ k + 2
  unfolding limb_count
  settled e = go (ltb (bit_length z) (32 * (k + 1))) refl
    where
      go : (b : Bool) → ltb (bit_length z) (32 * (k + 1)) ≡ b → bit_length z / 32 + 1 ≡ k + 2
      go true q = absurd (e (continues (ltb-true (bit_length z) (32 * (k + 1)) q)))
      go false q = omega (arith, ltb-false (bit_length z) (32 * (k + 1)) q)

-- the same, where n limbs are enough
module _ (z : ℤ) (n : ℕ) (p : 1 < n) (h : bit_length z < 32 * n) where
  two : n - 2 + 2 ≡ n
  two = omega arith

  one : n - 2 + 1 ≡ n - 1
  one = omega arith

  enough : bit_length z < 32 * (n - 2 + 2)
  enough = omega (arith, two)

  top-limb : (m : ℕ) → bits_from z (32 * (n - 1)) ≡ m → bits_from z (32 * (n - 2 + 1)) ≡ m
  top-limb m e = ap (λ (k : ℕ). bits_from z (32 * k)) one ∙ e

  shorter-by-one : bits_from z (32 * (n - 1)) ≡ continued (bits_from z (32 * (n - 2))) → bit_length z < 32 * (n - 1)
  shorter-by-one e = omega (arith, one, shorter z (n - 2) enough (top-limb _ e))

  settled_at : (bits_from z (32 * (n - 1)) ≡ continued (bits_from z (32 * (n - 2))) → ⊥) → n ≡ limb_count z
  settled_at e = sym (settled z (n - 2) enough (λ q. e (ap (λ (k : ℕ). bits_from z (32 * k)) (sym one) ∙ q)) ∙ two)

-- ---- what is so at each turn of measuring from `enough` limbs downwards: n are enough too, and `high` is the last of them

pub record Enough (z : ℤ) (enough n high : ℕ) : Type 0 where
  pub some : 0 < n
  pub most : n ≤ enough
  pub size : bit_length z < 32 * n
  pub last : high ≡ limb_at z (n - 1)

pub all-enough : {z : ℤ} {enough high : ℕ} → 0 < enough → bit_length z < 32 * enough → high ≡ limb_at z (enough - 1) → Enough z enough enough high
all-enough p h e = record { some = p; most = omega arith; size = h; last = e }

-- the contract of the code's `is_padding`, of the last limb and the limb below it
module _ {z : ℤ} {enough n high low : ℕ} {padding : Bool} (e : Enough z enough n high) (p : 1 < n) (below : low ≡ limb_at z (n - 2)) (test : padding ≡ eqb high (continued low)) where
  tested : padding ≡ eqb (limb_at z (n - 1)) (continued (limb_at z (n - 2)))
  tested = cc (test, below, e.last)

  pub one_less : not padding ≡ false → Enough z enough (n - 1) low
  one_less q =
      let same : n - 2 ≡ n - 1 - 1 = omega arith in
      record {
        some = omega arith;
        most = omega (arith, e.most);
        size = shorter-by-one z n p e.size (eqb-true _ _ (sym tested ∙ not-false _ q));
        last = below ∙ ap (limb_at z) same;
      }

  pub counted : not padding ≡ true → n ≡ limb_count z
  counted q = settled_at z n p e.size (eqb-false _ _ (sym tested ∙ not-true _ q))

  -- whether n limbs are the fewest
  pub fewest : not padding ≡ eqb n (limb_count z)
  fewest = go padding refl
    where
      go : (b : Bool) → padding ≡ b → not b ≡ eqb n (limb_count z)
      go true q = sym (ne_eqb n (limb_count z) (λ same. omega (arith, limb_count-le z (n - 1) (one_less (ap not q)).size)))
      go false q = sym (eq-eqb n (limb_count z) (counted (ap not q)))

-- one limb is the least
pub one-limb : (z : ℤ) → bit_length z < 32 * 1 → 1 ≡ limb_count z
unfolding limb_count
one-limb z h = omega arith

pub fewest-one : (z : ℤ) (n : ℕ) → n ≡ 1 → bit_length z < 32 * n → eqb n 1 ≡ eqb n (limb_count z)
fewest-one z n e h = ap (eqb n) (one-limb z (omega arith))

pub counted-one : {z : ℤ} {enough n high : ℕ} → Enough z enough n high → n ≤ 1 → n ≡ limb_count z
counted-one {z} {n} e h =
    let one : n ≡ 1 = omega (arith, e.some) in
    one ∙ one-limb z (omega (arith, e.size))
