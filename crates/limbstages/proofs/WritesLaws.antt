-- What a call that writes promises: where it is refused, where the limbs fit or do not, and what was written, read back. Assumes nothing.
use Prim.Native.Nat.{ℕ, zero, suc, ◌+◌, ◌*◌, ◌-◌, ◌^◌, ◌≤◌, ◌<◌}
use native.Mathlib.Omega.{arith}
use mathlib.Core.Path.{◌≡◌, refl, sym, ap, ap₂, ◌∙◌, subst}
use mathlib.Core.Bool.{Bool, true, false, not}
use mathlib.Core.List.{List}
use lib.Dec.{leb, lit<}
use lib.IntN.{ℤ}
use lib.ListN.{length, take, drop, get_or, length-drop}
use lib.Seq.{length-take-le}
use borrow.Author.Tests.{le-leb, leb-true, leb-false, not-true, not-false}
use borrow.Rule.Slice.PartMut.{put_mid}
use Rattle.std.specs.Prelude.{Result, Ok, Err, IsErrAnd}
use Rattle.bits.specs.Testbit.{fits}
use Rattle.bits.specs.Shift.{shift_right}
use Rattle.bits.specs.Division.{mod_ℕ}
use Rattle.bits.proofs.LengthLaws.{fits-length}
use Rattle.bits.proofs.FitsLaws.{holds}
use Rattle.bits.proofs.ShiftLaws.{shift_right-zero, shift_right-compose}
use Rattle.outcomes.specs.declared.refusal.Refusal.{Refusal}
use Rattle.outcomes.specs.Outcome.{Outcome, done, refuse, map_done, refusal_of}
use Rattle.outcomes.specs.Refusal.{code_of}
use Rattle.outcomes.specs.Buffer.{fitted, afterwards, count_of}
use Rattle.outcomes.specs.Puts.{Puts}
use Rattle.outcomes.proofs.BufferLaws.{fitted-enough, fitted_short, laid-part, read_back, count_of-capacity, afterwards-length}
use Rattle.limbwords.specs.Value.{limbs_of, limb_count, shortest}
use Rattle.limbwords.specs.Results.{bits_from, limb_at}
use Rattle.limbwords.proofs.ValueLaws.{length-shortest, limb_count-positive, is_shortest-shortest}
use Rattle.limbstages.specs.declared.Written.{Written}
use Rattle.limbstages.specs.Buffer.{stored, written, written_of, Writes, copied}
use Rattle.limbstages.specs.Stages.{most_limbs, has_limbs, is_operand}
use Rattle.limbstages.proofs.StageLaws.{exited}

pub writes_as : {o p : Outcome ℤ} {out out' : List ℕ} {first : ℕ} {r : Written} → o ≡ p → Writes p out first r out' → Writes o out first r out'
writes_as {out} {out'} {first} {r} e w = subst (λ (q : Outcome ℤ). Writes q out first r out') (sym e) w

-- the same answer, by another name
pub writes_told : {o : Outcome ℤ} {out out' : List ℕ} {first : ℕ} {v w : Written} → w ≡ v → Writes o out first v out' → Writes o out first w out'
writes_told {o} {out} {out'} {first} e h = subst (λ (w : Written). Writes o out first w out') (sym e) h

-- by what is stored
from-stored : {o : Outcome ℤ} {out out' : List ℕ} {first : ℕ} {r : Written} (p : Outcome (List ℕ)) → stored o out first ≡ p
    → r ≡ record { refusal = refusal_of p; length = count_of p } → out' ≡ afterwards p out first → Writes o out first r out'
unfolding written
from-stored {o} {out} {out'} {first} {r} p e a b = record {
  answer = a ∙ sym (ap (λ (p : Outcome (List ℕ)). record { refusal = refusal_of p; length = count_of p }) e);
  buffer = b ∙ sym (ap (λ (p : Outcome (List ℕ)). afterwards p out first) e);
}

pub writes-refused : {o : Outcome ℤ} {k : Refusal} (out : List ℕ) (first : ℕ) {r : Result ℕ Refusal} → o ≡ refuse (code_of k) → r ≡ Err k
    → Writes o out first (written_of r) out
unfolding stored map_done fitted written_of refusal_of count_of afterwards
writes-refused {o} {k} out first e q = from-stored (refuse (code_of k)) (ap (λ (o : Outcome ℤ). stored o out first) e) (ap written_of q) refl

-- the same where a `?` hands the refusal on
pub writes-exited : {o : Outcome ℤ} {out : List ℕ} {first : ℕ} (k : Refusal) (r : Result ℕ Refusal) → o ≡ refuse (code_of k) → IsErrAnd r (λ y. y ≡ k)
    → Writes o out first (written_of r) out
writes-exited {out} {first} k r e h = writes-refused out first e (exited r h)

-- ---- an integer of n limbs, where the code has tested the capacity

-- the limbs of an integer, one by one
pub get_d-limbs_of : (k : ℕ) (z : ℤ) (j : ℕ) → j < k → get_or (limbs_of k z) j 0 ≡ limb_at z j
unfolding limbs_of bits_from
get_d-limbs_of zero z j h = absurd (omega arith)
get_d-limbs_of (suc k) z zero h = ap (λ (y : ℤ). mod_ℕ y (2 ^ 32)) (sym (shift_right-zero z))
get_d-limbs_of (suc k) z (suc j) h =
    let e : 32 + 32 * j ≡ 32 * suc j = omega arith in
    get_d-limbs_of k (shift_right z 32) j (omega arith)
    ∙ ap (λ (y : ℤ). mod_ℕ y (2 ^ 32)) (shift_right-compose z 32 (32 * j) ∙ ap (shift_right z) e)

-- the code's test b of the capacity
pub has-capacity : {b : Bool} {n m : ℕ} → b ≡ leb n m → not b ≡ false → n ≤ m
has-capacity e h = leb-true _ _ (sym e ∙ not-false _ h)

-- the first limb lies in the buffer
pub first-within : (z : ℤ) {first n m : ℕ} → n ≡ limb_count z → n ≤ m - first → first ≤ m
first-within z counted l = omega (arith, limb_count-positive z)

module _ (z : ℤ) (out : List ℕ) (first : ℕ) {n : ℕ} (counted : n ≡ limb_count z) where
  pub no-capacity : {b : Bool} → b ≡ leb n (length out - first) → not b ≡ true → Writes (done z) out first (written_of (Err Refusal.Capacity)) out
  unfolding stored map_done written_of code_of refusal_of count_of afterwards
  no-capacity {b} e h =
      let l = leb-false n (length out - first) (sym e ∙ not-true b h) in
      from-stored (refuse 8) (fitted_short (shortest z) out first (omega (arith, length-shortest z))) refl refl

  -- the borrowed part has come back with the limbs in it
  pub limbs-stored : (k : ℕ) → n ≤ k → k ≤ length out - first → (part : List ℕ) → Puts 0 (limb_at z) (take k (drop first out)) part 0 n
      → Writes (done z) out first (written_of (Ok n)) (put_mid first k out part)
  unfolding stored map_done written_of refusal_of count_of afterwards shortest
  limbs-stored k long room part w =
      let counts = length-shortest z ∙ sym counted in
      from-stored (done (shortest z)) (fitted-enough (shortest z) out first (omega arith))
      (ap (λ (k : ℕ). record { refusal = 0; length = k }) (sym counts))
      (laid-part (shortest z) out part first n counts (λ j l. get_d-limbs_of (limb_count z) z j (omega arith)) k long room w)

  -- where they are the whole part
  pub limbs-filled : n ≤ length out - first → (part : List ℕ) → let b = take (first + n - first) (drop first out) in
      Puts 0 (limb_at z) b part 0 (length b) → Writes (done z) out first (written_of (Ok n)) (put_mid first (first + n - first) out part)
  limbs-filled room part w =
      let size : length (take (first + n - first) (drop first out)) ≡ n =
      length-take-le (first + n - first) (drop first out) (omega (arith, length-drop first out)) ∙ omega arith in
      limbs-stored (first + n - first) (omega arith) (omega arith) part (rw size at w)

-- ---- what was written

pub written-limbs : {z : ℤ} {out : List ℕ} {first : ℕ} {r : Written} {out' : List ℕ} → Writes (done z) out first r out' → r.refusal ≡ 0
    → copied r first out' ≡ shortest z
unfolding written stored map_done copied
written-limbs {z} {out} {first} {r} {out'} w h =
    ap₂ (λ (a : Written) (l : List ℕ). copied a first l) w.answer w.buffer
    ∙ read_back (shortest z) out first (omega (arith, length-shortest z, limb_count-positive z)) (sym (ap (λ (a : Written). a.refusal) w.answer) ∙ h)

-- it lies within the buffer, from the first limb on
pub written-within : {o : Outcome ℤ} {out out' : List ℕ} {first : ℕ} {r : Written} → Writes o out first r out'
    → (r.length ≤ length out') × (0 < r.length → first + r.length ≤ length out')
unfolding written stored
written-within {o} {out} {out'} {first} w =
    let a = ap (λ (a : Written). a.length) w.answer in
    let l = count_of-capacity (map_done shortest o) out first in
    let k = ap length w.buffer ∙ afterwards-length (map_done shortest o) out first in
    (omega arith, λ h. omega arith)

-- the same of a count
pub count-within : {o : Outcome ℤ} {out out' : List ℕ} {first n : ℕ} → Writes o out first (written_of (Ok n)) out'
    → (n ≤ length out') × (0 < n → first + n ≤ length out')
unfolding written_of
count-within w = written-within w

-- the shortest limbs of an integer that fits 1,024 limbs are legal operands
pub shortest-operand : (z : ℤ) → fits 32768 z ≡ true → is_operand (shortest z) ≡ true
unfolding has_limbs is_operand most_limbs limb_count
shortest-operand z f =
    let l = length-shortest z in
    let b = (fits-length 32768 z (lit< tt)).0 (holds f) in
    rw (le-leb 1 (length (shortest z)) (omega arith), le-leb (length (shortest z)) 1024 (omega arith)) (is_shortest-shortest z)
