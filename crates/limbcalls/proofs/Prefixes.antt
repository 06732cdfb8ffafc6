-- What reading, spelling and the bitwise calls answer counts limbs and bytes at the start of the buffer. Assumes nothing.
use Prim.Native.Nat.{ℕ, ◌+◌, ◌^◌, ◌≤◌}
use native.Mathlib.Omega.{arith}
use mathlib.Core.Path.{◌≡◌, sym, ap, ◌∙◌}
use mathlib.Core.Bool.{Bool, true, false, cond, ◌&&◌, ◌||◌, true≢false}
use mathlib.Core.List.{List}
use lib.Dec.{leb, ltb}
use lib.IntN.{ℤ, nat_abs}
use lib.ListN.{length, take, drop, length-take, length-append}
use Rattle.std.specs.Prelude.{Result, Ok, Err}
use Rattle.std.specs.Result.{IfOk}
use Rattle.output.specs.Counts.{IsPrefixLen}
use Rattle.output.proofs.Counting.{prefix_len_of_le}
use Rattle.outcomes.specs.declared.refusal.Refusal.{Refusal}
use Rattle.outcomes.specs.Outcome.{Outcome, refused, done}
use Rattle.outcomes.specs.Buffer.{laid, afterwards, count_of}
use Rattle.limbwords.specs.Value.{limb_count}
use Rattle.limbwords.proofs.ValueLaws.{length-shortest}
use Rattle.limbstages.specs.Buffer.{Writes, written_of}
use Rattle.limbstages.proofs.WritesLaws.{count-within}
use Rattle.text.specs.declared.ReadError.{ReadError}
use Rattle.text.specs.Numerals.{is_hex, is_integer, integer}
use Rattle.text.specs.Readings.{enough, limb_reading, Holds}
use Rattle.spelling.specs.Spellings.{spelling, Spells}

-- what a bitwise call has written
pub written : {o : Outcome ℤ} {out out' : List ℕ} {first : ℕ} (r : Result ℕ Refusal) → Writes o out first (written_of r) out'
    → IfOk r (λ n. IsPrefixLen n out')
written {out'} (Ok n) w = prefix_len_of_le n out' (count-within w).0
written (Err k) w = tt

-- what was read as limbs
is_ok : Result ℕ ReadError → Bool
is_ok (Ok n) = true
is_ok (Err e) = false

count : Result ℕ ReadError → ℕ
count (Ok n) = n
count (Err e) = 0

counted : (a b : Bool) (m n : ℕ) → cond a (cond b (Ok m) (Err ReadError.TooLarge)) (Err ReadError.Malformed) ≡ Ok n → m ≡ n
unfolding is_ok count
counted true true m n e = ap count e
counted true false m n e = absurd (true≢false (sym (ap is_ok e)))
counted false b m n e = absurd (true≢false (sym (ap is_ok e)))

pub limbs-counted : {cs out : List ℕ} {r : Result ℕ ReadError} {n : ℕ} (k : ℕ) → r ≡ limb_reading cs k → Holds cs r out → r ≡ Ok n → IsPrefixLen n out
unfolding limb_reading
limbs-counted {cs} {out} {r} {n} k e h l =
    let all : limb_count (integer cs) ≡ n = counted (is_integer cs) ((is_hex cs || ltb (nat_abs (integer cs)) (2 ^ 64)) && leb (enough cs) k) (limb_count (integer cs)) n (sym e ∙ l) in
    let long : length (take n out) ≡ limb_count (integer cs) = ap (λ (xs : List ℕ). length xs) (h.limbs n l) ∙ length-shortest (integer cs) in
    prefix_len_of_le n out (omega (arith, all, long, length-take n out))

-- what was put at the start of a buffer lies within it
count_of-within : (o : Outcome (List ℕ)) (out : List ℕ) → count_of o ≤ length (afterwards o out 0)
unfolding count_of afterwards laid
count_of-within (refused k detail) out = omega arith
count_of-within (done xs) out = omega (arith, length-append xs (drop (0 + length xs) out))

pub bytes_counted : {xs out out' : List ℕ} {r : ℕ} → Spells xs out r out' → IsPrefixLen r out'
bytes_counted {xs} {out} {out'} {r} s =
    prefix_len_of_le r out' (omega (arith, s.count, ap (λ (cs : List ℕ). length cs) s.buffer, count_of-within (spelling xs out) out))
