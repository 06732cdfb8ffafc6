-- What an accepted call says of its width, its count and its arguments; answers, from equal results. Assumes nothing.
use Prim.Native.Nat.{ℕ, zero, suc, ◌≤◌, ◌<◌, ◌^◌}
use native.Mathlib.Nat.{le_antisymm, lt_of_lt_of_le}
use native.Mathlib.Omega.{arith}
use mathlib.Core.Path.{◌≡◌, refl, sym, ap, ◌∙◌, subst}
use mathlib.Core.Bool.{Bool, true, false, ◌&&◌, ◌||◌}
use mathlib.Core.List.{List, [], ◌∷◌}
use lib.Dec.{leb, eqb}
use lib.IntN.{ℤ, pos}
use lib.Pow.{pow_mono}
use lib.Seq.{get_or-take}
use lib.Signed.{mag}
use mir.Syntax.{w64}
use mir.Val.{to_z, of_z}
use borrow.Author.Tests.{leb-true, lt-ltb, ne_eqb}
use Rattle.bits.proofs.Booleans.{both_left, both_right}
use Rattle.bits.proofs.FitsLaws.{zero-fits}
use Rattle.bits.specs.Testbit.{fits}
use Rattle.outcomes.specs.Outcome.{refused, done, refuse}
use Rattle.outcomes.specs.Refusal.{code_of}
use Rattle.outcomes.specs.declared.refusal.Refusal.{Refusal}
use Rattle.outcomes.specs.Tests.{all_hold, guard_each}
use Rattle.outcomes.proofs.OutcomeLaws.{passed, passed-at, failed}
use Rattle.words.proofs.WordLaws.{back-word, fits-mag}
use Rattle.fxtable.specs.declared.answer.Answer.{Answer}
use Rattle.fxtable.specs.Calls.{answer, counted, fixnum_tests, all_fixnums, checked, outcome, fixnum_answer}
use Rattle.fxtable.specs.Domains.{least_width, largest_width, is_width, arg, in_domains}
use Rattle.fxtable.specs.Table.{is_code}
use Rattle.fxtable.specs.Inner.{Accepted}

or-true : (b : Bool) → b || true ≡ true
or-true true = refl
or-true false = refl

pub between : (m n k : ℕ) → leb m n && leb n k ≡ true → (m ≤ n) × (n ≤ k)
between m n k h =
    (leb-true m n (both_left (leb m n) (leb n k) h), leb-true n k (both_right (leb m n) (leb n k) h))

-- a code that allows one count only
pub exactly : (n count : ℕ) → leb n count && leb count n ≡ true → count ≡ n
exactly n count h = le_antisymm (between n count n h).1 (between n count n h).0

-- every law above says no more of a width than this
pub width-bounds : (w : ℕ) → is_width w ≡ true → (24 ≤ w) × (w ≤ 64)
unfolding is_width least_width largest_width
width-bounds w h = let b = between least_width w largest_width h in (b.0, omega arith)

-- an argument below the count is the slot
pub arg-counted : (xs : List ℤ) (n i : ℕ) → i < n → arg (counted xs n) i ≡ arg xs i
unfolding arg counted
arg-counted xs n i h = get_or-take n xs i (pos 0) h

-- an argument of a code that allows one count only
pub arg-exactly : (xs : List ℤ) (n count i : ℕ) → leb n count && leb count n ≡ true → i < n → arg (counted xs count) i ≡ arg xs i
arg-exactly xs n count i h k = arg-counted xs count i (subst (λ (m : ℕ). i < m) (sym (exactly n count h)) k)

-- each argument is a fixnum, also past the last, where `arg` is 0
pub arg-fits : (w : ℕ) (xs : List ℤ) → all_fixnums w xs ≡ true → (i : ℕ) → fits w (arg xs i) ≡ true
unfolding arg all_fixnums fixnum_tests all_hold
arg-fits w [] f i = zero-fits w
arg-fits w (x ∷ xs) f zero = both_left (fits w x) (all_fixnums w xs) f
arg-fits w (x ∷ xs) f (suc i) = arg-fits w xs (both_right (fits w x) (all_fixnums w xs) f) i

pub fits-arg : (w : ℕ) (xs : List ℤ) (n i : ℕ) → all_fixnums w (counted xs n) ≡ true → i < n → fits w (arg xs i) ≡ true
fits-arg w xs n i h k = subst (λ (x : ℤ). fits w x ≡ true) (arg-counted xs n i k) (arg-fits w (counted xs n) h i)

-- a fixnum is a machine word
pub fits_word : (w : ℕ) (x : ℤ) → is_width w ≡ true → fits w x ≡ true → fits 64 x ≡ true
unfolding fits
fits_word w x a h =
    let b = width-bounds w a in
    lt-ltb (mag x) (2 ^ 63) (lt_of_lt_of_le (fits-mag w x h) (pow_mono {j = 63} (omega arith)))

-- ---- answers

pub done-cong : {a a' b b' : ℤ} → a ≡ a' → b ≡ b' → answer (done (a, b)) ≡ answer (done (a', b'))
done-cong p q = cc

-- an answer from the word that holds its one result
pub done-word : {r : Answer} {y z : ℤ} → r ≡ answer (done (to_z w64 (of_z w64 y), pos 0)) → mag y < 2 ^ 63 → y ≡ z → r ≡ answer (done (z, pos 0))
done-word {y} d h e = d ∙ done-cong (back-word y h ∙ e) refl

pub checked-cong : {a a' b b' : ℤ} (k w : ℕ) → a ≡ a' → b ≡ b' → answer (checked k w (a, b)) ≡ answer (checked k w (a', b'))
checked-cong k w p q = cc

-- an answer that is given by a refusal's number
pub refused-as : {r : Answer} {n : ℕ} (place : ℕ) → (k : ℕ) × (k ≡ n) × (r ≡ answer (refused k place)) → r ≡ answer (refused n place)
refused-as place (k, same, e) = e ∙ ap (λ (j : ℕ). answer (refused j place)) same

pub checked-as : {r : Answer} {n : ℕ} (w : ℕ) (results : ℤ × ℤ) → (k : ℕ) × (k ≡ n) × (r ≡ answer (checked k w results)) → r ≡ answer (checked n w results)
checked-as w results (k, same, e) = e ∙ ap (λ (j : ℕ). answer (checked j w results)) same

pub code-positive : (r : Refusal) → 0 < code_of r
unfolding code_of
code-positive Refusal.Width = omega arith
code-positive Refusal.Code = omega arith
code-positive Refusal.Count = omega arith
code-positive Refusal.NotFixnum = omega arith
code-positive Refusal.Domain = omega arith
code-positive Refusal.Overflow = omega arith
code-positive Refusal.Operand = omega arith
code-positive Refusal.Capacity = omega arith
code-positive Refusal.NotOpen = omega arith
code-positive Refusal.BadRule = omega arith

pub number-positive : (r : Refusal) (k : ℕ) → k ≡ code_of r → 0 < k
number-positive r k same = let p : 0 < code_of r = code-positive r in omega arith

-- the test for overflow, passed and failed; and where there is none
pub checked-fits : (k w : ℕ) (a b : ℤ) → fits w a ≡ true → answer (checked k w (a, b)) ≡ answer (done (a, b))
unfolding checked
checked-fits k w a b h = ap answer (passed k (done (a, b)) (ap (λ (t : Bool). eqb k 0 || t) h ∙ or-true (eqb k 0)))

pub checked-large : (k w : ℕ) (a b : ℤ) → 0 < k → fits w a ≡ false → answer (checked k w (a, b)) ≡ answer (refuse k)
unfolding checked
checked-large k w a b p h =
    ap answer (failed k (done (a, b)) (ap (λ (t : Bool). eqb k 0 || t) h ∙ ap (λ (t : Bool). t || false) (ne_eqb k 0 (λ e. omega arith))))

pub never-checked : (w : ℕ) (r : ℤ × ℤ) → answer (done r) ≡ answer (checked 0 w r)
unfolding checked
never-checked w r = sym (ap answer (passed 0 (done r) refl))

-- an answer from the word that holds its one result, of a code that is never refused for overflow
pub done-never : (w : ℕ) {r : Answer} {y z : ℤ} → r ≡ answer (done (to_z w64 (of_z w64 y), pos 0)) → mag y < 2 ^ 63 → y ≡ z → r ≡ answer (checked 0 w (z, pos 0))
done-never w {z} d h e = done-word d h e ∙ never-checked w (z, pos 0)

-- an answer whose first five stages pass
pub accepted : (w code : ℕ) (xs : List ℤ) (n : ℕ) → is_code code ≡ true → Accepted w code xs n → fixnum_answer w code xs n ≡ answer (outcome w code (counted xs n))
unfolding fixnum_answer guard_each all_fixnums in_domains
accepted w code xs n k a =
    ap answer (passed 1 _ a.width ∙ passed 2 _ k ∙ passed 3 _ a.arity ∙ passed-at 4 _ _ a.fixnums ∙ passed-at 5 _ _ a.domains)
