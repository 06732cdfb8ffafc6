-- Demand 3 for fixnums, in terms of the answers of calls: lists of codes 40 and 41 on one field at one width.
--   answer_to w start end call x    ==  the answer of a rotate (code 40) or a reverse (code 41) on the number x
--   hand_on a x                     ==  what the next call gets: the first result, or x where the answer a is a refusal
--   run_all w start end calls x     ==  the number at the end of the list, from x
--   is_done w start end call        ==  which calls are done, by 01's refusal table: a rotate whose count lies in its domain, a reverse
--   count_fits w call               ==  whether the count of a rotate is a fixnum; a reverse has none
--   refusal_to w start end call     ==  0 for a call that is done; else 4 where its count is no fixnum, and 5 where it is one
--   turned w start end calls x     ==  x, or code 41's answer to it where the done reversals are odd in number
--   Gives w start end calls x y    ==  each call of the list, from x, is done and gets the result of the one before; the last result is y
--   Agree w start end one other x  ==  all calls of both lists, from x, are done, and both end in the same number
--   ListStatement w start end      ==  what demand 3 says of the field, at the width
use Rattle.std.specs.Prelude.{ℕ, ◌+◌, ◌-◌, ◌%◌, ◌≤◌, ◌<◌, ◌≡◌, Bool, true, false, cond, List, [], ◌∷◌, map, eqb, ℤ, pos, length}
use Rattle.bits.specs.Testbit.{is_negative, testbit, fits}
use Rattle.bits.specs.Field.{in_field}
use Rattle.outcomes.specs.Outcome.{done}
use Rattle.bits.specs.FieldList.{FieldCall, rotate, reverse, net_count, odd_reversals}
use Rattle.fxtable.specs.declared.answer.Answer.{Answer}
use Rattle.fxtable.specs.Calls.{answer, all_fixnums, answer_of}
use Rattle.fxtable.specs.declared.domains.Domain.TheVariants.{Rotation}
use Rattle.fxtable.specs.Domains.{accepts}

unfoldable pub answer_to : ℕ → ℕ → ℕ → FieldCall → ℤ → Answer
answer_to w start end (rotate c) x = answer_of w 40 (x ∷ pos start ∷ pos end ∷ c ∷ [])
answer_to w start end reverse x = answer_of w 41 (x ∷ pos start ∷ pos end ∷ [])

unfoldable pub hand_on : Answer → ℤ → ℤ
hand_on a x = cond (eqb a.refusal 0) a.first x

unfoldable pub run_all : ℕ → ℕ → ℕ → List FieldCall → ℤ → ℤ
run_all w start end [] x = x
run_all w start end (call ∷ calls) x = run_all w start end calls (hand_on (answer_to w start end call x) x)

unfoldable pub is_done : ℕ → ℕ → ℕ → FieldCall → Bool
is_done w start end (rotate c) = accepts Rotation w (pos 0 ∷ pos start ∷ pos end ∷ c ∷ []) c
is_done w start end reverse = true

unfoldable pub count_fits : ℕ → FieldCall → Bool
count_fits w (rotate c) = fits w c
count_fits w reverse = true

unfoldable pub refusal_to : ℕ → ℕ → ℕ → FieldCall → ℕ
refusal_to w start end call = cond (is_done w start end call) 0 (cond (count_fits w call) 5 4)

unfoldable pub Gives : ℕ → ℕ → ℕ → List FieldCall → ℤ → ℤ → Type 0
Gives w start end [] x y = x ≡ y
Gives w start end (call ∷ calls) x y = (z : ℤ) × (answer_to w start end call x ≡ answer (done (z, pos 0))) × Gives w start end calls z y

unfoldable pub Agree : ℕ → ℕ → ℕ → List FieldCall → List FieldCall → ℤ → Type 0
Agree w start end one other x = (y : ℤ) × Gives w start end one x y × Gives w start end other x y

unfoldable pub turned : ℕ → ℕ → ℕ → List FieldCall → ℤ → ℤ
turned w start end calls x = cond (odd_reversals (is_done w start end) calls) (answer_of w 41 (x ∷ pos start ∷ pos end ∷ [])).first x

pub record ListStatement (w start end : ℕ) : Type 0 where
  -- which calls are done, and how the others are refused
  pub rule : (call : FieldCall) (x : ℤ) → fits w x ≡ true → (answer_to w start end call x).refusal ≡ refusal_to w start end call
  -- the number at the end is a fixnum, and is the answer of one rotation by the net count
  pub legal : (calls : List FieldCall) (x : ℤ) → fits w x ≡ true → fits w (run_all w start end calls x) ≡ true
  pub end-number : (calls : List FieldCall) (x : ℤ) → fits w x ≡ true
      → answer_of w 40 (turned w start end calls x ∷ pos start ∷ pos end ∷ net_count (is_done w start end) (end - start) calls ∷ [])
      ≡ answer (done (run_all w start end calls x, pos 0))
  -- what every list keeps: code 30's answer, the sign, the bits outside the field
  pub bit-count : (calls : List FieldCall) (x : ℤ) → fits w x ≡ true → answer_of w 30 (run_all w start end calls x ∷ []) ≡ answer_of w 30 (x ∷ [])
  pub sign : (calls : List FieldCall) (x : ℤ) → fits w x ≡ true → is_negative (run_all w start end calls x) ≡ is_negative x
  pub outside : (calls : List FieldCall) (x : ℤ) → fits w x ≡ true → (i : ℕ) → in_field start end i ≡ false
      → testbit (run_all w start end calls x) i ≡ testbit x i
  -- it commutes with code 25, and distributes over codes 26 to 28 of up to four numbers; all these calls are done
  pub commutes-not : (calls : List FieldCall) (x : ℤ) → fits w x ≡ true
      → answer_of w 25 (run_all w start end calls x ∷ []) ≡ answer (done (run_all w start end calls (answer_of w 25 (x ∷ [])).first, pos 0))
  pub distributes : (calls : List FieldCall) (code : ℕ) → 26 ≤ code → code ≤ 28 → (xs : List ℤ) → length xs ≤ 4 → all_fixnums w xs ≡ true
      → answer_of w code (map (run_all w start end calls) xs) ≡ answer (done (run_all w start end calls (answer_of w code xs).first, pos 0))
  -- so, for counts a and b up to the size f of the field: by a and then by b is by (a + b) mod f; by a between two reversals is by (f - a) mod f;
  -- two reversals change nothing; and by a and then by (f - a) mod f changes nothing
  pub rotate-rotate : (a b : ℕ) → a ≤ end - start → b ≤ end - start → (x : ℤ) → fits w x ≡ true
      → Agree w start end (rotate (pos a) ∷ rotate (pos b) ∷ []) (rotate (pos ((a + b) % (end - start))) ∷ []) x
  pub reverse-rotate-reverse : (a : ℕ) → a ≤ end - start → (x : ℤ) → fits w x ≡ true
      → Agree w start end (reverse ∷ rotate (pos a) ∷ reverse ∷ []) (rotate (pos ((end - start - a) % (end - start))) ∷ []) x
  pub reverse-reverse : (x : ℤ) → fits w x ≡ true → Agree w start end (reverse ∷ reverse ∷ []) [] x
  pub rotate-back : (a : ℕ) → a ≤ end - start → (x : ℤ) → fits w x ≡ true
      → Agree w start end (rotate (pos a) ∷ rotate (pos ((end - start - a) % (end - start))) ∷ []) [] x
  -- rotations by different counts below the size are done, and their results differ on some fixnum
  pub counts-differ : (c d : ℕ) → c < end - start → d < end - start → (c ≡ d → ⊥)
      → (x : ℤ) × (fits w x ≡ true) × (y : ℤ) × (z : ℤ)
      × Gives w start end (rotate (pos c) ∷ []) x y × Gives w start end (rotate (pos d) ∷ []) x z × (y ≡ z → ⊥)
