-- Demand 3 for limbs, in terms of the answers and buffers of calls: lists of rotate and reverse calls on one field.
--   Step                           ==  a call, and the output that it writes to
--   calls_of steps                  ==  the calls alone
--   outcome_of start end call x     ==  the outcome of a rotate or a reverse on the limbs x
--   reply_of start end s x          ==  the reply of a step on the limbs x
--   hand_on start end s x           ==  what the next call gets: a copy of the limbs that were written, or x where the answer is a refusal
--   all_fit start end steps x       ==  no result of the list is longer than the capacity of its buffer
--   run_steps start end steps x     ==  the limbs at the end of the list, from x
--   is_done call                    ==  which calls are done, by 01's refusal table: a rotate whose count is at least 0, a reverse
--   ample steps                    ==  each buffer has a capacity of 1,024 limbs
--   Run start end steps x          ==  a list from legal limbs, where each result fits its buffer
--   net_calls size calls            ==  the calls that a list on a field of this size comes to: a rotate by its net count, after a reverse where
--                                      the done reversals are odd in number
--   Gives start end steps x y      ==  each call of the list, from x, is done and gets the limbs that the one before has written; the last are y
--   Agree start end one other x    ==  all calls of both lists, from x, are done, and both end in the same limbs
--   ListStatement start end        ==  what demand 3 says of the field
use Rattle.std.specs.Prelude.{ℕ, ◌+◌, ◌-◌, ◌%◌, ◌≤◌, ◌<◌, ◌≡◌, Bool, true, false, cond, ◌&&◌, List, [], ◌∷◌, eqb, leb, ℤ, pos}
use Rattle.std.specs.Int.Signed.{le_z}
use Rattle.bits.specs.Testbit.{is_negative, testbit}
use Rattle.bits.specs.Field.{in_field}
use Rattle.bits.specs.FieldList.{FieldCall, rotate, reverse, net_count, odd_reversals}
use Rattle.limbwords.specs.Value.{value}
use Rattle.outcomes.specs.Outcome.{Outcome}
use Rattle.outcomes.specs.Buffer.{capacity}
use Rattle.outcomes.specs.Number.{number}
use Rattle.limbstages.specs.Stages.{most_limbs}
use Rattle.limbs.specs.Operations.{not_outcome, bitwise_outcome, rotate_outcome, reverse_outcome, bit_count_outcome}
use Rattle.limb_laws.specs.Replies.{Output, Reply, reply_to, limbs_in, has_room, Done, Legal}

pub record Step : Type 0 where
  pub call : FieldCall
  pub to : Output

unfoldable pub calls_of : List Step → List FieldCall
calls_of [] = []
calls_of (s ∷ steps) = s.call ∷ calls_of steps

unfoldable pub outcome_of : ℕ → ℕ → FieldCall → List ℕ → Outcome ℤ
outcome_of start end (rotate c) x = rotate_outcome x (pos start) (pos end) c
outcome_of start end reverse x = reverse_outcome x (pos start) (pos end)

unfoldable pub reply_of : ℕ → ℕ → Step → List ℕ → Reply
reply_of start end s x = reply_to (outcome_of start end s.call x) s.to

unfoldable pub hand_on : ℕ → ℕ → Step → List ℕ → List ℕ
hand_on start end s x = cond (eqb (reply_of start end s x).answer.refusal 0) (limbs_in (reply_of start end s x) s.to) x

unfoldable pub all_fit : ℕ → ℕ → List Step → List ℕ → Bool
all_fit start end [] x = true
all_fit start end (s ∷ steps) x = has_room (reply_of start end s x) && all_fit start end steps (hand_on start end s x)

unfoldable pub run_steps : ℕ → ℕ → List Step → List ℕ → List ℕ
run_steps start end [] x = x
run_steps start end (s ∷ steps) x = run_steps start end steps (hand_on start end s x)

unfoldable pub is_done : FieldCall → Bool
is_done (rotate c) = le_z (pos 0) c
is_done reverse = true

unfoldable pub ample : List Step → Bool
ample [] = true
ample (s ∷ steps) = leb most_limbs (capacity s.to.buffer s.to.first) && ample steps

pub record Run (start end : ℕ) (steps : List Step) (x : List ℕ) : Type 0 where
  pub legal : Legal x
  pub fitting : all_fit start end steps x ≡ true

unfoldable pub net_calls : ℕ → List FieldCall → List FieldCall
net_calls size calls =
    cond (odd_reversals is_done calls) (reverse ∷ rotate (net_count is_done size calls) ∷ []) (rotate (net_count is_done size calls) ∷ [])

unfoldable pub Gives : ℕ → ℕ → List Step → List ℕ → List ℕ → Type 0
Gives start end [] x y = x ≡ y
Gives start end (s ∷ steps) x y = (z : List ℕ) × Done (reply_of start end s x) s.to z × Gives start end steps z y

unfoldable pub Agree : ℕ → ℕ → List Step → List Step → List ℕ → Type 0
Agree start end one other x = (y : List ℕ) × Gives start end one x y × Gives start end other x y

pub record ListStatement (start end : ℕ) : Type 0 where
  -- a call whose result fits is done exactly where its count says so; else it is refused by 5
  pub rule : (s : Step) (x : List ℕ) → Run start end (s ∷ []) x → (reply_of start end s x).answer.refusal ≡ cond (is_done s.call) 0 5
  -- capacities of 1,024 limbs are always enough
  pub enough : (steps : List Step) (x : List ℕ) → Legal x → ample steps ≡ true → all_fit start end steps x ≡ true
  -- the limbs at the end are legal, and the outputs have no influence on them
  pub legal : (steps : List Step) (x : List ℕ) → Run start end steps x → Legal (run_steps start end steps x)
  pub outputs : (steps steps' : List Step) (x : List ℕ) → Run start end steps x → Run start end steps' x → calls_of steps ≡ calls_of steps'
      → run_steps start end steps x ≡ run_steps start end steps' x
  -- they are what one rotate by the net count writes, of x or of what reverse writes for x
  pub end-number : (steps one : List Step) (x : List ℕ) → Run start end steps x → Run start end one x
      → calls_of one ≡ net_calls (end - start) (calls_of steps) → Gives start end one x (run_steps start end steps x)
  -- what every list keeps: the answer of bit-count, the sign, the bits outside the field
  pub bit-count : (steps : List Step) (x : List ℕ) → Run start end steps x
      → number (bit_count_outcome (run_steps start end steps x)) ≡ number (bit_count_outcome x)
  pub sign : (steps : List Step) (x : List ℕ) → Run start end steps x → is_negative (value (run_steps start end steps x)) ≡ is_negative (value x)
  pub outside : (steps : List Step) (x : List ℕ) → Run start end steps x → (i : ℕ) → in_field start end i ≡ false
      → testbit (value (run_steps start end steps x)) i ≡ testbit (value x) i
  -- from what not writes for x, a list ends at what not writes for its end from x; all these calls are done
  pub commutes-not : (steps steps' : List Step) (p q : Output) (x : List ℕ) → Run start end steps x → calls_of steps ≡ calls_of steps'
      → let x' = limbs_in (reply_to (not_outcome x) p) p in
      let last = reply_to (not_outcome (run_steps start end steps x)) q in
      has_room (reply_to (not_outcome x) p) ≡ true → all_fit start end steps' x' ≡ true → has_room last ≡ true
      → Done (reply_to (not_outcome x) p) p x' × Done last q (run_steps start end steps' x')
  -- the same for and, ior, xor of two, and for any other Boolean operation
  pub distributes : (op : Bool → Bool → Bool) (steps steps' steps'' : List Step) (p q : Output) (x y : List ℕ)
      → Run start end steps x → Run start end steps' y → calls_of steps ≡ calls_of steps' → calls_of steps ≡ calls_of steps''
      → let z = limbs_in (reply_to (bitwise_outcome op x y) p) p in
      let last = reply_to (bitwise_outcome op (run_steps start end steps x) (run_steps start end steps' y)) q in
      has_room (reply_to (bitwise_outcome op x y) p) ≡ true → all_fit start end steps'' z ≡ true → has_room last ≡ true
      → Done (reply_to (bitwise_outcome op x y) p) p z × Done last q (run_steps start end steps'' z)
  -- so, for a field of size f: by a and then by b is by (a + b) mod f; by a between two reversals is by (f - a) mod f, where a is at most f;
  -- two reversals change nothing; and by a and then by (f - a) mod f changes nothing
  pub rotate-rotate : (a b : ℕ) (one other : List Step) (x : List ℕ) → Run start end one x → Run start end other x
      → calls_of one ≡ rotate (pos a) ∷ rotate (pos b) ∷ [] → calls_of other ≡ rotate (pos ((a + b) % (end - start))) ∷ []
      → Agree start end one other x
  pub reverse-rotate-reverse : (a : ℕ) → a ≤ end - start → (one other : List Step) (x : List ℕ) → Run start end one x → Run start end other x
      → calls_of one ≡ reverse ∷ rotate (pos a) ∷ reverse ∷ [] → calls_of other ≡ rotate (pos ((end - start - a) % (end - start))) ∷ []
      → Agree start end one other x
  pub reverse-reverse : (one : List Step) (x : List ℕ) → Run start end one x → calls_of one ≡ reverse ∷ reverse ∷ [] → Agree start end one [] x
  pub rotate-back : (a : ℕ) → a ≤ end - start → (one : List Step) (x : List ℕ) → Run start end one x
      → calls_of one ≡ rotate (pos a) ∷ rotate (pos ((end - start - a) % (end - start))) ∷ [] → Agree start end one [] x
  -- rotations by different counts below the size are done, and what they write differs on some legal limbs
  pub counts-differ : (c d : ℕ) → c < end - start → d < end - start → (c ≡ d → ⊥)
      → (x : List ℕ) × Legal x × ((one other : List Step) → Run start end one x → Run start end other x
      → calls_of one ≡ rotate (pos c) ∷ [] → calls_of other ≡ rotate (pos d) ∷ []
      → (y : List ℕ) × (z : List ℕ) × Gives start end one x y × Gives start end other x z × (y ≡ z → ⊥))
