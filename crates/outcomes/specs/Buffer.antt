-- A buffer that a call writes from an index on, or leaves as it was; over lists of any element.
--   capacity out first     ==  how many elements the buffer has from the first on: document 01's room
--   laid out first xs      ==  the buffer with xs from the first on, and all other elements as they were
--   fitted o out first     ==  o, or refusal 8 where its elements are more than the capacity
--   afterwards o out first ==  the buffer with the elements of o from the first on; as it was where o is a refusal
--   count_of o              ==  how many elements a call with the outcome o has written
use Rattle.std.specs.Prelude.{ℕ, ◌+◌, ◌-◌, List, ◌++◌, leb, length, take, drop}
use Rattle.outcomes.specs.Outcome.{Outcome, refused, done, guard}

module _ {A : Type 0} where
  unfoldable pub capacity : List A → ℕ → ℕ
  capacity out first = length out - first

  unfoldable pub laid : List A → ℕ → List A → List A
  laid out first xs = take first out ++ (xs ++ drop (first + length xs) out)

  unfoldable pub fitted : Outcome (List A) → List A → ℕ → Outcome (List A)
  fitted (refused k detail) out first = refused k detail
  fitted (done xs) out first = guard (leb (length xs) (capacity out first)) 8 (done xs)

  unfoldable pub afterwards : Outcome (List A) → List A → ℕ → List A
  afterwards (refused k detail) out first = out
  afterwards (done xs) out first = laid out first xs

  unfoldable pub count_of : Outcome (List A) → ℕ
  count_of (refused k detail) = 0
  count_of (done xs) = length xs
