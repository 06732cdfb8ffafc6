-- What a call comes to, before it is told as an answer.
--   Outcome A            ==  a refusal number with its detail (a place or an offset; 0 where there is none), or a value
--   refuse k             ==  refusal k without a detail
--   guard_at t k d o      ==  o where the test t holds, else refusal k with the detail d: one stage of a call's refusals
--   guard t k o          ==  the same, without a detail
--   map_done f o          ==  o, with f of its value
--   on_done o next        ==  what `next` makes of o's value, or o's refusal
--   refusal_of o          ==  the refusal number, 0 where the call is done
use Rattle.std.specs.Prelude.{ℕ, Bool, cond}

pub data Outcome (A : Type 0) : Type 0 where
  refused : ℕ → ℕ → Outcome A
  done : A → Outcome A

module _ {A : Type 0} where
  abbrev pub refuse : ℕ → Outcome A
  refuse k = refused k 0

  unfoldable pub guard_at : Bool → ℕ → ℕ → Outcome A → Outcome A
  guard_at test k detail o = cond test o (refused k detail)

  unfoldable pub guard : Bool → ℕ → Outcome A → Outcome A
  guard test k o = guard_at test k 0 o

  unfoldable pub refusal_of : Outcome A → ℕ
  refusal_of (refused k detail) = k
  refusal_of (done x) = 0

unfoldable pub map_done : {A B : Type 0} → (A → B) → Outcome A → Outcome B
map_done f (refused k detail) = refused k detail
map_done f (done x) = done (f x)

unfoldable pub on_done : {A B : Type 0} → Outcome A → (A → Outcome B) → Outcome B
on_done (refused k detail) next = refused k detail
on_done (done x) next = next x
