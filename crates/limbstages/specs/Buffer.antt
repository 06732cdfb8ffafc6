-- What a call makes of its outcome: its answer, and the output buffer afterwards, which is 01's work page.
--   stored o out first         ==  the shortest limbs of the outcome's integer, or its refusal, or refusal 8 where they do not fit
--   written o out first        ==  the answer: the refusal number, 0 for done, and how many limbs are written
--   written_of r               ==  the answer of a call with the result r, how many limbs are written or a refusal
--   Writes o out first r out'  ==  r is the answer, and out' the buffer afterwards
--   copied r first out         ==  a copy of the limbs that a call with the answer r has written to the buffer, from the first limb on
use Rattle.std.specs.Prelude.{ℕ, ◌≡◌, List, ℤ, Result, Ok, Err, take, drop}
use Rattle.outcomes.specs.declared.refusal.Refusal.{Refusal}
use Rattle.outcomes.specs.Outcome.{Outcome, map_done, refusal_of}
use Rattle.outcomes.specs.Buffer.{fitted, afterwards, count_of}
use Rattle.outcomes.specs.Refusal.{code_of}
use Rattle.limbwords.specs.Value.{shortest}
use Rattle.limbstages.specs.declared.Written.{Written}

unfoldable pub stored : Outcome ℤ → List ℕ → ℕ → Outcome (List ℕ)
stored o out first = fitted (map_done shortest o) out first

unfoldable pub written : Outcome ℤ → List ℕ → ℕ → Written
written o out first = record { refusal = refusal_of (stored o out first); length = count_of (stored o out first) }

unfoldable pub written_of : Result ℕ Refusal → Written
written_of (Ok n) = record { refusal = 0; length = n }
written_of (Err r) = record { refusal = code_of r; length = 0 }

pub record Writes (o : Outcome ℤ) (out : List ℕ) (first : ℕ) (r : Written) (out' : List ℕ) : Type 0 where
  pub answer : r ≡ written o out first
  pub buffer : out' ≡ afterwards (stored o out first) out first

unfoldable pub copied : Written → ℕ → List ℕ → List ℕ
copied r first out = take r.length (drop first out)
