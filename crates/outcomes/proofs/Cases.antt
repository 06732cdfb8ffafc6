-- Stages and buffers, computed from the definitions. Assumes nothing.
use Prim.Native.Nat.{ℕ}
use mathlib.Core.Path.{◌≡◌, refl}
use mathlib.Core.Bool.{true, false}
use mathlib.Core.List.{List, [], ◌∷◌}
use Rattle.outcomes.specs.Outcome.{Outcome, refused, done, refuse, guard_at, guard}
use Rattle.outcomes.specs.Tests.{all_hold, first_failed_from, first_failed, guard_each}
use Rattle.outcomes.specs.Buffer.{capacity, laid, fitted, afterwards, count_of}

-- the first stage that fails gives the refusal
first-stage : ◌≡◌ {A = Outcome ℕ} (guard true 1 (guard_at false 4 2 (guard false 5 (done 9)))) (refused 4 2)
unfolding guard guard_at
first-stage = refl

-- of four tests, the second is the first that fails
place : ◌≡◌ {A = Outcome ℕ} (guard_each (true ∷ false ∷ true ∷ false ∷ []) 4 (done 9)) (refused 4 2)
unfolding guard_each guard_at all_hold first_failed first_failed_from
place = refl

no_place : ◌≡◌ {A = Outcome ℕ} (guard_each (true ∷ true ∷ []) 4 (done 9)) (done 9)
unfolding guard_each guard_at all_hold first_failed first_failed_from
no_place = refl

-- a buffer of five from its third element on: three elements fit, four do not
abbrev five : List ℕ
five = 1 ∷ 2 ∷ 3 ∷ 4 ∷ 5 ∷ []

written : afterwards (fitted (done (7 ∷ 8 ∷ [])) five 2) five 2 ≡ 1 ∷ 2 ∷ 7 ∷ 8 ∷ 5 ∷ []
unfolding afterwards fitted guard guard_at capacity laid
written = refl

exact : afterwards (fitted (done (7 ∷ 8 ∷ 9 ∷ [])) five 2) five 2 ≡ 1 ∷ 2 ∷ 7 ∷ 8 ∷ 9 ∷ []
unfolding afterwards fitted guard guard_at capacity laid
exact = refl

too_long : fitted (done (6 ∷ 7 ∷ 8 ∷ 9 ∷ [])) five 2 ≡ refuse 8
unfolding fitted guard guard_at capacity
too_long = refl

left_alone : afterwards (fitted (done (6 ∷ 7 ∷ 8 ∷ 9 ∷ [])) five 2) five 2 ≡ five
unfolding afterwards fitted guard guard_at capacity
left_alone = refl

-- past the end there is room for nothing
past_the_end : count_of (fitted (done (6 ∷ [])) five 9) ≡ 0
unfolding count_of fitted guard guard_at capacity
past_the_end = refl
