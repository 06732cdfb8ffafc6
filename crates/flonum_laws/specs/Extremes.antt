-- What the call for the smallest and the largest promises.
--   Extreme better xs x   ==  x is one of xs, none of them is better, and it is better than each that is earlier: the first of the best
--   NoNan xs              ==  none of xs is a NaN
--   ExtremesStatement     ==  what a user relies on. The arguments that count are `take n xs`
use Rattle.std.specs.Prelude.{ℕ, ◌<◌, ◌≡◌, Bool, true, false, List, pos, length, take, get_or, Float}
use Rattle.std.specs.Float.{nan, fin}
use Rattle.std.specs.Float.Ieee.{lt, is_nan}
use Rattle.flonum.specs.Extremes.{above}
use Rattle.flonum.specs.Calls.{is_count, extremes_answer}

pub record Extreme (better : Float → Float → Bool) (xs : List Float) (x : Float) : Type 0 where
  pub place : ℕ
  pub inside : place < length xs
  pub is : get_or xs place nan ≡ x
  pub none-better : (i : ℕ) → i < length xs → better (get_or xs i nan) x ≡ false
  pub first : (i : ℕ) → i < place → better x (get_or xs i nan) ≡ true

abbrev pub NoNan : List Float → Type 0
NoNan xs = (i : ℕ) → i < length xs → is_nan (get_or xs i nan) ≡ false

pub record ExtremesStatement : Type 0 where
  -- a count of 0 or above 4: refusal 3, and positive zeros
  pub refused : (xs : List Float) (n : ℕ) → is_count n ≡ false
      → extremes_answer xs n ≡ record { refusal = 3; values = record { smallest = fin false 0 (pos 0); largest = fin false 0 (pos 0) } }
  pub done : (xs : List Float) (n : ℕ) → is_count n ≡ true → (extremes_answer xs n).refusal ≡ 0
  -- of equal ones, zeros of either sign too, the earlier is answered: `lt` tells neither apart
  pub smallest : (xs : List Float) (n : ℕ) → length xs ≡ 4 → is_count n ≡ true → NoNan (take n xs) → Extreme lt (take n xs) (extremes_answer xs n).values.smallest
  pub largest : (xs : List Float) (n : ℕ) → length xs ≡ 4 → is_count n ≡ true → NoNan (take n xs) → Extreme above (take n xs) (extremes_answer xs n).values.largest
  -- one NaN that counts gives a NaN in both halves
  pub any_nan : (xs : List Float) (n i : ℕ) → is_count n ≡ true → i < length (take n xs) → is_nan (get_or (take n xs) i nan) ≡ true
      → (extremes_answer xs n).values ≡ record { smallest = nan; largest = nan }
  -- the arguments from the count on have no influence
  pub counted : (xs ys : List Float) (n : ℕ) → take n xs ≡ take n ys → extremes_answer xs n ≡ extremes_answer ys n
