-- What a loop that writes promises. No public call's contract cites it.
--   Puts d f a b from to   ==  b is a, but for the elements from one index up to, but not at, another: element j of them is f j.
--                              d stands for an element past the end, of either
use Rattle.std.specs.Prelude.{ℕ, ◌≤◌, ◌<◌, ◌≡◌, List, length, get_or}

pub record Puts {A : Type 0} (d : A) (f : ℕ → A) (a b : List A) (from to : ℕ) : Type 0 where
  pub size : length b ≡ length a
  pub inside : (j : ℕ) → from ≤ j → j < to → get_or b j d ≡ f j
  pub below : (j : ℕ) → j < from → get_or b j d ≡ get_or a j d
  pub above : (j : ℕ) → to ≤ j → get_or b j d ≡ get_or a j d
