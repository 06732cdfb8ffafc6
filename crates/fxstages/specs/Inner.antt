-- What the loops over arguments promise. No public call's contract cites it.
--   Computes post f    ==  what a closure with the results `post` makes of two words is what f makes of them
use Rattle.std.specs.Prelude.{◌≡◌, ℤ, FitsSigned}
use Rattle.std.specs.Int.{w64}

abbrev pub Computes : {A : Type 0} → (ℤ → ℤ → A → Type 0) → (ℤ → ℤ → A) → Type 0
Computes {A} post f = (x y : ℤ) (r : A) → FitsSigned w64 x → FitsSigned w64 y → post x y r → r ≡ f x y
