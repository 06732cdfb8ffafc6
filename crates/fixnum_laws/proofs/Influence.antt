-- Slots past the count have no influence on the answer. Assumes nothing.
use Prim.Native.Nat.{ℕ, zero, suc, ◌<◌}
use native.Mathlib.Nat.{zero-lt-suc}
use native.Mathlib.Omega.{arith}
use mathlib.Core.Path.{◌≡◌, refl}
use mathlib.Core.List.{List, [], ◌∷◌}
use lib.IntN.{ℤ, pos}
use lib.ListN.{length, get_or, take}
use Rattle.fxtable.specs.Domains.{arg}
use Rattle.fxtable.specs.Calls.{counted, fixnum_answer}

take-agree : (n : ℕ) (xs ys : List ℤ) → length xs ≡ length ys → ((i : ℕ) → i < n → get_or xs i (pos 0) ≡ get_or ys i (pos 0)) → take n xs ≡ take n ys
take-agree zero xs ys l e = refl
take-agree (suc n) [] [] l e = refl
take-agree (suc n) [] (y ∷ ys) l e = absurd (omega arith)
take-agree (suc n) (x ∷ xs) [] l e = absurd (omega arith)
take-agree (suc n) (x ∷ xs) (y ∷ ys) l e = cc (e 0 (zero-lt-suc n), take-agree n xs ys (omega arith) (λ i h. e (suc i) (omega arith)))

-- two runs of slots that agree up to the count get the same answer
pub uncounted-arguments : (w code n : ℕ) (xs ys : List ℤ) → length xs ≡ length ys → ((i : ℕ) → i < n → arg xs i ≡ arg ys i)
    → fixnum_answer w code xs n ≡ fixnum_answer w code ys n
unfolding fixnum_answer counted arg
uncounted-arguments w code n xs ys l e = rw (take-agree n xs ys l e)
