-- The size of a number in limbs. Assumes nothing.
use Prim.Native.Nat.{ℕ, suc, ◌+◌, ◌*◌, ◌^◌, ◌<◌}
use native.Mathlib.Omega.{arith}
use mathlib.Core.Path.{◌≡◌, ap, ◌∙◌}
use mathlib.Core.List.{List, [], ◌∷◌}
use lib.ListN.{length, get_or}
use lib.Pow.{pow-add, pow_pos}
use Rattle.text.specs.Naturals.{natural}

pub natural-lt : (xs : List ℕ) → ((j : ℕ) → get_or xs j 0 < 2 ^ 32) → natural xs < 2 ^ (32 * length xs)
unfolding natural
natural-lt [] b = pow_pos 0
natural-lt (n ∷ ns) b =
    let at : 32 * suc (length ns) ≡ 32 * length ns + 32 = omega arith in
    omega (arith, b 0, natural-lt ns (λ i. b (suc i)), ap (λ (k : ℕ). 2 ^ k) at ∙ pow-add 2 (32 * length ns) 32)
