-- The net count of a piece, by the code's two reductions. Assumes nothing.
use Prim.Native.Nat.{ℕ, ◌+◌, ◌*◌, ◌/◌, ◌%◌}
use native.Mathlib.Nat.{add-mul-mod_self_left, mod-add-div}
use native.Mathlib.Omega.{arith}
use mathlib.Core.Path.{◌≡◌, sym, ap, ◌∙◌}
use mathlib.Core.Bool.{Bool, true, false, cond}
use lib.Dec.{eqb}

scaled : (c n q r s : ℕ) → r + s * q ≡ n → c * n ≡ c * r + s * (c * q)
scaled c n q r s h = ap (λ (k : ℕ). c * k) (sym h) ∙ omega arith

mod-factor : (c n s : ℕ) → c * (n % s) % s ≡ c * n % s
mod-factor c n s = sym (ap (λ (k : ℕ). k % s) (scaled c n (n / s) (n % s) s (mod-add-div n s)) ∙ add-mul-mod_self_left (c * (n % s)) s (c * (n / s)))

pub reduced-twice : (c n size : ℕ) {r k : ℕ} → r ≡ cond (eqb size 0) 0 (n % size) → k ≡ cond (eqb size 0) 0 (c * r % size)
    → k ≡ cond (eqb size 0) 0 (c * n % size)
reduced-twice c n size {r} {k} p q = go (eqb size 0) p q
  where
    go : (t : Bool) → r ≡ cond t 0 (n % size) → k ≡ cond t 0 (c * r % size) → k ≡ cond t 0 (c * n % size)
    go true p q = q
    go false p q = q ∙ ap (λ (m : ℕ). c * m % size) p ∙ mod-factor c n size
