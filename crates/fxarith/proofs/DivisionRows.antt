-- The rows of codes 16 to 21, which differ in what they answer and, from 19 on, in the division. Assumes nothing.
use Prim.Native.Nat.{ℕ, ◌≤◌}
use native.Mathlib.Omega.{arith}
use mathlib.Core.Path.{◌≡◌, refl, sym, subst}
use mathlib.Core.Bool.{cond}
use mathlib.Core.List.{[], ◌∷◌}
use mathlib.Core.Logic.{◌⊎◌, inl, inr}
use lib.Dec.{leb}
use lib.IntN.{ℤ}
use Rattle.bits.specs.Division.{div, «mod», div0, mod0}
use Rattle.fxtable.specs.declared.domains.Domain.TheVariants.{Fixnum, Divisor}
use Rattle.fxtable.specs.Domains.{domain_at}
use Rattle.fxtable.specs.Operations.{Results, two, pair}
use Rattle.fxtable.specs.Table.{Row, row, rows, row_of}
use Rattle.fxstages.proofs.DomainLaws.{domain_of}
use Rattle.fxtable.proofs.TableLaws.{from-to}

abbrev pub division_row : ℕ → Results → Row
division_row overflow results = row 2 2 (Fixnum ∷ Divisor ∷ []) overflow results

-- the quotient and the remainder of a code
abbrev pub quotient_of : ℕ → ℤ → ℤ → ℤ
quotient_of code x y = cond (leb 19 code) (div0 x y) (div x y)

abbrev pub remainder_of : ℕ → ℤ → ℤ → ℤ
remainder_of code x y = cond (leb 19 code) (mod0 x y) («mod» x y)

either : (P : ℕ → Type 0) {a b code : ℕ} → P a → P b → (code ≡ a) ⊎ (code ≡ b) → P code
either P p q (inl e) = subst P (sym e) p
either P p q (inr e) = subst P (sym e) q

-- every code takes a divisor
pub takes-divisor : (code : ℕ) → (16 ≤ code) × (code ≤ 21) → domain_of code 1 ≡ Divisor
unfolding rows row_of domain_at
takes-divisor code h = from-to (λ c. domain_of c 1 ≡ Divisor) 16 6 (refl, (refl, (refl, (refl, (refl, (refl, tt)))))) code h.0 (omega arith)

pub quotient-row : {code : ℕ} → (code ≡ 16) ⊎ (code ≡ 19) → row_of code ≡ division_row 6 (two (quotient_of code))
unfolding row_of rows
quotient-row = either (λ (c : ℕ). row_of c ≡ division_row 6 (two (quotient_of c))) refl refl

pub remainder-row : {code : ℕ} → (code ≡ 17) ⊎ (code ≡ 20) → row_of code ≡ division_row 0 (two (remainder_of code))
unfolding row_of rows
remainder-row = either (λ (c : ℕ). row_of c ≡ division_row 0 (two (remainder_of c))) refl refl

pub both-row : {code : ℕ} → (code ≡ 18) ⊎ (code ≡ 21) → row_of code ≡ division_row 6 (pair (quotient_of code) (remainder_of code))
unfolding row_of rows
both-row = either (λ (c : ℕ). row_of c ≡ division_row 6 (pair (quotient_of c) (remainder_of c))) refl refl

-- the codes that are left for both
pub both_code : (code : ℕ) → (16 ≤ code) × (code ≤ 21) → ((code ≡ 16) ⊎ (code ≡ 19) → ⊥) → ((code ≡ 17) ⊎ (code ≡ 20) → ⊥)
    → (code ≡ 18) ⊎ (code ≡ 21)
both_code code h =
    from-to (λ (c : ℕ). ((c ≡ 16) ⊎ (c ≡ 19) → ⊥) → ((c ≡ 17) ⊎ (c ≡ 20) → ⊥) → (c ≡ 18) ⊎ (c ≡ 21)) 16 6
    (λ n m. absurd (n (inl refl)), (λ n m. absurd (m (inl refl)), (λ n m. inl refl, (λ n m. absurd (n (inr refl)), (λ n m. absurd (m (inr refl)), (λ n m. inr refl, tt))))))
    code h.0 (omega arith)
