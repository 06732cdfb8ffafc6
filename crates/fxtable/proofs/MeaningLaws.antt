-- What an accepted call comes to, from the row of its code and the slots, for rows that allow one count of arguments only. Assumes nothing.
use Prim.Native.Nat.{ℕ}
use mathlib.Core.Path.{◌≡◌, refl, sym, ap, ◌∙◌, subst}
use mathlib.Core.Bool.{true, ◌&&◌}
use mathlib.Core.List.{List}
use lib.Dec.{leb, lit<}
use lib.IntN.{ℤ, pos}
use Rattle.outcomes.specs.Outcome.{done}
use Rattle.fxtable.specs.declared.domains.Domain.{Domain}
use Rattle.fxtable.specs.Calls.{answer, counted, is_count, checked, outcome}
use Rattle.fxtable.specs.Domains.{arg}
use Rattle.fxtable.specs.Operations.{single, double, results_of, every}
use Rattle.fxtable.specs.Table.{Row, row, row_of}
use Rattle.fxtable.specs.Inner.{Accepted}
use Rattle.fxtable.proofs.CallLaws.{arg-exactly, never-checked}

pub outcome-row : {r : Row} (w code : ℕ) (ys : List ℤ) → row_of code ≡ r → outcome w code ys ≡ checked r.overflow w (results_of r.results w ys)
unfolding outcome
outcome-row w code ys e = ap (λ (r : Row). checked r.overflow w (results_of r.results w ys)) e

pub arity-row : {r : Row} {w code : ℕ} {xs : List ℤ} {n : ℕ} → row_of code ≡ r → Accepted w code xs n → leb r.least n && leb n r.most ≡ true
unfolding is_count
arity-row {n} e a = subst (λ (r : Row). leb r.least n && leb n r.most ≡ true) e a.arity

-- the answer of a row's results
pub by_row : {r : Row} {y : ℤ × ℤ} (w code : ℕ) (ys : List ℤ) → row_of code ≡ r → results_of r.results w ys ≡ y
    → answer (checked r.overflow w y) ≡ answer (outcome w code ys)
by_row {r} w code ys e k = sym (ap answer (outcome-row w code ys e ∙ ap (checked r.overflow w) k))

-- one result of all arguments, never refused
pub every-outcome : (g : List ℤ → ℤ) {least most : ℕ} {domains : List Domain} (w code : ℕ) (ys : List ℤ) → row_of code ≡ row least most domains 0 (every g)
    → answer (done (g ys, pos 0)) ≡ answer (outcome w code ys)
unfolding results_of
every-outcome g w code ys e = never-checked w (g ys, pos 0) ∙ by_row w code ys e refl

module _ {domains : List Domain} {overflow w code : ℕ} {xs : List ℤ} {n : ℕ} where
  -- one result, of one to four arguments
  pub one-outcome : (f : ℕ → ℤ → ℤ) → row_of code ≡ row 1 1 domains overflow (single (λ v ys. f v (arg ys 0))) → Accepted w code xs n
      → answer (checked overflow w (f w (arg xs 0), pos 0)) ≡ answer (outcome w code (counted xs n))
  unfolding results_of
  one-outcome f e a = by_row w code (counted xs n) e (rw (arg-exactly xs 1 n 0 (arity-row e a) (lit< tt)))

  pub two-outcome : (f : ℕ → ℤ → ℤ → ℤ) → row_of code ≡ row 2 2 domains overflow (single (λ v ys. f v (arg ys 0) (arg ys 1))) → Accepted w code xs n
      → answer (checked overflow w (f w (arg xs 0) (arg xs 1), pos 0)) ≡ answer (outcome w code (counted xs n))
  unfolding results_of
  two-outcome f e a =
      let h = arity-row e a in
      by_row w code (counted xs n) e (rw (arg-exactly xs 2 n 0 h (lit< tt), arg-exactly xs 2 n 1 h (lit< tt)))

  pub three-outcome : (f : ℕ → ℤ → ℤ → ℤ → ℤ) → row_of code ≡ row 3 3 domains overflow (single (λ v ys. f v (arg ys 0) (arg ys 1) (arg ys 2)))
      → Accepted w code xs n → answer (checked overflow w (f w (arg xs 0) (arg xs 1) (arg xs 2), pos 0)) ≡ answer (outcome w code (counted xs n))
  unfolding results_of
  three-outcome f e a =
      let h = arity-row e a in
      by_row w code (counted xs n) e (rw (arg-exactly xs 3 n 0 h (lit< tt), arg-exactly xs 3 n 1 h (lit< tt), arg-exactly xs 3 n 2 h (lit< tt)))

  pub four-outcome : (f : ℕ → ℤ → ℤ → ℤ → ℤ → ℤ)
      → row_of code ≡ row 4 4 domains overflow (single (λ v ys. f v (arg ys 0) (arg ys 1) (arg ys 2) (arg ys 3)))
      → Accepted w code xs n → answer (checked overflow w (f w (arg xs 0) (arg xs 1) (arg xs 2) (arg xs 3), pos 0)) ≡ answer (outcome w code (counted xs n))
  unfolding results_of
  four-outcome f e a =
      let h = arity-row e a in
      by_row w code (counted xs n) e
      (rw (arg-exactly xs 4 n 0 h (lit< tt), arg-exactly xs 4 n 1 h (lit< tt), arg-exactly xs 4 n 2 h (lit< tt), arg-exactly xs 4 n 3 h (lit< tt)))

  -- two results, of two and of three arguments
  pub pair-outcome : (f : ℕ → ℤ → ℤ → ℤ × ℤ) → row_of code ≡ row 2 2 domains overflow (double (λ v ys. f v (arg ys 0) (arg ys 1))) → Accepted w code xs n
      → answer (checked overflow w (f w (arg xs 0) (arg xs 1))) ≡ answer (outcome w code (counted xs n))
  unfolding results_of
  pair-outcome f e a =
      let h = arity-row e a in
      by_row w code (counted xs n) e (rw (arg-exactly xs 2 n 0 h (lit< tt), arg-exactly xs 2 n 1 h (lit< tt)))

  pub carry-outcome : (f : ℕ → ℤ → ℤ → ℤ → ℤ × ℤ) → row_of code ≡ row 3 3 domains overflow (double (λ v ys. f v (arg ys 0) (arg ys 1) (arg ys 2)))
      → Accepted w code xs n → answer (checked overflow w (f w (arg xs 0) (arg xs 1) (arg xs 2))) ≡ answer (outcome w code (counted xs n))
  unfolding results_of
  carry-outcome f e a =
      let h = arity-row e a in
      by_row w code (counted xs n) e (rw (arg-exactly xs 3 n 0 h (lit< tt), arg-exactly xs 3 n 1 h (lit< tt), arg-exactly xs 3 n 2 h (lit< tt)))
