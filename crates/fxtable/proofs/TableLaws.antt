-- Rules that hold of every row of the table, each a computed test; and cases on the code. Assumes nothing.
use Prim.Native.Nat.{ℕ, zero, suc, ◌+◌, ◌≤◌, ◌<◌}
use native.Mathlib.Nat.{le_trans, not-suc-le-zero, le_of_suc-le-suc, zero-lt-suc}
use native.Mathlib.Omega.{arith}
use mathlib.Core.Path.{◌≡◌, refl, sym, subst}
use mathlib.Core.Bool.{Bool, true, false, ◌&&◌}
use mathlib.Core.List.{List, [], ◌∷◌}
use lib.Dec.{leb, eqb}
use lib.ListN.{get_or, length}
use borrow.Author.Tests.{leb-true, eqb-true, eqb-false}
use Rattle.fxtable.specs.Table.{Row, rows, no_row, is_code, row_of}
use Rattle.fxtable.specs.Calls.{is_count}
use Rattle.bits.proofs.Booleans.{both_left, both_right}
use Rattle.fxtable.proofs.CallLaws.{between}

abbrev pub all_rows : (Row → Bool) → List Row → Bool
all_rows p [] = true
all_rows p (r ∷ rs) = p r && all_rows p rs

all_get_d : (p : Row → Bool) (rs : List Row) (d : Row) → all_rows p rs ≡ true → p d ≡ true → (i : ℕ) → p (get_or rs i d) ≡ true
all_get_d p [] d h k i = k
all_get_d p (r ∷ rs) d h k zero = both_left (p r) (all_rows p rs) h
all_get_d p (r ∷ rs) d h k (suc i) = all_get_d p rs d (both_right (p r) (all_rows p rs) h) k i

-- what holds of each row holds of the row of any number
pub of_row : (p : Row → Bool) → all_rows p rows ≡ true → p no_row ≡ true → (code : ℕ) → p (row_of code) ≡ true
unfolding row_of
of_row p h k code = all_get_d p (no_row ∷ rows) no_row (rw (k, h)) k code

-- the same, of a test that looks at the code too
abbrev all_codes : (ℕ → Row → Bool) → ℕ → List Row → Bool
all_codes p i [] = true
all_codes p i (r ∷ rs) = p i r && all_codes p (suc i) rs

codes-get_d : (p : ℕ → Row → Bool) (i : ℕ) (rs : List Row) (d : Row) → all_codes p i rs ≡ true → (j : ℕ) → j < length rs → p (i + j) (get_or rs j d) ≡ true
codes-get_d p i [] d h j l = absurd (not-suc-le-zero l)
codes-get_d p i (r ∷ rs) d h zero l = subst (λ (k : ℕ). p k r ≡ true) (omega arith) (both_left (p i r) (all_codes p (suc i) rs) h)
codes-get_d p i (r ∷ rs) d h (suc j) l =
    subst (λ (k : ℕ). p k (get_or rs j d) ≡ true) (omega arith) (codes-get_d p (suc i) rs d (both_right (p i r) (all_codes p (suc i) rs) h) j (le_of_suc-le-suc l))

pub of_code : (p : ℕ → Row → Bool) → all_codes p 0 (no_row ∷ rows) ≡ true → (code : ℕ) → is_code code ≡ true → p code (row_of code) ≡ true
unfolding row_of is_code rows
of_code p h code c =
    subst (λ (k : ℕ). p k (get_or (no_row ∷ rows) code no_row) ≡ true) (omega arith) (codes-get_d p 0 (no_row ∷ rows) no_row h code (omega (arith, between 1 code 41 c)))

-- no code takes more than four arguments
most-four : (code : ℕ) → (row_of code).most ≤ 4
unfolding rows no_row
most-four code = leb-true (row_of code).most 4 (of_row (λ r. leb r.most 4) refl refl code)

pub at-most-four : (code count : ℕ) → is_count code count ≡ true → count ≤ 4
unfolding is_count
at-most-four code count h = le_trans (between (row_of code).least count (row_of code).most h).1 (most-four code)

pub code-bounds : (code : ℕ) → is_code code ≡ true → (1 ≤ code) × (code ≤ 41)
unfolding is_code rows
code-bounds code h = between 1 code 41 h

-- what the last arm of a match knows, whose other arms are 1 to k
abbrev NoneTo : ℕ → ℕ → Type 0
NoneTo zero code = Unit {0}
NoneTo (suc k) code = NoneTo k code × (code ≡ suc k → ⊥)

pub past : (k code : ℕ) → 1 ≤ code → NoneTo k code → k < code
past zero code h n = h
past (suc k) code h n = let l = past k code h n.0 in let d = n.1 in omega arith

-- past them, there is no row
get_d_past : (rs : List Row) (d : Row) (i : ℕ) → length rs ≤ i → get_or rs i d ≡ d
get_d_past [] d i h = refl
get_d_past (r ∷ rs) d zero h = absurd (not-suc-le-zero h)
get_d_past (r ∷ rs) d (suc i) h = get_d_past rs d i (le_of_suc-le-suc h)

pub no-row : (code : ℕ) → NoneTo 41 code → row_of code ≡ no_row
unfolding row_of rows
no-row zero n = refl
no-row (suc code) n = get_d_past rows no_row code (le_of_suc-le-suc (past 41 (suc code) (zero-lt-suc code) n))

-- cases on a code from a to a + k - 1
abbrev Each : (ℕ → Type 0) → ℕ → ℕ → Type 0
Each P a zero = Unit {0}
Each P a (suc k) = P a × Each P (suc a) k

pub from-to : (P : ℕ → Type 0) (a k : ℕ) → Each P a k → (code : ℕ) → a ≤ code → code < a + k → P code
from-to P a zero e code h l = absurd (omega arith)
from-to P a (suc k) e code h l = go (eqb code a) refl (λ d. from-to P (suc a) k e.1 code (omega arith) (omega arith))
  where
    go : (t : Bool) → eqb code a ≡ t → ((code ≡ a → ⊥) → P code) → P code
    go true q rest = subst P (sym (eqb-true code a q)) e.0
    go false q rest = rest (eqb-false code a q)
