-- What the operations answer, from the width and the list of the arguments.
--   single f, double f         ==  one result, and 0 as the second; two results
--   results_of r, has_two r      ==  both results; whether there are two
--   every f                    ==  f of all arguments
--   one, two, three, four f    ==  f of so many arguments
--   question p                 ==  1 where p holds of the arguments, else 0
--   pair f g                   ==  f and g of two arguments, as the two results
--   chain r xs                 ==  whether each argument stands in the relation r to the next
--   fold_from f x ys            ==  f of x and the first of ys, then f of that and the second, ..
--   minus xs                   ==  -x of one argument, x - y of two
--   parts_of w s, carry f       ==  s mod0 2^w and s div0 2^w; those of s = f of three arguments
--   copy_bit_at                  ==  copy-bit, whose result is taken mod0 2^w: position w - 1 is the sign
use Rattle.std.specs.Prelude.{ℕ, ◌^◌, Bool, true, false, cond, not, ◌&&◌, List, [], ◌∷◌, eqb, ℤ, pos, neg_ℤ, nat_abs, ◌-ℤ◌}
use Rattle.std.specs.Int.Signed.{le_z, lt_z}
use Rattle.bits.specs.Testbit.{odd}
use Rattle.bits.specs.Division.{div0, mod0}
use Rattle.bits.specs.Field.{copy_bit}
use Rattle.fxtable.specs.Domains.{arg}

pub data Results : Type 0 where
  single : (ℕ → List ℤ → ℤ) → Results
  double : (ℕ → List ℤ → ℤ × ℤ) → Results

unfoldable pub results_of : Results → ℕ → List ℤ → ℤ × ℤ
results_of (single f) w xs = (f w xs, pos 0)
results_of (double f) w xs = f w xs

unfoldable pub has_two : Results → Bool
has_two (single f) = false
has_two (double f) = true

abbrev pub every : (List ℤ → ℤ) → Results
every f = single (λ w xs. f xs)

abbrev pub one : (ℤ → ℤ) → Results
one f = every (λ xs. f (arg xs 0))

abbrev pub two : (ℤ → ℤ → ℤ) → Results
two f = every (λ xs. f (arg xs 0) (arg xs 1))

abbrev pub three : (ℤ → ℤ → ℤ → ℤ) → Results
three f = every (λ xs. f (arg xs 0) (arg xs 1) (arg xs 2))

abbrev pub four : (ℤ → ℤ → ℤ → ℤ → ℤ) → Results
four f = every (λ xs. f (arg xs 0) (arg xs 1) (arg xs 2) (arg xs 3))

abbrev pub pair : (ℤ → ℤ → ℤ) → (ℤ → ℤ → ℤ) → Results
pair f g = double (λ w xs. (f (arg xs 0) (arg xs 1), g (arg xs 0) (arg xs 1)))

unfoldable pub truth : Bool → ℤ
truth b = cond b (pos 1) (pos 0)

abbrev pub question : (List ℤ → Bool) → Results
question p = every (λ xs. truth (p xs))

-- ---- comparisons

unfoldable pub equal : ℤ → ℤ → Bool
equal x y = le_z x y && le_z y x

unfoldable pub greater : ℤ → ℤ → Bool
greater x y = lt_z y x

unfoldable pub greater_or_equal : ℤ → ℤ → Bool
greater_or_equal x y = le_z y x

unfoldable pub chain_from : (ℤ → ℤ → Bool) → ℤ → List ℤ → Bool
chain_from r x [] = true
chain_from r x (y ∷ ys) = r x y && chain_from r y ys

unfoldable pub chain : (ℤ → ℤ → Bool) → List ℤ → Bool
chain r [] = true
chain r (x ∷ xs) = chain_from r x xs

-- ---- questions of one argument

unfoldable pub is_zero : List ℤ → Bool
is_zero xs = eqb (nat_abs (arg xs 0)) 0

unfoldable pub is_positive : List ℤ → Bool
is_positive xs = lt_z (pos 0) (arg xs 0)

unfoldable pub is_below_zero : List ℤ → Bool
is_below_zero xs = lt_z (arg xs 0) (pos 0)

unfoldable pub is_odd : List ℤ → Bool
is_odd xs = odd (nat_abs (arg xs 0))

unfoldable pub is_even : List ℤ → Bool
is_even xs = not (odd (nat_abs (arg xs 0)))

-- ---- the rest

unfoldable pub fold_from : (ℤ → ℤ → ℤ) → ℤ → List ℤ → ℤ
fold_from f x [] = x
fold_from f x (y ∷ ys) = fold_from f (f x y) ys

unfoldable pub larger : ℤ → ℤ → ℤ
larger x y = cond (lt_z x y) y x

unfoldable pub smaller : ℤ → ℤ → ℤ
smaller x y = cond (lt_z y x) y x

unfoldable pub largest : List ℤ → ℤ
largest xs = fold_from larger (arg xs 0) xs

unfoldable pub smallest : List ℤ → ℤ
smallest xs = fold_from smaller (arg xs 0) xs

unfoldable pub minus : List ℤ → ℤ
minus [] = pos 0
minus (x ∷ []) = neg_ℤ x
minus (x ∷ y ∷ ys) = x -ℤ y

unfoldable pub parts_of : ℕ → ℤ → ℤ × ℤ
parts_of w s = (mod0 s (pos (2 ^ w)), div0 s (pos (2 ^ w)))

abbrev pub carry : (ℤ → ℤ → ℤ → ℤ) → Results
carry f = double (λ w xs. parts_of w (f (arg xs 0) (arg xs 1) (arg xs 2)))

abbrev pub copy_bit_at : Results
copy_bit_at = single (λ w xs. mod0 (copy_bit (arg xs 0) (nat_abs (arg xs 1)) (arg xs 2)) (pos (2 ^ w)))
