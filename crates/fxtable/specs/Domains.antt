-- Where the arguments of a call must lie: 01's width, and its domains, one test for each argument, from left to right.
--   is_width w               ==  24 <= w <= 64
--   arg xs i                ==  argument i of xs, from 0
--   accepts d w xs x        ==  whether x, an argument of xs at width w, lies in the domain d
--   domain_at ds i           ==  the domain of argument i: any fixnum where ds is shorter
--   domain_tests ds w xs     ==  for each argument, whether it lies in its domain
--   in_domains ds w xs       ==  whether all do
-- A field's start is argument 1 and its end argument 2, which is tested against the start. A rotation's count goes from 0 to the size of
-- the field. A test looks at no argument behind its own.
use Rattle.std.specs.Prelude.{ℕ, suc, ◌-◌, Bool, true, ◌&&◌, List, [], ◌∷◌, leb, ltb, ℤ, pos, neg_ℤ, nat_abs, ◌-ℤ◌, get_or}
use Rattle.bits.specs.Range.{within}
use Rattle.outcomes.specs.Tests.{all_hold}
use Rattle.fxtable.specs.declared.domains.Domain.{Domain}
use Rattle.fxtable.specs.declared.domains.Domain.TheVariants.{Fixnum, Divisor, Position, FieldEnd, NewBit, SignedDistance, Distance, Rotation}

unfoldable pub least_width : ℕ
least_width = 24

unfoldable pub largest_width : ℕ
largest_width = 64

unfoldable pub is_width : ℕ → Bool
is_width w = leb least_width w && leb w largest_width

unfoldable pub arg : List ℤ → ℕ → ℤ
arg xs i = get_or xs i (pos 0)

unfoldable pub accepts : Domain → ℕ → List ℤ → ℤ → Bool
accepts Fixnum w xs x = true
accepts Divisor w xs x = ltb 0 (nat_abs x)
accepts Position w xs x = within (pos 0) x (pos (w - 1))
accepts FieldEnd w xs x = within (arg xs 1) x (pos (w - 1))
accepts NewBit w xs x = within (pos 0) x (pos 1)
accepts SignedDistance w xs x = within (neg_ℤ (pos (w - 1))) x (pos (w - 1))
accepts Distance w xs x = within (pos 0) x (pos (w - 1))
accepts Rotation w xs x = within (pos 0) x (arg xs 2 -ℤ arg xs 1)

unfoldable pub domain_at : List Domain → ℕ → Domain
domain_at ds i = get_or ds i Fixnum

unfoldable pub domain_tests_from : ℕ → List Domain → ℕ → List ℤ → List Bool
domain_tests_from i [] w xs = []
domain_tests_from i (d ∷ ds) w xs = accepts d w xs (arg xs i) ∷ domain_tests_from (suc i) ds w xs

unfoldable pub domain_tests : List Domain → ℕ → List ℤ → List Bool
domain_tests ds w xs = domain_tests_from 0 ds w xs

unfoldable pub in_domains : List Domain → ℕ → List ℤ → Bool
in_domains ds w xs = all_hold (domain_tests ds w xs)
