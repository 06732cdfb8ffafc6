-- What a stored rule may hold.
--   is_stored_width w        ==  0, or a width of fixnums
--   is_input i              ==  an input's index, 0 to 15
--   is_constant z           ==  a signed 64-bit number
--   is_stored_code c         ==  a code of a fixnum operation with one result: not 18, nor 21 to 24
--   is_count c n            ==  an argument count that the code allows (`fxtable`)
--   number_groups, constant_groups   ==  how many groups a number may take, and a constant
--   deepest, longest       ==  how deep forms may be nested, and how many bytes a rule may have
--   within_limits f         ==  whether every number of a form is such
use Rattle.std.specs.Prelude.{ℕ, Bool, true, not, ◌&&◌, ◌||◌, eqb, ltb, ℤ}
use Rattle.bits.specs.Testbit.{fits}
use Rattle.fxtable.specs.Domains.{is_width}
use Rattle.fxtable.specs.Operations.{has_two}
use Rattle.fxtable.specs.Table.{is_code, row_of}
use Rattle.fxtable.specs.Calls.{is_count}
use Rattle.rules.specs.Tree.{Form, Forms, constant, input, call, none, more, count}

abbrev pub number_groups : ℕ
number_groups = 9

abbrev pub constant_groups : ℕ
constant_groups = 10

abbrev pub deepest : ℕ
deepest = 32

abbrev pub longest : ℕ
longest = 4096

unfoldable pub is_stored_width : ℕ → Bool
is_stored_width w = eqb w 0 || is_width w

unfoldable pub is_tag : ℕ → Bool
is_tag t = ltb t 3

unfoldable pub is_input : ℕ → Bool
is_input i = ltb i 16

unfoldable pub is_constant : ℤ → Bool
is_constant z = fits 64 z

unfoldable pub is_stored_code : ℕ → Bool
is_stored_code code = is_code code && not (has_two (row_of code).results)

unfoldable mutual
  pub within_limits : Form → Bool
  within_limits (constant z) = is_constant z
  within_limits (input i) = is_input i
  within_limits (call code args) = is_stored_code code && (is_count code (count args) && all_within_limits args)

  pub all_within_limits : Forms → Bool
  all_within_limits none = true
  all_within_limits (more f fs) = within_limits f && all_within_limits fs
