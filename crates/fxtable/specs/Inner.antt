-- What a call has passed that no refusal from 1 to 5 is given to. No public call's contract cites it.
--   Checked w code args count    ==  no refusal from 1 to 4 is given
--   Accepted w code args count   ==  no refusal from 1 to 5 is given
use Rattle.std.specs.Prelude.{ℕ, ◌≡◌, true, List, ℤ}
use Rattle.fxtable.specs.Domains.{is_width, in_domains}
use Rattle.fxtable.specs.Table.{is_code, row_of}
use Rattle.fxtable.specs.Calls.{counted, is_count, all_fixnums}

pub record Checked (w code : ℕ) (args : List ℤ) (count : ℕ) : Type 0 where
  pub width : is_width w ≡ true
  pub known : is_code code ≡ true
  pub arity : is_count code count ≡ true
  pub fixnums : all_fixnums w (counted args count) ≡ true

pub record Accepted (w code : ℕ) (args : List ℤ) (count : ℕ) : Type 0 where
  pub width : is_width w ≡ true
  pub arity : is_count code count ≡ true
  pub fixnums : all_fixnums w (counted args count) ≡ true
  pub domains : in_domains (row_of code).domains w (counted args count) ≡ true
