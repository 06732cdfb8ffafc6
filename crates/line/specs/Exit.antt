-- The exit status of the command as a number.
--   number_of s  ==  what a shell is told: 0, 1 or 2
use Rattle.std.specs.Prelude.{ℕ}
use Rattle.line.specs.declared.trouble.Status.{Status}

unfoldable pub number_of : Status → ℕ
number_of Status.Done = 0
number_of Status.Refused = 1
number_of Status.Trouble = 2
