-- An output buffer that is filled from its start.
--   filled text out at       ==  how many bytes are filled after a text, where `at` were
--   after text out at        ==  the buffer after a text: what fits of it stands from `at` on
--   Puts text out at r out'  ==  a text is put into a buffer of which `at` bytes were filled; r are filled now
use Rattle.std.specs.Prelude.{ℕ, ◌≡◌, ◌+◌, ◌-◌, min, List, length, take}
use Rattle.outcomes.specs.Buffer.{laid}

unfoldable pub filled : List ℕ → List ℕ → ℕ → ℕ
filled text out at = min (at + length text) (length out)

unfoldable pub after : List ℕ → List ℕ → ℕ → List ℕ
after text out at = laid out at (take (length out - at) text)

pub record Puts (text out : List ℕ) (at r : ℕ) (out' : List ℕ) : Type 0 where
  pub count : r ≡ filled text out at
  pub buffer : out' ≡ after text out at
