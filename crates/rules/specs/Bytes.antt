-- The bytes of a rule: its width, and then its form. A form is a tag, 0 for a constant, 1 for an input, 2 for a call, and then the constant,
-- the input's index, or the code, the argument count and the arguments.
--   bytes f        ==  the bytes of a form
--   encode_rule r   ==  the bytes of a rule
--   is_rule r       ==  whether a rule is within the limits and so can be stored
--   AllBytes s     ==  each number of s is below 256, as every element of a run of bytes is
use Rattle.std.specs.Prelude.{ℕ, ◌<◌, Bool, ◌&&◌, List, [], ◌∷◌, ◌++◌, leb, length}
use Rattle.rules.specs.Tree.{Form, Forms, constant, input, call, none, more, count, depth, Rule}
use Rattle.rules.specs.Leb128.{unsigned, signed, encode}
use Rattle.rules.specs.Limits.{number_groups, constant_groups, deepest, longest, is_stored_width, within_limits}

abbrev pub number : ℕ → List ℕ
number n = encode unsigned number_groups n

unfoldable mutual
  pub bytes : Form → List ℕ
  bytes (constant z) = 0 ∷ encode signed constant_groups z
  bytes (input i) = 1 ∷ number i
  bytes (call code args) = 2 ∷ (number code ++ (number (count args) ++ all_bytes args))

  pub all_bytes : Forms → List ℕ
  all_bytes none = []
  all_bytes (more f fs) = bytes f ++ all_bytes fs

unfoldable pub encode_rule : Rule → List ℕ
encode_rule r = number r.width ++ bytes r.form

unfoldable pub is_rule : Rule → Bool
is_rule r = is_stored_width r.width && (within_limits r.form && (leb (depth r.form) deepest && leb (length (encode_rule r)) longest))

unfoldable pub AllBytes : List ℕ → Type 0
AllBytes [] = Unit {0}
AllBytes (b ∷ s) = (b < 256) × AllBytes s
