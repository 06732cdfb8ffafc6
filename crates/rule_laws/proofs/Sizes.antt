-- A form takes two bytes or more for each form in it. Assumes nothing.
use Prim.Native.Nat.{ℕ, zero, suc, ◌+◌, ◌*◌, ◌≤◌}
use native.Mathlib.Omega.{arith}
use mathlib.Core.Bool.{Bool, true, false, cond}
use mathlib.Core.List.{[], ◌∷◌, ◌++◌}
use lib.ListN.{length, length-append}
use Rattle.rules.specs.Tree.{Form, Forms, constant, input, call, none, more, count, size, sizes, Rule}
use Rattle.rules.specs.Leb128.{Groups, unsigned, signed, encode}
use Rattle.rules.specs.Limits.{number_groups, constant_groups}
use Rattle.rules.specs.Bytes.{number, bytes, all_bytes, encode_rule}

some_byte : {A : Type 0} (G : Groups A) (k : ℕ) (v : A) → 1 ≤ k → 1 ≤ length (encode G k v)
unfolding encode
some_byte G zero v h = absurd (omega arith)
some_byte G (suc k) v h = go (G.is_last v)
  where
    go : (t : Bool) → 1 ≤ length (cond t (G.low v ∷ []) ((G.low v + 128) ∷ encode G k (G.high v)))
    go true = omega arith
    go false = omega arith

number-byte : (n : ℕ) → 1 ≤ length (number n)
number-byte n = some_byte unsigned number_groups n (omega arith)

mutual
  unfolding size sizes bytes all_bytes

  pub form-bytes : (f : Form) → 2 * size f ≤ length (bytes f)
  form-bytes (constant z) = omega (arith, some_byte signed constant_groups z (omega arith))
  form-bytes (input i) = omega (arith, number-byte i)
  form-bytes (call code args) =
      omega (
        arith,
        length-append (number code) (number (count args) ++ all_bytes args),
        length-append (number (count args)) (all_bytes args),
        number-byte code,
        number-byte (count args),
        forms-bytes args,
      )

  pub forms-bytes : (fs : Forms) → 2 * sizes fs ≤ length (all_bytes fs)
  forms-bytes none = omega arith
  forms-bytes (more f fs) = omega (arith, length-append (bytes f) (all_bytes fs), form-bytes f, forms-bytes fs)

pub rule-bytes : (r : Rule) → 2 * size r.form + 1 ≤ length (encode_rule r)
unfolding encode_rule
rule-bytes r = omega (arith, length-append (number r.width) (bytes r.form), number-byte r.width, form-bytes r.form)
