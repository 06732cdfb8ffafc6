-- A stored rule as a tree: what the bytes of a rule mean, and what its evaluation is about.
--   Form           ==  a constant, an input by its index, or a call of a code with its arguments
--   Forms          ==  the arguments of a call
--   Rule           ==  the stored width and one form
--   count fs       ==  how many arguments
--   size f         ==  how many forms f has, itself included
--   depth f        ==  how deep they are nested: 1 for a form without arguments
--   names f i      ==  whether f has input i
--   holds c f      ==  whether f has a call of the code c
use Rattle.std.specs.Prelude.{ℕ, suc, ◌+◌, max, Bool, false, ◌||◌, eqb, ℤ}

mutual
  pub data Form : Type 0 where
    constant : ℤ → Form
    input : ℕ → Form
    call : ℕ → Forms → Form

  pub data Forms : Type 0 where
    none : Forms
    more : Form → Forms → Forms

pub record Rule : Type 0 where
  pub width : ℕ
  pub form : Form

unfoldable pub count : Forms → ℕ
count none = 0
count (more f fs) = suc (count fs)

unfoldable mutual
  pub size : Form → ℕ
  size (constant z) = 1
  size (input i) = 1
  size (call code args) = suc (sizes args)

  pub sizes : Forms → ℕ
  sizes none = 0
  sizes (more f fs) = size f + sizes fs

unfoldable mutual
  pub depth : Form → ℕ
  depth (constant z) = 1
  depth (input i) = 1
  depth (call code args) = suc (depths args)

  pub depths : Forms → ℕ
  depths none = 0
  depths (more f fs) = max (depth f) (depths fs)

unfoldable mutual
  pub names : Form → ℕ → Bool
  names (constant z) i = false
  names (input j) i = eqb j i
  names (call code args) i = any_names args i

  pub any_names : Forms → ℕ → Bool
  any_names none i = false
  any_names (more f fs) i = names f i || any_names fs i

unfoldable mutual
  pub holds : ℕ → Form → Bool
  holds c (constant z) = false
  holds c (input j) = false
  holds c (call code args) = eqb code c || any_holds c args

  pub any_holds : ℕ → Forms → Bool
  any_holds c none = false
  any_holds c (more f fs) = holds c f || any_holds c fs
