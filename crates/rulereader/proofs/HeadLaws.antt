-- The head of a form, and the width of a rule, in positions. Assumes nothing.
use Prim.Native.Nat.{ℕ, ◌+◌, ◌≤◌, ◌<◌}
use native.Mathlib.Omega.{arith}
use mathlib.Core.Path.{◌≡◌, refl}
use mathlib.Core.Bool.{Bool, true, false, not, ◌||◌}
use mathlib.Core.List.{List}
use lib.Dec.{eqb}
use lib.IntN.{ℤ}
use lib.ListN.{length, drop}
use borrow.Author.Tests.{lt-ltb, le-ltb, ltb-true, eqb-true}
use Rattle.std.specs.Prelude.{Result, Ok, Err}
use Rattle.bits.proofs.Booleans.{both_left}
use Rattle.fxtable.specs.Calls.{is_count}
use Rattle.fxtable.specs.Domains.{is_width}
use Rattle.fxtable.specs.Operations.{has_two}
use Rattle.fxtable.specs.Table.{is_code, row_of}
use Rattle.fxtable.proofs.CallLaws.{width-bounds}
use Rattle.fxtable.proofs.TableLaws.{code-bounds, at-most-four}
use Rattle.rules.specs.Tree.{constant, input}
use Rattle.rules.specs.Leb128.{Reading, got}
use Rattle.rules.specs.Limits.{is_tag, is_input, is_stored_code, is_stored_width}
use Rattle.rules.specs.Parse.{Head, leaf, opens, and_then, read_number, read_constant, after_tag, read_head}
use Rattle.rulereader.specs.declared.heads.Head as answered
use Rattle.rulereader.specs.declared.Offence.{Offence}
use Rattle.rulereader.specs.Placed.{At, Offends, Small, OneGroup, NumberRead, HeadRead}
use Rattle.rulereader.proofs.CutLaws.{passes, fails}

-- ---- no number from 128 on is a tag, an input, a code, a count or a width

small : (test : ℕ → Bool) → ((v : ℕ) → test v ≡ true → v < 128) → Small test
small test h v l = go (test v) refl
  where
    go : (t : Bool) → test v ≡ t → t ≡ false
    go true e = absurd (omega (arith, h v e))
    go false e = refl

pub small-tag : Small is_tag
unfolding is_tag
small-tag = small is_tag (λ v e. omega (arith, ltb-true v 3 e))

pub small-input : Small is_input
unfolding is_input
small-input = small is_input (λ v e. omega (arith, ltb-true v 16 e))

pub small-code : Small is_stored_code
unfolding is_stored_code
small-code = small is_stored_code (λ v e. omega (arith, code-bounds v (both_left (is_code v) (not (has_two (row_of v).results)) e)))

pub small_count : (code : ℕ) → Small (is_count code)
small_count code = small (is_count code) (λ v e. omega (arith, at-most-four code v e))

pub small_width : Small is_stored_width
unfolding is_stored_width
small_width = small is_stored_width (λ v e. go v (eqb v 0) refl e)
  where
    go : (v : ℕ) (t : Bool) → eqb v 0 ≡ t → t || is_width v ≡ true → v < 128
    go v true q e = omega (arith, eqb-true v 0 q)
    go v false q e = omega (arith, width-bounds v e)

-- ---- a number, and then what follows

module _ (s : List ℕ) (i : ℕ) (test : ℕ → Bool) {B : Type 0} (next : ℕ → List ℕ → Reading B) where
  abbrev Then : Reading B
  Then = and_then (read_number test (drop i s)) next

  pub number-offends : Small test → (e : Offence) → NumberRead s i (Err e) → Offends s Then e.offset
  unfolding and_then
  number-offends b e h = let a : Offends s (read_number test (drop i s)) e.offset = h test b in record { left = rw a.left refl; inside = a.inside }

  pub number-fails : (v : ℕ) → OneGroup s i v → test v ≡ false → Offends s Then i
  unfolding and_then
  number-fails v h t = let a : Offends s (read_number test (drop i s)) i = fails s i v h test t in record { left = rw a.left refl; inside = a.inside }

  pub number_read : (v : ℕ) → OneGroup s i v → test v ≡ true → Then ≡ next v (drop (i + 1) s)
  unfolding and_then
  number_read v h t = let a : At s (read_number test (drop i s)) v (i + 1) = passes s i v h test t in rw a.value refl

-- ---- constants, inputs and counts

module _ (s : List ℕ) (i : ℕ) where
  pub constant-read : (z : ℤ) (p : ℕ) → At s (read_constant (drop i s)) z p → At s (after_tag 0 (drop i s)) (leaf (constant z)) p
  unfolding after_tag and_then
  constant-read z p a = record { value = rw a.value refl; inside = a.inside }

  pub constant-offends : (o : ℕ) → Offends s (read_constant (drop i s)) o → Offends s (after_tag 0 (drop i s)) o
  unfolding after_tag and_then
  constant-offends o a = record { left = rw a.left refl; inside = a.inside }

  abbrev input_at : ℕ → List ℕ → Reading Head
  input_at j rest = got (leaf (input j)) rest

  pub input-read : (v : ℕ) → OneGroup s i v → v < 16 → HeadRead s (after_tag 1 (drop i s)) (Ok (answered.Head.Input v, i + 1))
  unfolding after_tag is_input
  input-read v h l =
      let inside : i < length s = h.inside in
      (record { value = number_read s i is_input input_at v h (lt-ltb v 16 l); inside = omega arith }, l)

  pub input-fails : (v : ℕ) → OneGroup s i v → 16 ≤ v → Offends s (after_tag 1 (drop i s)) i
  unfolding after_tag is_input
  input-fails v h l = number-fails s i is_input input_at v h (le-ltb v 16 l)

  pub input-offends : (e : Offence) → NumberRead s i (Err e) → Offends s (after_tag 1 (drop i s)) e.offset
  unfolding after_tag
  input-offends e h = number-offends s i is_input input_at small-input e h

  module _ (code : ℕ) where
    abbrev counted_at : ℕ → List ℕ → Reading Head
    counted_at n rest = got (opens code n) rest

    abbrev pub Counted : Reading Head
    Counted = and_then (read_number (is_count code) (drop i s)) counted_at

    pub count-read : (v : ℕ) → OneGroup s i v → is_count code v ≡ true → HeadRead s Counted (Ok (answered.Head.Call code v, i + 1))
    count-read v h t =
        let inside : i < length s = h.inside in
        (record { value = number_read s i (is_count code) counted_at v h t; inside = omega arith }, at-most-four code v t)

    pub count-fails : (v : ℕ) → OneGroup s i v → is_count code v ≡ false → Offends s Counted i
    count-fails v h t = number-fails s i (is_count code) counted_at v h t

    pub count-offends : (e : Offence) → NumberRead s i (Err e) → Offends s Counted e.offset
    count-offends e h = number-offends s i (is_count code) counted_at (small_count code) e h

  -- ---- a code, and a tag

  abbrev counts : ℕ → List ℕ → Reading Head
  counts code s₁ = and_then (read_number (is_count code) s₁) (λ n rest. got (opens code n) rest)

  pub code_read : (code : ℕ) → OneGroup s i code → is_stored_code code ≡ true
      → (q : Result (answered.Head × ℕ) Offence) → HeadRead s (counts code (drop (i + 1) s)) q → HeadRead s (after_tag 2 (drop i s)) q
  unfolding after_tag
  code_read code h t q g = rw (number_read s i is_stored_code counts code h t) g

  pub code-fails : (code : ℕ) → OneGroup s i code → is_stored_code code ≡ false → Offends s (after_tag 2 (drop i s)) i
  unfolding after_tag
  code-fails code h t = number-fails s i is_stored_code counts code h t

  pub code-offends : (e : Offence) → NumberRead s i (Err e) → Offends s (after_tag 2 (drop i s)) e.offset
  unfolding after_tag
  code-offends e h = number-offends s i is_stored_code counts small-code e h

  abbrev tagged : ℕ → List ℕ → Reading Head
  tagged tag rest = after_tag tag rest

  pub tag_read : (t u : ℕ) → OneGroup s i t → t ≡ u → u < 3
      → (q : Result (answered.Head × ℕ) Offence) → HeadRead s (after_tag u (drop (i + 1) s)) q → HeadRead s (read_head (drop i s)) q
  unfolding read_head is_tag
  tag_read t u h same l q g = rw (number_read s i is_tag tagged t h (lt-ltb t 3 (omega arith)), same) g

  pub tag-fails : (t : ℕ) → OneGroup s i t → (t ≡ 0 → ⊥) → (t ≡ 1 → ⊥) → (t ≡ 2 → ⊥) → Offends s (read_head (drop i s)) i
  unfolding read_head is_tag
  tag-fails t h n₀ n₁ n₂ = number-fails s i is_tag tagged t h (le-ltb t 3 (omega arith))

  pub tag-offends : (e : Offence) → NumberRead s i (Err e) → Offends s (read_head (drop i s)) e.offset
  unfolding read_head
  tag-offends e h = number-offends s i is_tag tagged small-tag e h
