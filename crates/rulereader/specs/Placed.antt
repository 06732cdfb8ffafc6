-- How the readers' answers, which have positions in the bytes s, mean readings. No public call's contract cites it.
--   At s r v p                 ==  the reading r has got v, which ends before position p
--   Offends s r o              ==  the reading r offends at position o
--   cut_off k s                 ==  whether s ends before the last group of a number, with fewer than k groups
--   NumberRead s i m           ==  m is the number of one group at position i; or where a number there offends, whatever is asked of it,
--                                  as long as no number from 128 on will do
--   constant_from left k s      ==  a constant of at most k groups, which offends where `left` bytes are left
--   joined_group start a g      ==  what a group g before an integer's groups a makes of it
--   offence o                   ==  an offence at position o
--   HeadAt s r h p              ==  the reading r has got the head h, which ends before position p
--   GroupsRead, ConstantRead, HeadRead, Read s r m   ==  m is the answer that means the reading r: of a constant, of a head, of anything
--   RuleRead s o m             ==  m is the answer that means the outcome o of parsing: with where the form begins that is read
--   StoredWidth m              ==  the width that m has is one that may be stored
use Rattle.std.specs.Prelude.{ℕ, zero, suc, ◌+◌, ◌-◌, ◌*◌, ◌≤◌, ◌<◌, ◌^◌, ◌≡◌, Bool, true, false, cond, List, [], ◌∷◌, ltb, leb, ℤ, length, drop, get_or, Result, Ok, Err}
use Rattle.words.specs.Sign.{of_magnitude}
use Rattle.outcomes.specs.Outcome.{Outcome, refused, done}
use Rattle.rules.specs.Tree.{Form, constant, input, Rule}
use Rattle.rules.specs.Leb128.{Reading, got, offends, signed, decode}
use Rattle.rules.specs.Limits.{deepest, is_constant, is_stored_width}
use Rattle.rules.specs.Parse.{Head, leaf, opens, and_then, read_number, rule, read_form}
use Rattle.rulereader.specs.declared.constants.Groups.{Groups}
use Rattle.rulereader.specs.declared.heads.Head as answered
use Rattle.rulereader.specs.declared.Offence.{Offence}
use Rattle.rulereader.specs.declared.Stored.{Stored}

pub record At {A : Type 0} (s : List ℕ) (r : Reading A) (v : A) (p : ℕ) : Type 0 where
  pub value : r ≡ got v (drop p s)
  pub inside : p ≤ length s

pub record Offends {A : Type 0} (s : List ℕ) (r : Reading A) (o : ℕ) : Type 0 where
  pub left : r ≡ offends (length s - o)
  pub inside : o ≤ length s

unfoldable pub cut_off : ℕ → List ℕ → Bool
cut_off zero s = false
cut_off (suc k) [] = true
cut_off (suc k) (b ∷ s) = cond (ltb b 128) false (cut_off k s)

pub record OneGroup (s : List ℕ) (i v : ℕ) : Type 0 where
  pub inside : i < length s
  pub group : get_or s i 0 ≡ v
  pub last : v < 128

abbrev pub Small : (ℕ → Bool) → Type 0
Small test = (v : ℕ) → 128 ≤ v → test v ≡ false

abbrev pub NumberRead : List ℕ → ℕ → Result ℕ Offence → Type 0
NumberRead s i (Ok v) = OneGroup s i v
NumberRead s i (Err e) = (test : ℕ → Bool) → Small test → Offends s (read_number test (drop i s)) e.offset

unfoldable pub constant_from : ℕ → ℕ → List ℕ → Reading ℤ
constant_from left k s = and_then (decode signed left k s) (λ z rest. cond (is_constant z) (got z rest) (offends left))

abbrev pub offence : ℕ → Offence
offence o = record { offset = o }

unfoldable pub joined_group : ℕ → Groups → ℕ → Result Groups Offence
joined_group start rest g =
    let m = rest.magnitude * 128 + cond rest.negative (127 - g) g in
    cond (leb (2 ^ 56) rest.magnitude) (Err (offence start)) (cond (ltb m 64) (Err (offence start)) (Ok (record { negative = rest.negative; magnitude = m; end = rest.end })))

abbrev pub GroupsRead : List ℕ → Reading ℤ → Result Groups Offence → Type 0
GroupsRead s r (Ok a) = At s r (of_magnitude a.negative a.magnitude) a.end × (a.magnitude < 2 ^ 63)
GroupsRead s r (Err e) = Offends s r e.offset

abbrev pub ConstantRead : List ℕ → Reading ℤ → Result (ℤ × ℕ) Offence → Type 0
ConstantRead s r (Ok a) = At s r a.0 a.1
ConstantRead s r (Err e) = Offends s r e.offset

abbrev pub HeadAt : List ℕ → Reading Head → answered.Head → ℕ → Type 0
HeadAt s r (answered.Head.Constant z) p = At s r (leaf (constant z)) p
HeadAt s r (answered.Head.Input i) p = At s r (leaf (input i)) p × (i < 16)
HeadAt s r (answered.Head.Call code n) p = At s r (opens code n) p × (n ≤ 4)

abbrev pub HeadRead : List ℕ → Reading Head → Result (answered.Head × ℕ) Offence → Type 0
HeadRead s r (Ok a) = HeadAt s r a.0 a.1
HeadRead s r (Err e) = Offends s r e.offset

abbrev pub Read : {A : Type 0} → List ℕ → Reading A → Result ℕ Offence → Type 0
Read {A} s r (Ok p) = (v : A) × At s r v p
Read s r (Err e) = Offends s r e.offset

pub record Begins (s : List ℕ) (o : Outcome Rule) (w p : ℕ) (f : Form) : Type 0 where
  pub parsed : o ≡ done (rule w f)
  pub reads : read_form deepest (drop p s) ≡ got f []
  pub inside : p ≤ length s

abbrev pub RuleRead : List ℕ → Outcome Rule → Result Stored Offence → Type 0
RuleRead s o (Ok r) = (f : Form) × Begins s o r.width r.form f
RuleRead s o (Err e) = o ≡ refused 10 e.offset

abbrev pub StoredWidth : Result Stored Offence → Type 0
StoredWidth (Ok r) = is_stored_width r.width ≡ true
StoredWidth (Err e) = Unit {0}
