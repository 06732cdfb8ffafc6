-- A rule within the limits is read back from its bytes. Assumes nothing.
use Prim.Native.Nat.{ℕ, zero, suc, ◌<◌, ◌≤◌}
use native.Mathlib.Omega.{arith}
use mathlib.Core.Path.{◌≡◌, refl, sym, ap, ◌∙◌}
use mathlib.Core.Bool.{Bool, true, false, not, ◌&&◌, ◌||◌}
use mathlib.Core.List.{List, [], ◌∷◌, ◌++◌, append_assoc, append-nil}
use lib.Dec.{leb, eqb}
use lib.IntN.{ℤ}
use lib.ListN.{length}
use borrow.Author.Tests.{lt-ltb, ltb-true, leb-true, le-leb, eqb-true}
use Rattle.bits.proofs.Booleans.{both_left, both_right}
use Rattle.outcomes.specs.Outcome.{done}
use Rattle.outcomes.proofs.OutcomeLaws.{passed-at}
use Rattle.fxtable.specs.Domains.{is_width}
use Rattle.fxtable.specs.Operations.{has_two}
use Rattle.fxtable.specs.Table.{is_code, row_of}
use Rattle.fxtable.specs.Calls.{is_count}
use Rattle.fxtable.proofs.CallLaws.{width-bounds}
use Rattle.fxtable.proofs.TableLaws.{code-bounds, at-most-four}
use Rattle.rules.specs.Tree.{Form, Forms, constant, input, call, none, more, count, depth, depths, Rule}
use Rattle.rules.specs.Leb128.{got, Groups, unsigned, signed, encode, in_groups}
use Rattle.rules.specs.Limits.{number_groups, constant_groups, deepest, longest, is_stored_width, is_tag, is_input, is_constant, is_stored_code, within_limits, all_within_limits}
use Rattle.rules.specs.Bytes.{number, bytes, all_bytes, encode_rule, is_rule}
use Rattle.rules.specs.Parse.{and_then, item, read_number, read_forms, after_tag, read_head, after_head, read_form, read_rule, whole, parse}
use Rattle.rules.proofs.Leb128Laws.{Lawful, unsigned-lawful, signed-lawful, decode-encode, one-group, one_byte, constant-groups}

-- ---- numbers

item_back : {A : Type 0} (G : Groups A) → Lawful G → (k : ℕ) (test : A → Bool) (v : A) (rest : List ℕ) → in_groups G k v ≡ true → test v ≡ true
    → item G k test (encode G k v ++ rest) ≡ got v rest
unfolding item and_then
item_back G L k test v rest h e = rw (decode-encode G L (length (encode G k v ++ rest)) k v rest h, e) refl

pub number-back : (test : ℕ → Bool) (n : ℕ) (rest : List ℕ) → n < 128 → test n ≡ true → read_number test (number n ++ rest) ≡ got n rest
number-back test n rest h e = item_back unsigned unsigned-lawful number_groups test n rest (one-group n h) e

-- every number that a rule may hold, but a constant, is below 128
pub width_small : (w : ℕ) → is_stored_width w ≡ true → w < 128
unfolding is_stored_width
width_small w h = go (eqb w 0) refl h
  where
    go : (t : Bool) → eqb w 0 ≡ t → t || is_width w ≡ true → w < 128
    go true e k = omega (arith, eqb-true w 0 e)
    go false e k = omega (arith, width-bounds w k)

pub input-small : (i : ℕ) → is_input i ≡ true → i < 16
unfolding is_input
input-small i h = ltb-true i 16 h

pub code-small : (code : ℕ) → is_stored_code code ≡ true → code ≤ 41
unfolding is_stored_code
code-small code h = (code-bounds code (both_left (is_code code) (not (has_two (row_of code).results)) h)).1

-- a number below 128 is one byte
byte-back : (test : ℕ → Bool) (n : ℕ) (rest : List ℕ) → n < 128 → test n ≡ true → read_number test (n ∷ rest) ≡ got n rest
byte-back test n rest h e =
    let one : number n ++ rest ≡ n ∷ rest = ap (λ (s : List ℕ). s ++ rest) (one_byte n h) in
    ap (read_number test) (sym one) ∙ number-back test n rest h e

pub tag_back : (t : ℕ) (rest : List ℕ) → t < 3 → read_number is_tag (t ∷ rest) ≡ got t rest
unfolding is_tag
tag_back t rest h = byte-back is_tag t rest (omega arith) (lt-ltb t 3 h)

pub width_back : (w : ℕ) (rest : List ℕ) → is_stored_width w ≡ true → read_number is_stored_width (w ∷ rest) ≡ got w rest
width_back w rest h = byte-back is_stored_width w rest (width_small w h) h

-- ---- forms

constant-back : (d : ℕ) (z : ℤ) (rest : List ℕ) → is_constant z ≡ true → read_form (suc d) (bytes (constant z) ++ rest) ≡ got (constant z) rest
unfolding bytes read_form read_head after_tag after_head and_then
constant-back d z rest h =
    let s : List ℕ = encode signed constant_groups z ++ rest in
    rw (tag_back 0 s (omega arith), item_back signed signed-lawful constant_groups is_constant z rest (constant-groups z h) h) refl

input_back : (d i : ℕ) (rest : List ℕ) → is_input i ≡ true → read_form (suc d) (bytes (input i) ++ rest) ≡ got (input i) rest
unfolding bytes read_form read_head after_tag after_head and_then
input_back d i rest h =
    rw (tag_back 1 (number i ++ rest) (omega arith), number-back is_input i rest (omega (arith, input-small i h)) h) refl

call_back : (d code n : ℕ) (args : Forms) (s rest : List ℕ) → is_stored_code code ≡ true → is_count code n ≡ true → read_forms (read_form d) n s ≡ got args rest
    → read_form (suc d) (2 ∷ (number code ++ (number n ++ s))) ≡ got (call code args) rest
unfolding read_form read_head after_tag after_head and_then
call_back d code n args s rest hc hn h =
    rw (
      tag_back 2 (number code ++ (number n ++ s)) (omega arith),
      number-back is_stored_code code (number n ++ s) (omega (arith, code-small code hc)) hc,
      number-back (is_count code) n s (omega (arith, at-most-four code n hn)) hn,
      h,
    ) refl

more-back : (d n : ℕ) (f : Form) (fs : Forms) (s rest rest' : List ℕ) → read_form d s ≡ got f rest → read_forms (read_form d) n rest ≡ got fs rest'
    → read_forms (read_form d) (suc n) s ≡ got (more f fs) rest'
unfolding read_forms and_then
more-back d n f fs s rest rest' h hs = rw (h, hs) refl

-- a depth of one or more is a successor
at-depth : (n d : ℕ) (P : ℕ → Type 0) → suc n ≤ d → ((e : ℕ) → n ≤ e → P (suc e)) → P d
at-depth n zero P h p = absurd (omega arith)
at-depth n (suc e) P h p = p e (omega arith)

abbrev Back : Form → List ℕ → ℕ → Type 0
Back f rest d = read_form d (bytes f ++ rest) ≡ got f rest

mutual
  unfolding bytes all_bytes within_limits all_within_limits depth depths count read_forms

  pub form-back : (f : Form) (d : ℕ) (rest : List ℕ) → within_limits f ≡ true → depth f ≤ d → read_form d (bytes f ++ rest) ≡ got f rest
  form-back (constant z) d rest l h = at-depth 0 d (Back (constant z) rest) h (λ e _. constant-back e z rest l)
  form-back (input i) d rest l h = at-depth 0 d (Back (input i) rest) h (λ e _. input_back e i rest l)
  form-back (call code args) d rest l h =
      let ls : is_count code (count args) && all_within_limits args ≡ true = both_right (is_stored_code code) (is_count code (count args) && all_within_limits args) l in
      at-depth (depths args) d (Back (call code args) rest) h (λ e k.
      rw (append_assoc (number code) (number (count args) ++ all_bytes args) rest, append_assoc (number (count args)) (all_bytes args) rest)
      (call_back e code (count args) args (all_bytes args ++ rest) rest
      (both_left (is_stored_code code) (is_count code (count args) && all_within_limits args) l)
      (both_left (is_count code (count args)) (all_within_limits args) ls)
      (forms-back args e rest (both_right (is_count code (count args)) (all_within_limits args) ls) k)))

  pub forms-back : (fs : Forms) (d : ℕ) (rest : List ℕ) → all_within_limits fs ≡ true → depths fs ≤ d → read_forms (read_form d) (count fs) (all_bytes fs ++ rest) ≡ got fs rest
  forms-back none d rest l h = refl
  forms-back (more f fs) d rest l h =
      rw (append_assoc (bytes f) (all_bytes fs) rest)
      (more-back d (count fs) f fs (bytes f ++ (all_bytes fs ++ rest)) (all_bytes fs ++ rest) rest
      (form-back f d (all_bytes fs ++ rest) (both_left (within_limits f) (all_within_limits fs) l) (omega arith))
      (forms-back fs d rest (both_right (within_limits f) (all_within_limits fs) l) (omega arith)))

-- ---- a rule

pub rule-back : (r : Rule) (rest : List ℕ) → is_stored_width r.width ≡ true → within_limits r.form ≡ true → depth r.form ≤ deepest
    → read_rule (encode_rule r ++ rest) ≡ got r rest
unfolding encode_rule read_rule and_then
rule-back r rest a l h =
    let s : List ℕ = bytes r.form in
    rw (
      append_assoc (number r.width) s rest,
      number-back is_stored_width r.width (s ++ rest) (width_small r.width a) a,
      form-back r.form deepest rest l h,
    ) refl

-- the parts of `is_rule`
pub record Stored (r : Rule) : Type 0 where
  pub width : is_stored_width r.width ≡ true
  pub form : within_limits r.form ≡ true
  pub shallow : depth r.form ≤ deepest
  pub short : length (encode_rule r) ≤ longest

pub stored : (r : Rule) → is_rule r ≡ true → Stored r
unfolding is_rule
stored r h =
    let shallow = leb (depth r.form) deepest in
    let short = leb (length (encode_rule r)) longest in
    let h₁ = both_right (is_stored_width r.width) (within_limits r.form && (shallow && short)) h in
    let h₂ = both_right (within_limits r.form) (shallow && short) h₁ in
    record {
      width = both_left (is_stored_width r.width) (within_limits r.form && (shallow && short)) h;
      form = both_left (within_limits r.form) (shallow && short) h₁;
      shallow = leb-true (depth r.form) deepest (both_left shallow short h₂);
      short = leb-true (length (encode_rule r)) longest (both_right shallow short h₂);
    }

pub parse-encode : (r : Rule) → is_rule r ≡ true → parse (encode_rule r) ≡ done r
unfolding parse whole
parse-encode r h =
    let p = stored r h in
    passed-at 10 longest (whole (length (encode_rule r)) (read_rule (encode_rule r))) (le-leb (length (encode_rule r)) longest p.short)
    ∙ (rw append-nil at (ap (whole (length (encode_rule r))) (rule-back r [] p.width p.form p.shallow)))
