-- Each breach offends where its item begins. Assumes nothing.
use Prim.Native.Nat.{ℕ, zero, suc, ◌<◌, max}
use native.Mathlib.Omega.{arith}
use mathlib.Core.Path.{◌≡◌, refl, ap, ◌∙◌}
use mathlib.Core.Bool.{Bool, true, false, cond, ◌&&◌}
use mathlib.Core.List.{List, [], ◌∷◌, ◌++◌, append_assoc, append-nil}
use lib.Dec.{leb}
use lib.ListN.{length}
use borrow.Author.Tests.{le-ltb, leb-true, leb-false}
use Rattle.bits.proofs.Booleans.{both_left, both_right}
use Rattle.fxtable.specs.Calls.{is_count}
use Rattle.fxtable.proofs.TableLaws.{at-most-four}
use Rattle.rules.specs.Tree.{Form, Forms, constant, input, call, none, more, count, depth, depths}
use Rattle.rules.specs.Leb128.{Reading, got, offends, Groups, unsigned, signed, encode, decode, in_groups, continued}
use Rattle.rules.specs.Limits.{number_groups, constant_groups, deepest, is_stored_width, is_tag, is_input, is_constant, is_stored_code, within_limits, all_within_limits}
use Rattle.rules.specs.Bytes.{number, bytes, all_bytes, encode_rule}
use Rattle.rules.specs.Parse.{and_then, item, read_forms, after_tag, read_head, after_head, read_form, rule, read_rule, whole}
use Rattle.rules.proofs.Leb128Laws.{Lawful, unsigned-lawful, signed-lawful, decode-encode}
use Rattle.rules.proofs.ParseEncode.{number-back, width_small, code-small, tag_back, form-back}
use Rattle.rule_laws.specs.Breaches.{Continued, deep_from, all_deep_from, NumberStatement, HeadStatement, DepthStatement}
use Rattle.rule_laws.proofs.ParseLaws.{parse-short}

-- ---- numbers

module _ {A : Type 0} (G : Groups A) (left : ℕ) where
  cut_off : (k : ℕ) (s : List ℕ) → Continued s → length s < k → decode G left k s ≡ offends 0
  unfolding Continued decode continued
  cut_off zero s c h = absurd (omega arith)
  cut_off (suc k) [] c h = refl
  cut_off (suc k) (b ∷ s) c h = rw (le-ltb b 128 c.0, cut_off k s c.1 (omega arith)) refl

  too_many : (k : ℕ) (s rest : List ℕ) → Continued s → length s ≡ k → decode G left k (s ++ rest) ≡ offends left
  unfolding Continued decode continued
  too_many zero s rest c h = refl
  too_many (suc k) [] rest c h = absurd (omega arith)
  too_many (suc k) (b ∷ s) rest c h = rw (le-ltb b 128 c.0, too_many k s rest c.1 (omega arith)) refl

  pub numbers : (k : ℕ) → NumberStatement G left k
  numbers k = record { cut_off = cut_off k; too_many = too_many k }

bad-item : {A : Type 0} (G : Groups A) → Lawful G → (k : ℕ) (test : A → Bool) (v : A) (rest : List ℕ) → in_groups G k v ≡ true → test v ≡ false
    → item G k test (encode G k v ++ rest) ≡ offends (length (encode G k v ++ rest))
unfolding item and_then
bad-item G L k test v rest h e = rw (decode-encode G L (length (encode G k v ++ rest)) k v rest h, e) refl

bad-number : (test : ℕ → Bool) (n : ℕ) (rest : List ℕ) → in_groups unsigned number_groups n ≡ true → test n ≡ false
    → item unsigned number_groups test (number n ++ rest) ≡ offends (length (number n ++ rest))
bad-number test n rest h e = bad-item unsigned unsigned-lawful number_groups test n rest h e

-- ---- heads, and the width

pub heads : HeadStatement
unfolding read_head after_tag read_rule and_then
heads = record {
  tag = λ t rest h e. rw (bad-number is_tag t rest h e) refl;
  of-constant = λ z rest h e. rw (tag_back 0 (encode signed constant_groups z ++ rest) (omega arith), bad-item signed signed-lawful constant_groups is_constant z rest h e) refl;
  of-input = λ i rest h e. rw (tag_back 1 (number i ++ rest) (omega arith), bad-number is_input i rest h e) refl;
  of_code = λ code rest h e. rw (tag_back 2 (number code ++ rest) (omega arith), bad-number is_stored_code code rest h e) refl;
  of-count = λ code n rest c h e.
      rw (
        tag_back 2 (number code ++ (number n ++ rest)) (omega arith),
        number-back is_stored_code code (number n ++ rest) (omega (arith, code-small code c)) c,
        bad-number (is_count code) n rest h e,
      ) refl;
  of_width = λ w rest h e. rw (bad-number is_stored_width w rest h e) refl;
}

-- ---- depth

call-offends : (d code n : ℕ) (s : List ℕ) (l : ℕ) → is_stored_code code ≡ true → is_count code n ≡ true → read_forms (read_form d) n s ≡ offends l
    → read_form (suc d) (2 ∷ (number code ++ (number n ++ s))) ≡ offends l
unfolding read_form read_head after_tag after_head and_then
call-offends d code n s l hc hn h =
    rw (
      tag_back 2 (number code ++ (number n ++ s)) (omega arith),
      number-back is_stored_code code (number n ++ s) (omega (arith, code-small code hc)) hc,
      number-back (is_count code) n s (omega (arith, at-most-four code n hn)) hn,
      h,
    ) refl

first-offends : (one : List ℕ → Reading Form) (n : ℕ) (s : List ℕ) (l : ℕ) → one s ≡ offends l → read_forms one (suc n) s ≡ offends l
unfolding read_forms and_then
first-offends one n s l h = rw h refl

later-offends : (one : List ℕ → Reading Form) (n : ℕ) (s : List ℕ) (f : Form) (m : List ℕ) (l : ℕ) → one s ≡ got f m → read_forms one n m ≡ offends l
    → read_forms one (suc n) s ≡ offends l
unfolding read_forms and_then
later-offends one n s f m l h k = rw (h, k) refl

-- no form may be nested at all, or some
by-depth : (d : ℕ) (P : ℕ → Type 0) → P zero → ((e : ℕ) → d ≡ suc e → P (suc e)) → P d
by-depth zero P z s = z
by-depth (suc e) P z s = s e refl

abbrev Deep : Form → List ℕ → ℕ → Type 0
Deep f rest d = read_form d (bytes f ++ rest) ≡ offends (length (deep_from f d ++ rest))

at_once : (f : Form) (rest : List ℕ) → Deep f rest zero
unfolding read_form deep_from
at_once (constant z) rest = refl
at_once (input i) rest = refl
at_once (call code args) rest = refl

-- the first of some forms is too deep, or a later one
deep_more : (d : ℕ) (f : Form) (fs : Forms) (rest : List ℕ) → within_limits f ≡ true → d < max (depth f) (depths fs) → (t : Bool) → leb (depth f) d ≡ t
    → (d < depth f → Deep f (all_bytes fs ++ rest) d)
    → (d < depths fs → read_forms (read_form d) (count fs) (all_bytes fs ++ rest) ≡ offends (length (all_deep_from fs d ++ rest)))
    → read_forms (read_form d) (suc (count fs)) ((bytes f ++ all_bytes fs) ++ rest) ≡ offends (length (cond t (all_deep_from fs d) (deep_from f d ++ all_bytes fs) ++ rest))
deep_more d f fs rest l h true e here later =
    let k = leb-true (depth f) d e in
    rw (append_assoc (bytes f) (all_bytes fs) rest)
    (later-offends (read_form d) (count fs) (bytes f ++ (all_bytes fs ++ rest)) f (all_bytes fs ++ rest) (length (all_deep_from fs d ++ rest))
    (form-back f d (all_bytes fs ++ rest) l k) (later (omega arith)))
deep_more d f fs rest l h false e here later =
    rw (append_assoc (bytes f) (all_bytes fs) rest, append_assoc (deep_from f d) (all_bytes fs) rest)
    (first-offends (read_form d) (count fs) (bytes f ++ (all_bytes fs ++ rest)) (length (deep_from f d ++ (all_bytes fs ++ rest))) (here (leb-false (depth f) d e)))

mutual
  unfolding bytes all_bytes deep_from all_deep_from within_limits all_within_limits depth depths count

  form-deep : (f : Form) (d : ℕ) (rest : List ℕ) → within_limits f ≡ true → d < depth f → read_form d (bytes f ++ rest) ≡ offends (length (deep_from f d ++ rest))
  form-deep (constant z) d rest l h = by-depth d (Deep (constant z) rest) (at_once (constant z) rest) (λ e q. absurd (omega arith))
  form-deep (input i) d rest l h = by-depth d (Deep (input i) rest) (at_once (input i) rest) (λ e q. absurd (omega arith))
  form-deep (call code args) d rest l h =
      let ls : is_count code (count args) && all_within_limits args ≡ true = both_right (is_stored_code code) (is_count code (count args) && all_within_limits args) l in
      by-depth d (Deep (call code args) rest) (at_once (call code args) rest) (λ e q.
      rw (append_assoc (number code) (number (count args) ++ all_bytes args) rest, append_assoc (number (count args)) (all_bytes args) rest)
      (call-offends e code (count args) (all_bytes args ++ rest) (length (all_deep_from args e ++ rest))
      (both_left (is_stored_code code) (is_count code (count args) && all_within_limits args) l)
      (both_left (is_count code (count args)) (all_within_limits args) ls)
      (forms-deep args e rest (both_right (is_count code (count args)) (all_within_limits args) ls) (omega arith))))

  forms-deep : (fs : Forms) (d : ℕ) (rest : List ℕ) → all_within_limits fs ≡ true → d < depths fs
      → read_forms (read_form d) (count fs) (all_bytes fs ++ rest) ≡ offends (length (all_deep_from fs d ++ rest))
  forms-deep none d rest l h = absurd (omega arith)
  forms-deep (more f fs) d rest l h =
      deep_more d f fs rest (both_left (within_limits f) (all_within_limits fs) l) h (leb (depth f) d) refl
      (λ k. form-deep f d (all_bytes fs ++ rest) (both_left (within_limits f) (all_within_limits fs) l) k)
      (λ k. forms-deep fs d rest (both_right (within_limits f) (all_within_limits fs) l) k)

rule-deep : (w : ℕ) (f : Form) → is_stored_width w ≡ true → within_limits f ≡ true → deepest < depth f
    → read_rule (encode_rule (rule w f)) ≡ offends (length (deep_from f deepest))
unfolding encode_rule read_rule and_then
rule-deep w f a l h =
    let read : read_form deepest (bytes f) ≡ offends (length (deep_from f deepest)) = rw (append-nil (bytes f), append-nil (deep_from f deepest)) at (form-deep f deepest [] l h) in
    rw (number-back is_stored_width w (bytes f) (width_small w a) a, read) refl

pub depths-offend : (w : ℕ) (f : Form) → DepthStatement w f
unfolding whole
depths-offend w f = record {
  tag = λ a l h n.
      parse-short (encode_rule (rule w f)) n ∙ ap (whole (length (encode_rule (rule w f)))) (rule-deep w f a l h);
}
