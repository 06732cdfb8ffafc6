-- What is read as a rule is within the limits, and bytes that are read as a rule are that rule's: one spelling for each. Assumes nothing.
use Prim.Native.Nat.{ℕ, zero, suc, ◌<◌, ◌≤◌}
use native.Mathlib.Omega.{arith}
use mathlib.Core.Path.{◌≡◌, refl, sym, ap, ◌∙◌}
use mathlib.Core.Bool.{Bool, true, false, cond, ◌&&◌}
use mathlib.Core.List.{List, [], ◌∷◌, ◌++◌, append_assoc, append-nil}
use lib.Dec.{eqb, leb}
use lib.ListN.{length}
use borrow.Author.Tests.{ltb-true, eqb-true, leb-true, le-leb}
use Rattle.bits.proofs.Booleans.{both_left, both_right}
use Rattle.outcomes.specs.Outcome.{refused, done, guard_at}
use Rattle.outcomes.proofs.OutcomeLaws.{refused-done}
use Rattle.fxtable.specs.Calls.{is_count}
use Rattle.rules.specs.Tree.{Form, Forms, constant, input, call, none, more, count, depth, depths, Rule}
use Rattle.rules.specs.Leb128.{Reading, got, offends, Groups, unsigned, signed, encode, decode}
use Rattle.rules.specs.Limits.{number_groups, constant_groups, deepest, longest, is_stored_width, is_tag, is_input, is_constant, is_stored_code, within_limits, all_within_limits}
use Rattle.rules.specs.Bytes.{number, bytes, all_bytes, encode_rule, is_rule, AllBytes}
use Rattle.rules.specs.Parse.{and_then, item, read_number, read_constant, Head, leaf, opens, after_tag, read_head, read_forms, after_head, read_form, rule, read_rule, whole, parse}
use Rattle.rules.proofs.Leb128Laws.{Lawful, unsigned-lawful, signed-lawful, encode-decode, one_byte, offends-got}

-- what was read before, where two things are read: for a proof of P it may be taken as known
pub parts : {A B P : Type 0} (r : Reading A) (next : A → List ℕ → Reading B) (v : B) (rest : List ℕ) → and_then r next ≡ got v rest
    → ((u : A) (m : List ℕ) → r ≡ got u m → next u m ≡ got v rest → P) → P
unfolding and_then
parts (got u m) next v rest e then = then u m refl e
parts (offends l) next v rest e then = offends-got e

and_both : {a b : Bool} → a ≡ true → b ≡ true → a && b ≡ true
and_both p q = rw (p, q) refl

-- the rest of bytes are bytes
bytes_after : (xs rest : List ℕ) → AllBytes (xs ++ rest) → AllBytes rest
unfolding AllBytes
bytes_after [] rest h = h
bytes_after (x ∷ xs) rest h = bytes_after xs rest h.1

after : (s xs rest : List ℕ) → s ≡ xs ++ rest → AllBytes s → AllBytes rest
after s xs rest e h = bytes_after xs rest (rw e at h)

-- ---- numbers

module _ {A : Type 0} (G : Groups A) (k : ℕ) (test : A → Bool) where
  -- the test holds for v; and bytes s are the groups of v, and then `rest`
  record IsItem (s : List ℕ) (v : A) (rest : List ℕ) : Type 0 where
    same : AllBytes s → s ≡ encode G k v ++ rest
    passed : test v ≡ true

  is-item : Lawful G → (s : List ℕ) (v : A) (rest : List ℕ) → item G k test s ≡ got v rest → IsItem s v rest
  unfolding item
  is-item L s v rest e =
      parts (decode G (length s) k s) (λ v rest. cond (test v) (got v rest) (offends (length s))) v rest e
      (λ u r one two. go u r (λ b. (encode-decode G L (length s) k s u r b one).same) (test u) refl two)
    where
      go : (u : A) (r : List ℕ) → (AllBytes s → s ≡ encode G k u ++ r) → (t : Bool) → test u ≡ t → cond t (got u r) (offends (length s)) ≡ got v rest
          → IsItem s v rest
      go u r w true q e = let u' : u ≡ v = cc in let r' : r ≡ rest = cc in rw (← u', ← r') (record { same = w; passed = q })
      go u r w false q e = offends-got e

abbrev IsNumber : (ℕ → Bool) → List ℕ → ℕ → List ℕ → Type 0
IsNumber test s n rest = IsItem unsigned number_groups test s n rest

is_number : (test : ℕ → Bool) (s : List ℕ) (n : ℕ) (rest : List ℕ) → read_number test s ≡ got n rest → IsNumber test s n rest
is_number test = is-item unsigned number_groups test unsigned-lawful

-- ---- forms

-- f is within the limits; and bytes s are f's, and then `rest`
pub record IsForm (d : ℕ) (s : List ℕ) (f : Form) (rest : List ℕ) : Type 0 where
  pub same : AllBytes s → s ≡ bytes f ++ rest
  pub inside : within_limits f ≡ true
  pub shallow : depth f ≤ d

pub record AreForms (d n : ℕ) (s : List ℕ) (fs : Forms) (rest : List ℕ) : Type 0 where
  pub same : AllBytes s → s ≡ all_bytes fs ++ rest
  pub inside : all_within_limits fs ≡ true
  pub shallow : depths fs ≤ d
  pub counted : count fs ≡ n

no-forms : (d : ℕ) (s : List ℕ) → AreForms d 0 s none s
unfolding all_bytes all_within_limits depths count
no-forms d s = record { same = λ b. refl; inside = refl; shallow = omega arith; counted = refl }

more-forms : (d n : ℕ) (s t rest : List ℕ) (f : Form) (fs : Forms) → IsForm d s f t → AreForms d n t fs rest → AreForms d (suc n) s (more f fs) rest
unfolding all_bytes all_within_limits depths count
more-forms d n s t rest f fs a m = record {
  same = λ b. let e = a.same b in
      e ∙ ap (λ (l : List ℕ). bytes f ++ l) (m.same (after s (bytes f) t e b)) ∙ sym (append_assoc (bytes f) (all_bytes fs) rest);
  inside = and_both a.inside m.inside;
  shallow = omega (arith, a.shallow, m.shallow);
  counted = ap suc m.counted;
}

abbrev Sound : (List ℕ → Reading Form) → ℕ → Type 0
Sound one d = (s : List ℕ) (f : Form) (rest : List ℕ) → one s ≡ got f rest → IsForm d s f rest

-- n forms, where `one` reads forms only
are-forms : (one : List ℕ → Reading Form) (d : ℕ) → Sound one d
    → (n : ℕ) (s : List ℕ) (fs : Forms) (rest : List ℕ) → read_forms one n s ≡ got fs rest → AreForms d n s fs rest
unfolding read_forms
are-forms one d sound zero s fs rest e =
    let fs' : none ≡ fs = cc in let s' : s ≡ rest = cc in rw (← fs', ← s') (no-forms d s)
are-forms one d sound (suc n) s fs rest e =
    parts (one s) (λ f s₁. and_then (read_forms one n s₁) (λ fs rest. got (more f fs) rest)) fs rest e (λ g m p p'.
    parts (read_forms one n m) (λ fs rest. got (more g fs) rest) fs rest p' (λ gs r q q'.
    let fs' : more g gs ≡ fs = cc in
    let r' : r ≡ rest = cc in
    rw (← fs', ← r') (more-forms d n s m r g gs (sound s g m p) (are-forms one d sound n m gs r q))))

-- ---- heads

head_bytes : Head → List ℕ
head_bytes (leaf f) = bytes f
head_bytes (opens code n) = 2 ∷ (number code ++ number n)

is_head : Head → Bool
is_head (leaf f) = within_limits f && eqb (depth f) 1
is_head (opens code n) = is_stored_code code && is_count code n

record IsHead (s : List ℕ) (h : Head) (rest : List ℕ) : Type 0 where
  same : AllBytes s → s ≡ head_bytes h ++ rest
  inside : is_head h ≡ true

record IsTagged (t : ℕ) (s : List ℕ) (h : Head) (rest : List ℕ) : Type 0 where
  same : AllBytes s → t ∷ s ≡ head_bytes h ++ rest
  inside : is_head h ≡ true

after_tag-tagged : (t : ℕ) (s : List ℕ) (h : Head) (rest : List ℕ) → t < 3 → after_tag t s ≡ got h rest → IsTagged t s h rest
unfolding after_tag head_bytes is_head bytes within_limits depth
after_tag-tagged zero s h rest t e =
    parts (read_constant s) (λ z rest. got (leaf (constant z)) rest) h rest e (λ z m p q.
    let h' : leaf (constant z) ≡ h = cc in let r' : m ≡ rest = cc in
    let w = is-item signed constant_groups is_constant signed-lawful s z m p in
    rw (← h', ← r') (record { same = λ b. ap (λ (l : List ℕ). 0 ∷ l) (w.same b); inside = and_both w.passed refl }))
after_tag-tagged (suc zero) s h rest t e =
    parts (read_number is_input s) (λ i rest. got (leaf (input i)) rest) h rest e (λ i m p q.
    let h' : leaf (input i) ≡ h = cc in let r' : m ≡ rest = cc in
    let w = is_number is_input s i m p in
    rw (← h', ← r') (record { same = λ b. ap (λ (l : List ℕ). 1 ∷ l) (w.same b); inside = and_both w.passed refl }))
after_tag-tagged (suc (suc t)) s h rest k e =
    parts (read_number is_stored_code s) (λ code s₁. and_then (read_number (is_count code) s₁) (λ n rest. got (opens code n) rest)) h rest e (λ code s₁ p p'.
    parts (read_number (is_count code) s₁) (λ n rest. got (opens code n) rest) h rest p' (λ n s₂ q q'.
    let c = is_number is_stored_code s code s₁ p in
    let m = is_number (is_count code) s₁ n s₂ q in
    let C : List ℕ = number code in let N : List ℕ = number n in
    let h' : opens code n ≡ h = cc in let r' : s₂ ≡ rest = cc in
    let t' : t ≡ 0 = omega arith in
    rw (t', ← h', ← r') (record {
      same = λ b. ap (λ (l : List ℕ). 2 ∷ l) (c.same b ∙ ap (λ (l : List ℕ). C ++ l) (m.same (after s C s₁ (c.same b) b)) ∙ sym (append_assoc C N s₂));
      inside = and_both c.passed m.passed;
    })))

is-head : (s : List ℕ) (h : Head) (rest : List ℕ) → read_head s ≡ got h rest → IsHead s h rest
unfolding read_head is_tag
is-head s h rest e =
    parts (read_number is_tag s) (λ tag rest. after_tag tag rest) h rest e (λ t s₁ p q.
    let n = is_number is_tag s t s₁ p in
    let t' : t < 3 = ltb-true t 3 n.passed in
    let a = after_tag-tagged t s₁ h rest t' q in
    record {
      same = λ b. n.same b ∙ ap (λ (l : List ℕ). l ++ s₁) (one_byte t (omega arith)) ∙ a.same (after s (number t) s₁ (n.same b) b);
      inside = a.inside;
    })

after-head : (d : ℕ) (one : List ℕ → Reading Form) → Sound one d → (s s₁ : List ℕ) (h : Head) (f : Form) (rest : List ℕ)
    → IsHead s h s₁ → after_head one h s₁ ≡ got f rest → IsForm (suc d) s f rest
unfolding after_head head_bytes is_head bytes within_limits depth
after-head d one sound s s₁ (leaf g) f rest h e =
    let f' : g ≡ f = cc in let r' : s₁ ≡ rest = cc in
    let one : depth g ≡ 1 = eqb-true (depth g) 1 (both_right (within_limits g) (eqb (depth g) 1) h.inside) in
    rw (← f', ← r') (record { same = h.same; inside = both_left (within_limits g) (eqb (depth g) 1) h.inside; shallow = omega arith })
after-head d one sound s s₁ (opens code n) f rest h e =
    parts (read_forms one n s₁) (λ args rest. got (call code args) rest) f rest e (λ args s₂ p q.
    let C : List ℕ = number code in let N : List ℕ = number n in
    let a = are-forms one d sound n s₁ args s₂ p in
    let f' : call code args ≡ f = cc in let r' : s₂ ≡ rest = cc in
    let same : AllBytes s → s ≡ 2 ∷ ((C ++ (N ++ all_bytes args)) ++ s₂)
    = λ b. h.same b ∙ ap (λ (l : List ℕ). 2 ∷ ((C ++ N) ++ l)) (a.same (after s (2 ∷ (C ++ N)) s₁ (h.same b) b)) ∙ simp append_assoc in
    let counts : is_count code (count args) ≡ true = rw a.counted (both_right (is_stored_code code) (is_count code n) h.inside) in
    rw (← f', ← r') (record {
      same = rw a.counted same;
      inside = and_both (both_left (is_stored_code code) (is_count code n) h.inside) (and_both counts a.inside);
      shallow = omega (arith, a.shallow);
    }))

pub is-form : (d : ℕ) → Sound (read_form d) d
unfolding read_form
is-form zero s f rest e = offends-got e
is-form (suc d) s f rest e =
    parts (read_head s) (λ head rest. after_head (read_form d) head rest) f rest e (λ head s₁ p q.
    after-head d (read_form d) (λ s f rest e. is-form d s f rest e) s s₁ head f rest (is-head s head s₁ p) q)

-- ---- a rule

-- what is parsed was read to the end of the bytes
whole-rule : (n : ℕ) (x : Reading Rule) (r : Rule) → whole n x ≡ done r → x ≡ got r []
unfolding whole
whole-rule n (got g []) r e = let g' : g ≡ r = cc in rw g' refl
whole-rule n (got g (b ∷ s)) r e = absurd (refused-done e)
whole-rule n (offends l) r e = absurd (refused-done e)

pub parsed : (s : List ℕ) (r : Rule) → parse s ≡ done r → (read_rule s ≡ got r []) × (length s ≤ longest)
unfolding parse guard_at
parsed s r e = go (leb (length s) longest) refl e
  where
    go : (t : Bool) → leb (length s) longest ≡ t → cond t (whole (length s) (read_rule s)) (refused 10 longest) ≡ done r → (read_rule s ≡ got r []) × (length s ≤ longest)
    go true q e = (whole-rule (length s) (read_rule s) r e, leb-true (length s) longest q)
    go false q e = absurd (refused-done e)

-- a rule's width, its form within the limits, and, of bytes, that they are the rule's and then `rest`
pub record IsRule (s : List ℕ) (r : Rule) (rest : List ℕ) : Type 0 where
  pub same : AllBytes s → s ≡ encode_rule r ++ rest
  pub width : is_stored_width r.width ≡ true
  pub inside : within_limits r.form ≡ true
  pub shallow : depth r.form ≤ deepest

pub is-rule : (s : List ℕ) (r : Rule) (rest : List ℕ) → read_rule s ≡ got r rest → IsRule s r rest
unfolding read_rule encode_rule
is-rule s r rest e =
    parts (read_number is_stored_width s) (λ w s₁. and_then (read_form deepest s₁) (λ f rest. got (rule w f) rest)) r rest e (λ v s₁ p p'.
    parts (read_form deepest s₁) (λ f rest. got (rule v f) rest) r rest p' (λ g s₂ q q'.
    let g' : rule v g ≡ r = cc in let r' : s₂ ≡ rest = cc in
    let n = is_number is_stored_width s v s₁ p in
    let t = is-form deepest s₁ g s₂ q in
    rw (← g', ← r') (record {
      same = λ b. n.same b ∙ ap (λ (l : List ℕ). number v ++ l) (t.same (after s (number v) s₁ (n.same b) b)) ∙ sym (append_assoc (number v) (bytes g) s₂);
      width = n.passed;
      inside = t.inside;
      shallow = t.shallow;
    })))

pub accepted-rule : (s : List ℕ) (r : Rule) → parse s ≡ done r → IsRule s r []
accepted-rule s r e = is-rule s r [] (parsed s r e).0

pub encode-parse : (s : List ℕ) (r : Rule) → AllBytes s → parse s ≡ done r → (encode_rule r ≡ s) × (is_rule r ≡ true)
unfolding is_rule
encode-parse s r b e =
    let i = accepted-rule s r e in
    let same : encode_rule r ≡ s = sym (i.same b ∙ append-nil (encode_rule r)) in (
      same,
      and_both i.width (and_both i.inside (and_both (le-leb (depth r.form) deepest i.shallow)
          (le-leb (length (encode_rule r)) longest (rw same (parsed s r e).1)))),
    )

-- two runs of bytes that are read as one rule are the same
pub one-spelling : (s t : List ℕ) (r : Rule) → AllBytes s → AllBytes t → parse s ≡ done r → parse t ≡ done r → s ≡ t
one-spelling s t r b c e d = sym (encode-parse s r b e).0 ∙ (encode-parse t r c d).0
