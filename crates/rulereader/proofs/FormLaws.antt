-- Forms and rules in positions: what the readers answer, and that they end. Assumes nothing.
use Prim.Native.Nat.{ℕ, ◌+◌, ◌-◌, ◌*◌, ◌^◌, ◌≤◌, ◌<◌}
use native.Mathlib.Omega.{arith}
use mathlib.Core.Path.{◌≡◌, refl, ap, ◌∙◌}
use mathlib.Core.Bool.{true, false}
use mathlib.Core.List.{List, [], ◌∷◌}
use lib.ListN.{length, drop, length-drop}
use lib.Seq.{drop-length}
use borrow.Author.Tests.{le-leb, lt-leb}
use Rattle.outcomes.specs.Outcome.{Outcome, refused, done, guard_at}
use Rattle.rules.specs.Tree.{Form, Forms, constant, input, call, none, more, Rule}
use Rattle.rules.specs.Leb128.{Reading, got, offends}
use Rattle.rules.specs.Limits.{deepest, longest, is_stored_width}
use Rattle.rules.specs.Parse.{Head, leaf, opens, and_then, read_number, read_head, after_head, read_forms, read_form, rule, read_rule, whole, parse}
use Rattle.std.specs.Prelude.{Result, Ok, Err}
use Rattle.rulereader.specs.declared.heads.Head as answered
use Rattle.rulereader.specs.declared.Offence.{Offence}
use Rattle.rulereader.specs.declared.Stored.{Stored}
use Rattle.rulereader.specs.Placed.{At, Offends, OneGroup, NumberRead, HeadAt, Read, RuleRead, StoredWidth}
use Rattle.rulereader.proofs.CutLaws.{before, cons}
use Rattle.rulereader.proofs.HeadLaws.{number_read, number-fails, number-offends, small_width}

-- a part was read, and then the rest
then-read : {A B : Type 0} (s : List ℕ) (r : Reading A) (next : A → List ℕ → Reading B) (v : A) (p : ℕ) (q : Result ℕ Offence) → At s r v p → Read s (next v (drop p s)) q → Read s (and_then r next) q
unfolding and_then
then-read s r next v p q a h = rw a.value h

-- a part offends
then-offends : {A B : Type 0} (s : List ℕ) (r : Reading A) (next : A → List ℕ → Reading B) (o : ℕ) → Offends s r o → Offends s (and_then r next) o
unfolding and_then
then-offends s r next o a = record { left = rw a.left refl; inside = a.inside }

-- what was read, put into something
then-made : {A B : Type 0} (s : List ℕ) (r : Reading A) (g : A → B) (q : Result ℕ Offence) → Read s r q → Read s (and_then r (λ v rest. got (g v) rest)) q
unfolding and_then
then-made s r g (Ok p) h = (g h.0, record { value = rw h.1.value refl; inside = h.1.inside })
then-made s r g (Err e) h = then-offends s r (λ v rest. got (g v) rest) e.offset h

module _ (s : List ℕ) (i d : ℕ) where
  abbrev FormAt : Reading Form
  FormAt = read_form d (drop i s)

  pub too-deep : d ≡ 0 → i ≤ length s → Offends s FormAt i
  unfolding read_form
  too-deep e h = record { left = rw e (ap offends (length-drop i s)); inside = h }

  module _ (f : d ≡ 0 → ⊥) where
    abbrev next : Head → List ℕ → Reading Form
    next head rest = after_head (read_form (d - 1)) head rest

    by-head : FormAt ≡ and_then (read_head (drop i s)) next
    unfolding read_form
    by-head = ap (λ (j : ℕ). read_form j (drop i s)) (before f)

    by-leaf : (g : Form) (p : ℕ) → At s (read_head (drop i s)) (leaf g) p → Read s FormAt (Ok p)
    unfolding after_head
    by-leaf g p l = rw by-head (then-read s (read_head (drop i s)) next (leaf g) p (Ok p) l (g, record { value = refl; inside = l.inside }))

    pub is_leaf : (head : answered.Head) (p : ℕ) → HeadAt s (read_head (drop i s)) head p → ((code n : ℕ) → head ≡ answered.Head.Call code n → ⊥) → Read s FormAt (Ok p)
    is_leaf (answered.Head.Constant z) p h f' = by-leaf (constant z) p h
    is_leaf (answered.Head.Input j) p h f' = by-leaf (input j) p h.0
    is_leaf (answered.Head.Call code n) p h f' = absurd (f' code n refl)

    module _ (head : answered.Head) (p : ℕ) (h : HeadAt s (read_head (drop i s)) head p) (code n : ℕ) (e : head ≡ answered.Head.Call code n) where
      opened : At s (read_head (drop i s)) (opens code n) p
      opened = let l : HeadAt s (read_head (drop i s)) (answered.Head.Call code n) p = rw e at h in l.0

      pub is_call : (q : Result ℕ Offence) → Read s (read_forms (read_form (d - 1)) n (drop p s)) q → Read s FormAt q
      unfolding after_head
      is_call q r =
          rw by-head (then-read s (read_head (drop i s)) next (opens code n) p q opened (then-made s (read_forms (read_form (d - 1)) n (drop p s)) (λ args. call code args) q r))

      pub call-inside : p ≤ length s
      call-inside = opened.inside

    pub head-offends : (o : ℕ) → Offends s (read_head (drop i s)) o → Offends s FormAt o
    head-offends o h = rw by-head (then-offends s (read_head (drop i s)) next o h)

module _ (s : List ℕ) (i d n : ℕ) where
  abbrev FormsAt : Reading Forms
  FormsAt = read_forms (read_form d) n (drop i s)

  pub is_none : n ≡ 0 → i ≤ length s → Read s FormsAt (Ok i)
  unfolding read_forms
  is_none e h = (none, record { value = rw e refl; inside = h })

  module _ (f : n ≡ 0 → ⊥) where
    abbrev following : Form → List ℕ → Reading Forms
    following g rest = and_then (read_forms (read_form d) (n - 1) rest) (λ gs rest'. got (more g gs) rest')

    by_first : FormsAt ≡ and_then (read_form d (drop i s)) following
    unfolding read_forms
    by_first = ap (λ (j : ℕ). read_forms (read_form d) j (drop i s)) (before f)

    pub is-more : (p : ℕ) → Read s (read_form d (drop i s)) (Ok p) → (q : Result ℕ Offence) → Read s (read_forms (read_form d) (n - 1) (drop p s)) q → Read s FormsAt q
    is-more p l q r =
        rw by_first (then-read s (read_form d (drop i s)) following l.0 p q l.1 (then-made s (read_forms (read_form d) (n - 1) (drop p s)) (λ gs. more l.0 gs) q r))

    pub first-offends : (o : ℕ) → Offends s (read_form d (drop i s)) o → Offends s FormsAt o
    first-offends o h = rw by_first (then-offends s (read_form d (drop i s)) following o h)

-- a list of one is the one form
pub only-form : (s : List ℕ) (i d : ℕ) (q : Result ℕ Offence) → Read s (read_forms (read_form d) 1 (drop i s)) q → Read s (read_form d (drop i s)) q
unfolding read_forms and_then
only-form s i d (Ok p) h = go (read_form d (drop i s)) h.1.value
  where
    go : (r : Reading Form) → and_then r (λ f s₁. and_then (read_forms (read_form d) 0 s₁) (λ fs rest. got (more f fs) rest)) ≡ got h.0 (drop p s)
        → (v : Form) × At s r v p
    go (got f m) e = let m' : m ≡ drop p s = cc in (f, record { value = ap (got f) m'; inside = h.1.inside })
    go (offends l) e = let z : ◌≡◌ {A = ℕ} 0 1 = cc in absurd (omega arith)
only-form s i d (Err o) h = go (read_form d (drop i s)) h.left
  where
    go : (r : Reading Form) → and_then r (λ f s₁. and_then (read_forms (read_form d) 0 s₁) (λ fs rest. got (more f fs) rest)) ≡ offends (length s - o.offset)
        → Offends s r o.offset
    go (got f m) e = let z : ◌≡◌ {A = ℕ} 0 1 = cc in absurd (omega arith)
    go (offends l) e = record { left = cc; inside = h.inside }

-- ---- the form of a rule, and nothing after it

module _ (s : List ℕ) (w i : ℕ) (le : i ≤ length s) where
  abbrev LastForm : Outcome Rule
  LastForm = whole (length s) (and_then (read_form deepest (drop i s)) (λ f rest. got (rule w f) rest))

  pub all_read : (p : ℕ) → Read s (read_form deepest (drop i s)) (Ok p) → p ≡ length s → RuleRead s LastForm (Ok (record { width = w; form = i }))
  unfolding whole and_then
  all_read p l q =
      let r : read_form deepest (drop i s) ≡ got l.0 [] = l.1.value ∙ ap (got l.0) (ap (λ (k : ℕ). drop k s) q ∙ drop-length s) in
      (l.0, record { parsed = ap (λ (x : Reading Form). whole (length s) (and_then x (λ f rest. got (rule w f) rest))) r; reads = r; inside = le })

  pub more_left : (p : ℕ) → Read s (read_form deepest (drop i s)) (Ok p) → (p ≡ length s → ⊥) → LastForm ≡ refused 10 p
  unfolding whole and_then
  more_left p l f =
      let inside : p ≤ length s = l.1.inside in
      rw (l.1.value, cons s p (omega arith)) (ap (refused 10) (omega (arith, length-drop (p + 1) s)))

  pub form-offends : (o : ℕ) → Offends s (read_form deepest (drop i s)) o → LastForm ≡ refused 10 o
  unfolding whole and_then
  form-offends o l =
      let inside : o ≤ length s = l.inside in
      rw l.left (ap (refused 10) (omega arith))

-- the rule that is read has the width that was given
pub same_width : (s : List ℕ) (w i : ℕ) (q : Result Stored Offence) → is_stored_width w ≡ true
    → RuleRead s (whole (length s) (and_then (read_form deepest (drop i s)) (λ f rest. got (rule w f) rest))) q → StoredWidth q
unfolding whole and_then
same_width s w i (Err e) t h = tt
same_width s w i (Ok a) t h = go (read_form deepest (drop i s)) h.1.parsed
  where
    go : (r : Reading Form) → whole (length s) (and_then r (λ f rest. got (rule w f) rest)) ≡ done (rule a.width h.0) → is_stored_width a.width ≡ true
    go (got g []) e = let r : rule w g ≡ rule a.width h.0 = cc in let v' : w ≡ a.width = ap (λ (r : Rule). r.width) r in rw (← v') t
    go (got g (b ∷ rest)) e = let z : ◌≡◌ {A = ℕ} 0 1 = cc in absurd (omega arith)
    go (offends l) e = let z : ◌≡◌ {A = ℕ} 0 1 = cc in absurd (omega arith)

-- ---- a whole rule

pub too_long : (s : List ℕ) → longest < length s → parse s ≡ refused 10 longest
unfolding parse guard_at
too_long s h = rw (lt-leb (length s) longest h) refl

module _ (s : List ℕ) (short : length s ≤ longest) where
  abbrev form : ℕ → List ℕ → Reading Rule
  form w s₁ = and_then (read_form deepest s₁) (λ f rest. got (rule w f) rest)

  by_width : parse s ≡ whole (length s) (and_then (read_number is_stored_width (drop 0 s)) form)
  unfolding parse guard_at read_rule
  by_width = rw (le-leb (length s) longest short) refl

  pub width_read : (w : ℕ) → OneGroup s 0 w → is_stored_width w ≡ true → (q : Result Stored Offence)
      → RuleRead s (whole (length s) (and_then (read_form deepest (drop 1 s)) (λ f rest. got (rule w f) rest))) q → RuleRead s (parse s) q
  width_read w h t q r = rw (by_width, number_read s 0 is_stored_width form w h t) r

  pub width-fails : (w : ℕ) → OneGroup s 0 w → is_stored_width w ≡ false → parse s ≡ refused 10 0
  unfolding whole
  width-fails w h t = let a = number-fails s 0 is_stored_width form w h t in rw (by_width, a.left) (ap (refused 10) (omega arith))

  pub width-offends : (e : Offence) → NumberRead s 0 (Err e) → parse s ≡ refused 10 e.offset
  unfolding whole
  width-offends e h =
      let a = number-offends s 0 is_stored_width form small_width e h in
      let inside : e.offset ≤ length s = a.inside in
      rw (by_width, a.left) (ap (refused 10) (omega arith))

-- ---- the readers end: the depth falls, and at one depth the forms that are left

pub weight : ℕ → ℕ → ℕ
weight d n = d * 2 ^ 65 + n

pub falls-into : (d n t : ℕ) → (d ≡ 0 → ⊥) → n < 2 ^ 64 → weight d 0 ≡ t → weight (d - 1) (n + 1) < t
unfolding weight
falls-into d n t f h e = omega arith

pub falls-one : (d n t : ℕ) → weight d (n + 1) ≡ t → weight d 0 < t
unfolding weight
falls-one d n t e = omega arith

pub falls-more : (d n t : ℕ) → (n ≡ 0 → ⊥) → weight d (n + 1) ≡ t → weight d (n - 1 + 1) < t
unfolding weight
falls-more d n t f e = omega arith
