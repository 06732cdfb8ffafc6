-- What parsing refuses with, and the width at the head of a rule: it is one byte, and another may stand there. Assumes nothing.
use Prim.Native.Nat.{ℕ, suc, ◌+◌, ◌*◌, ◌-◌, ◌≤◌, ◌<◌}
use native.Mathlib.Omega.{arith}
use mathlib.Core.Path.{◌≡◌, refl, sym, ap, ap₂, ◌∙◌}
use mathlib.Core.Bool.{Bool, true, false, cond, ◌||◌}
use mathlib.Core.List.{List, [], ◌∷◌}
use lib.Dec.{ltb, leb, eqb}
use lib.ListN.{length}
use borrow.Author.Tests.{leb-true, leb-false, le-leb, ltb-false}
use Rattle.outcomes.specs.Outcome.{refused, done, guard_at}
use Rattle.outcomes.proofs.OutcomeLaws.{passed-at, refused-done}
use Rattle.fxtable.specs.Domains.{is_width}
use Rattle.rules.specs.Tree.{Rule}
use Rattle.rules.specs.Leb128.{Reading, got, offends, unsigned, decode, shortest, continued}
use Rattle.rules.specs.Limits.{number_groups, deepest, longest, is_stored_width}
use Rattle.rules.specs.Parse.{and_then, item, read_number, read_form, rule, read_rule, whole, parse}
use Rattle.rules.specs.Evaluate.{runs_at}
use Rattle.rules.proofs.Leb128Laws.{offends-got}
use Rattle.rules.proofs.ParseEncode.{width_back, width_small}
use Rattle.rules.proofs.EncodeParse.{parts, parsed}

-- ---- refusals

whole-refused : (n : ℕ) (x : Reading Rule) (k o : ℕ) → whole n x ≡ refused k o → (k ≡ 10) × (o ≤ n)
unfolding whole
whole-refused n (got r []) k o e = absurd (refused-done (sym e))
whole-refused n (got r (b ∷ rest)) k o e = let p : n - suc (length rest) ≡ o = cc in (cc, omega arith)
whole-refused n (offends left) k o e = let p : n - left ≡ o = cc in (cc, omega arith)

pub parse-refused : (s : List ℕ) (k o : ℕ) → parse s ≡ refused k o → (k ≡ 10) × (o ≤ length s) × (o ≤ longest)
unfolding parse guard_at
parse-refused s k o e = go (leb (length s) longest) refl e
  where
    go : (t : Bool) → leb (length s) longest ≡ t → cond t (whole (length s) (read_rule s)) (refused 10 longest) ≡ refused k o
        → (k ≡ 10) × (o ≤ length s) × (o ≤ longest)
    go true q e =
        let p = whole-refused (length s) (read_rule s) k o e in
        let l : length s ≤ longest = leb-true (length s) longest q in
        (p.0, p.1, omega (arith, p.1))
    go false q e =
        let l : longest < length s = leb-false (length s) longest q in
        let p : longest ≡ o = cc in
        (cc, omega arith, omega arith)

-- where the bytes are not too many, what is read decides
pub parse-short : (s : List ℕ) → length s ≤ longest → parse s ≡ whole (length s) (read_rule s)
unfolding parse
parse-short s h = passed-at 10 longest (whole (length s) (read_rule s)) (le-leb (length s) longest h)

-- ---- the width

-- a number below 128 is one byte
one-byte-read : (left k b : ℕ) (s : List ℕ) (n : ℕ) (rest : List ℕ) → decode unsigned left (suc k) (b ∷ s) ≡ got n rest → n < 128 → (n ≡ b) × (s ≡ rest)
unfolding decode continued shortest unsigned
one-byte-read left k b s n rest e h = go (ltb b 128) e
  where
    long : (m : ℕ) (r : List ℕ) (t : Bool) → ltb m 128 ≡ t → cond t (offends left) (got m r) ≡ got n rest → (n ≡ b) × (s ≡ rest)
    long m r true q e = offends-got e
    long m r false q e = let l = ltb-false m 128 q in let m' : m ≡ n = cc in absurd (omega arith)

    more : (x : Reading ℕ) → continued unsigned left (b - 128) x ≡ got n rest → (n ≡ b) × (s ≡ rest)
    more (got u r) e = long (u * 128 + (b - 128)) r (ltb (u * 128 + (b - 128)) 128) refl e
    more (offends l) e = offends-got e

    go : (t : Bool) → cond t (got b s) (continued unsigned left (b - 128) (decode unsigned left k s)) ≡ got n rest → (n ≡ b) × (s ≡ rest)
    go true e = (cc, cc)
    go false e = more (decode unsigned left k s) e

width_read : (v : ℕ) (t : List ℕ) (n : ℕ) (rest : List ℕ) → read_number is_stored_width (v ∷ t) ≡ got n rest → (n ≡ v) × (t ≡ rest)
unfolding item
width_read v t n rest e =
    let left : ℕ = length (v ∷ t) in
    parts (decode unsigned left number_groups (v ∷ t)) (λ n rest. cond (is_stored_width n) (got n rest) (offends left)) n rest e
    (λ m r one two. go m r one (is_stored_width m) refl two)
  where
    go : (m : ℕ) (r : List ℕ) → decode unsigned (length (v ∷ t)) number_groups (v ∷ t) ≡ got m r → (c : Bool) → is_stored_width m ≡ c
        → cond c (got m r) (offends (length (v ∷ t))) ≡ got n rest → (n ≡ v) × (t ≡ rest)
    go m r d true q e =
        let p = one-byte-read (length (v ∷ t)) (number_groups - 1) v t m r d (width_small m q) in
        let m' : m ≡ n = cc in let r' : r ≡ rest = cc in
        (sym m' ∙ p.0, p.1 ∙ r')
    go m r d false q e = offends-got e

-- the form of a rule, after its width
pub rule-parts : (v : ℕ) (t : List ℕ) (r : Rule) → parse (v ∷ t) ≡ done r → (r.width ≡ v) × (read_form deepest t ≡ got r.form [])
unfolding read_rule
rule-parts v t r e =
    parts (read_number is_stored_width (v ∷ t)) (λ w s₁. and_then (read_form deepest s₁) (λ f rest. got (rule w f) rest)) r [] (parsed (v ∷ t) r e).0 (λ n s₁ p p'.
    parts (read_form deepest s₁) (λ f rest. got (rule n f) rest) r [] p' (λ g s₂ q q'.
    let g' : rule n g ≡ r = cc in let s₂' : s₂ ≡ [] = cc in
    let b = width_read v t n s₁ p in
    (ap (λ (r : Rule). r.width) (sym g') ∙ b.0, rw b.1 (q ∙ ap₂ got (ap (λ (r : Rule). r.form) g') s₂'))))

pub other_width : (v w : ℕ) (t : List ℕ) (r : Rule) → parse (v ∷ t) ≡ done r → is_stored_width w ≡ true → parse (w ∷ t) ≡ done (rule w r.form)
unfolding read_rule and_then whole
other_width v w t r e h =
    let one : read_number is_stored_width (w ∷ t) ≡ got w t = width_back w t h in
    let read : read_rule (w ∷ t) ≡ got (rule w r.form) [] = rw (one, (rule-parts v t r e).1) refl in
    parse-short (w ∷ t) (parsed (v ∷ t) r e).1 ∙ ap (whole (length (w ∷ t))) read

-- ---- the width that a rule runs at

pub runs-at-width : (d : ℕ) (r : Rule) → is_width d ≡ true → is_stored_width r.width ≡ true → is_width (runs_at d r) ≡ true
unfolding runs_at is_stored_width
runs-at-width d r a h = go (eqb r.width 0) h
  where
    go : (t : Bool) → t || is_width r.width ≡ true → is_width (cond t d r.width) ≡ true
    go true h = a
    go false h = h
