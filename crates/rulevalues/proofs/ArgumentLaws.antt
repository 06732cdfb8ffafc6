-- The arguments of a call, evaluated one by one: what the evaluator's loop keeps, and what it comes to; leaves and calls as forms. Assumes nothing.
use Prim.Native.Nat.{ℕ, suc, ◌+◌, ◌-◌, ◌≤◌, ◌<◌}
use native.Mathlib.Omega.{arith}
use native.Mathlib.Numerals.{add-one}
use mathlib.Core.Path.{◌≡◌, refl, ap, ap₂, ◌∙◌}
use mathlib.Core.List.{List, [], ◌∷◌, ◌++◌, append_assoc, append-nil}
use mathlib.Core.Bool.{Bool, true, false, not, cond, ◌&&◌}
use lib.Dec.{eqb}
use lib.IntN.{ℤ, pos}
use lib.ListN.{length, drop, take, get_or, set, length-set}
use lib.Seq.{take-suc-set}
use borrow.Author.Tests.{eqb-true, eqb-false, not-true}
use Rattle.std.specs.Prelude.{Ok, Err}
use Rattle.bits.specs.Testbit.{fits}
use Rattle.bits.proofs.Booleans.{both_left, both_right}
use Rattle.outcomes.specs.Outcome.{Outcome, refused, done, guard, guard_at, on_done}
use Rattle.outcomes.specs.Tests.{all_hold}
use Rattle.fxtable.specs.declared.answer.Answer.{Answer}
use Rattle.fxtable.specs.Calls.{counted, is_count, fixnum_tests, all_fixnums, answer_of}
use Rattle.fxtable.specs.Domains.{is_width}
use Rattle.fxtable.specs.Inner.{Checked}
use Rattle.fxtable.specs.Operations.{has_two}
use Rattle.fxtable.specs.Table.{is_code, row_of}
use Rattle.fxtable.proofs.TableLaws.{at-most-four}
use Rattle.fixnum_laws.proofs.Closure.{results_fit}
use Rattle.rules.specs.Limits.{is_stored_code}
use Rattle.rules.specs.Tree.{Form, Forms, constant, input, call, none, more}
use Rattle.rules.specs.Leb128.{Reading, got}
use Rattle.rules.specs.Parse.{and_then, read_constant, read_forms, read_form}
use Rattle.rules.specs.Evaluate.{fixnum, result_of, evaluate, evaluate_all}
use Rattle.rules.proofs.EncodeParse.{parts}
use Rattle.rulevalues.specs.declared.Refused.{Refused}
use Rattle.rulevalues.specs.Evaluated.{Evaluated, told, Has, Evaluates, EvaluatesConstant}
use Rattle.rulevalues.proofs.ReadAgain.{form-at, constant-at, input-at, CallAt, call_at}

-- a constant or an input that is done is itself, and a fixnum
leaf-fits : (w : ℕ) (y z : ℤ) → fixnum w y ≡ done z → fits w z ≡ true
unfolding fixnum guard guard_at
leaf-fits w y z e = go (fits w y) refl e
  where
    go : (t : Bool) → fits w y ≡ t → cond t (done y) (refused 4 0) ≡ done z → fits w z ≡ true
    go true h q = let z' : y ≡ z = cc in rw (← z') h
    go false h q = let x : ◌≡◌ {A = ℕ} 0 1 = cc in absurd (omega arith)

-- what is read, and its outcome
tells : (w : ℕ) (inputs : List ℤ) (s : List ℕ) (r : Reading Form) (p : ℕ) (o : Outcome ℤ) → p ≤ length s
    → ((f : Form) (rest : List ℕ) → r ≡ got f rest → (evaluate w inputs f ≡ o) × (rest ≡ drop p s)) → Evaluates w inputs s r (told p o)
unfolding told
tells w inputs s r p (refused k place) le h = λ f rest q. (h f rest q).0
tells w inputs s r p (done z) le h = (le, h)

-- Of the arguments fs of a call, n in all, after which `rest` is left, i have been evaluated, and their values are the first i; those that
-- are left are read from position p on.
record Remaining (w : ℕ) (inputs : List ℤ) (s : List ℕ) (d : ℕ) (fs : Forms) (rest : List ℕ) (n i p : ℕ) (values : List ℤ) : Type 0 where
  inside : p ≤ length s
  counted : i ≤ n
  slots : length values ≡ 4
  fixnums : all_fixnums w (take i values) ≡ true
  left : Forms
  reads : read_forms (read_form d) (n - i) (drop p s) ≡ got left rest
  so_far : evaluate_all w inputs fs ≡ on_done (evaluate_all w inputs left) (λ ys. done (take i values ++ ys))

-- the same of the call at a position, whose code and arguments these are
pub record Looping (w : ℕ) (inputs : List ℤ) (s : List ℕ) (at d code n i p : ℕ) (values : List ℤ) : Type 0 where
  args : Forms
  stored : is_stored_code code ≡ true
  counts : is_count code n ≡ true
  rest : List ℕ
  whole : read_form d (drop at s) ≡ got (call code args) rest
  remaining : Remaining w inputs s (d - 1) args rest n i p values

-- a value is a fixnum
value-fits : (w : ℕ) (inputs : List ℤ) (f : Form) (z : ℤ) → evaluate w inputs f ≡ done z → fits w z ≡ true
unfolding evaluate on_done result_of answer_of
value-fits w inputs (constant y) z e = leaf-fits w y z e
value-fits w inputs (input i) z e = leaf-fits w (get_or inputs i (pos 0)) z e
value-fits w inputs (call code args) z e = go (evaluate_all w inputs args) e
  where
    result : (a : Answer) → fits w a.first ≡ true → (t : Bool) → cond t (done a.first) (refused a.refusal a.place) ≡ done z → fits w z ≡ true
    result a h true q = let z' : a.first ≡ z = cc in rw (← z') h
    result a h false q = let y : ◌≡◌ {A = ℕ} 0 1 = cc in absurd (omega arith)

    go : (o : Outcome (List ℤ)) → on_done o (λ xs. result_of (answer_of w code xs)) ≡ done z → fits w z ≡ true
    go (refused k place) q = let y : ◌≡◌ {A = ℕ} 0 1 = cc in absurd (omega arith)
    go (done xs) q = result (answer_of w code xs) (results_fit w code xs (length xs)).0 (eqb (answer_of w code xs).refusal 0) q

all_append : (w : ℕ) (xs : List ℤ) (y : ℤ) → all_fixnums w xs ≡ true → fits w y ≡ true → all_fixnums w (xs ++ (y ∷ [])) ≡ true
unfolding all_fixnums fixnum_tests all_hold
all_append w [] y h e = rw e refl
all_append w (x ∷ xs) y h e =
    ap₂ ◌&&◌ (both_left (fits w x) (all_fixnums w xs) h) (all_append w xs y (both_right (fits w x) (all_fixnums w xs) h) e)

none-tested : (w : ℕ) (values : List ℤ) → all_fixnums w (take 0 values) ≡ true
unfolding all_fixnums fixnum_tests all_hold
none-tested w values = refl

-- no value before those of all
none_before : (o : Outcome (List ℤ)) (values : List ℤ) → o ≡ on_done o (λ ys. done (take 0 values ++ ys))
unfolding on_done
none_before (refused k place) values = refl
none_before (done xs) values = refl

-- one value more before those of the rest
one_more : (o : Outcome (List ℤ)) (before : List ℤ) (z : ℤ)
    → on_done (on_done o (λ xs. done (z ∷ xs))) (λ ys. done (before ++ ys)) ≡ on_done o (λ ys. done ((before ++ (z ∷ [])) ++ ys))
unfolding on_done
one_more (refused k place) before z = refl
one_more (done xs) before z = rw append_assoc refl

module _ (w : ℕ) (inputs : List ℤ) (s : List ℕ) (d : ℕ) (fs : Forms) (rest : List ℕ) (n i p : ℕ) (values : List ℤ)
    (r : Remaining w inputs s d fs rest n i p values) where
  -- the first of those that are left
  first : {X : Type 0} → i < n
      → ((g : Form) (m : List ℕ) (gs : Forms) → read_form d (drop p s) ≡ got g m → read_forms (read_form d) (n - (i + 1)) m ≡ got gs rest → r.left ≡ more g gs → X) → X
  unfolding read_forms
  first {X} l then =
      let k : n - i ≡ suc (n - (i + 1)) = omega arith in
      let e : read_forms (read_form d) (suc (n - (i + 1))) (drop p s) ≡ got r.left rest = rw k at r.reads in
      parts (read_form d (drop p s)) (λ g m. and_then (read_forms (read_form d) (n - (i + 1)) m) (λ gs rest'. got (more g gs) rest')) r.left rest e (λ g m a b.
      parts (read_forms (read_form d) (n - (i + 1)) m) (λ gs rest'. got (more g gs) rest') r.left rest b (λ gs m' a' b'.
      let m'' : m' ≡ rest = cc in
      then g m gs a (rw m'' at a') (cc)))

  loop-has : i < n → Has (read_form d (drop p s))
  loop-has l = first l (λ g m gs a b c. (g, m, a))

  module _ (l : i < n) where
    loop-refused : (e : Refused) → Evaluates w inputs s (read_form d (drop p s)) (Err e) → evaluate_all w inputs fs ≡ refused e.refusal e.place
    unfolding evaluate_all on_done
    loop-refused e g = first l (λ f m gs a b c. r.so_far ∙ rw (c, g f m a) refl)

    loop-step : (z : ℤ) (q : ℕ) → Evaluates w inputs s (read_form d (drop p s)) (Ok (z, q)) → (y : ℤ) → y ≡ z → i < 4 → Remaining w inputs s d fs rest n (i + 1) q (set values i y)
    unfolding evaluate_all on_done
    loop-step z q g y same room =
        first l (λ f m' gs a b c.
        let v = g.1 f m' a in
        let four : length values ≡ 4 = r.slots in
        let put : take (i + 1) (set values i y) ≡ take i values ++ (y ∷ []) = rw add-one (take-suc-set values i y (omega arith)) in
        record {
          inside = g.0;
          counted = omega arith;
          slots = length-set values i y ∙ four;
          fixnums = rw put (all_append w (take i values) y r.fixnums (rw same (value-fits w inputs f z v.0)));
          left = gs;
          reads = rw v.1 at b;
          so_far = r.so_far ∙ rw (c, v.0, put, ← same) (one_more (evaluate_all w inputs gs) (take i values) y);
        })

  loop-ends : n ≤ i → (evaluate_all w inputs fs ≡ done (take n values)) × (rest ≡ drop p s)
  unfolding evaluate_all on_done read_forms
  loop-ends l =
      let le : i ≤ n = r.counted in
      let i' : i ≡ n = omega arith in
      let k : n - i ≡ 0 = omega arith in
      let e : got none (drop p s) ≡ got r.left rest = rw k at r.reads in
      let left : r.left ≡ none = cc in
      (r.so_far ∙ rw (left, i', append-nil) refl, cc)

-- ---- leaves

module _ (w : ℕ) (inputs : List ℤ) (s : List ℕ) (i d : ℕ) where
  abbrev ReadAt : Reading Form
  ReadAt = read_form d (drop i s)

  pub form-inside : Has ReadAt → i < length s
  form-inside h = (form-at d s i h.0 h.1 h.2).inside

  pub constant-has : Has ReadAt → get_or s i 0 ≡ 0 → Has (read_constant (drop (i + 1) s))
  constant-has h t = let c = constant-at (form-at d s i h.0 h.1 h.2) t in (c.value, h.1, c.reads)

  pub is-constant : get_or s i 0 ≡ 0 → (e : Evaluated) → EvaluatesConstant w s (read_constant (drop (i + 1) s)) e → Evaluates w inputs s ReadAt e
  unfolding evaluate
  is-constant t (Ok a) h = (
    h.0,
    λ f rest q.
        let c = constant-at (form-at d s i f rest q) t in
        let g = h.1 c.value rest c.reads in
        (rw c.is g.0, g.1),
  )
  is-constant t (Err e) h = λ f rest q.
      let c = constant-at (form-at d s i f rest q) t in
      rw c.is (h c.value rest c.reads)

  pub input-facts : Has ReadAt → get_or s i 0 ≡ 1 → (get_or s (i + 1) 0 < 16) × (i + 1 < length s)
  input-facts h t = let c = input-at (form-at d s i h.0 h.1 h.2) t in (c.small, c.inside)

  pub is-input : Has ReadAt → get_or s i 0 ≡ 1 → Evaluates w inputs s ReadAt (told (i + 2) (fixnum w (get_or inputs (get_or s (i + 1) 0) (pos 0))))
  unfolding evaluate
  is-input h t =
      let facts = input-facts h t in
      tells w inputs s ReadAt (i + 2) (fixnum w (get_or inputs (get_or s (i + 1) 0) (pos 0))) (omega (arith, facts)) (λ f rest q.
      let c = input-at (form-at d s i f rest q) t in
      (rw c.is refl, c.after))

  module _ (h : Has ReadAt) (n₀ : get_or s i 0 ≡ 0 → ⊥) (n₁ : get_or s i 0 ≡ 1 → ⊥) where
    called : CallAt d s i h.0 h.1
    called = call_at (form-at d s i h.0 h.1 h.2) n₀ n₁

    pub call_facts : (d ≡ 0 → ⊥) × (i + 2 < length s) × (get_or s (i + 2) 0 ≤ 4)
    call_facts = ((form-at d s i h.0 h.1 h.2).deep, called.inside, at-most-four (get_or s (i + 1) 0) (get_or s (i + 2) 0) called.counts)

  -- a byte follows the tag of what is no constant
  pub second-inside : Has ReadAt → (get_or s i 0 ≡ 0 → ⊥) → i + 1 < length s
  second-inside h n₀ = go (eqb (get_or s i 0) 1) refl
    where
      go : (t : Bool) → eqb (get_or s i 0) 1 ≡ t → i + 1 < length s
      go true q = (input-facts h (eqb-true (get_or s i 0) 1 q)).1
      go false q = let c = call_facts h n₀ (eqb-false (get_or s i 0) 1 q) in omega (arith, c.1)

  module _ (h : Has ReadAt) (n₀ : get_or s i 0 ≡ 0 → ⊥) (n₁ : get_or s i 0 ≡ 1 → ⊥) where
    -- before the first argument
    pub begins : (values : List ℤ) → length values ≡ 4 → Looping w inputs s i d (get_or s (i + 1) 0) (get_or s (i + 2) 0) 0 (i + 3) values
    begins values l =
        let c = called h n₀ n₁ in
        let inside : i + 2 < length s = c.inside in
        let all : get_or s (i + 2) 0 - 0 ≡ get_or s (i + 2) 0 = omega arith in
        record {
          args = c.args;
          stored = c.stored;
          counts = c.counts;
          rest = h.1;
          whole = h.2 ∙ ap (λ (f : Form). got f h.1) c.is;
          remaining = record {
            inside = omega arith;
            counted = omega arith;
            slots = l;
            fixnums = none-tested w values;
            left = c.args;
            reads = rw all c.reads;
            so_far = none_before (evaluate_all w inputs c.args) values;
          };
        }

-- ---- a call, argument by argument

module _ {w : ℕ} {inputs : List ℤ} {s : List ℕ} {at d code n i p : ℕ} {values : List ℤ} (l : Looping w inputs s at d code n i p values) where
  pub next-has : i < n → Has (read_form (d - 1) (drop p s))
  next-has h = loop-has w inputs s (d - 1) l.args l.rest n i p values l.remaining h

  module _ (h : i < n) where
    pub next-value : (z : ℤ) (q : ℕ) → Evaluates w inputs s (read_form (d - 1) (drop p s)) (Ok (z, q)) → (y : ℤ) → y ≡ z → i < 4
        → Looping w inputs s at d code n (i + 1) q (set values i y)
    next-value z q e y same room = record {
      args = l.args;
      stored = l.stored;
      counts = l.counts;
      rest = l.rest;
      whole = l.whole;
      remaining = loop-step w inputs s (d - 1) l.args l.rest n i p values l.remaining h z q e y same room;
    }

    pub next-refused : (e : Refused) → Evaluates w inputs s (read_form (d - 1) (drop p s)) (Err e) → Evaluates w inputs s (read_form d (drop at s)) (Err e)
    unfolding evaluate on_done
    next-refused e g = λ f rest q.
        let f' : f ≡ call code l.args = cc l.whole in
        rw (f', loop-refused w inputs s (d - 1) l.args l.rest n i p values l.remaining h e g) refl

  pub all-evaluated : n ≤ i → Evaluates w inputs s (read_form d (drop at s)) (told p (result_of (answer_of w code (take n values))))
  unfolding evaluate on_done
  all-evaluated h = tells w inputs s (read_form d (drop at s)) p (result_of (answer_of w code (take n values))) l.remaining.inside (λ f rest q.
      let f' : f ≡ call code l.args = cc l.whole in
      let rest' : rest ≡ l.rest = cc l.whole in
      let end = loop-ends w inputs s (d - 1) l.args l.rest n i p values l.remaining h in
      (rw (f', end.0) refl, rest' ∙ end.1))

  -- after the last argument, the call can be made
  pub ready : is_width w ≡ true → n ≤ i → Checked w code values n
  unfolding is_stored_code counted
  ready h e =
      let le : i ≤ n = l.remaining.counted in
      let i' : i ≡ n = omega arith in
      record {
        width = h;
        known = both_left (is_code code) (not (has_two (row_of code).results)) l.stored;
        arity = l.counts;
        fixnums = rw (← i') l.remaining.fixnums;
      }

  -- and it is of an operation with one result
  pub one-result : has_two (row_of code).results ≡ false
  unfolding is_stored_code
  one-result = not-true (has_two (row_of code).results) (both_right (is_code code) (not (has_two (row_of code).results)) l.stored)
