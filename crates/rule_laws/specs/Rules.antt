-- What users rely on of the calls that read and evaluate stored rules.
--   among k ks                        ==  whether k is one of ks
--   rule_refusals                      ==  the refusals that evaluation of a rule can give; 0 is done
--   PartOf r g                        ==  g is one of the forms of the rule r
--   ReadingStatement s r              ==  what holds of bytes s that are read as the rule r
--   OffenceStatement s o              ==  what holds of bytes s that are refused with the offset o
--   WidthStatement d v w t inputs     ==  one rule stored with two widths: what it answers at the wider one, where it is done at the narrower
--   SameNamed s xs ys                 ==  two lists of inputs agree where the rule that s is names them
--   InputStatement d s xs ys          ==  one rule and two lists of inputs
--   RefusalStatement d s inputs       ==  the refusals of a rule, what each is for, and which parts of the answer tell it
use Rattle.std.specs.Prelude.{ℕ, ◌+◌, ◌*◌, ◌≤◌, ◌<◌, ◌≡◌, Bool, true, false, ◌||◌, List, [], ◌∷◌, ◌++◌, eqb, ℤ, pos, length, get_or}
use Rattle.bits.specs.Testbit.{fits}
use Rattle.outcomes.specs.Outcome.{refused, done}
use Rattle.fxtable.specs.Domains.{is_width}
use Rattle.rules.specs.Tree.{Form, Rule, size, names, holds}
use Rattle.rules.specs.Limits.{longest, is_stored_width}
use Rattle.rules.specs.Bytes.{AllBytes}
use Rattle.rules.specs.Parse.{rule, parse}
use Rattle.rules.specs.Evaluate.{runs_at}
use Rattle.rules.specs.Answers.{read_answer, bad_rule, rule_answer}
use Rattle.rule_laws.specs.Parts.{Part, WideLeaf, RefusedCall}

unfoldable pub among : ℕ → List ℕ → Bool
among k [] = false
among k (j ∷ js) = eqb k j || among k js

abbrev pub rule_refusals : List ℕ
rule_refusals = 0 ∷ 4 ∷ 5 ∷ 6 ∷ 10 ∷ []

abbrev pub PartOf : Rule → Form → Type 0
PartOf r g = Part g r.form

pub record ReadingStatement (s : List ℕ) (r : Rule) : Type 0 where
  -- the width is one byte, and any other width there makes the rule of that width
  pub other_width : (v : ℕ) (t : List ℕ) → s ≡ v ∷ t → (r.width ≡ v) × ((w : ℕ) → is_stored_width w ≡ true → parse (w ∷ t) ≡ done (rule w r.form))
  -- bytes that end early are refused at their end
  pub early : (t u : List ℕ) → s ≡ t ++ u → (u ≡ [] → ⊥) → parse t ≡ refused 10 (length t)
  -- bytes after the form are refused where they begin
  pub trailing : (b : ℕ) (u : List ℕ) → length (s ++ (b ∷ u)) ≤ longest → parse (s ++ (b ∷ u)) ≡ refused 10 (length s)
  -- two bytes for each form, and one more
  pub sized : AllBytes s → (2 * size r.form + 1 ≤ length s) × (size r.form ≤ 2047)

pub record OffenceStatement (s : List ℕ) (o : ℕ) : Type 0 where
  -- the offset lies in the bytes or at their end, and it is 4,096 at most
  pub inside : (o ≤ length s) × (o ≤ longest)
  -- no item offends that begins before the offset, whatever stands from there on
  pub earliest : length s ≤ longest → (t u : List ℕ) → s ≡ t ++ u → length t ≡ o → o < length s
      → (e : List ℕ) (p : ℕ) → parse (t ++ e) ≡ refused 10 p → o ≤ p

pub record WidthStatement (d v w : ℕ) (t : List ℕ) (inputs : List ℤ) : Type 0 where
  pub same : ((r : Rule) → parse (v ∷ t) ≡ done r → holds 34 r.form ≡ false)
      → (read_answer d (v ∷ t)).width ≤ w → is_width w ≡ true → (rule_answer d (v ∷ t) inputs).refusal ≡ 0
      → rule_answer d (w ∷ t) inputs ≡ rule_answer d (v ∷ t) inputs

abbrev pub SameNamed : List ℕ → List ℤ → List ℤ → Type 0
SameNamed s xs ys = (r : Rule) (i : ℕ) → parse s ≡ done r → names r.form i ≡ true → get_or xs i (pos 0) ≡ get_or ys i (pos 0)

pub record InputStatement (d : ℕ) (s : List ℕ) (xs ys : List ℤ) : Type 0 where
  -- inputs that the rule does not name have no influence
  pub same : SameNamed s xs ys → rule_answer d s xs ≡ rule_answer d s ys

pub record RefusalStatement (d : ℕ) (s : List ℕ) (inputs : List ℤ) : Type 0 where
  -- reading is done, with a width, or refused with 10
  pub read_known : among (read_answer d s).refusal (0 ∷ 10 ∷ []) ≡ true
  pub read-width : (read_answer d s).refusal ≡ 0 → (is_width (read_answer d s).width ≡ true) × ((read_answer d s).offset ≡ 0)
  -- the refusals there are
  pub known : among (rule_answer d s inputs).refusal rule_refusals ≡ true
  -- what cannot be read is not run, whatever the inputs; and evaluation itself gives no 10 and no offset
  pub unread : (read_answer d s).refusal ≡ 10 → rule_answer d s inputs ≡ bad_rule 10 (read_answer d s).offset
  pub of-10 : (rule_answer d s inputs).refusal ≡ 10 → (read_answer d s).refusal ≡ 10
  pub others : ((rule_answer d s inputs).refusal ≡ 10 → ⊥) → (rule_answer d s inputs).offset ≡ 0
  pub within : ((rule_answer d s inputs).offset ≤ length s) × ((rule_answer d s inputs).offset ≤ longest)
  -- 4 is for a constant or an input, never for the argument of a call
  pub of-4 : (rule_answer d s inputs).refusal ≡ 4
      → ((rule_answer d s inputs).place ≡ 0) × ((r : Rule) × (parse s ≡ done r) × WideLeaf (runs_at d r) inputs (PartOf r))
  -- 5 and 6 are a call's own, and its place is the rule's, of which `fixnum_laws` tells what it says of the call; 6 has none
  pub of-5 : (rule_answer d s inputs).refusal ≡ 5
      → (r : Rule) × (parse s ≡ done r) × RefusedCall (runs_at d r) inputs (PartOf r) 5 (rule_answer d s inputs).place
  pub of-6 : (rule_answer d s inputs).refusal ≡ 6
      → ((rule_answer d s inputs).place ≡ 0) × ((r : Rule) × (parse s ≡ done r) × RefusedCall (runs_at d r) inputs (PartOf r) 6 0)
  pub few : (rule_answer d s inputs).place ≤ 4
  -- a refused rule has the value 0, and a done one a fixnum at the width that it runs at, and no place
  pub refused-value : ((rule_answer d s inputs).refusal ≡ 0 → ⊥) → (rule_answer d s inputs).value ≡ pos 0
  pub done-value : (rule_answer d s inputs).refusal ≡ 0
      → ((rule_answer d s inputs).place ≡ 0) × (fits (read_answer d s).width (rule_answer d s inputs).value ≡ true)
