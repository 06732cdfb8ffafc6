-- What holds of bytes that are read as a rule, where they end early and where more follows. Assumes nothing.
use Prim.Native.Nat.{ℕ, suc, ◌+◌, ◌*◌, ◌-◌, ◌≤◌}
use native.Mathlib.Omega.{arith}
use mathlib.Core.Path.{◌≡◌, sym, ap, ◌∙◌, subst}
use mathlib.Core.List.{List, [], ◌∷◌, ◌++◌, append-nil}
use lib.ListN.{length, length-append}
use Rattle.outcomes.specs.Outcome.{refused, done}
use Rattle.rules.specs.Tree.{size, Rule}
use Rattle.rules.specs.Leb128.{got}
use Rattle.rules.specs.Limits.{longest}
use Rattle.rules.specs.Bytes.{AllBytes}
use Rattle.rules.specs.Parse.{read_rule, whole, parse}
use Rattle.rules.proofs.EncodeParse.{parsed, encode-parse}
use Rattle.rule_laws.specs.Rules.{ReadingStatement}
use Rattle.rule_laws.proofs.ParseLaws.{parse-short, rule-parts, other_width}
use Rattle.rule_laws.proofs.Prefixes.{Took}
use Rattle.rule_laws.proofs.Readers.{rule-orderly}
use Rattle.rule_laws.proofs.Sizes.{rule-bytes}

module _ (s : List ℕ) (r : Rule) (e : parse s ≡ done r) where
  took : Took read_rule s r []
  took = rule-orderly.taken s r [] (parsed s r e).0

  -- all bytes are the rule's own
  own-all : took.own ≡ s
  own-all = sym (took.same ∙ append-nil took.own)

  ends-early : (t u : List ℕ) → s ≡ t ++ u → (u ≡ [] → ⊥) → parse t ≡ refused 10 (length t)
  unfolding whole
  ends-early t u q n =
      let short : length t ≤ longest = omega (arith, (parsed s r e).1, ap length q, length-append t u) in
      let o : length t - 0 ≡ length t = omega arith in
      parse-short t short ∙ ap (whole (length t)) (took.early t u (own-all ∙ q) n) ∙ ap (λ (o : ℕ). refused 10 o) o

  goes_on : (b : ℕ) (u : List ℕ) → length (s ++ (b ∷ u)) ≤ longest → parse (s ++ (b ∷ u)) ≡ refused 10 (length s)
  unfolding whole
  goes_on b u l =
      let read : read_rule (s ++ (b ∷ u)) ≡ got r (b ∷ u) = subst (λ (c : List ℕ). read_rule (c ++ (b ∷ u)) ≡ got r (b ∷ u)) own-all (took.extends (b ∷ u)) in
      let o : length (s ++ (b ∷ u)) - suc (length u) ≡ length s = omega (arith, length-append s (b ∷ u)) in
      parse-short (s ++ (b ∷ u)) l ∙ ap (whole (length (s ++ (b ∷ u)))) read ∙ ap (λ (o : ℕ). refused 10 o) o

  bytes-for-forms : AllBytes s → (2 * size r.form + 1 ≤ length s) × (size r.form ≤ 2047)
  bytes-for-forms b =
      let l : 2 * size r.form + 1 ≤ length s = subst (λ (t : List ℕ). 2 * size r.form + 1 ≤ length t) (encode-parse s r b e).0 (rule-bytes r) in
      (l, omega (arith, (parsed s r e).1))

  pub readings : ReadingStatement s r
  readings = record {
    other_width = λ v t q.
        let e' : parse (v ∷ t) ≡ done r = rw q at e in
        ((rule-parts v t r e').0, λ w h. other_width v w t r e' h);
    early = ends-early;
    trailing = goes_on;
    sized = bytes-for-forms;
  }
