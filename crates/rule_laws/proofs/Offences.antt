-- The offset of a refused rule is that of the earliest item that offends. Assumes nothing.
use Prim.Native.Nat.{ℕ, suc, ◌-◌, ◌≤◌, ◌<◌}
use native.Mathlib.Omega.{arith}
use mathlib.Core.Path.{◌≡◌, refl, sym, ap, ◌∙◌, subst}
use mathlib.Core.Bool.{Bool, true, false, cond}
use mathlib.Core.List.{List, [], ◌∷◌, ◌++◌}
use lib.Dec.{leb}
use lib.ListN.{length, length-append}
use Rattle.outcomes.specs.Outcome.{refused, guard_at}
use Rattle.outcomes.proofs.OutcomeLaws.{refused-done}
use Rattle.rules.specs.Tree.{Rule}
use Rattle.rules.specs.Leb128.{Reading, got, offends}
use Rattle.rules.specs.Limits.{longest}
use Rattle.rules.specs.Parse.{read_rule, whole, parse}
use Rattle.rules.proofs.Leb128Laws.{offends-got}
use Rattle.rule_laws.specs.Rules.{OffenceStatement}
use Rattle.rule_laws.proofs.ParseLaws.{parse-refused, parse-short}
use Rattle.rule_laws.proofs.Prefixes.{Took}
use Rattle.rule_laws.proofs.Orderly.{First, past}
use Rattle.rule_laws.proofs.Readers.{rule-orderly}

-- two heads of one list, of one length, are the same
same_head : (t u c m : List ℕ) → t ++ u ≡ c ++ m → length t ≡ length c → t ≡ c
same_head [] u [] m e l = refl
same_head [] u (y ∷ c) m e l = absurd (omega arith)
same_head (x ∷ t) u [] m e l = absurd (omega arith)
same_head (x ∷ t) u (y ∷ c) m e l =
    let x' : x ≡ y = cc in
    rw x' (ap (λ (l : List ℕ). y ∷ l) (same_head t u c m (cc) (omega arith)))

-- nothing before the end of t offends, whatever stands from there on
abbrev Clean : List ℕ → Type 0
Clean t = (e : List ℕ) → ((r : Rule) (rest : List ℕ) → read_rule (t ++ e) ≡ got r rest → length rest ≤ length e)
    × ((l : ℕ) → read_rule (t ++ e) ≡ offends l → l ≤ length e)

-- where the form ends, and where an item offends
clean_end : (s : List ℕ) (r : Rule) (rest t : List ℕ) → (a : Took read_rule s r rest) → t ≡ a.own → Clean t
clean_end s r rest t a q e =
    let g : read_rule (t ++ e) ≡ got r e = ap (λ (l : List ℕ). read_rule (l ++ e)) q ∙ a.extends e in (
      λ r' rest' h. let z : got r e ≡ got r' rest' = sym g ∙ h in let z' : e ≡ rest' = cc in omega (arith, ap length z'),
      λ l h. offends-got (sym h ∙ g),
    )

clean-offence : (s : List ℕ) (left : ℕ) (t : List ℕ) → read_rule s ≡ offends left → (f : First read_rule s left) → t ≡ f.before → Clean t
clean-offence s left t o f q e = (
  λ r rest h. past read_rule rule-orderly.taken t f.from e left r rest (ap (λ (l : List ℕ). read_rule (l ++ f.from)) q ∙ ap read_rule (sym f.same) ∙ o) h,
  λ l h. f.first e l (ap (λ (b : List ℕ). read_rule (b ++ e)) (sym q) ∙ h),
)

-- so no offset before it is told
clean-whole : (n m p : ℕ) (x : Reading Rule) → n ≤ m → ((r : Rule) (rest : List ℕ) → x ≡ got r rest → length rest ≤ m - n) → ((l : ℕ) → x ≡ offends l → l ≤ m - n)
    → whole m x ≡ refused 10 p → n ≤ p
unfolding whole
clean-whole n m p (got r []) h g o e = absurd (refused-done (sym e))
clean-whole n m p (got r (b ∷ rest)) h g o e =
    let l : length (b ∷ rest) ≤ m - n = g r (b ∷ rest) refl in let p' : m - suc (length rest) ≡ p = cc in omega arith
clean-whole n m p (offends left) h g o e =
    let l : left ≤ m - n = o left refl in let p' : m - left ≡ p = cc in omega arith

clean-parse : (t e : List ℕ) (p : ℕ) → Clean t → length t ≤ longest → parse (t ++ e) ≡ refused 10 p → length t ≤ p
unfolding parse guard_at
clean-parse t e p c h q = go (leb (length (t ++ e)) longest) q
  where
    room : length (t ++ e) - length t ≡ length e
    room = omega (arith, length-append t e)

    go : (b : Bool) → cond b (whole (length (t ++ e)) (read_rule (t ++ e))) (refused 10 longest) ≡ refused 10 p → length t ≤ p
    go true q =
        clean-whole (length t) (length (t ++ e)) p (read_rule (t ++ e)) (omega (arith, length-append t e))
        (λ r rest g. omega (arith, (c e).0 r rest g, room)) (λ l o. omega (arith, (c e).1 l o, room)) q
    go false q = let p' : longest ≡ p = cc in omega arith

-- bytes that are read up to an offset, but not further
clean-before : (s : List ℕ) (o : ℕ) (x : Reading Rule) → read_rule s ≡ x → whole (length s) x ≡ refused 10 o → (t u : List ℕ) → s ≡ t ++ u → length t ≡ o → o < length s
    → Clean t
unfolding whole
clean-before s o (got r []) g e t u q l h = absurd (refused-done (sym e))
clean-before s o (got r (b ∷ rest)) g e t u q l h =
    let a = rule-orderly.taken s r (b ∷ rest) g in
    let o' : length s - suc (length rest) ≡ o = cc in
    clean_end s r (b ∷ rest) t a (same_head t u a.own (b ∷ rest) (sym q ∙ a.same) (omega (arith, ap length a.same, length-append a.own (b ∷ rest))))
clean-before s o (offends left) g e t u q l h =
    let o' : length s - left ≡ o = cc in
    let f = rule-orderly.earliest s left g (omega arith) in
    clean-offence s left t g f (same_head t u f.before f.from (sym q ∙ f.same) (omega (arith, ap length f.same, length-append f.before f.from, f.counted)))

pub offences : (s : List ℕ) (o : ℕ) → parse s ≡ refused 10 o → OffenceStatement s o
offences s o e =
    let p = parse-refused s 10 o e in
    record {
      inside = (p.1, p.2);
      earliest = λ h t u q l k y j z.
          subst (λ (n : ℕ). n ≤ j) l
          (clean-parse t y j (clean-before s o (read_rule s) refl (sym (parse-short s h) ∙ e) t u q l k) (omega (arith, l, p.2)) z);
    }
