-- The digits of a fraction put one by one. Assumes nothing.
use Prim.Native.Nat.{ℕ, zero, suc, ◌*◌, ◌-◌, ◌/◌, ◌%◌, ◌^◌, ◌<◌}
use native.Mathlib.Omega.{arith}
use mathlib.Core.Path.{◌≡◌, refl, sym, ap, ◌∙◌}
use mathlib.Core.List.{List, [], ◌∷◌, ◌++◌, append-nil, append_assoc}
use mathlib.Core.Logic.{◌⊎◌, ⊎_elim}
use borrow.Author.Tests.{eq-eqb, ne_eqb}
use Rattle.output.specs.Put.{filled, after}
use Rattle.spelling.specs.Spellings.{glyph}
use Rattle.flspelling.specs.Spellings.{fraction}
use Rattle.output.specs.Put.{Puts}
use Rattle.output.proofs.PutsLaws.{puts_then}

-- some digits of m are put, and those of the rest are ahead
pub record Going (m : ℕ) (first : List ℕ) (at : ℕ) (out : List ℕ) (rest left r : ℕ) : Type 0 where
  pub text : List ℕ
  pub put : Puts text first at r out
  pub ahead : text ++ fraction left rest ≡ fraction 13 m
  pub small : rest < 2 ^ 52

one_more : (m k : ℕ) → (m ≡ 0 → ⊥) → fraction (suc k) m ≡ glyph (m / 2 ^ 48) ∷ fraction k (m % 2 ^ 48 * 16)
unfolding fraction
one_more m k h = rw (ne_eqb m 0 h) refl

none_left : (k m : ℕ) → (k ≡ 0) ⊎ (m ≡ 0) → fraction k m ≡ []
unfolding fraction
none_left zero m h = refl
none_left (suc k) m h = rw (eq-eqb m 0 (⊎_elim (λ e. absurd (omega (arith, e))) (λ e. e) h)) refl

module _ {m at rest left r : ℕ} {first out : List ℕ} (g : Going m first at out rest left r) where
  pub going_on : (v : ℕ) {r' : ℕ} {out' : List ℕ} → 0 < left → (rest ≡ 0 → ⊥) → v ≡ glyph (rest / 2 ^ 48) → Puts (v ∷ []) out r r' out'
      → Going m first at out' (rest % 2 ^ 48 * 16) (left - 1) r'
  going_on v h n e p = record {
    text = g.text ++ (v ∷ []);
    put = puts_then g.text (v ∷ []) g.put p;
    ahead =
        let k : suc (left - 1) ≡ left = omega arith in
        let more = fraction (left - 1) (rest % 2 ^ 48 * 16) in
        append_assoc g.text (v ∷ []) more
        ∙ ap (λ (d : ℕ). g.text ++ (d ∷ more)) e
        ∙ ap (λ (l : List ℕ). g.text ++ l) (sym (one_more rest (left - 1) n) ∙ ap (λ (i : ℕ). fraction i rest) k)
        ∙ g.ahead;
    small = omega arith;
  }

  pub gone : (left ≡ 0) ⊎ (rest ≡ 0) → Puts (fraction 13 m) first at r out
  gone h =
      let e : g.text ≡ fraction 13 m = sym (append-nil g.text) ∙ ap (λ (l : List ℕ). g.text ++ l) (sym (none_left left rest h)) ∙ g.ahead in
      record { count = g.put.count ∙ ap (λ (l : List ℕ). filled l first at) e; buffer = g.put.buffer ∙ ap (λ (l : List ℕ). after l first at) e }
