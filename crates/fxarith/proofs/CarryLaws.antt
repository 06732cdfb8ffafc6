-- The results of codes 22 to 24, and that words which wrap hold them whole. Assumes nothing.
use Prim.Native.Nat.{ℕ, ◌≤◌, ◌<◌, ◌^◌}
use native.Mathlib.Omega.{arith}
use mathlib.Core.Path.{◌≡◌, refl, sym, ap, ◌∙◌}
use mathlib.Core.Bool.{Bool, true, false}
use mathlib.Core.List.{List, []}
use lib.Dec.{lit<}
use lib.IntN.{ℤ, pos}
use mir.Syntax.{w64}
use mir.Val.{SFits, to_z, of_z}
use Rattle.bits.specs.Testbit.{fits}
use Rattle.bits.specs.Division.{div0, mod0}
use Rattle.widewords.specs.declared.double.Double.{Double}
use Rattle.widewords.specs.Double.{double_word}
use Rattle.words.proofs.WordLaws.{back}
use Rattle.widewords.proofs.PartLaws.{low-exact, high-exact}
use Rattle.outcomes.specs.Outcome.{done}
use Rattle.fxtable.specs.Calls.{answer, counted, outcome}
use Rattle.fxtable.specs.Domains.{is_width, arg}
use Rattle.fxtable.specs.Operations.{parts_of, carry}
use Rattle.fxtable.specs.Table.{row, rows, row_of}
use Rattle.fxtable.specs.Inner.{Accepted}
use Rattle.fxtable.proofs.CallLaws.{width-bounds, fits_word, never-checked}
use Rattle.fxtable.proofs.CarryLaws.{parts-small, small-parts}
use Rattle.fxtable.proofs.TableLaws.{from-to}
use Rattle.fxtable.proofs.MeaningLaws.{carry-outcome}
use Rattle.fxstages.proofs.ArgumentLaws.{fixnum-at}
use Rattle.fxarith.specs.Held.{Held}

-- the two parts, as `low_part` and `high_part` answer them: the second is a fixnum, so one word holds it
module _ (w : ℕ) {s : Double} (x : ℤ) (a : is_width w ≡ true) (held : Held w s x) where
  bounds : (24 ≤ w) × (w ≤ 64)
  bounds = width-bounds w a

  pub held_low : mod0 (pos (double_word s)) (pos (2 ^ w)) ≡ (parts_of w x).0
  unfolding parts_of
  held_low = ap (λ (n : ℕ). mod0 (pos n) (pos (2 ^ w))) held.words ∙ low-exact w (omega (arith, bounds)) (omega (arith, bounds)) x

  pub held_high : mod0 (div0 (pos (double_word s)) (pos (2 ^ w))) (pos (2 ^ 64)) ≡ (parts_of w x).1
  unfolding parts_of
  held_high =
      ap (λ (n : ℕ). mod0 (div0 (pos n) (pos (2 ^ w))) (pos (2 ^ 64))) held.words
      ∙ high-exact w (omega (arith, bounds)) (omega (arith, bounds)) x (fits_word w _ a held.high)

  -- a word that is the high part says whether the integer is a fixnum
  pub carried : (q : ℤ) → q ≡ (parts_of w x).1 → (of_z w64 q ≡ 0 → ⊥) → fits w x ≡ false
  carried q e n = go (fits w x) refl
    where
      go : (t : Bool) → fits w x ≡ t → t ≡ false
      go true f = absurd (n (ap (of_z w64) (e ∙ ap (λ (p : ℤ × ℤ). p.1) (parts-small w x (omega (arith, bounds)) f))))
      go false f = refl

  pub not_carried : (q : ℤ) → q ≡ (parts_of w x).1 → SFits w64 q → of_z w64 q ≡ 0 → ((parts_of w x).0 ≡ x) × (fits w x ≡ true)
  not_carried q e f z = small-parts w x (omega (arith, bounds)) (sym e ∙ sym (back f) ∙ ap (to_z w64) z)

-- each of the three arguments is a fixnum
least-three : (code : ℕ) → (22 ≤ code) × (code ≤ 24) → 2 < (row_of code).least
unfolding rows row_of
least-three code h = from-to (λ c. 2 < (row_of c).least) 22 3 (lit< tt, (lit< tt, (lit< tt, tt))) code h.0 (omega arith)

pub each_fits : {w code : ℕ} {xs : List ℤ} {n : ℕ} → (22 ≤ code) × (code ≤ 24) → Accepted w code xs n → (i : ℕ) → i < 3 → fits w (arg xs i) ≡ true
each_fits {code} h a i l = fixnum-at a i (omega (arith, least-three code h))

-- the outcome of a code whose exact result is f of three arguments
pub carry-answer : (f : ℤ → ℤ → ℤ → ℤ) {w code n : ℕ} {xs : List ℤ} → row_of code ≡ row 3 3 [] 0 (carry f) → Accepted w code xs n
    → answer (done (parts_of w (f (arg xs 0) (arg xs 1) (arg xs 2)))) ≡ answer (outcome w code (counted xs n))
carry-answer f {w} e a = never-checked w _ ∙ carry-outcome (λ v x y z. parts_of v (f x y z)) e a
