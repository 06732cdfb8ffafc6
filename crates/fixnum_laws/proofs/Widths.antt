-- One call at two widths: what the wider one answers where the call is done at the narrower. At width 64 every word is a fixnum. Assumes nothing.
use Prim.Native.Nat.{ℕ, zero, suc, ◌-◌, ◌≤◌, ◌<◌, ◌^◌}
use native.Mathlib.Omega.{arith}
use mathlib.Core.Path.{◌≡◌, refl, sym, ap, ap₂, ◌∙◌, subst}
use mathlib.Core.Bool.{Bool, true, false, ◌&&◌, ◌||◌, true≢false}
use mathlib.Core.List.{List, [], ◌∷◌}
use lib.Dec.{eqb}
use lib.IntN.{ℤ, pos, ◌+ℤ◌, ◌*ℤ◌}
use borrow.Author.Tests.{eqb-true}
use Rattle.bits.specs.Testbit.{fits}
use Rattle.bits.proofs.Booleans.{both_left, both_right}
use Rattle.outcomes.specs.Outcome.{done}
use Rattle.outcomes.specs.Tests.{all_hold}
use Rattle.fxtable.specs.declared.answer.Answer.{Answer}
use Rattle.fxtable.specs.Domains.{is_width, arg}
use Rattle.fxtable.specs.Operations.{results_of, parts_of}
use Rattle.fxtable.specs.Table.{rows, row_of}
use Rattle.fxtable.specs.Calls.{answer, counted, fixnum_tests, all_fixnums, fixnum_answer}
use Rattle.fxtable.proofs.CallLaws.{between, width-bounds}
use Rattle.fxtable.proofs.CarryLaws.{parts_whole, parts-small}
use Rattle.fxtable.proofs.TableLaws.{from-to}
use Rattle.fixnum_laws.specs.Widths.{is_carry, exact_sum, changes_sign, other_side, same_side, WidthStatement}
use Rattle.fixnum_laws.proofs.Stages.{by-ends}
use Rattle.fixnum_laws.proofs.Places.{never-4}
use Rattle.fixnum_laws.proofs.CopyBitCalls.{copy-narrow, copy-same, copy-wide}
use Rattle.fixnum_laws.proofs.WidthLaws.{wider-fits, results_at, same-results, Done, is-done, done-answer, wider-done}

-- ---- carry operations

carry-results : (w code : ℕ) (xs : List ℤ) → is_carry code ≡ true → results_at w code xs ≡ parts_of w (exact_sum code xs)
unfolding is_carry exact_sum row_of rows results_of
carry-results w code xs c =
    let b = between 22 code 24 c in
    from-to (λ k. results_at w k xs ≡ parts_of w (exact_sum k xs)) 22 3 (refl, (refl, (refl, tt))) code b.0 (omega (arith, b.1))

module _ {w code : ℕ} {args : List ℤ} {n : ℕ} (d : Done w code args n) (c : is_carry code ≡ true) where
  carry-answer : fixnum_answer w code args n ≡ answer (done (parts_of w (exact_sum code (counted args n))))
  carry-answer = done-answer w code args n d ∙ ap (λ (r : ℤ × ℤ). answer (done r)) (carry-results w code (counted args n) c)

  carry-sum : ((fixnum_answer w code args n).second *ℤ pos (2 ^ w)) +ℤ (fixnum_answer w code args n).first ≡ exact_sum code (counted args n)
  unfolding answer
  carry-sum = ap (λ (a : Answer). (a.second *ℤ pos (2 ^ w)) +ℤ a.first) carry-answer ∙ parts_whole w (exact_sum code (counted args n))

-- ---- every call

is-copy : (v code : ℕ) (xs : List ℤ) → changes_sign v code xs ≡ true → code ≡ 34
unfolding changes_sign
is-copy v code xs s = eqb-true code 34 (both_left (eqb code 34) _ s)

module _ (v w code : ℕ) (args : List ℤ) (n : ℕ) (l : v ≤ w) (d : Done v code args n) (e : Done w code args n) where
  -- what holds of copy-bit, where the code is its code
  at_copy : (P : ℕ → Type 0) → code ≡ 34 → (Done v 34 args n → Done w 34 args n → P 34) → P code
  at_copy P q f = subst P (sym q) (f (subst (λ (c : ℕ). Done v c args n) q d) (subst (λ (c : ℕ). Done w c args n) q e))

  same_answer : is_carry code ≡ false → changes_sign v code (counted args n) ≡ false → fixnum_answer w code args n ≡ fixnum_answer v code args n
  same_answer c s = go (eqb code 34) refl
    where
      go : (t : Bool) → eqb code 34 ≡ t → fixnum_answer w code args n ≡ fixnum_answer v code args n
      go true q =
          at_copy (λ k. changes_sign v k (counted args n) ≡ false → fixnum_answer w k args n ≡ fixnum_answer v k args n) (eqb-true code 34 q)
          (copy-same v w args n l) s
      go false q =
          done-answer w code args n e
          ∙ ap (λ (r : ℤ × ℤ). answer (done r)) (same-results w v code (counted args n) d.known (ap₂ ◌||◌ c q))
          ∙ sym (done-answer v code args n d)

pub widths-agree : (v w code : ℕ) (args : List ℤ) (n : ℕ) → v ≤ w → is_width w ≡ true → (fixnum_answer v code args n).refusal ≡ 0 → WidthStatement v w code args n
unfolding answer
widths-agree v w code args n l a z =
    let d = is-done v code args n z in
    let e = wider-done v w code args n l a d in
    record {
      done-too = ap (λ (r : Answer). r.refusal) (done-answer w code args n e);
      same = same_answer v w code args n l d e;
      carry-narrow = carry-answer d;
      carry-wide = carry-answer e;
      carry-whole = λ c. carry-sum d c ∙ sym (carry-sum e c);
      sign_narrow = λ s. at_copy v w code args n l d e (λ k. changes_sign v k (counted args n) ≡ true → fixnum_answer v k args n ≡ answer (done (other_side (arg args 0) (v - 1), pos 0)))
          (is-copy v code (counted args n) s) (λ f g. copy-narrow v args n f) s;
      sign-wide = λ h s. at_copy v w code args n l d e (λ k. changes_sign v k (counted args n) ≡ true → fixnum_answer w k args n ≡ answer (done (same_side (arg args 0) (v - 1), pos 0)))
          (is-copy v code (counted args n) s) (λ f g. copy-wide v w args n l f g h) s;
    }

-- where the integer of a carry operation is a fixnum at the narrower width, the answers are that integer and 0, and so the same
pub carry-small : (v w code : ℕ) (args : List ℤ) (n : ℕ) → v ≤ w → is_width w ≡ true → (fixnum_answer v code args n).refusal ≡ 0
    → is_carry code ≡ true → fits v (exact_sum code (counted args n)) ≡ true
    → (fixnum_answer v code args n ≡ answer (done (exact_sum code (counted args n), pos 0))) × (fixnum_answer w code args n ≡ answer (done (exact_sum code (counted args n), pos 0)))
carry-small v w code args n l a z c f = (at v d f, at w e (wider-fits v w l (exact_sum code (counted args n)) f))
  where
    d : Done v code args n
    d = is-done v code args n z

    e : Done w code args n
    e = wider-done v w code args n l a d

    at : (u : ℕ) → Done u code args n → fits u (exact_sum code (counted args n)) ≡ true → fixnum_answer u code args n ≡ answer (done (exact_sum code (counted args n), pos 0))
    at u g h =
        let p : 0 < u = omega (arith, width-bounds u g.stages.width) in
        carry-answer g c ∙ ap (λ (r : ℤ × ℤ). answer (done r)) (parts-small u (exact_sum code (counted args n)) p h)

-- ---- width 64

counted-fixnums : (w : ℕ) (args : List ℤ) (n : ℕ) → all_fixnums w args ≡ true → all_fixnums w (counted args n) ≡ true
unfolding counted all_fixnums fixnum_tests all_hold
counted-fixnums w args zero f = refl
counted-fixnums w [] (suc n) f = refl
counted-fixnums w (x ∷ args) (suc n) f =
    ap₂ ◌&&◌ (both_left (fits w x) (all_fixnums w args) f) (counted-fixnums w args n (both_right (fits w x) (all_fixnums w args) f))

-- every word is a fixnum, so refusal 4 never comes
pub words-are-fixnums : (code : ℕ) (args : List ℤ) (n : ℕ) → all_fixnums 64 args ≡ true → (fixnum_answer 64 code args n).refusal ≡ 4 → ⊥
unfolding answer
words-are-fixnums code args n f = by-ends 64 code args n (λ a. a.refusal ≡ 4 → ⊥) (record {
  early = λ k l u e. absurd (omega (arith, u, e));
  wide = λ m h e. absurd (true≢false (sym (counted-fixnums 64 args n f) ∙ h));
  outside = λ m h e. absurd (omega (arith, e));
  past = (λ c g d. never-4 64 code args n, λ r e. absurd (omega (arith, e)));
})
