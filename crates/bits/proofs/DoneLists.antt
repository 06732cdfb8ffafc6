-- Lists of rotate and reverse calls that are all done: the corollaries that demand 3 names. Assumes nothing.
use Prim.Native.Nat.{ℕ, ◌+◌, ◌-◌, ◌%◌, ◌≤◌}
use native.Mathlib.Omega.{arith}
use mathlib.Core.Path.{◌≡◌, refl, ap, ◌∙◌}
use mathlib.Core.Bool.{Bool, true, cond}
use mathlib.Core.List.{List, [], ◌∷◌}
use lib.IntN.{ℤ, pos}
use Rattle.bits.specs.Division.{mod_ℕ, «mod»}
use Rattle.bits.specs.Field.{rotate_bit_field}
use Rattle.bits.specs.FieldList.{FieldCall, rotate, reverse, run_call, run_calls}
use Rattle.bits.proofs.IntegerLaws.{pos-sub-ge}
use Rattle.bits.proofs.RotateLaws as rotations

-- each call of the list is done
unfoldable pub AllDone : (FieldCall → Bool) → List FieldCall → Type 0
AllDone done [] = Unit {0}
AllDone done (call ∷ calls) = (done call ≡ true) × AllDone done calls

module _ (start end : ℕ) where
  -- the number at the end, where each call is done
  abbrev pub run_each : List FieldCall → ℤ → ℤ
  run_each = run_calls (λ _. true) start end

  pub run-done : (done : FieldCall → Bool) (calls : List FieldCall) → AllDone done calls → (x : ℤ) → run_calls done start end calls x ≡ run_each calls x
  unfolding run_calls AllDone
  run-done done [] d x = refl
  run-done done (call ∷ calls) d x =
      ap (λ (b : Bool). run_calls done start end calls (cond b (run_call start end call x) x)) d.0 ∙ run-done done calls d.1 (run_call start end call x)

  -- by a and then by b is by (a + b) mod f
  pub rotate-rotate : (a b : ℕ) (x : ℤ) → run_each (rotate (pos a) ∷ rotate (pos b) ∷ []) x ≡ run_each (rotate (pos ((a + b) % (end - start))) ∷ []) x
  unfolding run_calls run_call «mod» mod_ℕ
  rotate-rotate a b x = rotations.rotate-rotate start end x (pos a) (pos b)

  -- by a between two reversals is by (f - a) mod f
  pub reverse-rotate-reverse : (a : ℕ) → a ≤ end - start → (x : ℤ)
      → run_each (reverse ∷ rotate (pos a) ∷ reverse ∷ []) x ≡ run_each (rotate (pos ((end - start - a) % (end - start))) ∷ []) x
  unfolding run_calls run_call «mod» mod_ℕ
  reverse-rotate-reverse a l x =
      rotations.reverse-rotate-reverse start end x (pos a)
      ∙ ap (λ (c : ℤ). rotate_bit_field x start end (pos (mod_ℕ c (end - start)))) (pos-sub-ge (end - start) a l)

  -- two reversals change nothing
  pub reverse-reverse : (x : ℤ) → run_each (reverse ∷ reverse ∷ []) x ≡ x
  unfolding run_calls run_call
  reverse-reverse x = rotations.reverse_involutive start end x

  -- by a and then by (f - a) mod f changes nothing
  pub rotate-back : (a : ℕ) → a ≤ end - start → (x : ℤ) → run_each (rotate (pos a) ∷ rotate (pos ((end - start - a) % (end - start))) ∷ []) x ≡ x
  unfolding run_calls run_call «mod» mod_ℕ
  rotate-back a l x =
      let n = end - start - a in
      let e : a + n ≡ end - start = omega arith in
      rotations.rotate-mod start end (rotate_bit_field x start end (pos a)) (pos n)
      ∙ rotations.rotate-compose start end x (pos a) (pos n)
      ∙ ap (λ (c : ℕ). rotate_bit_field x start end (pos c)) e
      ∙ rotations.rotate-full start end x
