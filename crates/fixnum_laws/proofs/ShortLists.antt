-- Short lists of codes 40 and 41 on a field whose calls are all done: the corollaries that demand 3 names. Assumes nothing.
use Prim.Native.Nat.{ℕ, ◌+◌, ◌-◌, ◌%◌, ◌≤◌, ◌<◌, ◌^◌}
use native.Mathlib.Nat.{le_of_lt, lt_of_lt_of_le, mod-lt}
use native.Mathlib.Omega.{arith}
use mathlib.Core.Path.{◌≡◌, refl, subst}
use mathlib.Core.Bool.{true}
use mathlib.Core.List.{List, [], ◌∷◌}
use lib.IntN.{ℤ, pos}
use Rattle.bits.specs.Testbit.{fits}
use Rattle.bits.specs.Field.{rotate_bit_field}
use Rattle.bits.specs.FieldList.{FieldCall, rotate, reverse, run_call, run_calls}
use Rattle.bits.proofs.FitsLaws.{pow-fits}
use Rattle.bits.proofs.ListTheorem.{list-theorem, calls-fit}
use Rattle.bits.proofs.DoneLists.{AllDone, run_each}
use Rattle.bits.proofs.DoneLists as lists
use Rattle.outcomes.specs.Outcome.{done}
use Rattle.fxtable.specs.Calls.{answer}
use Rattle.fxtable.specs.Domains.{is_width}
use Rattle.fixnum_laws.specs.Lists.{answer_to, is_done, Gives, Agree}
use Rattle.fixnum_laws.proofs.AnswerLaws.{count-done, reverse-answer, rotate-answer}

module _ (w : ℕ) (a : is_width w ≡ true) (start end : ℕ) (h : start < end) (k : end ≤ w - 1) where
  pub done-answer : (call : FieldCall) (x : ℤ) → fits w x ≡ true → is_done w start end call ≡ true
      → answer_to w start end call x ≡ answer (done (run_call start end call x, pos 0))
  unfolding answer_to run_call
  done-answer (rotate c) x f d = rotate-answer w a x start end f (le_of_lt h) k c d
  done-answer reverse x f d = reverse-answer w a x start end f (le_of_lt h) k

  count-is-done : (c : ℕ) → c ≤ end - start → is_done w start end (rotate (pos c)) ≡ true
  count-is-done = count-done w start end (le_of_lt h)

  abbrev Dones : List FieldCall → Type 0
  Dones = AllDone (is_done w start end)

  gives : (calls : List FieldCall) (x : ℤ) → fits w x ≡ true → Dones calls → Gives w start end calls x (run_each start end calls x)
  unfolding Gives run_calls AllDone
  gives [] x f d = refl
  gives (call ∷ calls) x f d = (
    run_call start end call x,
    done-answer call x f d.0,
    gives calls (run_call start end call x) (calls-fit (λ _. true) start end h w k (call ∷ []) x f) d.1,
  )

  agrees : (one other : List FieldCall) (x : ℤ) → fits w x ≡ true → Dones one → Dones other → run_each start end one x ≡ run_each start end other x
      → Agree w start end one other x
  unfolding Agree
  agrees one other x f d e q =
      (run_each start end other x, subst (λ (y : ℤ). Gives w start end one x y) q (gives one x f d), gives other x f e)

  mod-le : (n : ℕ) → n % (end - start) ≤ end - start
  mod-le n = let p : 0 < end - start = omega arith in le_of_lt (mod-lt n p)

  pub twice : (a b : ℕ) → a ≤ end - start → b ≤ end - start → (x : ℤ) → fits w x ≡ true
      → Agree w start end (rotate (pos a) ∷ rotate (pos b) ∷ []) (rotate (pos ((a + b) % (end - start))) ∷ []) x
  unfolding AllDone
  twice a b l m x f =
      agrees (rotate (pos a) ∷ rotate (pos b) ∷ []) (rotate (pos ((a + b) % (end - start))) ∷ []) x f
      (count-is-done a l, (count-is-done b m, tt)) (count-is-done ((a + b) % (end - start)) (mod-le (a + b)), tt)
      (lists.rotate-rotate start end a b x)

  pub between-reversals : (a : ℕ) → a ≤ end - start → (x : ℤ) → fits w x ≡ true
      → Agree w start end (reverse ∷ rotate (pos a) ∷ reverse ∷ []) (rotate (pos ((end - start - a) % (end - start))) ∷ []) x
  unfolding AllDone is_done
  between-reversals a l x f =
      agrees (reverse ∷ rotate (pos a) ∷ reverse ∷ []) (rotate (pos ((end - start - a) % (end - start))) ∷ []) x f
      (refl, (count-is-done a l, (refl, tt))) (count-is-done ((end - start - a) % (end - start)) (mod-le (end - start - a)), tt)
      (lists.reverse-rotate-reverse start end a l x)

  pub twice-reversed : (x : ℤ) → fits w x ≡ true → Agree w start end (reverse ∷ reverse ∷ []) [] x
  unfolding AllDone is_done run_calls
  twice-reversed x f = agrees (reverse ∷ reverse ∷ []) [] x f (refl, (refl, tt)) tt (lists.reverse-reverse start end x)

  pub back : (a : ℕ) → a ≤ end - start → (x : ℤ) → fits w x ≡ true
      → Agree w start end (rotate (pos a) ∷ rotate (pos ((end - start - a) % (end - start))) ∷ []) [] x
  unfolding AllDone run_calls
  back a l x f =
      let n = (end - start - a) % (end - start) in
      agrees (rotate (pos a) ∷ rotate (pos n) ∷ []) [] x f (count-is-done a l, (count-is-done n (mod-le (end - start - a)), tt)) tt
      (lists.rotate-back start end a l x)

  witness-fits : fits w (pos (2 ^ start)) ≡ true
  witness-fits = pow-fits w start (lt_of_lt_of_le h k)

  pub different : (c d : ℕ) → c < end - start → d < end - start → (c ≡ d → ⊥)
      → (x : ℤ) × (fits w x ≡ true) × (y : ℤ) × (z : ℤ)
      × Gives w start end (rotate (pos c) ∷ []) x y × Gives w start end (rotate (pos d) ∷ []) x z × (y ≡ z → ⊥)
  unfolding AllDone run_calls run_call
  different c d l m n = (
    pos (2 ^ start),
    witness-fits,
    rotate_bit_field (pos (2 ^ start)) start end (pos c),
    rotate_bit_field (pos (2 ^ start)) start end (pos d),
    gives (rotate (pos c) ∷ []) (pos (2 ^ start)) witness-fits (count-is-done c (le_of_lt l), tt),
    gives (rotate (pos d) ∷ []) (pos (2 ^ start)) witness-fits (count-is-done d (le_of_lt m), tt),
    (list-theorem (λ _. true) start end h).counts-differ c d l m n,
  )
