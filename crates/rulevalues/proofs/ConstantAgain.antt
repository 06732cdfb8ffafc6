-- A constant that has been read, evaluated from its bytes. Assumes nothing.
use Prim.Native.Nat.{ℕ, ◌+◌, ◌-◌, ◌^◌, ◌≤◌, ◌<◌}
use native.Mathlib.Omega.{arith}
use mathlib.Core.Path.{◌≡◌, refl, sym, ap, ◌∙◌}
use mathlib.Core.Bool.{Bool, true, false}
use mathlib.Core.List.{List, []}
use lib.Dec.{ltb}
use lib.IntN.{ℤ, pos}
use lib.ListN.{length, drop, get_or, drop_of_length-le}
use lib.Pow.{pow_mono}
use borrow.Author.Tests.{ltb-true, ltb-false, lt-ltb}
use Rattle.std.specs.Prelude.{Result, Ok, Err, IsOk}
use Rattle.bits.specs.Testbit.{fits}
use Rattle.words.specs.Sign.{of_magnitude}
use Rattle.outcomes.specs.Outcome.{Outcome, refused, done, guard, guard_at}
use Rattle.fxtable.specs.Domains.{is_width}
use Rattle.fxtable.proofs.CallLaws.{width-bounds}
use Rattle.rules.specs.Leb128.{Reading, got, offends, decode}
use Rattle.rules.specs.Parse.{and_then, item, read_constant}
use Rattle.rules.specs.Evaluate.{fixnum}
use Rattle.rules.proofs.Leb128Laws.{offends-got}
use Rattle.rulereader.specs.declared.Offence.{Offence}
use Rattle.rulereader.specs.Placed.{At, ConstantRead, constant_from}
use Rattle.rulereader.proofs.ConstantLaws.{last_positive}
use Rattle.rulevalues.specs.Evaluated.{told, Has, EvaluatesConstant}

pub constant-inside : (s : List ℕ) (i : ℕ) → Has (read_constant (drop i s)) → i < length s
unfolding item decode and_then
constant-inside s i h = go (ltb i (length s)) refl
  where
    go : (t : Bool) → ltb i (length s) ≡ t → i < length s
    go true q = ltb-true i (length s) q
    go false q =
        let empty : drop i s ≡ [] = drop_of_length-le s {i = i} (ltb-false i (length s) q) in
        let e : read_constant (drop i s) ≡ offends 0 = rw empty refl in
        offends-got (sym e ∙ h.2)

-- what is read, and its outcome
tells : (w : ℕ) (s : List ℕ) (r : Reading ℤ) (z : ℤ) (p : ℕ) (o : Outcome ℤ) → p ≤ length s → r ≡ got z (drop p s) → fixnum w z ≡ o → EvaluatesConstant w s r (told p o)
unfolding told
tells w s r z p (refused k place) le e f = λ y rest q. let y' : z ≡ y = cc in rw (← y') f
tells w s r z p (done x) le e f = (le, λ y rest q. let y' : z ≡ y = cc in (rw (← y') f, cc))

module _ (w : ℕ) (s : List ℕ) (i : ℕ) where
  small-fits : is_width w ≡ true → (b : ℕ) → b < 64 → fixnum w (pos b) ≡ done (pos b)
  unfolding fixnum guard guard_at fits
  small-fits h b l =
      let v = width-bounds w h in
      let room : 2 ^ 23 ≤ 2 ^ (w - 1) = pow_mono {i = 23} {j = w - 1} (omega (arith, v)) in
      rw (lt-ltb b (2 ^ (w - 1)) (omega (arith, room))) refl

  pub small-constant : is_width w ≡ true → i < length s → get_or s i 0 < 64 → (y : ℤ) → y ≡ pos (get_or s i 0)
      → EvaluatesConstant w s (read_constant (drop i s)) (Ok (y, i + 1))
  unfolding told item constant_from of_magnitude
  small-constant h inside l y same =
      let r : read_constant (drop i s) ≡ got (pos (get_or s i 0)) (drop (i + 1) s) = (last_positive s i i 10 (λ z. absurd (omega arith)) inside l).0.value in
      tells w s (read_constant (drop i s)) (pos (get_or s i 0)) (i + 1) (done y) (omega arith) r (small-fits h (get_or s i 0) l ∙ ap done (sym same))

  pub constant-evaluated : (z : ℤ) (p : ℕ) → At s (read_constant (drop i s)) z p → EvaluatesConstant w s (read_constant (drop i s)) (told p (fixnum w z))
  constant-evaluated z p a = tells w s (read_constant (drop i s)) z p (fixnum w z) a.inside a.value refl

  -- a constant that was read does not offend
  pub is_ok : Has (read_constant (drop i s)) → (m : Result (ℤ × ℕ) Offence) → ConstantRead s (read_constant (drop i s)) m → IsOk m
  is_ok h (Ok a) r = refl
  is_ok h (Err e) r = offends-got (sym r.left ∙ h.2)
