-- A buffer before and after a call that writes it: no room, and room; what was written, read back. Assumes nothing.
use Prim.Native.Nat.{ℕ, ◌+◌, ◌-◌, ◌≤◌, ◌<◌}
use native.Mathlib.Omega.{arith}
use mathlib.Core.Path.{◌≡◌, refl, sym, ap, ◌∙◌}
use mathlib.Core.Bool.{Bool, true, false}
use mathlib.Core.List.{List, ◌++◌, append_assoc}
use lib.Dec.{leb}
use lib.ListN.{length, take, drop, length-take, length-drop, length-append}
use lib.Seq.{drop-drop, take_all, length-take-le, take-append_seam, drop-append_seam}
use borrow.Author.Tests.{le-leb, lt-leb, leb-true, leb-false}
use borrow.Rule.Slice.PartMut.{put_mid}
use Rattle.std.proofs.lemmas.List.{drop-append-le, take-append-drop}
use Rattle.outcomes.specs.Outcome.{Outcome, refused, done, refuse, guard, guard_at, refusal_of}
use Rattle.outcomes.specs.Buffer.{capacity, laid, fitted, afterwards, count_of}
use Rattle.outcomes.specs.Puts.{Puts}
use Rattle.outcomes.proofs.OutcomeLaws.{passed, failed}
use Rattle.outcomes.proofs.PutsLaws.{puts-list}

module _ {A : Type 0} where
  -- ---- room for the elements, or none

  pub fitted-enough : (xs out : List A) (first : ℕ) → length xs ≤ length out - first → fitted (done xs) out first ≡ done xs
  unfolding fitted capacity
  fitted-enough xs out first h = passed 8 (done xs) (le-leb (length xs) (length out - first) h)

  pub fitted_short : (xs out : List A) (first : ℕ) → length out - first < length xs → fitted (done xs) out first ≡ refuse 8
  unfolding fitted capacity
  fitted_short xs out first h = failed 8 (done xs) (lt-leb (length xs) (length out - first) h)

  -- ---- what was written, read back

  pub laid-copy : (out : List A) (first : ℕ) (xs : List A) → first ≤ length out → take (length xs) (drop first (laid out first xs)) ≡ xs
  unfolding laid
  laid-copy out first xs h =
      let rest = xs ++ drop (first + length xs) out in
      ap (λ (n : ℕ). take (length xs) (drop n (take first out ++ rest))) (sym (length-take-le first out h))
      ∙ ap (take (length xs)) (drop-append_seam (take first out) rest)
      ∙ take-append_seam xs (drop (first + length xs) out)

  -- a done call's elements, of which there is at least one
  pub read_back : (xs out : List A) (first : ℕ) → 0 < length xs → refusal_of (fitted (done xs) out first) ≡ 0
      → take (count_of (fitted (done xs) out first)) (drop first (afterwards (fitted (done xs) out first) out first)) ≡ xs
  unfolding count_of afterwards refusal_of
  read_back xs out first h q = go (leb (length xs) (length out - first)) refl
    where
      go : (t : Bool) → leb (length xs) (length out - first) ≡ t
          → take (count_of (fitted (done xs) out first)) (drop first (afterwards (fitted (done xs) out first) out first)) ≡ xs
      go true e =
          let l = leb-true (length xs) (length out - first) e in
          ap (λ (p : Outcome (List A)). take (count_of p) (drop first (afterwards p out first))) (fitted-enough xs out first l)
          ∙ laid-copy out first xs (omega arith)
      go false e =
          let z : ◌≡◌ {A = ℕ} 8 0 = sym (ap refusal_of (fitted_short xs out first (leb-false (length xs) (length out - first) e))) ∙ q in
          absurd (omega arith)

  -- no more elements are counted than the buffer has from the first on
  pub count_of-capacity : (o : Outcome (List A)) (out : List A) (first : ℕ) → count_of (fitted o out first) ≤ length out - first
  unfolding fitted count_of capacity guard guard_at
  count_of-capacity (refused k detail) out first = omega arith
  count_of-capacity (done xs) out first = go (leb (length xs) (length out - first)) refl
    where
      go : (t : Bool) → leb (length xs) (length out - first) ≡ t → count_of (guard t 8 (done xs)) ≤ length out - first
      go true e = leb-true (length xs) (length out - first) e
      go false e = omega arith

  -- a call changes no buffer's length
  pub afterwards-length : (o : Outcome (List A)) (out : List A) (first : ℕ) → length (afterwards (fitted o out first) out first) ≡ length out
  unfolding fitted afterwards capacity laid guard guard_at
  afterwards-length (refused k detail) out first = refl
  afterwards-length (done xs) out first = go (leb (length xs) (length out - first)) refl
    where
      go : (t : Bool) → leb (length xs) (length out - first) ≡ t → length (afterwards (guard t 8 (done xs)) out first) ≡ length out
      go true e =
          let n = leb-true (length xs) (length out - first) e in
          let t = length-take first out in
          let d = length-drop (first + length xs) out in
          let a = length-append (take first out) (xs ++ drop (first + length xs) out) in
          let b = length-append xs (drop (first + length xs) out) in
          omega (arith, n, t, d, a, b)
      go false e = refl

  -- ---- the part of the buffer from the first element on, lent and come back

  whole_part : (out : List A) (first : ℕ) → take (length out - first) (drop first out) ≡ drop first out
  whole_part out first = take_all (length out - first) (drop first out) (omega (arith, length-drop first out))

  pub part_length : (out : List A) (first : ℕ) → length (take (length out - first) (drop first out)) ≡ length out - first
  part_length out first = ap length (whole_part out first) ∙ length-drop first out

  module _ {d : A} {f : ℕ → A} (xs out part : List A) (first n : ℕ) (long : length xs ≡ n) (each : (j : ℕ) → j < n → lib.ListN.get_or xs j d ≡ f j) where
    pub laid-part : (k : ℕ) → n ≤ k → k ≤ length out - first → Puts d f (take k (drop first out)) part 0 n → put_mid first k out part ≡ laid out first xs
    unfolding laid
    laid-part k h room w =
        let rest = drop first out in
        let long-part = length-take-le k rest (omega (arith, length-drop first out)) in
        ap (λ (p : List A). take first out ++ (p ++ drop k rest)) (puts-list xs long each w (omega (arith, long-part)))
        ∙ ap (λ (l : List A). take first out ++ l)
        (append_assoc xs (drop n (take k rest)) (drop k rest)
        ∙ ap (λ (l : List A). xs ++ l)
        (sym (drop-append-le n (take k rest) (drop k rest) (omega (arith, long-part)))
        ∙ ap (drop n) (take-append-drop k rest)
        ∙ drop-drop n first out
        ∙ ap (λ (m : ℕ). drop (first + m) out) (sym long)))
