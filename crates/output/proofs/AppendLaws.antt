-- Two texts put one after the other are one text. Assumes nothing.
use native.Mathlib.Omega.{arith}
use Prim.Native.Nat.{ℕ, ◌+◌, ◌-◌, ◌≤◌}
use mathlib.Core.Path.{◌≡◌, refl, sym, ap, ap₂, ◌∙◌}
use mathlib.Core.Bool.{Bool, true, false}
use mathlib.Core.List.{List, ◌++◌, append_assoc}
use lib.Dec.{leb}
use lib.ListN.{length, take, drop, length-append}
use lib.Seq.{take_all, take_at, drop_at, drop-drop, take-append-le, take-append-add, length-take-le}
use borrow.Author.Tests.{leb-true, leb-false}
use Rattle.outcomes.specs.Buffer.{laid}
use Rattle.output.specs.Put.{filled, after}
use Rattle.output.proofs.PutLaws.{after-full, after-length}

pub laid-append : (xs ys out : List ℕ) (at : ℕ) → at ≤ length out → laid (laid out at xs) (at + length xs) ys ≡ laid out at (xs ++ ys)
unfolding laid
laid-append xs ys out at h =
    let n = at + length xs in
    let head = take at out ++ xs in
    let rest = drop n out in
    let long : length head ≡ n = omega (arith, length-append (take at out) xs, length-take-le at out h) in
    let end : n + length ys ≡ at + length (xs ++ ys) = omega (arith, length-append xs ys) in
    ap (λ (l : List ℕ). take n l ++ (ys ++ drop (n + length ys) l)) (sym (append_assoc (take at out) xs rest))
    ∙ ap₂ (λ (l m : List ℕ). l ++ (ys ++ m)) (take_at head rest n long)
    (sym (drop-drop (length ys) n (head ++ rest)) ∙ ap (drop (length ys)) (drop_at head rest n long) ∙ drop-drop (length ys) n out)
    ∙ append_assoc (take at out) xs (ys ++ drop (n + length ys) out)
    ∙ ap (λ (l : List ℕ). take at out ++ l) (sym (append_assoc xs ys (drop (n + length ys) out)))
    ∙ ap (λ (k : ℕ). take at out ++ ((xs ++ ys) ++ drop k out)) end

-- a text that fits
pub after-whole : (text out : List ℕ) (at : ℕ) → at + length text ≤ length out → after text out at ≡ laid out at text
unfolding after
after-whole text out at h = ap (laid out at) (take_all (length out - at) text (omega arith))

pub filled-whole : (text out : List ℕ) (at : ℕ) → at + length text ≤ length out → filled text out at ≡ at + length text
unfolding filled
filled-whole text out at h = omega arith

module _ (xs ys out : List ℕ) (at : ℕ) where
  pub filled-append : filled ys (after xs out at) (filled xs out at) ≡ filled (xs ++ ys) out at
  unfolding filled
  filled-append = omega (arith, after-length xs out at, length-append xs ys)

  -- the first fits
  append-whole : at + length xs ≤ length out → after ys (after xs out at) (filled xs out at) ≡ after (xs ++ ys) out at
  unfolding after
  append-whole h =
      let room : length out - at ≡ length xs + (length out - (at + length xs)) = omega arith in
      ap₂ (after ys) (after-whole xs out at h) (filled-whole xs out at h)
      ∙ ap (λ (n : ℕ). laid (laid out at xs) (at + length xs) (take (n - (at + length xs)) ys)) (ap length (sym (after-whole xs out at h)) ∙ after-length xs out at)
      ∙ laid-append xs (take (length out - (at + length xs)) ys) out at (omega arith)
      ∙ ap (laid out at) (sym (ap (λ (k : ℕ). take k (xs ++ ys)) room ∙ take-append-add xs ys (length out - (at + length xs))))

  -- it fills the buffer
  append-full : length out ≤ at + length xs → after ys (after xs out at) (filled xs out at) ≡ after (xs ++ ys) out at
  unfolding after filled
  append-full h =
      after-full ys (after xs out at) (filled xs out at) (omega (arith, after-length xs out at))
      ∙ ap (laid out at) (sym (take-append-le (length out - at) xs ys (omega arith)))

  pub after-append : after ys (after xs out at) (filled xs out at) ≡ after (xs ++ ys) out at
  after-append = go (leb (at + length xs) (length out)) refl
    where
      go : (t : Bool) → leb (at + length xs) (length out) ≡ t → after ys (after xs out at) (filled xs out at) ≡ after (xs ++ ys) out at
      go true e = append-whole (leb-true (at + length xs) (length out) e)
      go false e = let l = leb-false (at + length xs) (length out) e in append-full (omega (arith, l))
