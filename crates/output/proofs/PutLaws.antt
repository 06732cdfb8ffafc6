-- What `put` leaves in the buffer: where it was full already, and where a text, or what fits of it, is copied. Assumes nothing.
use native.Mathlib.Omega.{arith}
use Prim.Native.Nat.{ℕ, ◌+◌, ◌-◌, ◌≤◌, min}
use mathlib.Core.Path.{◌≡◌, refl, sym, ap, ◌∙◌}
use mathlib.Core.Bool.{Bool, true, false}
use mathlib.Core.List.{List, ◌++◌, append-nil}
use lib.Dec.{leb}
use lib.ListN.{length, take, drop, length-take, length-drop, length-append, drop_of_length-le}
use lib.Seq.{take_all, take-length, length-take-le, drop-drop}
use borrow.Author.Tests.{leb-true, leb-false}
use borrow.Rule.Slice.PartMut.{put_mid}
use Rattle.outcomes.specs.Buffer.{laid}
use Rattle.output.specs.Put.{filled, after}

module _ (text out : List ℕ) (at : ℕ) where
  pub after-full : length out ≤ at → after text out at ≡ out
  unfolding after laid
  after-full h =
      let none : length out - at ≡ 0 = omega arith in
      ap (λ (k : ℕ). take at out ++ (take k text ++ drop (at + length (take k text)) out)) none
      ∙ ap (λ (l : List ℕ). take at out ++ l) (drop_of_length-le out {i = at + 0} (omega arith))
      ∙ append-nil (take at out)
      ∙ take_all at out h

  -- the part of the buffer that is lent to the copy
  abbrev part : List ℕ
  part = take (length out - at) (drop at out)

  module _ {n : ℕ} (e : n ≡ min (length text) (length out - at)) where
    pub taken-length : length (take n text) ≡ n
    taken-length = length-take-le n text (omega arith)

    -- as much of the text as fits
    taken : take n text ≡ take (length out - at) text
    taken = go (leb (length text) (length out - at)) refl
      where
        go : (t : Bool) → leb (length text) (length out - at) ≡ t → take n text ≡ take (length out - at) text
        go true q =
            let h = leb-true (length text) (length out - at) q in
            take_all n text (omega (arith, h)) ∙ sym (take_all (length out - at) text h)
        go false q =
            let h = leb-false (length text) (length out - at) q in
            let same : n ≡ length out - at = omega (arith, h) in
            ap (λ (k : ℕ). take k text) same

    pub after-copy : put_mid at (length out - at) out (take (length (take n text)) (take n text) ++ drop (length (take n text)) part) ≡ after text out at
    unfolding after laid
    after-copy =
        let xs = take n text in
        ap (λ (l : List ℕ). take at out ++ ((take (length xs) xs ++ drop (length xs) part) ++ l)) (drop_of_length-le (drop at out) {i = length out - at} (omega (arith, length-drop at out)))
        ∙ ap (λ (l : List ℕ). take at out ++ l)
        (append-nil (take (length xs) xs ++ drop (length xs) part)
        ∙ ap (λ (l : List ℕ). l ++ drop (length xs) part) (take-length xs)
        ∙ ap (λ (l : List ℕ). xs ++ drop (length xs) l) (take_all (length out - at) (drop at out) (omega (arith, length-drop at out)))
        ∙ ap (λ (l : List ℕ). xs ++ l) (drop-drop (length xs) at out))
        ∙ ap (λ (l : List ℕ). laid out at l) taken

    pub filled_copy : at ≤ length out → at + n ≡ filled text out at
    unfolding filled
    filled_copy h = omega arith

  pub filled-full : length out ≤ at → length out ≡ filled text out at
  unfolding filled
  filled-full h = omega arith

  pub after-length : length (after text out at) ≡ length out
  unfolding after laid
  after-length =
      let xs = take (length out - at) text in
      omega (
        arith,
        length-take (length out - at) text,
        length-take at out,
        length-append (take at out) (xs ++ drop (at + length xs) out),
        length-append xs (drop (at + length xs) out),
        length-drop (at + length xs) out,
      )
