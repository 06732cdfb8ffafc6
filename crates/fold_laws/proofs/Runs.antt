-- What a run of chunks makes of a record, open or not. Assumes nothing.
use Prim.Native.Nat.{ℕ}
use mathlib.Core.Path.{◌≡◌, refl, sym, ap, subst, ◌∙◌}
use mathlib.Core.Bool.{Bool, true, false, cond}
use mathlib.Core.List.{List, [], ◌∷◌, ◌++◌}
use lib.IntN.{ℤ}
use Rattle.bits.specs.Testbit.{fits}
use Rattle.fold.specs.declared.Fold.{Fold}
use Rattle.fold.specs.Fold.{AllBytes, settings, with_accumulator, is_open, fold_byte, fold_bytes}
use Rattle.fold.specs.Calls.{Folding, after, folding}
use Rattle.fold.proofs.CallLaws.{not-open-folding, folding-open}
use Rattle.fold.proofs.ByteLaws.{accumulated, fold_bytes-is, open-bytes}
use Rattle.fold.proofs.OpenLaws.{open-field}
use Rattle.fold_laws.specs.Identifiers.{concatenated, after_chunks}

bytes_left : (xs ys : List ℕ) → AllBytes (xs ++ ys) → AllBytes xs
unfolding AllBytes
bytes_left [] ys l = tt
bytes_left (x ∷ xs) ys l = (l.0, bytes_left xs ys l.1)

bytes-right : (xs ys : List ℕ) → AllBytes (xs ++ ys) → AllBytes ys
unfolding AllBytes
bytes-right [] ys l = l
bytes-right (x ∷ xs) ys l = bytes-right xs ys l.1

-- ---- one chunk

fold_bytes-append : (f : Fold) (xs ys : List ℕ) → fold_bytes f (xs ++ ys) ≡ fold_bytes (fold_bytes f xs) ys
unfolding fold_bytes
fold_bytes-append f [] ys = refl
fold_bytes-append f (x ∷ xs) ys = fold_bytes-append (fold_byte f x) xs ys

pub accumulated-fits : (f : Fold) → is_open f ≡ true → (bs : List ℕ) → AllBytes bs → fits f.width (accumulated f bs) ≡ true
unfolding with_accumulator settings
accumulated-fits f h bs l =
    subst (λ (g : Fold). fits g.width g.accumulator ≡ true) (fold_bytes-is f h bs l) (open-field (fold_bytes f bs) (open-bytes f h bs l)).fixnum

folding-refusal : (f : Fold) (bs : List ℕ) → (folding f bs).refusal ≡ cond (is_open f) 0 9
unfolding folding after
folding-refusal f bs = go (is_open f)
  where
    go : (t : Bool) → (cond t (after 0 (fold_bytes f bs)) (after 9 f)).refusal ≡ cond t 0 9
    go true = refl
    go false = refl

-- only the accumulator changes
pub same-settings : (f : Fold) (bs : List ℕ) → AllBytes bs → (a : ℤ) × ((folding f bs).fold ≡ with_accumulator f a)
unfolding after with_accumulator settings
same-settings f bs l = go (is_open f) refl
  where
    go : (t : Bool) → is_open f ≡ t → (a : ℤ) × ((folding f bs).fold ≡ with_accumulator f a)
    go true h = (accumulated f bs, ap (λ (r : Folding). r.fold) (folding-open f h bs) ∙ fold_bytes-is f h bs l)
    go false h = (f.accumulator, ap (λ (r : Folding). r.fold) (not-open-folding f h bs))

-- ---- chunks

chunks-open : (f : Fold) → is_open f ≡ true → (bss : List (List ℕ)) → AllBytes (concatenated bss) → after_chunks f bss ≡ fold_bytes f (concatenated bss)
unfolding after_chunks concatenated fold_bytes after
chunks-open f h [] l = refl
chunks-open f h (bs ∷ bss) l =
    let rest = concatenated bss in
    ap (λ (r : Folding). after_chunks r.fold bss) (folding-open f h bs)
    ∙ chunks-open (fold_bytes f bs) (open-bytes f h bs (bytes_left bs rest l)) bss (bytes-right bs rest l)
    ∙ sym (fold_bytes-append f bs rest)

chunks-shut : (f : Fold) → is_open f ≡ false → (bss : List (List ℕ)) → after_chunks f bss ≡ f
unfolding after_chunks after
chunks-shut f h [] = refl
chunks-shut f h (bs ∷ bss) = ap (λ (r : Folding). after_chunks r.fold bss) (not-open-folding f h bs) ∙ chunks-shut f h bss

module _ (f : Fold) (bss : List (List ℕ)) (l : AllBytes (concatenated bss)) where
  pub any-cutting : after_chunks f bss ≡ (folding f (concatenated bss)).fold
  unfolding after
  any-cutting = go (is_open f) refl
    where
      go : (t : Bool) → is_open f ≡ t → after_chunks f bss ≡ (folding f (concatenated bss)).fold
      go true h = chunks-open f h bss l ∙ ap (λ (r : Folding). r.fold) (sym (folding-open f h (concatenated bss)))
      go false h = chunks-shut f h bss ∙ ap (λ (r : Folding). r.fold) (sym (not-open-folding f h (concatenated bss)))

  stays_open : is_open (after_chunks f bss) ≡ is_open f
  stays_open = go (is_open f) refl
    where
      go : (t : Bool) → is_open f ≡ t → is_open (after_chunks f bss) ≡ is_open f
      go true h = ap is_open (chunks-open f h bss l) ∙ open-bytes f h (concatenated bss) l ∙ sym h
      go false h = ap is_open (chunks-shut f h bss)

  pub same-refusal : (bs : List ℕ) → (folding (after_chunks f bss) bs).refusal ≡ (folding f []).refusal
  same-refusal bs = folding-refusal (after_chunks f bss) bs ∙ ap (λ (t : Bool). cond t 0 9) stays_open ∙ sym (folding-refusal f [])
