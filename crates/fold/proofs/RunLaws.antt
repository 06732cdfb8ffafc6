-- The bytes of a chunk from an index on, for the loop over them. Assumes nothing.
use Prim.Native.Nat.{ℕ, zero, suc, ◌+◌, ◌*◌, ◌≤◌, ◌<◌}
use native.Mathlib.Omega.{arith}
use mathlib.Core.Path.{◌≡◌, refl, sym, ap, ap₂, ◌∙◌}
use mathlib.Core.List.{List, [], ◌∷◌}
use lib.ListN.{length, get_or, take, drop, drop_of_length-le}
use lib.Seq.{drop-cons}
use Rattle.std.specs.Simd.{first_chunks}
use Rattle.std.proofs.lemmas.List.{get_or-take, get_or-drop, drop-drop}
use Rattle.fold.specs.declared.Fold.{Fold}
use Rattle.fold.specs.Fold.{fold_byte, fold_bytes}

next : (bytes : List ℕ) (i j : ℕ) {b : ℕ} → b ≡ get_or bytes i 0 → j ≡ i + 1 → i < length bytes → drop i bytes ≡ b ∷ drop j bytes
next bytes i j p e l =
    let s : suc i ≡ j = omega (arith, e) in
    drop-cons bytes i 0 l ∙ ap₂ (λ (x k : ℕ). x ∷ drop k bytes) (sym p) s

-- one more byte of what is left, from g to h
pub one_more : (o g : Fold) {h : Fold} (bytes : List ℕ) (i : ℕ) → i < length bytes → h ≡ fold_byte g (get_or bytes i 0)
    → o ≡ fold_bytes g (drop i bytes) → o ≡ fold_bytes h (drop (i + 1) bytes)
unfolding fold_bytes
one_more o g bytes i l e p =
    p ∙ ap (fold_bytes g) (next bytes i (i + 1) refl refl l) ∙ ap (λ (k : Fold). fold_bytes k (drop (i + 1) bytes)) (sym e)

four-at : (bytes : List ℕ) (k j : ℕ) (d : List ℕ) → j < k → get_or (first_chunks 4 k bytes) j d ≡ take 4 (drop (j * 4) bytes)
four-at bytes zero j d h = absurd (omega arith)
four-at bytes (suc k) zero d h = refl
four-at bytes (suc k) (suc j) d h =
    four-at (drop 4 bytes) k j d (omega arith)
    ∙ ap (take 4) (drop-drop (j * 4) 4 bytes ∙ ap (λ (m : ℕ). drop m bytes) (let e : 4 + j * 4 ≡ suc j * 4 = omega arith in e))

byte-at : (bytes : List ℕ) (k j : ℕ) {fours : List (List ℕ)} (d : List ℕ) → fours ≡ first_chunks 4 k bytes → j < k → (n m : ℕ) → m ≡ j * 4 + n → n < 4
    → get_or (get_or fours j d) n 0 ≡ get_or bytes m 0
byte-at bytes k j d c h n m e l = rw (c, four-at bytes k j d h, e) (get_or-take 4 (drop (j * 4) bytes) n 0 l ∙ get_or-drop (j * 4) bytes n 0)

-- four more, the chunk j of k
pub four-more : (o g : Fold) {h : Fold} (bytes : List ℕ) (k j : ℕ) {fours : List (List ℕ)} (d : List ℕ) → fours ≡ first_chunks 4 k bytes → j < k → k * 4 ≤ length bytes
    → h ≡ fold_bytes g (get_or (get_or fours j d) 0 0 ∷ get_or (get_or fours j d) 1 0 ∷ get_or (get_or fours j d) 2 0 ∷ get_or (get_or fours j d) 3 0 ∷ [])
    → o ≡ fold_bytes g (drop (j * 4) bytes) → o ≡ fold_bytes h (drop ((j + 1) * 4) bytes)
unfolding fold_bytes
four-more o g bytes k j {fours} d c l m e p =
    let i = j * 4 in
    let b = byte-at bytes k j d c l in
    p
    ∙ ap (fold_bytes g)
    (next bytes i (i + 1) (b 0 i (omega arith) (omega arith)) refl (omega arith)
    ∙ ap (λ (xs : List ℕ). get_or (get_or fours j d) 0 0 ∷ xs)
    (next bytes (i + 1) (i + 2) (b 1 (i + 1) (omega arith) (omega arith)) (omega arith) (omega arith)
    ∙ ap (λ (xs : List ℕ). get_or (get_or fours j d) 1 0 ∷ xs)
    (next bytes (i + 2) (i + 3) (b 2 (i + 2) (omega arith) (omega arith)) (omega arith) (omega arith)
    ∙ ap (λ (xs : List ℕ). get_or (get_or fours j d) 2 0 ∷ xs) (next bytes (i + 3) ((j + 1) * 4) (b 3 (i + 3) (omega arith) (omega arith)) (omega arith) (omega arith)))))
    ∙ ap (λ (k : Fold). fold_bytes k (drop ((j + 1) * 4) bytes)) (sym e)

pub none_left : (g : Fold) (bytes : List ℕ) (i : ℕ) → length bytes ≤ i → g ≡ fold_bytes g (drop i bytes)
unfolding fold_bytes
none_left g bytes i h = sym (ap (fold_bytes g) (drop_of_length-le bytes {i = i} h))
