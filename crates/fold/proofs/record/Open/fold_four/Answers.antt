-- `fold::record::Open::fold_four` meets its contract. Assumes nothing.
use native.Mathlib.Omega.{arith}
use Prim.Native.Nat.{ℕ, ◌<◌}
use mathlib.Core.Path.{◌≡◌, refl, ap, ap₂, subst, ◌∙◌}
use mathlib.Core.Bool.{true}
use mathlib.Core.List.{List, [], ◌∷◌}
use lib.IntN.{ℤ}
use Rattle.bits.specs.Testbit.{fits}
use Rattle.bits.specs.Logical.{bitwise_xor}
use Rattle.bits.proofs.FitsLaws.{zero-fits}
use Rattle.words.proofs.WordLaws.{back-word}
use Rattle.fold.specs.declared.Fold.{Fold}
use Rattle.fold.specs.Fold.{AllBytes, settings, with_accumulator, is_open, fold_byte, fold_bytes}
use Rattle.fold.specs.Inner.{fourfold}
use Rattle.fold.proofs.OpenLaws.{open-field}
use Rattle.fold.proofs.JoinLaws.{rotated_by}
use Rattle.fold.proofs.ByteLaws.{fold_bytes-is}
use Rattle.fold.proofs.FourLaws.{fourfold-le, from_zero, open-zero, joined-four}
use Rattle.fold.proofs.record.Open.fold_four.Goals as goal
use Rattle.fold.proofs.record.Open.fold_four.Goals.{After-rotate_and_xor}

all-bytes : {i j k l : ℕ} → i < 256 → j < 256 → k < 256 → l < 256 → AllBytes (i ∷ j ∷ k ∷ l ∷ [])
unfolding AllBytes
all-bytes h i j k = (h, (i, (j, (k, tt))))

-- the piece, of four steps from 0
piece : (f : Fold) (i j k l : ℕ) {z p q r s : Fold} → z ≡ from_zero f → p ≡ fold_byte z i → q ≡ fold_byte p j → r ≡ fold_byte q k → s ≡ fold_byte r l
    → s ≡ fold_bytes (from_zero f) (i ∷ j ∷ k ∷ l ∷ [])
unfolding fold_bytes
piece f i j k l z p q r s =
    s
    ∙ ap (λ (g : Fold). fold_byte g l)
    (r ∙ ap (λ (g : Fold). fold_byte g k) (q ∙ ap (λ (g : Fold). fold_byte g j) (p ∙ ap (λ (g : Fold). fold_byte g i) z)))

pub rotate_and_xor-requires-clause-inside : goal.rotate_and_xor-requires-clause-inside
rotate_and_xor-requires-clause-inside c =
    omega (arith, c.requires, fourfold-le c.args.self.fold (open-field c.args.self.fold c.args.self.accepted))

-- the piece is a fixnum of the record
piece-fits : (f : Fold) → is_open f ≡ true → (bs : List ℕ) → AllBytes bs → {p : Fold} → is_open p ≡ true → p ≡ fold_bytes (from_zero f) bs
    → fits f.width p.accumulator ≡ true
unfolding with_accumulator settings
piece-fits f h bs l {p} o e =
    let w : p.width ≡ f.width = ap (λ (g : Fold). g.width) (e ∙ fold_bytes-is (from_zero f) (open-zero f h) bs l) in
    subst (λ (w : ℕ). fits w p.accumulator ≡ true) w (open-field p o).fixnum

pub rotate_and_xor-requires-clause-fixnum : goal.rotate_and_xor-requires-clause-fixnum
rotate_and_xor-requires-clause-fixnum c =
    let a = c.args in
    let p = c.fold_byte-piece-4.result in
    rw (back-word p.fold.accumulator (omega arith))
    (piece-fits a.self.fold a.self.accepted _ (all-bytes c.ranges.a.fits c.ranges.b.fits c.ranges.c.fits c.ranges.d.fits) p.accepted
    (piece a.self.fold a.a a.b a.c a.d c.with_accumulator-piece.ensures c.fold_byte-piece.ensures c.fold_byte-piece-2.ensures c.fold_byte-piece-3.ensures c.fold_byte-piece-4.ensures))

pub with_accumulator-piece-requires : goal.with_accumulator-piece-requires
with_accumulator-piece-requires c = zero-fits c.args.self.fold.width

bytes : After-rotate_and_xor → List ℕ
bytes c = c.args.a ∷ c.args.b ∷ c.args.c ∷ c.args.d ∷ []

all : (c : After-rotate_and_xor) → AllBytes (bytes c)
unfolding bytes
all c = all-bytes c.ranges.a.fits c.ranges.b.fits c.ranges.c.fits c.ranges.d.fits

value : (c : After-rotate_and_xor) → c.rotate_and_xor.result.fold ≡ fold_bytes c.args.self.fold (bytes c)
unfolding bytes
value c =
    let f = c.args.self.fold in
    c.rotate_and_xor.ensures
    ∙ ap₂ (λ (n : ℕ) (y : ℤ). with_accumulator f (bitwise_xor (rotated_by f n) y)) c.requires (back-word c.fold_byte-piece-4.result.fold.accumulator (omega arith))
    ∙ joined-four f c.args.self.accepted (bytes c) (all c) refl
    (piece f c.args.a c.args.b c.args.c c.args.d c.with_accumulator-piece.ensures c.fold_byte-piece.ensures c.fold_byte-piece-2.ensures c.fold_byte-piece-3.ensures c.fold_byte-piece-4.ensures)

pub returns-clause-value : goal.returns-clause-value
unfolding bytes
returns-clause-value c = value c

pub returns-clause-same_count : goal.returns-clause-same_count
unfolding fourfold with_accumulator settings
returns-clause-same_count c = ap fourfold (value c ∙ fold_bytes-is c.args.self.fold c.args.self.accepted (bytes c) (all c))
