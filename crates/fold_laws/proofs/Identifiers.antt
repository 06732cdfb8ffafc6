-- What users rely on of the fold's calls, for every width and all settings. Assumes nothing.
use Prim.Native.Nat.{ℕ, ◌≤◌}
use mathlib.Core.Path.{◌≡◌, sym, ap, ap₂, subst, ◌∙◌}
use mathlib.Core.Bool.{true}
use mathlib.Core.List.{List, [], ◌∷◌, ◌++◌}
use lib.Bits.{xor_lt}
use lib.IntN.{ℤ, pos, nat_abs}
use lib.ListN.{length}
use Rattle.bits.specs.Logical.{bitwise_xor}
use Rattle.outcomes.specs.Outcome.{done}
use Rattle.fxtable.specs.Domains.{is_width}
use Rattle.fixnum_laws.proofs.WidthLaws.{wider-done}
use Rattle.fold.specs.declared.Fold.{Fold}
use Rattle.fold.specs.Fold.{AllBytes, fields, settings, with_accumulator, is_open}
use Rattle.fold.specs.Calls.{folding, joining}
use Rattle.fold.proofs.OpenLaws.{open_done, done-open, open-xor}
use Rattle.fold_laws.specs.Identifiers.{xor_bytes, FoldStatement}
use Rattle.fold_laws.proofs.IntegerLaws.{accumulate-linear, accumulate-injective, one_byte}
use Rattle.fold_laws.proofs.Runs.{accumulated-fits, same-settings, any-cutting, same-refusal}
use Rattle.fold_laws.proofs.Readings.{identifier-open, identifier-done}
use Rattle.fold_laws.proofs.Joining.{piece-joins}

bytes-append : (xs ys : List ℕ) → AllBytes xs → AllBytes ys → AllBytes (xs ++ ys)
unfolding AllBytes
bytes-append [] ys l m = m
bytes-append (x ∷ xs) ys l m = (l.0, bytes-append xs ys l.1 m)

bytes-xor : (xs ys : List ℕ) → AllBytes xs → AllBytes ys → AllBytes (xor_bytes xs ys)
unfolding AllBytes xor_bytes
bytes-xor [] ys l m = tt
bytes-xor (x ∷ xs) [] l m = tt
bytes-xor (x ∷ xs) (y ∷ ys) l m = (xor_lt 8 x y l.0 m.0, bytes-xor xs ys l.1 m.1)

-- a record that is open at one width is open at a wider one
open-wider : (v w : ℕ) (start end count a : ℤ) → w ≤ v → is_width v ≡ true
    → is_open (settings w start end count a) ≡ true → is_open (settings v start end count a) ≡ true
unfolding settings
open-wider v w start end count a l u h =
    let f = settings w start end count a in
    done-open (settings v start end count a) (wider-done w v 40 (fields f) 4 l u (open_done f h))

pub fold-statement : (w : ℕ) (start end count : ℤ) → FoldStatement w start end count
unfolding AllBytes settings with_accumulator
fold-statement w start end count =
    let s = nat_abs start in
    let e = nat_abs end in
    record {
      cutting = λ a bss l. any-cutting (settings w start end count a) bss l;
      stays = λ a bss l bs. same-refusal (settings w start end count a) bss l bs;
      linear = λ xs ys l m n i j p q.
          let f = settings w start end count (pos 0) in
          let x = identifier-done w start end count (pos 0) xs l p in
          let y = identifier-done w start end count (pos 0) ys m q in (
            bitwise_xor i j,
            open-xor f x.0 i j (rw x.1 (accumulated-fits f x.0 xs l)) (rw y.1 (accumulated-fits f x.0 ys m)),
            identifier-open w start end count (pos 0) (xor_bytes xs ys) x.0 (bytes-xor xs ys l m)
                ∙ ap done (accumulate-linear s e count xs ys n ∙ ap₂ bitwise_xor (sym x.1) (sym y.1)),
          );
      accumulators-differ = λ a b n bs l i j p q same.
          let x = identifier-done w start end count a bs l p in
          let y = identifier-done w start end count b bs l q in
          n (accumulate-injective s e count a b bs (sym x.1 ∙ same ∙ y.1));
      one-byte-differs = λ a xs x y ys l g h m n i j p q same.
          let first = identifier-done w start end count a (xs ++ (x ∷ ys)) (bytes-append xs (x ∷ ys) l (g, m)) p in
          let second = identifier-done w start end count a (xs ++ (y ∷ ys)) (bytes-append xs (y ∷ ys) l (h, m)) q in
          n (one_byte s e count a xs x y ys (sym first.1 ∙ same ∙ second.1));
      joins = λ a xs ys l m j q.
          let y = identifier-done w start end count (pos 0) ys m q in
          let k = same-settings (settings w start end count a) xs l in
          let f = settings w start end count k.0 in
          subst (λ (g : Fold). joining g j (length ys) ≡ folding g ys) (sym k.1)
          (subst (λ (z : ℤ). joining f z (length ys) ≡ folding f ys) (sym y.1)
          (piece-joins f ys m (accumulated-fits (settings w start end count (pos 0)) y.0 ys m)));
      wider = λ v g u a bs l i p.
          let x = identifier-done w start end count a bs l p in
          identifier-open v start end count a bs (open-wider v w start end count a g u x.0) l ∙ ap done (sym x.1);
    }
