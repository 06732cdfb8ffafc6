-- Constants, group by group, in positions. Assumes nothing.
use Prim.Native.Nat.{ℕ, suc, ◌+◌, ◌-◌, ◌*◌, ◌^◌, ◌≤◌, ◌<◌}
use native.Mathlib.Omega.{arith}
use mathlib.Core.Path.{◌≡◌, refl, ap, ◌∙◌}
use mathlib.Core.Bool.{Bool, true, false, cond}
use mathlib.Core.List.{List, ◌∷◌}
use lib.Dec.{ltb, leb}
use lib.IntN.{ℤ, pos, negsuc}
use lib.ListN.{length, drop, get_or, length-drop}
use lib.Seq.{drop-length}
use borrow.Author.Tests.{lt-ltb, le-ltb, lt-leb, le-leb, ltb-false, leb-true, leb-false}
use Rattle.std.specs.Prelude.{Result, Ok, Err}
use Rattle.bits.specs.Testbit.{fits}
use Rattle.words.specs.Sign.{of_magnitude}
use Rattle.rules.specs.Leb128.{Reading, got, offends, signed, join_z, of_last_z, is_last_z, decode, continued, shortest}
use Rattle.rules.specs.Limits.{is_constant}
use Rattle.rules.specs.Parse.{and_then}
use Rattle.rulereader.specs.declared.Offence.{Offence}
use Rattle.rulereader.specs.declared.constants.Groups.{Groups}
use Rattle.rulereader.specs.Placed.{Offends, constant_from, offence, joined_group, GroupsRead}
use Rattle.rulereader.proofs.CutLaws.{cons, before}

-- ---- on integers, by sign and magnitude

pub part_small : (negative : Bool) (g : ℕ) → g < 128 → cond negative (127 - g) g < 128
part_small true g h = omega arith
part_small false g h = h

is-constant : (negative : Bool) (m : ℕ) → is_constant (of_magnitude negative m) ≡ ltb m (2 ^ 63)
unfolding is_constant fits of_magnitude
is-constant true m = refl
is-constant false m = refl

is-last : (negative : Bool) (m : ℕ) → is_last_z (of_magnitude negative m) ≡ ltb m 64
unfolding is_last_z of_magnitude
is-last true m = refl
is-last false m = refl

join-magnitude : (negative : Bool) (n g : ℕ) → join_z g (of_magnitude negative n) ≡ of_magnitude negative (n * 128 + cond negative (127 - g) g)
unfolding join_z of_magnitude
join-magnitude true n g = refl
join-magnitude false n g = refl

-- joined, what is too large stays so
join-large : (g : ℕ) (z : ℤ) → is_constant z ≡ false → is_constant (join_z g z) ≡ false
unfolding is_constant fits join_z
join-large g (pos n) e = let l : 2 ^ 63 ≤ n = ltb-false n (2 ^ 63) e in le-ltb (n * 128 + g) (2 ^ 63) (omega arith)
join-large g (negsuc n) e = let l : 2 ^ 63 ≤ n = ltb-false n (2 ^ 63) e in le-ltb (n * 128 + (127 - g)) (2 ^ 63) (omega arith)

-- ---- the three ways of a join

module _ (start : ℕ) (a : Groups) (g : ℕ) where
  abbrev joined_magnitude : ℕ
  joined_magnitude = a.magnitude * 128 + cond a.negative (127 - g) g

  abbrev Kept : ℕ → Result Groups Offence
  Kept m = Ok (record { negative = a.negative; magnitude = m; end = a.end })

  pub join-too-large : 2 ^ 56 ≤ a.magnitude → joined_group start a g ≡ Err (offence start)
  unfolding joined_group
  join-too-large l = rw (le-leb (2 ^ 56) a.magnitude l) refl

  -- the same of a part r that is known to be the group's
  pub part_padded : (r : ℕ) → r ≡ cond a.negative (127 - g) g → a.magnitude < 2 ^ 56 → a.magnitude * 128 + r < 64 → joined_group start a g ≡ Err (offence start)
  unfolding joined_group
  part_padded r e l h = let f : joined_magnitude < 64 = rw e at h in rw (lt-leb (2 ^ 56) a.magnitude l, lt-ltb joined_magnitude 64 f) refl

  pub part_kept : (r : ℕ) → r ≡ cond a.negative (127 - g) g → a.magnitude < 2 ^ 56 → 64 ≤ a.magnitude * 128 + r → joined_group start a g ≡ Kept (a.magnitude * 128 + r)
  unfolding joined_group
  part_kept r e l h = let f : 64 ≤ joined_magnitude = rw e at h in rw (lt-leb (2 ^ 56) a.magnitude l, le-ltb joined_magnitude 64 f, e) refl

-- ---- on readings

module _ (left : ℕ) where
  abbrev asked : ℤ → List ℕ → Reading ℤ
  asked z rest = cond (is_constant z) (got z rest) (offends left)

  abbrev tested : Reading ℤ → Reading ℤ
  tested r = and_then r asked

  join_read : ℕ → Reading ℤ → Reading ℤ
  join_read g (got z rest) = tested (shortest signed left (join_z g z) rest)
  join_read g (offends l) = offends l

  too_large : (g : ℕ) (z : ℤ) (rest : List ℕ) → is_constant z ≡ false → tested (shortest signed left (join_z g z) rest) ≡ offends left
  unfolding shortest and_then
  too_large g z rest e = go (signed.is_last (join_z g z))
    where
      go : (t : Bool) → tested (cond t (offends left) (got (join_z g z) rest)) ≡ offends left
      go true = refl
      go false = rw (join-large g z e) refl

  joins : (g : ℕ) (r : Reading ℤ) → tested (continued signed left g r) ≡ join_read g (tested r)
  unfolding continued and_then join_read signed
  joins g (offends l) = refl
  joins g (got z rest) = go (is_constant z) refl
    where
      go : (t : Bool) → is_constant z ≡ t → tested (shortest signed left (join_z g z) rest) ≡ join_read g (cond t (got z rest) (offends left))
      go true e = refl
      go false e = too_large g z rest e

  more-groups : (k b : ℕ) (t : List ℕ) → 128 ≤ b → constant_from left (suc k) (b ∷ t) ≡ join_read (b - 128) (constant_from left k t)
  unfolding constant_from decode
  more-groups k b t l = rw (le-ltb b 128 l) (joins (b - 128) (decode signed left k t))

  last-group : (k b : ℕ) (t : List ℕ) (negative : Bool) (m : ℕ) → b < 128 → of_last_z b ≡ of_magnitude negative m → m < 128 → constant_from left (suc k) (b ∷ t) ≡ got (of_magnitude negative m) t
  unfolding constant_from decode signed and_then
  last-group k b t negative m l e h = rw (lt-ltb b 128 l, e, is-constant negative m, lt-ltb m (2 ^ 63) (omega arith)) refl

-- what a join makes of an integer, as the code has it
join-reading : (s : List ℕ) (start : ℕ) → start ≤ length s → (a : Groups) (g : ℕ) → a.end ≤ length s → g < 128
    → GroupsRead s (join_read (length (drop start s)) g (got (of_magnitude a.negative a.magnitude) (drop a.end s))) (joined_group start a g)
unfolding join_read joined_group shortest signed and_then
join-reading s start le a g inside small = go (leb (2 ^ 56) a.magnitude) refl (ltb m 64) refl
  where
    m : ℕ
    m = a.magnitude * 128 + cond a.negative (127 - g) g

    left : ℕ
    left = length (drop start s)

    R : Reading ℤ
    R = tested left (shortest signed left (join_z g (of_magnitude a.negative a.magnitude)) (drop a.end s))

    by-magnitude : R ≡ tested left (cond (ltb m 64) (offends left) (got (of_magnitude a.negative m) (drop a.end s)))
    by-magnitude = rw (join-magnitude a.negative a.magnitude g, is-last a.negative m) refl

    here : R ≡ offends left → Offends s R start
    here e = record { left = e ∙ ap offends (length-drop start s); inside = le }

    go : (t : Bool) → leb (2 ^ 56) a.magnitude ≡ t → (u : Bool) → ltb m 64 ≡ u
        → GroupsRead s R (cond t (Err (offence start)) (cond u (Err (offence start)) (Kept start a g m)))
    go t e true q = over t
      where
        over : (t : Bool) → GroupsRead s R (cond t (Err (offence start)) (Err (offence start)))
        over true = here (by-magnitude ∙ rw q refl)
        over false = here (by-magnitude ∙ rw q refl)
    go true e false q =
        let l : 2 ^ 56 ≤ a.magnitude = leb-true (2 ^ 56) a.magnitude e in
        here (by-magnitude ∙ rw (q, is-constant a.negative m, le-ltb m (2 ^ 63) (omega arith)) refl)
    go false e false q =
        let l : a.magnitude < 2 ^ 56 = leb-false (2 ^ 56) a.magnitude e in
        let low : m < 2 ^ 63 = omega (arith, part_small a.negative g small) in
        (record { value = by-magnitude ∙ rw (q, is-constant a.negative m, lt-ltb m (2 ^ 63) low) refl; inside = inside }, low)

-- ---- in positions

module _ (s : List ℕ) (start i k : ℕ) where
  abbrev pub Here : Reading ℤ
  Here = constant_from (length (drop start s)) k (drop i s)

  abbrev pub Next : Reading ℤ
  Next = constant_from (length (drop start s)) (k - 1) (drop (i + 1) s)

  pub spent : k ≡ 0 → start ≤ length s → Offends s Here start
  unfolding constant_from decode and_then
  spent e h = record { left = rw e (ap offends (length-drop start s)); inside = h }

  pub ended : (k ≡ 0 → ⊥) → i ≡ length s → Offends s Here i
  unfolding constant_from decode and_then
  ended f e = record { left = rw (before f, e, drop-length s) (ap offends (omega arith)); inside = omega arith }

  module _ (f : k ≡ 0 → ⊥) (h : i < length s) where
    abbrev b : ℕ
    b = get_or s i 0

    by_first : Here ≡ constant_from (length (drop start s)) (suc (k - 1)) (b ∷ drop (i + 1) s)
    by_first = ap (λ (t : List ℕ). constant_from (length (drop start s)) k t) (cons s i h) ∙ ap (λ (j : ℕ). constant_from (length (drop start s)) j (b ∷ drop (i + 1) s)) (before f)

    pub last_positive : b < 64 → GroupsRead s Here (Ok (record { negative = false; magnitude = b; end = i + 1 }))
    unfolding of_last_z of_magnitude
    last_positive l =
        (record { value = by_first ∙ last-group (length (drop start s)) (k - 1) b (drop (i + 1) s) false b (omega arith) (rw (lt-ltb b 64 l) refl) (omega arith); inside = omega arith }, omega arith)

    pub last_negative : 64 ≤ b → b < 128 → GroupsRead s Here (Ok (record { negative = true; magnitude = 127 - b; end = i + 1 }))
    unfolding of_last_z of_magnitude
    last_negative l l' =
        (record { value = by_first ∙ last-group (length (drop start s)) (k - 1) b (drop (i + 1) s) true (127 - b) l' (rw (le-ltb b 64 l) refl) (omega arith); inside = omega arith }, omega arith)

    module _ (l : 128 ≤ b) where
      by_next : Here ≡ join_read (length (drop start s)) (b - 128) Next
      by_next = by_first ∙ more-groups (length (drop start s)) (k - 1) b (drop (i + 1) s) l

      pub tail-offends : (o : ℕ) → Offends s Next o → Offends s Here o
      unfolding join_read
      tail-offends o m = record { left = by_next ∙ rw m.left refl; inside = m.inside }

      pub joined : start ≤ length s → b < 256 → (a : Groups) → GroupsRead s Next (Ok a) → GroupsRead s Here (joined_group start a (b - 128))
      joined le small a m = rw (by_next, m.0.value) (join-reading s start le a (b - 128) m.0.inside (omega arith))
