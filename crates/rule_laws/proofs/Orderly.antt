-- Readers that go through bytes in order: what they read is read from its own bytes alone, an offence lies in the bytes, and the item that
-- offends is the first to do so, whatever stands from there on. One reader after another is orderly, and so is a number. Assumes nothing.
use Prim.Native.Nat.{ℕ, zero, suc, ◌-◌, ◌≤◌, ◌<◌}
use native.Mathlib.Nat.{le_trans}
use native.Mathlib.Omega.{arith}
use mathlib.Core.Path.{◌≡◌, refl, sym, ap, ◌∙◌}
use mathlib.Core.Bool.{Bool, true, false, cond}
use mathlib.Core.List.{List, [], ◌∷◌, ◌++◌, append_assoc}
use mathlib.Core.Logic.{◌⊎◌, inl, inr, ⊎_elim}
use lib.Dec.{ltb}
use lib.ListN.{length, length-append}
use Rattle.rules.specs.Leb128.{Reading, got, offends, Groups, decode, shortest, continued}
use Rattle.rules.specs.Parse.{and_then, item}
use Rattle.rules.proofs.Leb128Laws.{offends-got}
use Rattle.rule_laws.proofs.Prefixes.{cut, Took, ByPrefix, nothing-taken, then-taken, item-taken}

-- what offended, where two things are read: for a proof of P it may be taken as known
pub offence-parts : {A B P : Type 0} (r : Reading A) (next : A → List ℕ → Reading B) (l : ℕ) → and_then r next ≡ offends l
    → (r ≡ offends l → P) → ((u : A) (m : List ℕ) → r ≡ got u m → next u m ≡ offends l → P) → P
unfolding and_then
offence-parts (got u m) next l e first second = second u m refl e
offence-parts (offends k) next l e first second = let k' : k ≡ l = cc in first (rw k' refl)

module _ {A : Type 0} (read : List ℕ → Reading A) where
  -- s offends where `from` begins, and no item before it does, whatever stands there instead
  pub record First (s : List ℕ) (left : ℕ) : Type 0 where
    pub before : List ℕ
    pub from : List ℕ
    pub same : s ≡ before ++ from
    pub counted : length from ≡ left
    pub first : (e : List ℕ) (l : ℕ) → read (before ++ e) ≡ offends l → l ≤ length e

  pub record Orderly : Type 0 where
    pub taken : ByPrefix read
    pub inside : (s : List ℕ) (l : ℕ) → read s ≡ offends l → l ≤ length s
    pub earliest : (s : List ℕ) (left : ℕ) → read s ≡ offends left → 0 < left → First s left

  -- bytes up to which nothing is read are not all that is read
  pub past : ByPrefix read → (t u e : List ℕ) (l : ℕ) (v : A) (rest : List ℕ) → read (t ++ u) ≡ offends l → read (t ++ e) ≡ got v rest → length rest ≤ length e
  past R t u e l v rest o g =
      let a = R (t ++ e) v rest g in
      ⊎_elim
      (λ c. omega (arith, ap length a.same, length-append t e, length-append a.own rest, ap length c.1, length-append t c.0))
      (λ c. offends-got (sym o ∙ ap (λ (l : List ℕ). read (l ++ u)) c.1 ∙ ap read (append_assoc a.own c.0 u) ∙ a.extends (c.0 ++ u)))
      (cut t e a.own rest (sym a.same))

-- ---- nothing, and no further

module _ {A : Type 0} where
  pub got-orderly : (v : A) → Orderly (λ s. got v s)
  got-orderly v = record {
    taken = nothing-taken v;
    inside = λ s l e. offends-got (sym e);
    earliest = λ s l e h. offends-got (sym e);
  }

  pub offends-orderly : Orderly {A = A} (λ s. offends (length s))
  offends-orderly = record {
    taken = λ s v rest e. offends-got e;
    inside = λ s l e. let l' : length s ≡ l = cc in omega arith;
    earliest = λ s l e h. record {
      before = [];
      from = s;
      same = refl;
      counted = cc;
      first = λ e l q. let l' : length e ≡ l = cc in omega arith;
    };
  }

-- ---- one after another

module _ {A B : Type 0} (read : List ℕ → Reading A) (next : A → List ℕ → Reading B) (R : Orderly read) (N : (u : A) → Orderly (next u)) where
  abbrev both : List ℕ → Reading B
  both s = and_then (read s) next

  then-inside : (s : List ℕ) (l : ℕ) → both s ≡ offends l → l ≤ length s
  then-inside s l e =
      offence-parts (read s) next l e (R.inside s l) (λ u m p q.
      let a = R.taken s u m p in
      omega (arith, (N u).inside m l q, ap length a.same, length-append a.own m))

  first-first : (s : List ℕ) (left : ℕ) → read s ≡ offends left → First read s left → First both s left
  first-first s left o f = record {
    before = f.before;
    from = f.from;
    same = f.same;
    counted = f.counted;
    first = λ e l q. offence-parts (read (f.before ++ e)) next l q (f.first e l) (λ u m p q'.
        le_trans ((N u).inside m l q') (past read R.taken f.before f.from e left u m (ap read (sym f.same) ∙ o) p));
  }

  first-second : (s : List ℕ) (left : ℕ) (u : A) (m : List ℕ) → Took read s u m → First (next u) m left → First both s left
  unfolding and_then
  first-second s left u m a f = record {
    before = a.own ++ f.before;
    from = f.from;
    same = a.same ∙ ap (λ (l : List ℕ). a.own ++ l) f.same ∙ sym (append_assoc a.own f.before f.from);
    counted = f.counted;
    first = λ e l q. f.first e l (rw (append_assoc a.own f.before e, a.extends (f.before ++ e)) at q);
  }

  pub then-orderly : Orderly both
  then-orderly = record {
    taken = then-taken read next R.taken (λ u. (N u).taken);
    inside = then-inside;
    earliest = λ s left e h. offence-parts (read s) next left e (λ o. first-first s left o (R.earliest s left o h))
        (λ u m p q. first-second s left u m (R.taken s u m p) ((N u).earliest m left q h));
  }

-- ---- numbers

module _ {A : Type 0} (G : Groups A) where
  -- a number offends where it begins, or at the end
  groups-offend : (left k : ℕ) (s : List ℕ) (l : ℕ) → decode G left k s ≡ offends l → (l ≡ 0) ⊎ (l ≡ left)
  unfolding decode continued shortest
  groups-offend left zero s l e = inr cc
  groups-offend left (suc k) [] l e = inl cc
  groups-offend left (suc k) (b ∷ s) l e = go (λ j d. groups-offend left k s j d) (ltb b 128) e
    where
      Tail : Type 0
      Tail = (j : ℕ) → decode G left k s ≡ offends j → (j ≡ 0) ⊎ (j ≡ left)

      joined : (t : Bool) (v : A) (r : List ℕ) → cond t (offends left) (got v r) ≡ offends l → (l ≡ 0) ⊎ (l ≡ left)
      joined true v r q = inr cc
      joined false v r q = offends-got (sym q)

      tail : Tail → (x : Reading A) → decode G left k s ≡ x → continued G left (b - 128) x ≡ offends l → (l ≡ 0) ⊎ (l ≡ left)
      tail ih (got u r) d q = joined (G.is_last (G.join (b - 128) u)) (G.join (b - 128) u) r q
      tail ih (offends o) d q = let o' : o ≡ l = cc in ih l (rw o' at d)

      go : Tail → (t : Bool) → cond t (got (G.of_last b) s) (continued G left (b - 128) (decode G left k s)) ≡ offends l → (l ≡ 0) ⊎ (l ≡ left)
      go ih true q = offends-got (sym q)
      go ih false q = tail ih (decode G left k s) refl q

  module _ (k : ℕ) (test : A → Bool) where
    pub item-offends : (s : List ℕ) (l : ℕ) → item G k test s ≡ offends l → (l ≡ 0) ⊎ (l ≡ length s)
    unfolding item
    item-offends s l e =
        offence-parts (decode G (length s) k s) (λ v rest. cond (test v) (got v rest) (offends (length s))) l e (groups-offend (length s) k s l)
        (λ u m p q. go (test u) u m q)
      where
        go : (t : Bool) (u : A) (m : List ℕ) → cond t (got u m) (offends (length s)) ≡ offends l → (l ≡ 0) ⊎ (l ≡ length s)
        go true u m q = offends-got (sym q)
        go false u m q = inr cc

    at_most : (s : List ℕ) (l : ℕ) → item G k test s ≡ offends l → l ≤ length s
    at_most s l e = ⊎_elim (λ z. omega (arith, z)) (λ z. omega (arith, z)) (item-offends s l e)

    pub item-orderly : Orderly (item G k test)
    item-orderly = record {
      taken = item-taken G k test;
      inside = at_most;
      earliest = λ s left e h. record {
        before = [];
        from = s;
        same = refl;
        counted = ⊎_elim (λ z. absurd (omega (arith, z, h))) (λ z. sym z) (item-offends s left e);
        first = at_most;
      };
    }
