-- What is read from bytes is read from its own bytes alone, whatever follows them; and they end early if any is missing: reading in general,
-- and numbers. Assumes nothing.
use Prim.Native.Nat.{ℕ, zero, suc, ◌-◌}
use mathlib.Core.Path.{◌≡◌, refl, sym, ap, ◌∙◌}
use mathlib.Core.Bool.{Bool, true, false, cond, false≢true}
use mathlib.Core.List.{List, [], ◌∷◌, ◌++◌, append_assoc}
use mathlib.Core.Logic.{◌⊎◌, inl, inr, ⊎_elim}
use lib.Dec.{ltb}
use lib.ListN.{length}
use Rattle.rules.specs.Leb128.{Reading, got, offends, Groups, decode, shortest, continued}
use Rattle.rules.specs.Parse.{and_then, item}
use Rattle.rules.proofs.Leb128Laws.{offends-got}
use Rattle.rules.proofs.EncodeParse.{parts}

-- ---- lists

pub no-list : {A P : Type 0} {x : A} {xs : List A} → [] ≡ x ∷ xs → P
no-list {A} e = absurd (false≢true (ap (λ (l : List A). elim l [ [] ↦ false | ◌∷◌ y ys ↦ true ]) e))

-- one list cut in two ways: the first cut lies inside the second's head, or not
pub cut : (t u c m : List ℕ) → c ++ m ≡ t ++ u → ((v : List ℕ) × (c ≡ t ++ v) × (v ≡ [] → ⊥)) ⊎ ((v : List ℕ) × (t ≡ c ++ v) × (m ≡ v ++ u))
cut t u [] m e = inr (t, refl, e)
cut [] u (x ∷ c) m e = inl (x ∷ c, refl, λ z. no-list (sym z))
cut (y ∷ t) u (x ∷ c) m e =
    let x' : x ≡ y = cc in
    ⊎_elim (λ p. inl (p.0, rw x' (ap (λ (l : List ℕ). y ∷ l) p.1), p.2)) (λ p. inr (p.0, rw x' (ap (λ (l : List ℕ). y ∷ l) p.1), p.2))
    (cut t u c m cc)

-- ---- reading

module _ {A : Type 0} where
  -- v was read from the bytes `own` at the head of s
  pub record Took (read : List ℕ → Reading A) (s : List ℕ) (v : A) (rest : List ℕ) : Type 0 where
    pub own : List ℕ
    pub same : s ≡ own ++ rest
    pub extends : (e : List ℕ) → read (own ++ e) ≡ got v e
    pub early : (t u : List ℕ) → own ≡ t ++ u → (u ≡ [] → ⊥) → read t ≡ offends 0

  abbrev pub ByPrefix : (List ℕ → Reading A) → Type 0
  ByPrefix read = (s : List ℕ) (v : A) (rest : List ℕ) → read s ≡ got v rest → Took read s v rest

  pub nothing-taken : (v : A) → ByPrefix (λ s. got v s)
  nothing-taken v s u rest e =
      let v' : v ≡ u = cc in let s' : s ≡ rest = cc in
      rw (← v', ← s') (record { own = []; same = refl; extends = λ e. refl; early = λ t u p n. absurd (n (empty-tail t u p)) })
    where
      empty-tail : (t u : List ℕ) → [] ≡ t ++ u → u ≡ []
      empty-tail [] u p = sym p
      empty-tail (x ∷ t) u p = no-list p

-- one reader after another
module _ {A B : Type 0} (read : List ℕ → Reading A) (next : A → List ℕ → Reading B) where
  pub then-taken : ByPrefix read → ((u : A) → ByPrefix (next u)) → ByPrefix (λ s. and_then (read s) next)
  unfolding and_then
  then-taken R N s v rest e = parts (read s) next v rest e (λ u m p q. both u m (R s u m p) (N u m v rest q))
    where
      both : (u : A) (m : List ℕ) → Took read s u m → Took (next u) m v rest → Took (λ s. and_then (read s) next) s v rest
      both u m a b = record {
        own = a.own ++ b.own;
        same = a.same ∙ ap (λ (l : List ℕ). a.own ++ l) b.same ∙ sym (append_assoc a.own b.own rest);
        extends = λ e. rw (append_assoc a.own b.own e, a.extends (b.own ++ e)) (b.extends e);
        early = λ t w p n. ⊎_elim
            (λ c. rw (a.early t c.0 c.1 c.2) refl)
            (λ c. rw (c.1, a.extends c.0) (b.early c.0 w c.2 n))
            (cut t w a.own b.own p);
      }

-- ---- numbers

module _ {A : Type 0} (G : Groups A) where
  -- the same of groups, which are told how many bytes are left
  record TookGroups (k : ℕ) (s : List ℕ) (v : A) (rest : List ℕ) : Type 0 where
    own : List ℕ
    same : s ≡ own ++ rest
    extends : (left : ℕ) (e : List ℕ) → decode G left k (own ++ e) ≡ got v e
    early : (left : ℕ) (t u : List ℕ) → own ≡ t ++ u → (u ≡ [] → ⊥) → decode G left k t ≡ offends 0

  last_taken : (k b : ℕ) (s : List ℕ) → ltb b 128 ≡ true → TookGroups (suc k) (b ∷ s) (G.of_last b) s
  unfolding decode
  last_taken k b s h = record { own = b ∷ []; same = refl; extends = λ left e. rw h refl; early = λ left t u p n. go left t u p n }
    where
      go : (left : ℕ) (t u : List ℕ) → b ∷ [] ≡ t ++ u → (u ≡ [] → ⊥) → decode G left (suc k) t ≡ offends 0
      go left [] u p n = refl
      go left (x ∷ []) u p n = absurd (n cc)
      go left (x ∷ (y ∷ t)) u p n = let z : [] ≡ y ∷ (t ++ u) = cc in no-list z

  more-taken : (k b : ℕ) (s : List ℕ) (v : A) (rest : List ℕ) → ltb b 128 ≡ false → G.is_last (G.join (b - 128) v) ≡ false → TookGroups k s v rest
      → TookGroups (suc k) (b ∷ s) (G.join (b - 128) v) rest
  unfolding decode continued shortest
  more-taken k b s v rest h l a = record {
    own = b ∷ a.own;
    same = ap (λ (l : List ℕ). b ∷ l) a.same;
    extends = λ left e. rw (h, a.extends left e, l) refl;
    early = λ left t u p n. go left t u p n;
  }
    where
      go : (left : ℕ) (t u : List ℕ) → b ∷ a.own ≡ t ++ u → (u ≡ [] → ⊥) → decode G left (suc k) t ≡ offends 0
      go left [] u p n = refl
      go left (x ∷ t) u p n =
          let x' : x ≡ b = cc in
          rw (x', h, a.early left t u (cc) n) refl

  groups-taken : (left k : ℕ) (s : List ℕ) (v : A) (rest : List ℕ) → decode G left k s ≡ got v rest → TookGroups k s v rest
  unfolding decode continued shortest
  groups-taken left zero s v rest e = offends-got e
  groups-taken left (suc k) [] v rest e = offends-got e
  groups-taken left (suc k) (b ∷ s) v rest e = go (λ u r d. groups-taken left k s u r d) (ltb b 128) refl e
    where
      Tail : Type 0
      Tail = (u : A) (r : List ℕ) → decode G left k s ≡ got u r → TookGroups k s u r

      joined : (t : Bool) (u : A) (r : List ℕ) → TookGroups k s u r → G.is_last (G.join (b - 128) u) ≡ t
          → ltb b 128 ≡ false → cond t (offends left) (got (G.join (b - 128) u) r) ≡ got v rest → TookGroups (suc k) (b ∷ s) v rest
      joined true u r w t l q = offends-got q
      joined false u r w t l q =
          let v' : G.join (b - 128) u ≡ v = cc in
          let r' : r ≡ rest = cc in
          rw (← v', ← r') (more-taken k b s u r l t w)

      tail : Tail → (x : Reading A) → decode G left k s ≡ x → ltb b 128 ≡ false → continued G left (b - 128) x ≡ got v rest → TookGroups (suc k) (b ∷ s) v rest
      tail ih (got u r) d l q = joined (G.is_last (G.join (b - 128) u)) u r (ih u r d) refl l q
      tail ih (offends o) d l q = offends-got q

      go : Tail → (t : Bool) → ltb b 128 ≡ t → cond t (got (G.of_last b) s) (continued G left (b - 128) (decode G left k s)) ≡ got v rest
          → TookGroups (suc k) (b ∷ s) v rest
      go ih true q r = let v' : G.of_last b ≡ v = cc in let s' : s ≡ rest = cc in rw (← v', ← s') (last_taken k b s q)
      go ih false q r = tail ih (decode G left k s) refl q r

  pub item-taken : (k : ℕ) (test : A → Bool) → ByPrefix (item G k test)
  unfolding item and_then
  item-taken k test s v rest e =
      parts (decode G (length s) k s) (λ v rest. cond (test v) (got v rest) (offends (length s))) v rest e
      (λ u r one two. go u r (groups-taken (length s) k s u r one) (test u) refl two)
    where
      go : (u : A) (r : List ℕ) → TookGroups k s u r → (t : Bool) → test u ≡ t → cond t (got u r) (offends (length s)) ≡ got v rest
          → Took (item G k test) s v rest
      go u r a true q e =
          let v' : u ≡ v = cc in let r' : r ≡ rest = cc in
          rw (← v', ← r') (record {
            own = a.own;
            same = a.same;
            extends = λ e. rw (a.extends (length (a.own ++ e)) e, q) refl;
            early = λ t u p n. rw (a.early (length t) t u p n) refl;
          })
      go u r a false q e = offends-got e
