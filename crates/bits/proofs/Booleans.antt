-- Boolean identities, proved by computing both sides at every value, and conjunctions. Assumes nothing.
--   all₁ f g tt  :  f a ≡ g a for each a, where antt computes that they agree; all₂ and all₃ for two and three arguments
use mathlib.Core.Path.{◌≡◌, refl, sym, ap, subst, ◌∙◌}
use mathlib.Core.Bool.{Bool, true, false, not, ◌&&◌, beq}
use lib.Dec.{T}

abbrev pub agree₁ : (Bool → Bool) → (Bool → Bool) → Bool
agree₁ f g = beq (f true) (g true) && beq (f false) (g false)

abbrev pub agree₂ : (Bool → Bool → Bool) → (Bool → Bool → Bool) → Bool
agree₂ f g = agree₁ (f true) (g true) && agree₁ (f false) (g false)

abbrev pub agree₃ : (Bool → Bool → Bool → Bool) → (Bool → Bool → Bool → Bool) → Bool
agree₃ f g = agree₂ (f true) (g true) && agree₂ (f false) (g false)

same : (a b : Bool) → T (beq a b) → a ≡ b
same true true t = refl
same true false t = absurd t
same false true t = absurd t
same false false t = refl

left : (a b : Bool) → T (a && b) → T a
left true b t = tt
left false b t = t

right : (a b : Bool) → T (a && b) → T b
right true b t = t
right false b t = absurd t

pub all₁ : (f g : Bool → Bool) → T (agree₁ f g) → (a : Bool) → f a ≡ g a
all₁ f g t true = same (f true) (g true) (left (beq (f true) (g true)) (beq (f false) (g false)) t)
all₁ f g t false = same (f false) (g false) (right (beq (f true) (g true)) (beq (f false) (g false)) t)

pub all₂ : (f g : Bool → Bool → Bool) → T (agree₂ f g) → (a b : Bool) → f a b ≡ g a b
all₂ f g t true = all₁ (f true) (g true) (left (agree₁ (f true) (g true)) (agree₁ (f false) (g false)) t)
all₂ f g t false = all₁ (f false) (g false) (right (agree₁ (f true) (g true)) (agree₁ (f false) (g false)) t)

pub all₃ : (f g : Bool → Bool → Bool → Bool) → T (agree₃ f g) → (a b c : Bool) → f a b c ≡ g a b c
all₃ f g t true = all₂ (f true) (g true) (left (agree₂ (f true) (g true)) (agree₂ (f false) (g false)) t)
all₃ f g t false = all₂ (f false) (g false) (right (agree₂ (f true) (g true)) (agree₂ (f false) (g false)) t)

pub and-true : (b : Bool) → b && true ≡ b
and-true = all₁ (λ b. b && true) (λ b. b) tt

pub and-false : (b : Bool) → b && false ≡ false
and-false = all₁ (λ b. b && false) (λ b. false) tt

pub and-swap : (a b : Bool) → a && b ≡ b && a
and-swap = all₂ (λ a b. a && b) (λ a b. b && a) tt

pub not-not : (b : Bool) → not (not b) ≡ b
not-not = all₁ (λ b. not (not b)) (λ b. b) tt

-- an operation that keeps false, under a condition
pub and-distrib : (op : Bool → Bool → Bool) → op false false ≡ false → (c a b : Bool) → c && op a b ≡ op (c && a) (c && b)
and-distrib op keeps true a b = refl
and-distrib op keeps false a b = sym keeps

-- the two halves of a conjunction that holds
pub both_left : (a b : Bool) → a && b ≡ true → a ≡ true
both_left true b h = refl
both_left false b h = h

pub both_right : (a b : Bool) → a && b ≡ true → b ≡ true
both_right true b h = h
both_right false b h = absurd (subst T (sym h) tt)

-- what a test `a && b` answers, where a holds and where it does not
pub and_second : (a b : Bool) → a ≡ true → b ≡ a && b
and_second a b h = ap (λ (t : Bool). t && b) (sym h)

pub and_first : (a b : Bool) → a ≡ false → a ≡ a && b
and_first a b h = h ∙ ap (λ (t : Bool). t && b) (sym h)
