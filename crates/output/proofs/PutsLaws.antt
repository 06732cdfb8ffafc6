-- Texts put one after the other. Assumes nothing.
use Prim.Native.Nat.{ℕ, ◌+◌, ◌-◌, ◌≤◌}
use native.Mathlib.Omega.{arith}
use mathlib.Core.Path.{◌≡◌, sym, ap, ap₂, subst, ◌∙◌}
use mathlib.Core.List.{List, [], ◌∷◌, ◌++◌}
use lib.ListN.{length, take, drop, take-append-drop}
use lib.Seq.{take-nil, length-take-le}
use Rattle.output.specs.Counts.{IsPrefixLen}
use Rattle.outcomes.specs.Buffer.{laid}
use Rattle.output.proofs.PutLaws.{after-length}
use Rattle.output.proofs.AppendLaws.{filled-append, after-append}
use Rattle.std.specs.List.{concat, FoldsTo}
use Rattle.std.specs.Fmt.{WritesInCalls, WritesText}
use Rattle.std.specs.Prelude.{Option, None, Some, IfSome, ◌⊎◌}
use Rattle.std.proofs.Common.{inl}
use Rattle.output.specs.declared.buffer.Output.{Output}
use Rattle.output.specs.Put.{filled, after, Puts}

pub puts_then : (xs ys : List ℕ) {out out₁ out₂ : List ℕ} {at at₁ at₂ : ℕ} → Puts xs out at at₁ out₁ → Puts ys out₁ at₁ at₂ out₂ → Puts (xs ++ ys) out at at₂ out₂
puts_then xs ys {out} {out₁} {out₂} {at} {at₁} {at₂} p q = record {
  count = q.count ∙ ap₂ (filled ys) p.buffer p.count ∙ filled-append xs ys out at;
  buffer = q.buffer ∙ ap₂ (after ys) p.buffer p.count ∙ after-append xs ys out at;
}

pub puts-length : {text out out' : List ℕ} {at r : ℕ} → Puts text out at r out' → length out' ≡ length out
puts-length {text} {out} {out'} {at} {r} p = ap length p.buffer ∙ after-length text out at

pub puts-nothing : (out : List ℕ) (at : ℕ) → at ≤ length out → Puts [] out at at out
unfolding filled after laid
puts-nothing out at h = record {
  count = omega arith;
  buffer =
      let e : at ≡ at + 0 = omega arith in
      sym (take-append-drop at out) ∙ ap (λ (i : ℕ). take at out ++ drop i out) e ∙ ap (laid out at) (sym (take-nil (length out - at)));
}

pub counts : (r : ℕ) (out : List ℕ) → r ≤ length out → IsPrefixLen r out
counts r out h = (h, sym (length-take-le r out h))

pub puts-counts : {text out out' : List ℕ} {at r : ℕ} → Puts text out at r out' → IsPrefixLen r out'
unfolding filled
puts-counts {text} {out} {out'} {at} {r} p = counts r out' (omega (arith, p.count, puts-length p))

-- what a text that is put does to a buffer with its text
abbrev Prints : Output → List ℕ → Output → Type 0
Prints a text b = Puts text a.bytes.now a.filled b.filled b.bytes.now

-- some calls of write_str put one text
calls-put : (a : Output) (texts : List (List ℕ)) (b : Output) → FoldsTo Prints a texts b → Prints a (concat texts) b
calls-put a [] b p = subst (λ (o : Output). Prints a [] o) p (puts-nothing a.bytes.now a.filled a.inside)
calls-put a (text ∷ texts) b p = puts_then text (concat texts) p.1 (calls-put p.0 texts b p.2)

writes-put : (a : Output) (text : List ℕ) (b : Output) → WritesInCalls Prints a text b → Prints a text b
writes-put a text b p = subst (λ (l : List ℕ). Prints a l b) p.whole (calls-put a p.parts b p.calls)

pub writes-some : (a : Output) (o : Option (List ℕ)) (b : Output) → WritesText Prints a o b
    → IfSome o (λ (text : List ℕ). Puts text a.bytes.now a.filled b.filled b.bytes.now ⊎ (b.filled ≡ 0))
writes-some a None b p = p
writes-some a (Some text) b p = inl (writes-put a text b p)
