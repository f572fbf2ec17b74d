-- How a `Size` was asked for ended is fixed by what the contract of `of` says of it: by its number of vertices or its refusal.
use Prim.Native.Nat.{ℕ}
use mathlib.Core.Path.{◌≡◌, sym, ap, ◌∙◌}
use native.Mathlib.Omega.{arith}
use Rattle.std.specs.Result.{IfOk}
use Rattle.std.specs.declared.result.Result.{Result}
use Rattle.std.specs.declared.result.Result.TheVariants.{Ok, Err}
use Rattle.tables.specs.declared.refusal.Refusal.{Refusal}
use Rattle.tables.specs.declared.size.Size.{Size}
use Rattle.tables.specs.Refusal.{number_met}
use Rattle.tables.proofs.RefusalLaws.{number_above, number_once}

-- the number of vertices is all that a `Size` holds beside the proof that it is in range
abbrev pub vertices_of : Result Size Refusal → Result ℕ Refusal
vertices_of (Ok s) = Ok s.vertices
vertices_of (Err r) = Err r

pub size_once : (n : ℕ) (a b : Result Size Refusal) → number_met a ≡ number_met b → IfOk a (λ s. s.vertices ≡ n) → IfOk b (λ s. s.vertices ≡ n)
    → vertices_of a ≡ vertices_of b
size_once n (Ok s) (Ok t) e p q = ap Ok (p ∙ sym q)
size_once n (Ok s) (Err r) e p q = absurd (let l = number_above r in omega arith)
size_once n (Err r) (Ok s) e p q = absurd (let l = number_above r in omega arith)
size_once n (Err r) (Err s) e p q = ap Err (number_once r s e)
