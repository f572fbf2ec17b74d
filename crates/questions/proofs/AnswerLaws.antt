-- No two answers list alike, so a contract that says what an answer lists fixes the answer: two answers that it allows are equal.
use Prim.Native.Nat.{ℕ, ◌-◌, ◌≤◌}
use mathlib.Core.Path.{◌≡◌, sym, ap, ap₂, ◌∙◌}
use mathlib.Core.List.{List, [], ◌∷◌}
use mathlib.Core.Bool.{true, false}
use lib.ListN.{length}
use Rattle.std.specs.declared.result.Result.{Result}
use Rattle.std.specs.declared.result.Result.TheVariants.{Ok, Err}
use Rattle.mesh.specs.Limits.{out_of_range, references_length}
use Rattle.mesh.specs.Wood.{colour, is_edge}
use Rattle.mesh.specs.Reading.{fronts_in, Chain, read_target_of}
use Rattle.mesh.proofs.Walk.{question_chain, question_stops}
use Rattle.tables.specs.declared.refusal.Refusal.{Refusal}
use Rattle.tables.specs.Refusal.{number}
use Rattle.tables.proofs.RefusalLaws.{number_once}
use Rattle.questions.specs.Answers.{listed, target_listed}
use Rattle.questions.specs.declared.answer.Reached.{Reached}

-- two refusals that list alike
refused_once : {A : Type 0} (r s : Refusal) → number r ∷ [] ≡ number s ∷ [] → ◌≡◌ {A = Result A Refusal} (Err r) (Err s)
refused_once r s h = let e : number r ≡ number s = cc in ap Err (number_once r s e)

pub listed_once : (a b : Result ℕ Refusal) → listed a ≡ listed b → a ≡ b
listed_once (Ok v) (Ok w) h = let e : v ≡ w = cc in ap Ok e
listed_once (Ok v) (Err s) h = cc
listed_once (Err r) (Ok w) h = cc
listed_once (Err r) (Err s) h = refused_once r s h

pub target_listed_once : (a b : Result Reached Refusal) → target_listed a ≡ target_listed b → a ≡ b
target_listed_once (Ok v) (Ok w) h =
    let e : v.vertex ≡ w.vertex = cc in
    let f : v.reads ≡ w.reads = cc in
    ap₂ (λ (vertex reads : ℕ). Ok (record { vertex = vertex; reads = reads })) e f
target_listed_once (Ok v) (Err s) h = cc
target_listed_once (Err r) (Ok w) h = cc
target_listed_once (Err r) (Err s) h = refused_once r s h

-- two answers that a contract allows
pub one_answer : (a b : Result ℕ Refusal) (x : List ℕ) → listed a ≡ x → listed b ≡ x → a ≡ b
one_answer a b x p q = listed_once a b (p ∙ sym q)

pub one_target : (a b : Result Reached Refusal) (x : List ℕ) → target_listed a ≡ x → target_listed b ≡ x → a ≡ b
one_target a b x p q = target_listed_once a b (p ∙ sym q)

-- the reads that a Target answers are the number of edges gone on to, along LeftFront iterated from j
pub reached_along_chain : (n : ℕ) (refs : List ℕ) (j : ℕ) (r : Reached) → target_listed (Ok r) ≡ read_target_of n refs j
    → (r.reads ≤ n - 2) × Chain n (fronts_in refs) (colour j) j r.vertex r.reads
reached_along_chain n refs j r e = question_chain n refs j r.vertex r.reads (sym e)

-- and where such a chain is, the answer that the contract allows is its end
pub reached_chain_back : (n : ℕ) (refs : List ℕ) (j : ℕ) (r : Reached) (a : Result Reached Refusal) → target_listed a ≡ read_target_of n refs j
    → out_of_range n ≡ false → length refs ≡ references_length n → is_edge n j ≡ true
    → r.reads ≤ n - 2 → Chain n (fronts_in refs) (colour j) j r.vertex r.reads → a ≡ Ok r
reached_chain_back n refs j r a e sizes long known l h =
    target_listed_once a (Ok r) (e ∙ question_stops n refs j r.vertex r.reads sizes long known l h)
