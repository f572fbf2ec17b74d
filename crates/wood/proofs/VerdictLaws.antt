-- What the rungs of the wood's ladder rest on: 12 on 10 and 13 on 9; and number 10 by its two searches.
use Prim.Native.Nat.{ℕ, ◌*◌}
use mathlib.Core.Path.{◌≡◌, sym, ap, ◌∙◌}
use mathlib.Core.List.{List}
use mathlib.Core.Bool.{true, false}
use lib.Dec.{leb}
use borrow.Author.Tests.{le-leb, leb-false}
use Rattle.std.specs.Option.{is_some}
use Rattle.std.specs.declared.option.Option.{Option}
use Rattle.mesh.specs.Search.{some, lowest}
use Rattle.mesh.specs.Wood.{target}
use Rattle.mesh.specs.Verdict.{anchor_edge_fault, target_fault, wood_fault, join_fault, pair_fault, edge_fault}
use Rattle.mesh.proofs.Tests.{clash, and_fails, or_false}
use Rattle.mesh.proofs.Search.{some_none, lowest_some}
use Rattle.wood.specs.Paths.{Inside}

pub inside : (n : ℕ) (ws : List ℕ) → wood_fault n ws ≡ false → Inside n ws
unfolding wood_fault
inside n ws no9 e g l =
    let o = or_false (some (anchor_edge_fault ws) 9) (some (target_fault n ws) (3 * n)) no9 in
    and_fails (leb 9 e) (leb n (target ws e)) (some_none (target_fault n ws) (3 * n) o.1 e l)
    (λ t. clash (leb 9 e) (le-leb 9 e g) t) (λ t. leb-false n (target ws e) t)

pub joined : (n : ℕ) (x : ℕ → ℕ → ℕ) (ws : List ℕ) → edge_fault n x ws ≡ false → some (join_fault n x ws) (3 * n) ≡ false
unfolding edge_fault
joined n x ws no10 = (or_false (some (join_fault n x ws) (3 * n)) (some (pair_fault ws) (3 * n)) no10).0

module _ (n : ℕ) (x : ℕ → ℕ → ℕ) (ws : List ℕ) (u : Option ℕ) (e : u ≡ lowest (join_fault n x ws) (3 * n)) where
  unjoined : is_some u ≡ some (join_fault n x ws) (3 * n)
  unjoined = ap is_some e ∙ lowest_some _ _

  pub edge_by_join : is_some u ≡ true → is_some u ≡ edge_fault n x ws
  unfolding edge_fault
  edge_by_join t = let s = sym unjoined ∙ t in rw (t, s)

  pub edge_by_pair : is_some u ≡ false → (d : Option ℕ) → d ≡ lowest (pair_fault ws) (3 * n) → is_some d ≡ edge_fault n x ws
  unfolding edge_fault
  edge_by_pair f d g = let s = sym unjoined ∙ f in rw s (ap is_some g ∙ lowest_some _ _)
