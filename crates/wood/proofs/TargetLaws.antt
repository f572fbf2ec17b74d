-- Number 9: the wood begins with the anchors' nine exactly where none of these is at fault.
use Prim.Native.Nat.{ℕ, ◌*◌, ◌≤◌}
use mathlib.Core.Path.{◌≡◌, refl, sym, ap, ◌∙◌}
use mathlib.Core.List.{List}
use mathlib.Core.Bool.{Bool, true, false, not}
use lib.ListN.{length, take}
use lib.Seq.{length-take-le, get_or-take}
use lib.Dec.{eqb}
use borrow.Author.Tests.{eqb-true, eq-eqb, not-true, not-false}
use Rattle.std.specs.List.{starts_with}
use Rattle.std.proofs.lemmas.Slice.Eq.{bytes_eq-Decides}
use Rattle.mesh.specs.Search.{some}
use Rattle.mesh.specs.Limits.{at, unused_mark}
use Rattle.mesh.specs.Wood.{target, anchor_targets}
use Rattle.mesh.specs.Verdict.{anchor_edge_fault, target_fault, wood_fault}
use Rattle.mesh.proofs.Tests.{same_test}
use Rattle.mesh.proofs.Search.{some_none, none_some}
use Rattle.mesh.proofs.Lists.{tabulate_is}

module _ (ws : List ℕ) (enough : 9 ≤ length ws) where
  anchors_at : anchor_targets ≡ take 9 ws → some (anchor_edge_fault ws) 9 ≡ false
  anchors_at e =
      none_some (anchor_edge_fault ws) 9
      (λ k l. ap not (eq-eqb (target ws k) (at anchor_targets k) (sym (ap (λ x. at x k) e ∙ get_or-take 9 ws k unused_mark l))))

  at_anchors : some (anchor_edge_fault ws) 9 ≡ false → anchor_targets ≡ take 9 ws
  at_anchors f =
      tabulate_is (at anchor_targets) 9 anchor_targets unused_mark refl (λ k l. refl) ∙
      sym (tabulate_is (at anchor_targets) 9 (take 9 ws) unused_mark (length-take-le 9 ws enough)
      (λ k l. get_or-take 9 ws k unused_mark l ∙ eqb-true (target ws k) (at anchor_targets k) (not-false _ (some_none (anchor_edge_fault ws) 9 f k l))))

  anchors_begin : starts_with eqb ws anchor_targets ≡ not (some (anchor_edge_fault ws) 9)
  anchors_begin =
      let d = bytes_eq-Decides anchor_targets (take 9 ws) in
      same_test (starts_with eqb ws anchor_targets) (not (some (anchor_edge_fault ws) 9)) (λ t. ap not (anchors_at (d.0 t)))
      (λ t. d.1 (at_anchors (not-true _ t)))

  module _ (n : ℕ) (begins : Bool) (e : begins ≡ starts_with eqb ws anchor_targets) where
    pub wrong_at_anchors : begins ≡ false → not begins ≡ wood_fault n ws
    unfolding wood_fault
    wrong_at_anchors f = let s = not-false _ (sym anchors_begin ∙ sym e ∙ f) in rw (f, s)

    pub wrong_behind : begins ≡ true → (high : Bool) → high ≡ some (target_fault n ws) (3 * n) → high ≡ wood_fault n ws
    unfolding wood_fault
    wrong_behind t high h = let s = not-true _ (sym anchors_begin ∙ sym e ∙ t) in rw s h
