-- Each side of an accepted mesh carries an edge: its ends are labelled, and the label names the
-- edge that joins them, whichever way it runs.
use Prim.Native.Nat.{ℕ, ◌+◌, ◌*◌, ◌<◌}
use mathlib.Core.Path.{sym, ap, ◌∙◌, subst}
use mathlib.Core.List.{List}
use mathlib.Core.Logic.{inl, inr}
use native.Mathlib.Omega.{arith}
use Rattle.mesh.specs.Sides.{to}
use Rattle.mesh.specs.Wood.{target, label_of, edge_at}
use Rattle.mesh.specs.Verdict.{Clear}
use Rattle.mesh.specs.Mesh.{Side, Edge, Joins}
use Rattle.mesh.proofs.TurnRule.{by_label}
use Rattle.mesh.proofs.Labels.{label_is_out, label_is_into}
use Rattle.theorems.proofs.Marked.{label, all_labelled}
use Rattle.theorems.proofs.Accepted.{pairs, surface, marked, used_low}
use Rattle.theorems.proofs.Acceptance.Corners.{starts_below, ends_below}
use Rattle.theorems.proofs.Acceptance.Edges.{used_edge}

pub side_joined : (n : ℕ) (ts ws : List ℕ) → Clear n ts ws → (a b : ℕ) → Side ts a b → Edge n (edge_at ws a b) × Joins ws (edge_at ws a b) a b
unfolding edge_at label
side_joined n ts ws A a b s =
    let la = starts_below n ts (pairs n ts ws A) a b s in
    let lb = ends_below n ts (pairs n ts ws A) a b s in
    let p : ℕ = s.position in
    by_label (label_of ws a b)
    (λ c e.
    let t = label_is_out ws a b c e in
    let k = t.0 in
    let w : target ws (3 * a + c) < n = subst (λ x. x < n) (sym t.1) lb in
    rw e (used_edge n (3 * a + c) (used_low n ts ws A (3 * a + c) w) (omega arith), inl (omega arith, t.1)))
    (λ c e.
    let t = label_is_into ws a b c e in
    let k = t.0 in
    let w : target ws (3 * b + c) < n = subst (λ x. x < n) (sym t.1) la in
    rw e (used_edge n (3 * b + c) (used_low n ts ws A (3 * b + c) w) (omega arith), inr (omega arith, t.1)))
    (λ e. absurd (all_labelled (surface n ts ws A) n ws (marked n ts ws A) p s.within (ap (λ x. label_of ws x (to ts p)) s.starts ∙ ap (label_of ws a) s.ends ∙ e)))
