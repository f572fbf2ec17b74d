-- `is_array_text` meets the length, then each frame.
use Rattle.std.proofs.Common.{◌≡◌, rules, tests, refl, sym, length}
use borrow.Author.Tests.{eq-eqb, ne_eqb}
use Rattle.mesh.proofs.Ranges.{every_from_all}
use Rattle.frames.specs.Frames.{width}
use Rattle.frames.specs.Lines.{edge_place, edge_total}
use Rattle.arraytext.specs.ArrayText.{is_edge_frame, is_array_text}
use native.Mathlib.Omega.{arith}
use Rattle.arraytext.proofs.reading.is_array_text.Goals as goal

pub returns-then-text-edges : goal.returns-then-text-edges
unfolding is_array_text
returns-then-text-edges c =
    let t = c.args.text.now in
    let l : length t ≡ edge_place width (edge_total c.args.size.vertices) = rw c.edges-edges.ensures at c.if-text-edges.true in
    rw (eq-eqb _ _ l, sym c.edges-edges.ensures)
    (every_from_all (is_edge_frame t) 0 c.edges-edges.result (λ k l. absurd (omega arith)) _ _ _ c.all.ensures.ran refl (λ x b q k. search (rules, tests)))

pub returns-else-text-edges : goal.returns-else-text-edges
unfolding is_array_text
returns-else-text-edges c =
    rw c.edges-edges.ensures (let l = rw c.edges-edges.ensures at c.if-text-edges.false in rw (ne_eqb _ _ l) refl)
