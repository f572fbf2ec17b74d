-- `put_edge_at` leaves the buffer alone at an unused index, and else has the frame written into the rest of the buffer, where it has room.
use mathlib.Core.Path.{refl, sym, subst, ◌∙◌}
use Prim.Native.Nat.{ℕ, ◌+◌, ◌-◌}
use mathlib.Core.List.{List}
use lib.ListN.{length, take, drop}
use borrow.Rule.Slice.PartMut.{put_mid}
use Rattle.frames.specs.Frames.{width, edge_line}
use Rattle.frames.specs.Lines.{edge_length}
use Rattle.frames.specs.Put.{Wrote, Stored}
use Rattle.frames.proofs.PartLaws.{part_done, part_refused}
use Rattle.frames.proofs.StoreLaws.{stored_none, stored_as, stored_wider}
use Rattle.meshtext.proofs.ArrayLaws.{line_used, line_unused, line_few}
use native.Mathlib.Omega.{arith}
use Rattle.meshtext.proofs.writing.put_edge_at.Goals.{After-put_edge, In_ok-length}
use Rattle.meshtext.proofs.writing.put_edge_at.Goals as goal

pub returns-then-not-used : goal.returns-then-not-used
returns-then-not-used c =
    let a = c.args in
    let e = line_unused a.references.now a.service.now a.j (sym c.used.ensures ∙ c.if-not-used.true) in
    record {
      next = a.at;
      answer = refl;
      stored = stored_wider 0 (edge_length width) _ a.at a.at a.out.now a.out.now (omega arith) (stored_as 0 _ _ a.at a.at a.out.now a.out.now e (stored_none a.at a.out.now));
    }

-- after the writer: its frame is the edge's line
framed : (d : After-put_edge) →
    let a = d.args in
    Wrote (edge_line width a.references.now a.service.now a.j) (take (length a.out.now - a.at) (drop a.at a.out.now)) d.put_edge.result d.put_edge.new.part
framed d =
    let a = d.args in
    let u = sym d.used.ensures ∙ d.if-not-used.false in
    let e = line_used a.references.now a.service.now a.j u d.requires.1 d.requires.2 in
    subst (λ (f : List ℕ). Wrote f (take (length a.out.now - a.at) (drop a.at a.out.now)) d.put_edge.result d.put_edge.new.part) e d.put_edge.ensures

pub returns-in_err-length : goal.returns-in_err-length
returns-in_err-length c =
    let a = c.args in
    absurd (part_refused a.at (edge_line width a.references.now a.service.now a.j) a.out.now c.put_edge.result c.put_edge.new.part
    c.requires.0 (framed (goal.at.returns-in_err-length c).After-put_edge) _ c.in_err-length.was)

written : (d : In_ok-length) →
    let a = d.args in
    Stored (edge_length width) (edge_line width a.references.now a.service.now a.j) a.at a.out.now (a.at + d.in_ok-length.length)
    (put_mid a.at (length a.out.now - a.at) a.out.now d.put_edge.new.part)
written d =
    let a = d.args in
    part_done a.at (edge_line width a.references.now a.service.now a.j) a.out.now d.put_edge.result d.put_edge.new.part
    d.requires.0 (framed (goal.at.overflow_add-result d).After-put_edge) (edge_length width) _
    (line_few a.references.now a.service.now a.j) d.in_ok-length.was

pub overflow_add-result : goal.overflow_add-result
overflow_add-result c =
    let v = written c in
    omega (arith, v.after, c.requires.0, c.well_formed.0)

pub returns : goal.returns
returns c = record { next = c.args.at + c.in_ok-length.length; answer = refl; stored = written c }
