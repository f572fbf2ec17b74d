-- `put_array` writes the head, then each edge's line behind the last.
use mathlib.Core.Path.{◌≡◌}
use Prim.Native.Nat.{◌*◌}
use lib.ListN.{length}
use Rattle.mesh.specs.Search.{gather}
use Rattle.frames.specs.Frames.{width, edge_line}
use Rattle.frames.specs.Lines.{edge_length}
use Rattle.frames.specs.Put.{Stored}
use Rattle.meshtext.proofs.writing.put_array.Given as goal

abbrev pub invariant-loop-j : goal.invariant-loop-j
invariant-loop-j l = record {
  same_length : length l.out ≡ length l.initial.out;
  lines : Stored (l.j * edge_length width) (gather (edge_line width l.references l.service) l.j) l.initial.at l.initial.out l.at l.out;
}
