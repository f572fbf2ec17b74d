-- `decode_triangles`: the cursor stands after what the places so far have written.
use Rattle.rebuild.proofs.WritingLaws.{Written}
use Rattle.rebuild.proofs.writing.decode_triangles.Given as goal

abbrev pub invariant-loop-i : goal.invariant-loop-i
invariant-loop-i l = Written l.given.references.now l.wood l.triangles l.i l.cursor
