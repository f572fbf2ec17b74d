-- `put_table` stores one frame behind the other; the chunks that are left begin three numbers a frame on.
use Rattle.std.proofs.Common.{◌≡◌, ◌*◌, ◌≤◌, length, drop}
use Rattle.std.specs.Slice.Iter.{chunks_exact_rest, chunks_exact_size}
use Rattle.mesh.specs.Search.{gather}
use Rattle.frames.specs.Frames.{width, frame_of}
use Rattle.frames.specs.Lines.{frame_length}
use Rattle.frames.specs.Put.{Stored}
use Rattle.arraytext.proofs.rebuilding.put_table.Given as goal

abbrev pub invariant-loop-triple : goal.invariant-loop-triple
invariant-loop-triple l =
    let i = length l.yielded in record {
      size : chunks_exact_size l.triple-iterator ≡ 3;
      within : 3 * i ≤ length l.table;
      rest : chunks_exact_rest l.triple-iterator ≡ drop (3 * i) l.table;
      stored : Stored (i * frame_length width) (gather (frame_of width l.code l.table) i) 0 l.initial.part l.at l.part;
    }
