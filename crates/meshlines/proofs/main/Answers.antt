-- `main` writes the bytes that `mesh_lines` answers: they lie within the buffer that it was lent.
use Rattle.frames.proofs.PutLaws.{done_within, done_front}
use Rattle.meshlines.proofs.main.Goals as goal

pub slice_bounds-out-end : goal.slice_bounds-out-end
slice_bounds-out-end c = done_within _ _ _ _ _ c.mesh_lines-put.ensures _ c.in-Ok.is

pub slice_bounds-write_all-end : goal.slice_bounds-write_all-end
slice_bounds-write_all-end c = done_front _ _ _ _ _ c.mesh_lines-put.ensures _ c.in-Ok.is
