-- `put_mesh` writes the head, and each table into the part behind what stands.
use Rattle.std.proofs.Common.{refl}
use Rattle.frames.proofs.FrameLaws.{length_head}
use Rattle.frames.specs.Frames.{width}
use Rattle.arraytext.proofs.RebuildLaws.{frame_done, mesh_of}
use native.Mathlib.Omega.{arith}
use Rattle.arraytext.proofs.rebuilding.put_mesh.Goals as goal

pub unwrap-vertices-requires : goal.unwrap-vertices-requires
unwrap-vertices-requires c =
    let l = length_head width c.args.size.vertices in
    rw (frame_done _ _ _ _ (omega (arith, c.requires.room)) c.put_head.ensures) refl

pub returns : goal.returns
returns c =
    let a = c.args in
    mesh_of a.size.vertices a.triangles.now a.targets.now a.size.in_range c.requires.corners c.requires.inner a.out.now c.requires.room c.put_head.result c.put_table-vertices.result c.put_table.result
    c.put_head.new.part c.put_table-vertices.new.part c.put_table.new.part c.put_head.ensures c.put_table-vertices.ensures c.put_table.ensures
