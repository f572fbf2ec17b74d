-- `decode_mesh`: the wood is decoded; triangles that do not fill their table are refused, and else the mesh is verified.
use native.Mathlib.Omega.{arith}
use mathlib.Core.Path.{refl}
use Rattle.tables.proofs.RefusalLaws.{number_above}
use Rattle.tables.proofs.RungLaws.{handed_number}
use Rattle.rebuild.proofs.RebuildLaws.{decode_fails, decode_verified}
use Rattle.rebuild.proofs.rebuilder.decode_mesh.Goals as goal

pub returns-in_err-decode_triangles : goal.returns-in_err-decode_triangles
returns-in_err-decode_triangles c =
    let a = c.args in
    rw (handed_number _ _ c.from_residual.ensures.1)
    (decode_fails a.given.size.vertices a.given.references.now a.triangles.now c.decode_wood.new.wood _ _ c.requires.1 c.decode_wood.ensures c.in_err-decode_triangles.ensures
    (λ e. let p = number_above c.in_err-decode_triangles.field-0.0 in omega arith))

pub returns : goal.returns
returns c =
    let a = c.args in
    decode_verified a.given.size.vertices a.given.references.now a.triangles.now c.decode_wood.new.wood _ 0 c.requires.1 c.decode_wood.ensures
    c.in_ok-decode_triangles.ensures _ refl c.verify.ensures
