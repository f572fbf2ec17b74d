-- `broken_at` makes one turn for each sector, from the side of the vertex's edge of colour 0.
use Rattle.std.proofs.Common.{rules, tests, refl, ap, ◌∙◌, ◌<◌, length}
use Rattle.std.proofs.iter.Serving.{serving}
use mathlib.Core.Bool.{not}
use Rattle.mesh.specs.Sides.{from, to, third}
use Rattle.mesh.proofs.Ranges.{every_from_all}
use Rattle.tables.proofs.SidedLaws.{filled}
use Rattle.wood.specs.Sectors.{sector_holds}
use Rattle.wood.proofs.VertexLaws.{start_in, turn_sectors}
use native.Mathlib.Omega.{arith}
use Rattle.wood.proofs.round.Joined.broken_at.Goals as goal

pub all-requires-clause-callable : goal.all-requires-clause-callable
all-requires-clause-callable c =
    let m = c.args.self.now.mesh in
    let l : c.at-start.result < length m.triangles.now =
    start_in _ _ _ _ _ (filled m) c.args.self.now.joined _ _ c.requires.0 c.requires.1 c.at-start.ensures in
    grind (serving, arith)

pub returns : goal.returns
returns c =
    let m = c.args.self.now.mesh in
    let ts = m.triangles.now in
    let start = c.at-start.result in
    ap not
    (every_from_all (sector_holds m.size.vertices (third ts) m.wood.now (from ts start) (to ts start)) 0 3 (λ k l. absurd (omega arith)) _ _ _
    c.all.ensures.ran refl (λ x b q k. search (rules, tests))) ∙
    turn_sectors _ _ _ _ _ (filled m) c.args.self.now.joined _ _ c.requires.0 c.requires.1 c.at-start.ensures
