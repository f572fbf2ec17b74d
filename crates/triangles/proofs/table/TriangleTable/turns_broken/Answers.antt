-- `turns_broken` counts the sides at each vertex, then turns round each.
use Rattle.std.proofs.Common.{rules, tests}
use mathlib.Core.Path.{◌≡◌, refl, ◌∙◌}
use Prim.Native.Nat.{◌≤◌}
use lib.ListN.{take, length, length-replicate}
use Rattle.std.proofs.lemmas.Iterator.{YieldsList-from_slice}
use Rattle.std.proofs.lemmas.Iterator.Search.{any_from_yields_List}
use Rattle.mesh.specs.Limits.{most_vertices, unused_mark}
use Rattle.tables.proofs.CheckedLaws.{twins_read}
use Rattle.triangles.specs.declared.round.Spokes.{Spokes}
use Rattle.triangles.specs.Turns.{turn_broken}
use Rattle.triangles.proofs.SearchLaws.{any_some}
use Rattle.triangles.proofs.TallyLaws.{untallied}
use Rattle.triangles.proofs.TurnLaws.{turn_faults}
use native.Mathlib.Omega.{arith}
use Rattle.triangles.proofs.table.TriangleTable.turns_broken.Goals as goal

pub tally-requires : goal.tally-requires
tally-requires c =
    untallied c.args.self.size.vertices most_vertices _ c.args.self.corners.now refl c.requires.0 c.args.self.size.in_range.not_too_many

pub returns : goal.returns
returns c =
    let table = c.args.self in
    let n = table.size.vertices in
    let twins = c.args.twins.now in
    let spokes = c.tally.new.spokes in
    let few : n ≤ most_vertices = table.size.in_range.not_too_many in
    let all : length spokes ≡ most_vertices = c.tally.auto.spokes ∙ length-replicate {A = Spokes} most_vertices (record { start = unused_mark; degree = 0 }) in
    any_from_yields_List (λ (s : Spokes). turn_broken twins s.start s.degree) _ _ _ c.any.ensures.ran
    (YieldsList-from_slice (take n spokes) c.iter.ensures.rest) (λ x b q k. search (rules, tests)) ∙
    any_some (λ (s : Spokes). turn_broken twins s.start s.degree) spokes _ n (omega arith) ∙
    turn_faults n table.corners.now twins spokes c.requires.0 (omega arith) (twins_read table.corners.now twins c.requires.1) (omega arith) c.tally.ensures
