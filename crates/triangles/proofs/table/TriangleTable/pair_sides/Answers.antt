-- `pair_sides` passes the positions in order: each of those passed has its reverse, and `twins` holds its position.
use Prim.Native.Nat.{◌<◌}
use mathlib.Core.Path.{◌≡◌, refl, sym, ap, ap₂, ◌∙◌}
use lib.ListN.{length, set}
use borrow.Author.Count.{below_more}
use borrow.Author.Tests.{le-leb, lt-leb}
use Rattle.std.proofs.Common.{Some}
use Rattle.std.specs.Option.{is_some}
use Rattle.mesh.specs.Search.{painted}
use Rattle.mesh.specs.Sides.{from, to}
use Rattle.mesh.specs.Paired.{twin}
use Rattle.mesh.specs.Verdict.{reverse_fault}
use Rattle.mesh.proofs.Lists.{painted_none, painted_more, painted_all}
use Rattle.mesh.proofs.Search.{lowest_at, lowest_none}
use Rattle.mesh.proofs.Tests.{clash}
use Rattle.tables.specs.Checked.{twins_of}
use Rattle.triangles.specs.Table.{side_found}
use Rattle.triangles.proofs.SearchLaws.{found_at, found_none}
use native.Mathlib.Omega.{arith}
use Rattle.triangles.proofs.table.TriangleTable.pair_sides.Goals.{After-find, In-Some}
use Rattle.triangles.proofs.table.TriangleTable.pair_sides.Goals as goal

pub loop-p-init : goal.loop-p-init
loop-p-init c = (sym (painted_none _ _), λ j h. absurd (omega arith))

-- what was looked for is the reverse
reverse : (c : After-find) → c.find.result ≡ side_found c.args.self.corners.now (to c.args.self.corners.now c.loop-p.p) (from c.args.self.corners.now c.loop-p.p)
reverse c =
    let r = c.reversed.ensures in
    let s = c.side.ensures in
    c.find.ensures ∙ ap₂ (side_found c.args.self.corners.now) (r.0 ∙ s.1) (r.1 ∙ s.0)

-- where it stands
reverse_at : (c : In-Some) → (twin c.args.self.corners.now c.loop-p.p ≡ c.in-Some.q) × (c.in-Some.q < length c.args.self.corners.now)
unfolding twin
reverse_at c =
    let ts = c.args.self.corners.now in
    let p = c.loop-p.p in
    found_at ts (to ts p) (from ts p) c.in-Some.q (sym c.in-Some.is ∙ reverse (goal.at.In-Some c).After-find)

pub overflow_cast-twin : goal.overflow_cast-twin
overflow_cast-twin c =
    let table = c.args.self in
    let n = table.size.in_range.not_too_many in
    let w = table.whole in
    omega (arith, (reverse_at c).1)

pub returns-in-None : goal.returns-in-None
returns-in-None c =
    let ts = c.args.self.corners.now in
    let p = c.loop-p.p in
    let f = found_none ts (to ts p) (from ts p) (sym c.in-None.is ∙ reverse (goal.at.returns-in-None c).After-find) in
    record {
      position = sym (lowest_at (reverse_fault ts) (length ts) p (omega arith) (le-leb _ _ (omega arith)) c.loop-p.invariant.1);
      reverses = λ z. clash (is_some (Some p)) refl (ap is_some z);
    }

pub loop-p-preserved : goal.loop-p-preserved
unfolding twin
loop-p-preserved c =
    let ts = c.args.self.corners.now in
    let p = c.loop-p.p in
    let f = reverse_at c in (
      ap₂ (λ l x. set l p x) c.loop-p.invariant.0 (sym f.0) ∙ painted_more (twin ts) p c.args.twins.now,
      below_more _ p c.loop-p.invariant.1 (lt-leb _ _ (rw f.0 f.1)),
    )

pub returns : goal.returns
unfolding twins_of
returns c =
    let ts = c.args.self.corners.now in
    let e : c.loop-p.p ≡ length ts = omega arith in
    record {
      position = sym (lowest_none (reverse_fault ts) (length ts) (λ j h. c.loop-p.invariant.1 j (omega arith)));
      reverses = λ z. c.loop-p.invariant.0 ∙ ap (λ m. painted (twin ts) m c.args.twins.now) e ∙ painted_all (twin ts) (length ts) c.args.twins.now c.requires;
    }
