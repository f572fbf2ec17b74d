-- `verdict` meets the numbers in order: behind each rung that passes the ladder answers what its rest answers. Number 8 rests on 3 to 6
-- not applying.
use Prim.Native.Nat.{ℕ, ◌-◌, ◌*◌}
use mathlib.Core.Path.{◌≡◌, refl, sym, ◌∙◌}
use mathlib.Core.List.{List}
use lib.ListN.{length, drop}
use Rattle.std.specs.Bool.{⊤}
use Rattle.std.specs.Result.{IsErrAnd}
use Rattle.std.specs.declared.result.Result.{Result}
use Rattle.mesh.specs.Search.{some}
use Rattle.mesh.specs.Ladder.{first_of}
use Rattle.mesh.specs.Verdict.{table_ladder, repeat_fault, reverse_fault}
use Rattle.mesh.proofs.Paired.{paired}
use Rattle.tables.specs.declared.refusal.Refusal.{Refusal}
use Rattle.tables.specs.declared.refusal.Refusal.TheVariants.{CornerTooHigh, CornersEqual, SideTwice, SideAlone, OuterMissing, TurnIncomplete}
use Rattle.tables.specs.Refusal.{number}
use Rattle.tables.specs.Checked.{twins_of}
use Rattle.tables.proofs.RefusalLaws.{number_above}
use Rattle.triangles.specs.Table.{TableChecked}
use Rattle.tables.proofs.RungLaws.{passed, goes_on, ends, last, handed}
use Rattle.triangles.proofs.SearchLaws.{some_found, none_found}
use native.Mathlib.Omega.{arith}
use Rattle.triangles.proofs.table.TriangleTable.verdict.Goals.{After-is_some, After-is_some-2, In_ok-refuse_if, In_ok-refuse_if-2, In_ok-refuse_if-3, In_ok-refuse_if-4, In_ok-refuse_if-5}
use Rattle.triangles.proofs.table.TriangleTable.verdict.Goals as goal

-- the ladder answers what it answers without its first k rungs
abbrev Past : ℕ → ℕ → List ℕ → Type 0
Past k n ts = first_of (table_ladder n ts) ≡ first_of (drop k (table_ladder n ts))

past3 : (c : In_ok-refuse_if) → Past 1 c.args.self.size.vertices c.args.self.corners.now
past3 c = goes_on CornerTooHigh c.high_corner.ensures _ refl c.in_ok-refuse_if.ensures

past4 : (c : In_ok-refuse_if-2) → Past 2 c.args.self.size.vertices c.args.self.corners.now
past4 c = goes_on CornersEqual c.equal_corners.ensures _ (past3 (goal.at.In_ok-refuse_if-2 c).In_ok-refuse_if) c.in_ok-refuse_if-2.ensures

twice : (c : After-is_some) → c.is_some.result ≡ some (repeat_fault c.args.self.corners.now) (length c.args.self.corners.now)
twice c = some_found _ _ c.is_some.ensures c.repeated_side.ensures

past5 : (c : In_ok-refuse_if-3) → Past 3 c.args.self.size.vertices c.args.self.corners.now
past5 c =
    let p = goal.at.In_ok-refuse_if-3 c in
    goes_on SideTwice (twice p.After-is_some) _ (past4 p.In_ok-refuse_if-2) c.in_ok-refuse_if-3.ensures

alone : (c : After-is_some-2) → c.is_some-2.result ≡ some (reverse_fault c.args.self.corners.now) (length c.args.self.corners.now)
alone c = some_found _ _ c.is_some-2.ensures c.pair_sides.ensures.position

past6 : (c : In_ok-refuse_if-4) → Past 4 c.args.self.size.vertices c.args.self.corners.now
past6 c =
    let p = goal.at.In_ok-refuse_if-4 c in
    goes_on SideAlone (alone p.After-is_some-2) _ (past5 p.In_ok-refuse_if-3) c.in_ok-refuse_if-4.ensures

past7 : (c : In_ok-refuse_if-5) → Past 5 c.args.self.size.vertices c.args.self.corners.now
past7 c = goes_on OuterMissing c.outer_missing.ensures _ (past6 (goal.at.In_ok-refuse_if-5 c).In_ok-refuse_if-4) c.in_ok-refuse_if-5.ensures

refused : (n : ℕ) (ts twins : List ℕ) (r : Result ⊤ Refusal) (e : Refusal) → IsErrAnd r (λ x. x ≡ e) → first_of (table_ladder n ts) ≡ number e
    → TableChecked n ts r twins
refused n ts twins r e h is = rw (handed h) (record { answer = sym is; reverses = λ z. absurd (let a = number_above e in omega arith) })

pub returns-in_err-refuse_if : goal.returns-in_err-refuse_if
returns-in_err-refuse_if c =
    refused _ _ _ _ _ c.from_residual.ensures.1 (ends CornerTooHigh c.high_corner.ensures _ refl _ c.in_err-refuse_if.ensures)

pub returns-in_err-refuse_if-2 : goal.returns-in_err-refuse_if-2
returns-in_err-refuse_if-2 c =
    let p = goal.at.returns-in_err-refuse_if-2 c in
    refused _ _ _ _ _ c.from_residual-in_err-refuse_if-2.ensures.1
    (ends CornersEqual c.equal_corners.ensures _ (past3 p.In_ok-refuse_if) _ c.in_err-refuse_if-2.ensures)

pub returns-in_err-refuse_if-3 : goal.returns-in_err-refuse_if-3
returns-in_err-refuse_if-3 c =
    let p = goal.at.returns-in_err-refuse_if-3 c in
    refused _ _ _ _ _ c.from_residual-in_err-refuse_if-3.ensures.1
    (ends SideTwice (twice p.After-is_some) _ (past4 p.In_ok-refuse_if-2) _ c.in_err-refuse_if-3.ensures)

pub returns-in_err-refuse_if-4 : goal.returns-in_err-refuse_if-4
returns-in_err-refuse_if-4 c =
    let p = goal.at.returns-in_err-refuse_if-4 c in
    refused _ _ _ _ _ c.from_residual-in_err-refuse_if-4.ensures.1
    (ends SideAlone (alone p.After-is_some-2) _ (past5 p.In_ok-refuse_if-3) _ c.in_err-refuse_if-4.ensures)

pub returns-in_err-refuse_if-5 : goal.returns-in_err-refuse_if-5
returns-in_err-refuse_if-5 c =
    let p = goal.at.returns-in_err-refuse_if-5 c in
    refused _ _ _ _ _ c.from_residual-in_err-refuse_if-5.ensures.1
    (ends OuterMissing c.outer_missing.ensures _ (past6 p.In_ok-refuse_if-4) _ c.in_err-refuse_if-5.ensures)

-- each side has its reverse, so all of them were written
filled : (c : In_ok-refuse_if-4) → c.pair_sides.new.twins ≡ twins_of c.args.self.corners.now
filled c = c.pair_sides.ensures.reverses (none_found c.is_some-2.ensures (passed SideAlone refl c.in_ok-refuse_if-4.ensures))

pub turns_broken-requires : goal.turns_broken-requires
turns_broken-requires c =
    let p = goal.at.turns_broken-requires c in
    let table = c.args.self in
    let n = table.size.vertices in
    let few = table.size.in_range.enough in
    let w = table.whole in (
      paired n (2 * n - 4) table.corners.now (omega arith) (passed CornerTooHigh c.high_corner.ensures c.in_ok-refuse_if.ensures)
          (passed CornersEqual c.equal_corners.ensures c.in_ok-refuse_if-2.ensures)
          (passed SideTwice (twice p.After-is_some) c.in_ok-refuse_if-3.ensures)
          (passed SideAlone (alone p.After-is_some-2) c.in_ok-refuse_if-4.ensures),
      filled p.In_ok-refuse_if-4,
    )

pub returns : goal.returns
returns c =
    let p = goal.at.returns c in
    record {
      answer = c.refuse_if-6.ensures ∙ last TurnIncomplete c.turns_broken.ensures ∙ sym (past7 p.In_ok-refuse_if-5);
      reverses = λ z. filled p.In_ok-refuse_if-4;
    }
