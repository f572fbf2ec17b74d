-- A verdict of 0 is a mesh, sentence by sentence, and back, by the ties of the numbers one after the other. The reach has no test: it is
-- proved from the path rule, and where the mesh is given it is not needed.
use Prim.Native.Nat.{ℕ, ◌-◌, ◌*◌, ◌≤◌}
use mathlib.Core.Path.{◌≡◌, ap, ◌∙◌}
use mathlib.Core.List.{List}
use mathlib.Core.Logic.{inr}
use native.Mathlib.Omega.{arith}
use Rattle.mesh.specs.Limits.{unused_mark}
use Rattle.mesh.specs.Sides.{next, from}
use Rattle.mesh.specs.Paired.{Paired}
use Rattle.mesh.specs.Ladder.{end, past}
use Rattle.mesh.specs.Verdict.{verdict, Clear}
use Rattle.mesh.specs.Mesh.{Triangle, Side, Mesh}
use Rattle.mesh.proofs.Positions.{next_3}
use Rattle.mesh.proofs.Paired.{next_within}
use Rattle.mesh.proofs.Limits.{in_range, range_in}
use Rattle.mesh.proofs.Ladder.{free}
use Rattle.mesh.proofs.Verdict.{verdict_clear, clear_verdict, clear_of}
use Rattle.theorems.proofs.Acceptance.Table.{tied_2, tied_3, tied_4, tied_5, tied_6, sides_paired, tied_7, tied_8}
use Rattle.theorems.proofs.Acceptance.Edges.{tied_9, tied_10, tied_11}
use Rattle.theorems.proofs.Acceptance.Rules.{tied_12, tied_13}
use Rattle.theorems.proofs.Acceptance.Paths.{reached}

clear_mesh : (n : ℕ) (ts ws : List ℕ) → Clear n ts ws → Mesh n ts ws
clear_mesh n ts ws A =
    let range = in_range n (free A 1) in
    let low = range.enough in
    let high = range.not_too_many in
    let lengths = (tied_2 n ts ws).0 (free A 2) in
    let corners = (tied_3 n ts).0 (free A 3) in
    let differ = (tied_4 ts).0 (free A 4) in
    let once = (tied_5 ts).0 (free A 5) in
    let reverse = (tied_6 ts).0 (free A 6) in
    let P : Paired n ts = sides_paired n ts (2 * n - 4) (let e = lengths.0 in omega arith) corners differ once reverse in
    let few : n ≤ unused_mark = omega arith in
    let outer = (tied_7 ts once).0 (free A 7) in
    let turns = (tied_8 n ts P few).0 (free A 8) in
    let wood = (tied_9 n ws).0 (free A 9) in
    let edges = (tied_10 n ts ws P few).0 (free A 10) in
    let paths = (tied_13 n ws wood.1).0 (free A 13) in
    record {
      enough = low;
      not_too_many = high;
      triangles_length_holds = lengths.0;
      wood_length_holds = lengths.1;
      corners = corners;
      corners_differ = differ;
      side_once = once;
      reverse = reverse;
      outer = outer;
      in_triangle = turns.0;
      one_turn = turns.1;
      anchor_edges = wood.0;
      targets = wood.1;
      joins = edges.0;
      pair_once = edges.1;
      anchor_rule = (tied_11 n ws).0 (free A 11);
      turn_rule_holds = (tied_12 n ts ws P high lengths.1 wood.0 edges.0 edges.1).0 (free A 12);
      path_rule = paths;
      reach =
          reached n ts ws wood.1 (λ e h l. edges.0 e (l, inr (inr (inr h)))) reverse (outer_02 outer) (outer_10 P outer)
          (λ v h l. paths v 0 h l (omega arith));
    }
  where
    outer_02 : Triangle ts 0 2 1 → Side ts 0 2
    outer_02 t = record { position = t.position; within = t.within; starts = t.first_is; ends = t.second_is }

    outer_10 : Paired n ts → Triangle ts 0 2 1 → Side ts 1 0
    outer_10 P t =
        record {
          position = next (next t.position);
          within = next_within n ts P (next t.position) (next_within n ts P t.position t.within);
          starts = t.third_is;
          ends = ap (from ts) (next_3 t.position) ∙ t.first_is;
        }

mesh_clear : (n : ℕ) (ts ws : List ℕ) → Mesh n ts ws → Clear n ts ws
mesh_clear n ts ws M =
    let low = M.enough in
    let high = M.not_too_many in
    let P : Paired n ts =
    sides_paired n ts (2 * n - 4) (let e = M.triangles_length_holds in omega arith) M.corners M.corners_differ M.side_once M.reverse in
    let few : n ≤ unused_mark = omega arith in
    clear_of n ts ws (range_in n (record { enough = low; not_too_many = high })) ((tied_2 n ts ws).1 (M.triangles_length_holds, M.wood_length_holds))
    (past ((tied_3 n ts).1 M.corners)
    (past ((tied_4 ts).1 M.corners_differ)
    (past ((tied_5 ts).1 M.side_once)
    (past ((tied_6 ts).1 M.reverse)
    (past ((tied_7 ts M.side_once).1 M.outer)
    (past ((tied_8 n ts P few).1 (M.in_triangle, M.one_turn)) end))))))
    (past ((tied_9 n ws).1 (M.anchor_edges, M.targets))
    (past ((tied_10 n ts ws P few).1 (M.joins, M.pair_once))
    (past ((tied_11 n ws).1 M.anchor_rule)
    (past ((tied_12 n ts ws P high M.wood_length_holds M.anchor_edges M.joins M.pair_once).1 M.turn_rule_holds)
    (past ((tied_13 n ws M.targets).1 M.path_rule) end)))))

-- what is accepted is a mesh
pub accepted_is_mesh : (n : ℕ) (ts ws : List ℕ) → verdict n ts ws ≡ 0 → Mesh n ts ws
accepted_is_mesh n ts ws e = clear_mesh n ts ws (verdict_clear n ts ws e)

-- and a mesh is accepted
pub mesh_is_accepted : (n : ℕ) (ts ws : List ℕ) → Mesh n ts ws → verdict n ts ws ≡ 0
mesh_is_accepted n ts ws M = clear_verdict n ts ws (mesh_clear n ts ws M)
