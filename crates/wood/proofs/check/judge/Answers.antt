-- `judge`: the triangles' number decides, and where there is none the wood's, over the two tables that are filled by then.
use mathlib.Core.Path.{refl, ap, ◌∙◌}
use Rattle.mesh.specs.Limits.{at}
use Rattle.tables.proofs.CheckedLaws.{twins_read, positions_each}
use Rattle.tables.proofs.RefusalLaws.{number_above}
use Rattle.tables.proofs.RungLaws.{handed}
use Rattle.wood.proofs.CheckedLaws.{judged_by_triangles, clear, reversed, meshed, judged_by_wood}
use native.Mathlib.Omega.{arith}
use Rattle.wood.proofs.check.judge.Goals as goal

pub returns-in_err-check_triangles : goal.returns-in_err-check_triangles
returns-in_err-check_triangles c =
    rw (handed c.from_residual.ensures.1)
    (judged_by_triangles _ _ _ _ _ c.requires _ _ c.in_err-check_triangles.ensures (λ z. let l = number_above c.in_err-check_triangles.field-0.0 in omega arith) _)

pub fill_positions-requires : goal.fill_positions-requires
fill_positions-requires c = (meshed _ _ _ _ _ c.requires _ _ c.in_ok-check_triangles.ensures refl, c.requires.positions_length)

pub invariant_of-check_wood : goal.invariant_of-check_wood
invariant_of-check_wood c =
    let T = c.in_ok-check_triangles.ensures in
    record {
      whole = c.requires.triangles_length_holds;
      clear = clear _ _ _ _ _ c.requires _ _ T refl;
      twin_table = twins_read _ _ (reversed _ _ _ _ _ c.requires _ _ T refl);
      position_table = λ e l. ap (λ x. at x e) c.fill_positions.ensures ∙ positions_each _ _ _ e l;
    }

pub returns : goal.returns
returns c = judged_by_wood _ _ _ _ _ c.requires _ _ c.in_ok-check_triangles.ensures refl _ _ c.fill_positions.ensures c.check_wood.ensures
