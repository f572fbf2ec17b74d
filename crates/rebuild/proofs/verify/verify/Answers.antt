-- `verify` lends parts of its own tables that have the right lengths; a refused build decides, and else the comparison.
use mathlib.Core.Path.{refl, ◌∙◌}
use native.Mathlib.Omega.{arith}
use lib.Seq.{length-take-le}
use Rattle.tables.proofs.RefusalLaws.{number_above}
use Rattle.rebuild.proofs.VerifyLaws.{not_built, built_anew}
use Rattle.rebuild.proofs.verify.verify.Goals as goal

pub returns-in-Ok : goal.returns-in-Ok
returns-in-Ok c =
    let a = c.args in
    built_anew a.given.size.vertices a.triangles.now a.wood.now a.given.references.now _ _ _ _ _ c.in-Ok.ensures
    (length-take-le _ _ (omega arith) ∙ c.references.ensures) (length-take-le _ _ (omega arith) ∙ c.edges.ensures) refl _ _ c.ne.ensures c.refuse_if.ensures

pub returns-in-Err : goal.returns-in-Err
returns-in-Err c =
    let a = c.args in
    not_built a.given.size.vertices a.triangles.now a.wood.now a.given.references.now _ _ _ _ _ c.in-Err.ensures
    (length-take-le _ _ (omega arith) ∙ c.references.ensures) (length-take-le _ _ (omega arith) ∙ c.edges.ensures) (λ e. let p = number_above c.in-Err.field-0 in omega arith)
