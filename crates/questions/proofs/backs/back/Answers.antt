-- `back` meets the numbers of every question first.
use Rattle.std.proofs.Common.{rules}
use Rattle.mesh.specs.Reading.{array_fits, read_back}
use Rattle.questions.proofs.OrderLaws.{asked_refuses}
use Rattle.questions.proofs.backs.back.Goals as goal

pub returns-in_err-served : goal.returns-in_err-served
unfolding read_back
returns-in_err-served c =
    let a = c.args in
    asked_refuses a.n (array_fits a.n a.references.now a.service.now) a.j _ _ _ (search rules) c.in_err-served.ensures.met
