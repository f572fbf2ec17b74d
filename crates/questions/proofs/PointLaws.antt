-- Point's refusals: what is refused with the number of one of them is refused with that one. And its answer says the number
-- that its definition says.
use Prim.Native.Nat.{ℕ}
use mathlib.Core.Path.{◌≡◌, ap}
use mathlib.Core.List.{List}
use lib.ListN.{length}
use lib.Dec.{leb, eqb}
use lib.Ieee.{Float}
use Rattle.std.specs.declared.result.Result.{Result}
use Rattle.std.specs.declared.result.Result.TheVariants.{Err}
use Rattle.mesh.specs.Limits.{out_of_range, coordinates_length}
use Rattle.mesh.specs.Point.{all_finite, point_refusal}
use Rattle.mesh.proofs.Tests.{by_bool}
use Rattle.tables.specs.declared.refusal.Refusal.{Refusal}
use Rattle.tables.specs.declared.refusal.Refusal.TheVariants.{VertexCount, Length, NoVertex, NotFinite}
use Rattle.tables.specs.Refusal.{number, number_met}
use Rattle.tables.proofs.RefusalLaws.{number_once}
use Rattle.questions.specs.declared.answer.Coordinates.{Coordinates}
use Rattle.questions.specs.Answers.{point_answer}

abbrev refused : Refusal → Result Coordinates Refusal
refused r = Err r

pub by_1 : (r : Refusal) → number r ≡ 1 → refused r ≡ refused VertexCount
by_1 r e = ap refused (number_once r VertexCount e)

pub by_2 : (r : Refusal) → number r ≡ 2 → refused r ≡ refused Length
by_2 r e = ap refused (number_once r Length e)

pub by_15 : (r : Refusal) → number r ≡ 15 → refused r ≡ refused NoVertex
by_15 r e = ap refused (number_once r NoVertex e)

pub by_17 : (r : Refusal) → number r ≡ 17 → refused r ≡ refused NotFinite
by_17 r e = ap refused (number_once r NotFinite e)

pub ruleset by_number = (by_1, by_2, by_15, by_17)

-- the number that Point's answer says
pub point_met : (n : ℕ) (cs : List Float) (v : ℕ) → number_met (point_answer n cs v) ≡ point_refusal n cs v
unfolding point_answer point_refusal
point_met n cs v =
    by_bool (out_of_range n) (λ o. rw o)
    (λ o. by_bool (eqb (length cs) (coordinates_length n))
    (λ l. by_bool (leb n v) (λ u. rw (o, l, u)) (λ u. by_bool (all_finite cs v) (λ t. rw (o, l, u, t)) (λ t. rw (o, l, u, t)))) (λ l. rw (o, l)))
