-- Two tables of paired sides with the same third corners hold the same triangles: a triangle (a,b,c) of one gives c as the third
-- corner of the side a to b in both, so the other has that side, with c after it.
use Prim.Native.Nat.{ℕ, ◌≤◌, ◌<◌}
use mathlib.Core.Path.{◌≡◌, refl, sym, ap, ◌∙◌, subst}
use mathlib.Core.List.{List}
use native.Mathlib.Omega.{arith}
use borrow.Author.Tests.{lt-ltb}
use Rattle.mesh.specs.Limits.{unused_mark}
use Rattle.mesh.specs.Sides.{next, side_at, third}
use Rattle.mesh.specs.Mesh.{Triangle}
use Rattle.mesh.proofs.Positions.{side_at_law, third_at}
use Rattle.mesh.specs.Paired.{Paired}
use Rattle.mesh.proofs.Paired.{next_within, third_is, neighbour_side}
use Rattle.theorems.specs.SameMesh.{SameTriangles}

carried : (n : ℕ) (ts us : List ℕ) → Paired n ts → Paired n us → n ≤ unused_mark → third ts ≡ third us
    → (a b c : ℕ) → Triangle ts a b c → Triangle us a b c
carried n ts us P Q few e a b c t =
    let p : ℕ = t.position in
    let l = t.within in
    let x : third us a b ≡ c = ap (λ f. f a b) (sym e) ∙ third_is n ts P a b p l t.first_is t.second_is ∙ t.third_is in
    let k : c < n = subst (λ z. z < n) t.third_is (P.corner (next (next p)) (next_within n ts P (next p) (next_within n ts P p l))) in
    let m : third us a b < n = omega arith in
    let i = neighbour_side n us Q few a b (lt-ltb (third us a b) n m) in
    let s = side_at_law us a b i in
    record { position = side_at us a b; within = i; first_is = s.0; second_is = s.1; third_is = sym (third_at us a b (side_at us a b) refl i) ∙ x }

pub same_triangles : (n : ℕ) (ts us : List ℕ) → Paired n ts → Paired n us → n ≤ unused_mark → third ts ≡ third us → SameTriangles ts us
same_triangles n ts us P Q few e a b c = (carried n ts us P Q few e a b c, carried n us ts Q P few (sym e) a b c)
