-- "Used", the label of two vertices by what the two searches for a colour found, and the edge that joins them, as the code meets them.
use Prim.Native.Nat.{ℕ, ◌+◌, ◌*◌, ◌/◌, ◌≤◌, ◌<◌}
use mathlib.Core.Path.{◌≡◌, sym, ap, subst, ◌∙◌}
use mathlib.Core.List.{List}
use mathlib.Core.Bool.{true}
use native.Mathlib.Omega.{arith}
use lib.Dec.{ltb, eqb}
use borrow.Author.Tests.{le-leb, lt-ltb, le-ltb, eq-eqb, ltb-true, ltb-false}
use Rattle.mesh.specs.Limits.{unused_mark, most_vertices}
use Rattle.mesh.specs.Wood.{target, edge_of, used, colour_to, Label, out, into, bare, label_of, edge_at}
use Rattle.mesh.specs.Search.{first, first_from}
use Rattle.mesh.proofs.Search.{first_none, lowest_found, lowest_found_none}
use Rattle.std.specs.declared.option.Option.TheVariants.{Some, None}
use Rattle.tables.specs.Edge.{colour_between}
use Rattle.mesh.proofs.Tests.{by_bool}

pub used_inner : (j : ℕ) → 9 ≤ j → used j ≡ true
unfolding used
used_inner j l = rw (le-leb 9 j l)

-- an index is below 3n exactly when the vertex that it leaves is below n
pub leaves_below : (n j : ℕ) → ltb (j / 3) n ≡ ltb j (3 * n)
leaves_below n j =
    by_bool (ltb (j / 3) n) (λ t. t ∙ sym (lt-ltb j (3 * n) (let l = ltb-true (j / 3) n t in omega arith)))
    (λ t. t ∙ sym (le-ltb j (3 * n) (let l = ltb-false (j / 3) n t in omega arith)))

module _ (ws : List ℕ) (a b : ℕ) where
  pub colour_0 : target ws (3 * a) ≡ b → colour_to ws a b ≡ 0
  unfolding colour_to first first_from
  colour_0 e = let z : 3 * a + 0 ≡ 3 * a = omega arith in rw (z, eq-eqb (target ws (3 * a)) b e)

  pub label_out : colour_to ws a b < 3 → label_of ws a b ≡ out (colour_to ws a b)
  unfolding label_of
  label_out l = rw (lt-ltb (colour_to ws a b) 3 l)

  pub label_into : 3 ≤ colour_to ws a b → colour_to ws b a < 3 → label_of ws a b ≡ into (colour_to ws b a)
  unfolding label_of
  label_into g l = rw (le-ltb (colour_to ws a b) 3 g, lt-ltb (colour_to ws b a) 3 l)

  pub label_bare : 3 ≤ colour_to ws a b → 3 ≤ colour_to ws b a → label_of ws a b ≡ bare
  unfolding label_of
  label_bare g l = rw (le-ltb (colour_to ws a b) 3 g, le-ltb (colour_to ws b a) 3 l)

  pub edge_out : colour_to ws a b < 3 → edge_at ws a b ≡ 3 * a + colour_to ws a b
  unfolding edge_at
  edge_out l = rw (label_out l)

  pub edge_into : 3 ≤ colour_to ws a b → colour_to ws b a < 3 → edge_at ws a b ≡ 3 * b + colour_to ws b a
  unfolding edge_at
  edge_into g l = rw (label_into g l)

  pub edge_none : 3 ≤ colour_to ws a b → 3 ≤ colour_to ws b a → edge_at ws a b ≡ unused_mark
  unfolding edge_at
  edge_none g l = rw (label_bare g l)

  -- between numbers that can be vertices it fits 16 bits
  pub edge_fits : a ≤ most_vertices → b ≤ most_vertices → edge_at ws a b < 65536
  edge_fits l m =
      by_bool (ltb (colour_to ws a b) 3)
      (λ t. let h : colour_to ws a b < 3 = ltb-true (colour_to ws a b) 3 t in omega (arith, edge_out h))
      (λ t.
      let h : 3 ≤ colour_to ws a b = ltb-false (colour_to ws a b) 3 t in
      by_bool (ltb (colour_to ws b a) 3)
      (λ u. let k : colour_to ws b a < 3 = ltb-true (colour_to ws b a) 3 u in omega (arith, edge_into h k))
      (λ u. let k : 3 ≤ colour_to ws b a = ltb-false (colour_to ws b a) 3 u in omega (arith, edge_none h k)))

-- what a search for the colour found
module _ (ws : List ℕ) (a b : ℕ) where
  pub between_some : (k : ℕ) → colour_between ws a b ≡ Some k → (k ≡ colour_to ws a b) × (k < 3)
  unfolding colour_to
  between_some k e = lowest_found _ 3 k e

  pub between_none : colour_between ws a b ≡ None → 3 ≤ colour_to ws a b
  unfolding colour_to
  between_none e = let f = first_none (λ c. eqb (target ws (edge_of a c)) b) 3 (lowest_found_none _ 3 e) in omega arith

-- a label's colour
abbrev pub label_colour : Label → ℕ
label_colour (out c) = c
label_colour (into c) = c
label_colour bare = 0

-- the label by what both searches found
module _ (ws : List ℕ) (a b : ℕ) where
  pub found_out : (k : ℕ) → colour_between ws a b ≡ Some k → out k ≡ label_of ws a b
  found_out k e =
      let f = between_some ws a b k e in
      ap out f.0 ∙ sym (label_out ws a b (omega (arith, f.0, f.1)))

  pub found_into : (k : ℕ) → colour_between ws a b ≡ None → colour_between ws b a ≡ Some k → into k ≡ label_of ws a b
  found_into k n e =
      let f = between_some ws b a k e in
      ap into f.0 ∙ sym (label_into ws a b (between_none ws a b n) (omega (arith, f.0, f.1)))

  pub found_bare : colour_between ws a b ≡ None → colour_between ws b a ≡ None → bare ≡ label_of ws a b
  found_bare n m = sym (label_bare ws a b (between_none ws a b n) (between_none ws b a m))

  -- it is one of three
  pub label_small : label_colour (label_of ws a b) < 3
  unfolding label_of
  label_small =
      by_bool (ltb (colour_to ws a b) 3) (λ t. rw t (ltb-true (colour_to ws a b) 3 t))
      (λ t. rw t (by_bool (ltb (colour_to ws b a) 3) (λ u. rw u (ltb-true (colour_to ws b a) 3 u)) (λ u. rw u (omega arith))))

  pub colour_out : (k : ℕ) → out k ≡ label_of ws a b → k < 3
  colour_out k e = subst (λ l. label_colour l < 3) (sym e) label_small

  pub colour_into : (k : ℕ) → into k ≡ label_of ws a b → k < 3
  colour_into k e = subst (λ l. label_colour l < 3) (sym e) label_small
