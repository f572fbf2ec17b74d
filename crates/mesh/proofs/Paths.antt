-- Paths along one colour. An anchor stays where it is, an inner vertex goes to its target; so a path that has met an anchor stays
-- there. Where targets are vertices a path stays among them, and the anchor that it ever reaches it reaches within n steps, since
-- the shortest way there passes no vertex twice.
use Prim.Native.Nat.{ℕ, ◌+◌, ◌-◌, ◌*◌, ◌≤◌, ◌<◌}
use mathlib.Core.Path.{◌≡◌, sym, ap, ◌∙◌}
use mathlib.Core.List.{List}
use native.Mathlib.Omega.{arith}
use lib.Dec.{ltb}
use borrow.Author.Tests.{ltb-true, ltb-false, lt-ltb, le-ltb}
use Rattle.mesh.specs.Search.{iterate}
use Rattle.mesh.specs.Wood.{target, edge_of, along}
use Rattle.mesh.proofs.Tests.{by_bool}
use Rattle.mesh.proofs.Iterate.{iterate_add, iterate_fixed, iterate_keeps, short_of}

-- one step
pub along_anchor : (ws : List ℕ) (c v : ℕ) → v < 3 → along ws c v ≡ v
unfolding along
along_anchor ws c v l = rw (lt-ltb v 3 l)

pub along_inner : (ws : List ℕ) (c v : ℕ) → 3 ≤ v → along ws c v ≡ target ws (edge_of v c)
unfolding along
along_inner ws c v l = rw (le-ltb v 3 l)

-- where the path from v is at an anchor u after j steps, it still is after k
pub path_stays : (ws : List ℕ) (c j k v u : ℕ) → iterate (along ws c) j v ≡ u → u < 3 → j ≤ k → iterate (along ws c) k v ≡ u
path_stays ws c j k v u e l g =
    let s : k - j + j ≡ k = omega arith in
    ap (λ (i : ℕ). iterate (along ws c) i v) (sym s) ∙ iterate_add (along ws c) (k - j) j v ∙ ap (iterate (along ws c) (k - j)) e ∙
    iterate_fixed (along ws c) (k - j) u (along_anchor ws c u l)

module _ (n : ℕ) (ws : List ℕ) (targets : (e : ℕ) → 9 ≤ e → e < 3 * n → target ws e < n) (c : ℕ) (colour : c < 3) where
  along_below : (v : ℕ) → v < n → along ws c v < n
  along_below v l =
      by_bool (ltb v 3) (λ t. rw (along_anchor ws c v (ltb-true v 3 t)) l)
      (λ t.
      let h : 3 ≤ v = ltb-false v 3 t in
      rw (along_inner ws c v h) (targets (edge_of v c) (omega arith) (omega arith)))

  pub path_below : (k v : ℕ) → v < n → iterate (along ws c) k v < n
  path_below k v l = iterate_keeps (λ x. x < n) (along ws c) along_below k v l

  pub ends_in_time : (k v : ℕ) → v < n → iterate (along ws c) k v ≡ c → iterate (along ws c) n v ≡ c
  ends_in_time k v l e =
      let m = short_of (along ws c) n v c k (λ i. path_below i v l) e in
      let g = m.1 in
      path_stays ws c m.0 n v c m.2 colour (omega arith)
