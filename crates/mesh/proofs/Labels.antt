-- What a label says of the wood, and back: out c is that the edge of colour c ends there, into c that one comes from there. An edge
-- is the label that its two ends see of each other where no other edge joins them.
use Prim.Native.Nat.{ℕ, ◌+◌, ◌*◌, ◌<◌}
use mathlib.Core.Path.{◌≡◌, subst}
use mathlib.Core.List.{List}
use native.Mathlib.Omega.{arith}
use lib.Dec.{ltb, eqb}
use borrow.Author.Tests.{ltb-true, lt-ltb, eqb-true, eq-eqb, ne_eqb}
use Rattle.mesh.specs.Wood.{out, into, bare, target, colour_to, label_of}
use Rattle.mesh.proofs.Tests.{by_bool}
use Rattle.mesh.proofs.Search.{first_law, first_only, first_none}

pub label_is_out : (ws : List ℕ) (a b c : ℕ) → label_of ws a b ≡ out c → (c < 3) × (target ws (3 * a + c) ≡ b)
unfolding label_of colour_to
label_is_out ws a b c e = by_bool (ltb (colour_to ws a b) 3)
    (λ t. let l : colour_to ws a b < 3 = ltb-true (colour_to ws a b) 3 t in
    let q : colour_to ws a b ≡ c = (let z : out (colour_to ws a b) ≡ out c = rw t at e in cc) in
    (subst (λ x. x < 3) q l, subst (λ x. target ws (3 * a + x) ≡ b) q (eqb-true (target ws (3 * a + colour_to ws a b)) b ((first_law (λ c. eqb (target ws (3 * a + c)) b) 3).hit l))))
    (λ t. by_bool (ltb (colour_to ws b a) 3)
    (λ u. absurd (let z : into (colour_to ws b a) ≡ out c = rw (t, u) at e in let y : ◌≡◌ {A = ℕ} 0 1 = cc in omega arith))
    (λ u. absurd (let z : bare ≡ out c = rw (t, u) at e in let y : ◌≡◌ {A = ℕ} 0 1 = cc in omega arith)))

pub label_is_into : (ws : List ℕ) (a b c : ℕ) → label_of ws a b ≡ into c → (c < 3) × (target ws (3 * b + c) ≡ a)
unfolding label_of colour_to
label_is_into ws a b c e = by_bool (ltb (colour_to ws a b) 3)
    (λ t. absurd (let z : out (colour_to ws a b) ≡ into c = rw t at e in let y : ◌≡◌ {A = ℕ} 0 1 = cc in omega arith))
    (λ t. by_bool (ltb (colour_to ws b a) 3)
    (λ u. let l : colour_to ws b a < 3 = ltb-true (colour_to ws b a) 3 u in
    let q : colour_to ws b a ≡ c = (let z : into (colour_to ws b a) ≡ into c = rw (t, u) at e in cc) in
    (subst (λ x. x < 3) q l, subst (λ x. target ws (3 * b + x) ≡ a) q (eqb-true (target ws (3 * b + colour_to ws b a)) a ((first_law (λ c. eqb (target ws (3 * b + c)) a) 3).hit l))))
    (λ u. absurd (let z : bare ≡ into c = rw (t, u) at e in let y : ◌≡◌ {A = ℕ} 0 1 = cc in omega arith)))

-- the edge of colour c from a to b, where no other colour of a goes there
module _ (ws : List ℕ) (a b c : ℕ) (l : c < 3) (e : target ws (3 * a + c) ≡ b)
    (only : (d : ℕ) → d < 3 → target ws (3 * a + d) ≡ b → d ≡ c) where
  found : colour_to ws a b ≡ c
  unfolding colour_to
  found =
      first_only (λ c. eqb (target ws (3 * a + c)) b) 3 c l (eq-eqb (target ws (3 * a + c)) b e)
      (λ d ld t. only d ld (eqb-true (target ws (3 * a + d)) b t))

  -- its source sees it go out
  pub sees_out : label_of ws a b ≡ out c
  unfolding label_of
  sees_out = rw (found, lt-ltb c 3 l)

  -- its target sees it come in, where no edge goes back
  pub sees_into : ((d : ℕ) → d < 3 → target ws (3 * b + d) ≡ a → ⊥) → label_of ws b a ≡ into c
  unfolding label_of colour_to
  sees_into back =
      let none : colour_to ws b a ≡ 3 =
      first_none (λ d. eqb (target ws (3 * b + d)) a) 3 (λ d ld. ne_eqb (target ws (3 * b + d)) a (back d ld)) in
      rw (none, found, lt-ltb c 3 l)
