-- The round trip: the text of an accepted mesh, read, is that mesh's n, triangles and wood. So two different meshes have different
-- texts.
use Prim.Native.Nat.{ℕ, ◌+◌, ◌-◌, ◌*◌, ◌≤◌, ◌<◌}
use native.Mathlib.Omega.{arith}
use mathlib.Core.Path.{◌≡◌, sym, ◌∙◌, ap}
use mathlib.Core.List.{List, ◌++◌}
use mathlib.Core.Bool.{false}
use lib.ListN.{length, take, drop, length-drop, take-append-drop}
use lib.Seq.{ext_get_or, get_or-take, get_or-drop, length-take-le}
use lib.Dec.{leb, eqb}
use borrow.Author.Tests.{leb-false, eqb-true, not-false}
use Rattle.mesh.specs.Search.{some}
use Rattle.mesh.specs.Limits.{at, unused_mark, out_of_range, triangles_length, wood_length, InRange}
use Rattle.mesh.specs.Wood.{anchor_targets}
use Rattle.mesh.specs.Verdict.{wrong_lengths, corner_fault, anchor_edge_fault, target_fault, wood_fault, verdict, Clear}
use Rattle.mesh.proofs.Tests.{and_true, or_false, and_fails}
use Rattle.mesh.proofs.Search.{some_none}
use Rattle.mesh.proofs.Limits.{in_range}
use Rattle.mesh.proofs.Ladder.{free}
use Rattle.mesh.proofs.Verdict.{verdict_clear}
use Rattle.frames.specs.Frames.{width, mesh_text}
use Rattle.meshtext.specs.Reading.{mesh, read_text}
use Rattle.meshtext.proofs.TextTrip.{read_again}
use Rattle.meshtext.specs.Exact.{Written}

-- what the text needs of an accepted mesh
pub record Sized (n : ℕ) (ts ws : List ℕ) : Type 0 where
  pub range : InRange n
  pub triangles : length ts ≡ triangles_length n
  pub wood : length ws ≡ wood_length n

sizes : (n : ℕ) (ts ws : List ℕ) → out_of_range n ≡ false → wrong_lengths n ts ws ≡ false → Sized n ts ws
unfolding wrong_lengths
sizes n ts ws e f =
    let b = and_true (eqb (length ts) (triangles_length n)) (eqb (length ws) (wood_length n)) (not-false _ f) in
    record {
      range = in_range n e;
      triangles = eqb-true (length ts) (triangles_length n) b.0;
      wood = eqb-true (length ws) (wood_length n) b.1;
    }

module _ (n : ℕ) (ts ws : List ℕ) (accepted : verdict n ts ws ≡ 0) where
  clear : Clear n ts ws
  clear = verdict_clear n ts ws accepted

  pub sized : Sized n ts ws
  sized = sizes n ts ws (free clear 1) (free clear 2)

  corner : (p : ℕ) → p < length ts → at ts p < n
  corner p l = leb-false n (at ts p) (some_none (corner_fault n ts) (length ts) (free clear 3) p l)

  wood_right : (some (anchor_edge_fault ws) 9 ≡ false) × (some (target_fault n ws) (3 * n) ≡ false)
  unfolding wood_fault
  wood_right = or_false (some (anchor_edge_fault ws) 9) (some (target_fault n ws) (3 * n)) (free clear 9)

  target_in : (e : ℕ) → 9 ≤ e → e < 3 * n → at ws e < n
  target_in e l g =
      and_fails (leb 9 e) (leb n (at ws e)) (some_none (target_fault n ws) (3 * n) wood_right.1 e g)
      (λ h. absurd (omega (arith, leb-false 9 e h))) (λ h. leb-false n (at ws e) h)

  anchor_at : (i : ℕ) → i < 9 → at ws i ≡ at anchor_targets i
  anchor_at i l = eqb-true (at ws i) (at anchor_targets i) (not-false _ (some_none (anchor_edge_fault ws) 9 wood_right.0 i l))

  -- the anchors' targets are every mesh's, so the reader can put them before the rest
  pub wood_again : anchor_targets ++ drop 9 ws ≡ ws
  wood_again =
      let s = sized in
      let long : length (take 9 ws) ≡ 9 = length-take-le 9 ws (omega arith) in
      let front : take 9 ws ≡ anchor_targets =
      ext_get_or unused_mark (take 9 ws) anchor_targets long
      (λ i l. let g : i < 9 = omega arith in get_or-take 9 ws i unused_mark g ∙ anchor_at i g) in
      ap (λ (l : List ℕ). l ++ drop 9 ws) (sym front) ∙ take-append-drop 9 ws

  pub as_written : Written width n (2 * n - 4) (n - 3) ts (drop 9 ws)
  as_written =
      let s = sized in
      record {
        triangles = omega arith;
        vertices = omega (arith, length-drop 9 ws);
        n_small = omega arith;
        corners_small = λ j l. omega (arith, corner j l);
        targets_small = λ j l.
            let g = length-drop 9 ws in
            let h = target_in (9 + j) (omega arith) (omega arith) in
            let e = get_or-drop 9 ws j unused_mark in
            omega arith;
      }

  pub round_trip : read_text (mesh_text n ts ws) ≡ mesh n ts (drop 9 ws)
  unfolding read_text mesh_text
  round_trip = read_again width n (2 * n - 4) (n - 3) ts (drop 9 ws) as_written

n_of : (a b : ℕ) (ts us vs ws : List ℕ) → mesh a ts vs ≡ mesh b us ws → (a ≡ b) × (ts ≡ us) × (vs ≡ ws)
n_of a b ts us vs ws e = (cc, cc, cc)

-- the text determines the mesh
pub text_determines : (n m : ℕ) (ts us ws vs : List ℕ) → verdict n ts ws ≡ 0 → verdict m us vs ≡ 0 → mesh_text n ts ws ≡ mesh_text m us vs
    → (n ≡ m) × (ts ≡ us) × (ws ≡ vs)
text_determines n m ts us ws vs a b e =
    let q = n_of n m ts us (drop 9 ws) (drop 9 vs) (sym (round_trip n ts ws a) ∙ ap read_text e ∙ round_trip m us vs b) in
    (q.0, q.1, sym (wood_again n ts ws a) ∙ ap (λ (l : List ℕ). anchor_targets ++ l) q.2 ∙ wood_again m us vs b)
