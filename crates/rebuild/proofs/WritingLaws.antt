-- The table that a running cursor leaves: one place more of the references, written or not, and what stands there at the end.
use Prim.Native.Nat.{ℕ, ◌+◌, ◌*◌, ◌/◌, ◌≤◌, ◌<◌}
use native.Mathlib.Omega.{arith}
use mathlib.Core.Path.{◌≡◌, sym, ap, ◌∙◌}
use mathlib.Core.List.{List, ◌++◌, append-nil}
use mathlib.Core.Bool.{Bool, true, false, cond, not}
use lib.ListN.{length, take, length-append}
use lib.Seq.{take_all, length-take-le}
use lib.Dec.{eqb}
use borrow.Author.Tests.{ne_eqb, eqb-true}
use borrow.Rule.Slice.PartMut.{put_mid}
use Rattle.std.proofs.lemmas.Slice.{take-put_mid}
use Rattle.mesh.specs.Search.{gather}
use Rattle.mesh.specs.Array.{Hand, hand_at}
use Rattle.mesh.specs.Rebuild.{triangle_beside, written_at, triangles_from}
use Rattle.mesh.proofs.Tests.{by_bool}
use Rattle.mesh.proofs.Lists.{gather_more, gather_grows}
use Rattle.mesh.proofs.Written.{writes, length_beside, written_here, written_none}
use Rattle.rebuild.specs.Decode.{Decoded}

-- before place i the table's front, up to the cursor, is what the places so far have written
pub record Written (refs ws ts : List ℕ) (i cursor : ℕ) : Type 0 where
  pub within : cursor ≤ length ts
  pub front : take cursor ts ≡ gather (written_at refs ws) i

-- the triangle at place i, by its tables, its edge and its hand
pub triangle_placed : (refs ws refs' ws' : List ℕ) (j i : ℕ) (h : Hand) (cs : List ℕ) → (refs' ≡ refs) × (ws' ≡ ws) → j ≡ i / 2 → h ≡ hand_at i
    → cs ≡ triangle_beside h refs' ws' j → cs ≡ triangle_beside (hand_at i) refs ws (i / 2)
triangle_placed refs ws refs' ws' j i h cs t e g k = rw (t.0, t.1, e, g) at k

module _ (refs ws ts : List ℕ) (i cursor : ℕ) (W : Written refs ws ts i cursor) where
  cursor_is : cursor ≡ length (gather (written_at refs ws) i)
  cursor_is = sym (length-take-le cursor ts W.within) ∙ ap length W.front

  pub unwritten_more : writes refs ws i ≡ false → Written refs ws ts (i + 1) cursor
  unwritten_more t = record {
    within = W.within;
    front = W.front ∙ sym (gather_more (written_at refs ws) i ∙ rw (written_none refs ws i t) (append-nil (gather (written_at refs ws) i)));
  }

  module _ (t : writes refs ws i ≡ true) where
    written_then : gather (written_at refs ws) (i + 1) ≡ gather (written_at refs ws) i ++ triangle_beside (hand_at i) refs ws (i / 2)
    written_then = gather_more (written_at refs ws) i ∙ ap (λ (l : List ℕ). gather (written_at refs ws) i ++ l) (written_here refs ws i t)

    pub written_more : (k : ℕ) (cs ts' : List ℕ) → cs ≡ triangle_beside (hand_at i) refs ws (i / 2) → ts' ≡ put_mid cursor k ts cs → length ts' ≡ length ts
        → cursor + 3 ≤ length ts → Written refs ws ts' (i + 1) (cursor + 3)
    written_more k cs ts' e p l room =
        let m : length cs ≡ 3 = ap length e ∙ length_beside (hand_at i) refs ws (i / 2) in
        record {
          within = omega (arith, l);
          front = ap (take (cursor + 3)) p ∙ take-put_mid cursor k ts cs (cursor + 3) (omega (arith, m)) W.within ∙ rw (W.front, e) (sym written_then);
        }

    -- no room for one more
    pub written_past : (n : ℕ) → i < 6 * n → length ts < cursor + 3 → ◌≡◌ {A = ℕ} 18 (cond (eqb (length (triangles_from n refs ws)) (length ts)) 0 18)
    unfolding triangles_from
    written_past n l g =
        let a = ap length written_then ∙ length-append (gather (written_at refs ws) i) (triangle_beside (hand_at i) refs ws (i / 2)) in
        let b = length_beside (hand_at i) refs ws (i / 2) in
        let m = gather_grows (written_at refs ws) (i + 1) (6 * n) (omega arith) in
        rw (ne_eqb (length (gather (written_at refs ws) (6 * n))) (length ts) (λ e. let c = cursor_is in omega arith))

  -- what the cursor and the table say at the end
  pub decoded_end : (n k : ℕ) (old : List ℕ) → i ≡ 6 * n → length ts ≡ length old → k ≡ cond (not (eqb cursor (length ts))) 18 0 → Decoded n refs ws old k ts
  unfolding triangles_from
  decoded_end n k old e l h =
      let c : cursor ≡ length (gather (written_at refs ws) (6 * n)) = cursor_is ∙ ap (λ (j : ℕ). length (gather (written_at refs ws) j)) e in
      let b : Bool = eqb (length (gather (written_at refs ws) (6 * n))) (length old) in
      let s : k ≡ cond b 0 18 = h ∙ rw (c, l) (by_bool b (λ t. rw t) (λ t. rw t)) in
      record {
        exact = s;
        table = λ z.
            by_bool b
            (λ t.
            let g = eqb-true (length (gather (written_at refs ws) (6 * n))) (length old) t in
            sym (take_all cursor ts (omega (arith, c, l))) ∙ W.front ∙ ap (gather (written_at refs ws)) e)
            (λ f. absurd (let y : k ≡ 18 = s ∙ rw f in omega arith));
      }
