-- The text of a rebuilt mesh: a table's frames by the chunks that are read, the whole from head and tables, and what the engine's
-- answer says of it.
use Prim.Native.Nat.{ℕ, ◌+◌, ◌-◌, ◌*◌, ◌/◌, ◌≤◌, ◌<◌}
use native.Mathlib.Omega.{arith}
use mathlib.Core.Path.{◌≡◌, sym, ◌∙◌, ap}
use mathlib.Core.List.{List, ◌++◌}
use lib.ListN.{length, get_or, take, drop, replicate, get_or-append, length-append, length-drop}
use lib.Seq.{drop-append_seam}
use borrow.Author.Tests.{ne_eqb}
use borrow.Rule.Slice.PartMut.{put_mid}
use Rattle.std.specs.Bool.{⊤}
use Rattle.std.specs.declared.result.Result.{Result}
use Rattle.std.specs.declared.result.Result.TheVariants.{Ok, Err}
use Rattle.std.proofs.lemmas.Grind.{get_or_default_zero}
use Rattle.std.proofs.lemmas.List.{get_or-drop, drop-drop}
use Rattle.mesh.specs.Limits.{at, most_vertices, unused_mark, InRange, triangles_length, wood_length, references_length}
use Rattle.mesh.specs.Search.{gather}
use Rattle.mesh.specs.Rebuild.{rebuild_says, rebuilt_wood, rebuilt_triangles}
use Rattle.mesh.proofs.Lists.{length_tabulate}
use Rattle.tables.specs.declared.refusal.Refusal.{Refusal}
use Rattle.tables.specs.Refusal.{number}
use Rattle.tables.proofs.RefusalLaws.{number_above, left_filled}
use Rattle.tables.proofs.TableLaws.{prefix_long}
use Rattle.frames.specs.Frames.{width, triangle_code, vertex_code, head_frame, triple_frame, frame_of, table_frames, house_text, mesh_text, refusal_line}
use Rattle.frames.specs.Lines.{head_length, frame_length, text_limit}
use Rattle.frames.specs.Put.{Wrote, Stored}
use Rattle.frames.proofs.StoreLaws.{stored_length, stored_as, stored_wider, stored_more, lines_more}
use Rattle.frames.proofs.PutLaws.{wrote_over, wrote_stored}
use Rattle.frames.proofs.PartLaws.{part_done, part_placed}
use Rattle.frames.proofs.FrameLaws.{length_head, length_triple}
use Rattle.rebuild.specs.Decode.{RightSizes}
use Rattle.rebuild.specs.Rebuild.{rebuild_number, Rebuild}
use Rattle.rebuild.proofs.RebuildLaws.{rebuild_says_holds}
use Rattle.arraytext.specs.ArrayText.{reference_in, references_in}
use Rattle.arraytext.specs.RebuildLines.{rebuild_text}

-- a writer with room for its frame has written it
pub frame_done : (frame part : List ℕ) (r : Result ℕ Refusal) (part' : List ℕ) → length frame ≤ length part → Wrote frame part r part' → r ≡ Ok (length frame)
frame_done frame part r part' l w = (wrote_over (length frame) frame part r part' w l).0

pub triple_done : (code a b c : ℕ) (part : List ℕ) (r : Result ℕ Refusal) (part' : List ℕ) → frame_length width ≤ length part
    → Wrote (triple_frame width code a b c) part r part' → r ≡ Ok (length (triple_frame width code a b c))
triple_done code a b c part r part' l w =
    let e = length_triple width code a b c in
    frame_done (triple_frame width code a b c) part r part' (omega arith) w

-- chunk i of a table
module _ (table chunk rest : List ℕ) (i : ℕ) (cut : drop (3 * i) table ≡ chunk ++ rest) (whole : length chunk ≡ 3) where
  pub chunk_within : 3 * (i + 1) ≤ length table
  chunk_within = omega (arith, length-drop (3 * i) table, ap length cut, length-append chunk rest)

  pub chunk_rest : rest ≡ drop (3 * (i + 1)) table
  chunk_rest =
      let e : 3 * i + 3 ≡ 3 * (i + 1) = omega arith in
      sym (drop-append_seam chunk rest) ∙ ap (drop (length chunk)) (sym cut) ∙ ap (λ (n : ℕ). drop n (drop (3 * i) table)) whole ∙
      drop-drop 3 (3 * i) table ∙ ap (λ (n : ℕ). drop n table) e

  chunk_at : (k j : ℕ) → k < 3 → j ≡ 3 * i + k → get_or chunk k 0 ≡ at table j
  chunk_at k j l e =
      sym (get_or-append chunk rest 0 k (omega arith)) ∙ ap (λ (xs : List ℕ). get_or xs k 0) (sym cut) ∙ get_or-drop (3 * i) table k 0 ∙
      sym (get_or_default_zero table (3 * i + k) unused_mark (omega (arith, chunk_within))) ∙ ap (at table) (sym e)

  chunk_frame : (code : ℕ) → triple_frame width code (get_or chunk 0 0) (get_or chunk 1 0) (get_or chunk 2 0) ≡ frame_of width code table i
  chunk_frame code =
      rw (chunk_at 0 (3 * i) (omega arith) (omega arith), chunk_at 1 (3 * i + 1) (omega arith) (omega arith), chunk_at 2 (3 * i + 2) (omega arith) (omega arith))

  -- its frame behind those before it
  module _ (code place : ℕ) (out p : List ℕ)
      (s : Stored (i * frame_length width) (gather (frame_of width code table) i) 0 out place p) where
    pub table_fits : length table / 3 * frame_length width ≤ length out → place + frame_length width ≤ length p
    table_fits room = omega (arith, s.few, s.after, stored_length _ _ _ _ _ _ s, chunk_within)

    pub table_goes_on : (r : Result ℕ Refusal) (ys : List ℕ) (k : ℕ) → place + frame_length width ≤ length p
        → Wrote (triple_frame width code (get_or chunk 0 0) (get_or chunk 1 0) (get_or chunk 2 0)) (take (length p - place) (drop place p)) r ys → r ≡ Ok k
        → Stored ((i + 1) * frame_length width) (gather (frame_of width code table) (i + 1)) 0 out (place + k) (put_mid place (length p - place) p ys)
    table_goes_on r ys k room w e =
        let l = length_triple width code (get_or chunk 0 0) (get_or chunk 1 0) (get_or chunk 2 0) in
        lines_more (frame_length width) (frame_of width code table) 0 out i place (place + k) p _ s
        (stored_as (frame_length width) _ _ place (place + k) p _ (chunk_frame code) (part_done place _ p r ys (omega arith) w (frame_length width) k (omega arith) e))

-- the head, the triangles behind it, the vertices behind them
module _ (n : ℕ) (ts targets : List ℕ) (range : InRange n) (corners : length ts ≡ triangles_length n) (inner : length targets ≡ wood_length n - 9)
    (out : List ℕ) (room : text_limit ≤ length out) where
  abbrev corners_most : ℕ
  corners_most = length ts / 3 * frame_length width

  abbrev inner_most : ℕ
  inner_most = length targets / 3 * frame_length width

  tables_fit : head_length width + (corners_most + inner_most) ≤ text_limit
  tables_fit = omega (arith, range.enough, range.not_too_many)

  head_stored : (r : Result ℕ Refusal) (p : List ℕ) → Wrote (head_frame width n) out r p → Stored (head_length width) (head_frame width n) 0 out (head_length width) p
  head_stored r p w =
      let e = length_head width n in
      let s = wrote_stored (head_frame width n) out r p w (omega arith) in
      record { few = omega arith; after = omega arith; stored = s.stored }

  pub mesh_of : (r : Result ℕ Refusal) (k m : ℕ) (p q s : List ℕ) →
      let h : ℕ = head_length width in
      let t : List ℕ = put_mid h (length p - h) p q in
      Wrote (head_frame width n) out r p → Stored corners_most (table_frames width triangle_code ts) 0 (take (length p - h) (drop h p)) k q
      → Stored inner_most (table_frames width vertex_code targets) 0 (take (length t - (h + k)) (drop (h + k) t)) m s
      → Stored text_limit (house_text width n ts targets) 0 out (h + k + m) (put_mid (h + k) (length t - (h + k)) t s)
  unfolding house_text
  mesh_of r k m p q s w x y =
      let h : ℕ = head_length width in
      let t : List ℕ = put_mid h (length p - h) p q in
      let f = tables_fit in
      let a = head_stored r p w in
      let b = part_placed corners_most h k (table_frames width triangle_code ts) p q (omega (arith, stored_length _ _ _ _ _ _ a)) x in
      let c = part_placed inner_most (h + k) m (table_frames width vertex_code targets) t s
      (omega (arith, x.few, x.after, stored_length _ _ _ _ _ _ a, stored_length _ _ _ _ _ _ b)) y in
      stored_wider (h + (corners_most + inner_most)) text_limit _ 0 (h + k + m) out _ f
      (stored_more h (corners_most + inner_most) (head_frame width n) _ 0 h (h + k + m) out p _ a
      (stored_more corners_most inner_most (table_frames width triangle_code ts) (table_frames width vertex_code targets) h (h + k) (h + k + m) p t _ b c))

-- the fronts of the longest tables have the lengths that n asks
pub right_sizes : (n : ℕ) (text refs : List ℕ) (edges corners : ℕ) → InRange n → refs ≡ references_in n text → edges ≡ wood_length n → corners ≡ triangles_length n
    → RightSizes n refs (take edges (replicate (wood_length most_vertices) unused_mark)) (take corners (replicate (triangles_length most_vertices) unused_mark))
unfolding references_in
right_sizes n text refs edges corners range read e k = record {
  range = range;
  references_right = ap length read ∙ length_tabulate (reference_in text) (references_length n);
  wood_right = sym (prefix_long edges (wood_length most_vertices) unused_mark (omega (arith, range.not_too_many))) ∙ e;
  triangles_right = sym (prefix_long corners (triangles_length most_vertices) unused_mark (omega (arith, range.not_too_many))) ∙ k;
}

-- the rebuild's answer, by what the definition says
module _ (n : ℕ) (refs ws ts : List ℕ) (sizes : RightSizes n refs ws ts) (r : Result ⊤ Refusal) (ws' ts' : List ℕ) (rebuilt : Rebuild n refs ws ts r ws' ts') where
  pub text_rebuilt : (x : ⊤) → r ≡ Ok x → house_text width n ts' (drop 9 ws') ≡ rebuild_text n refs
  unfolding rebuild_text mesh_text
  text_rebuilt x e =
      let z : rebuild_number n refs ws ts ≡ 0 = sym (rw e at rebuilt.answer) in
      let s : rebuild_says n refs ≡ 0 = sym (rebuild_says_holds n refs ws ts sizes) ∙ z in
      rw (
        rebuilt.wood ∙ left_filled (rebuild_number n refs ws ts) (rebuilt_wood n refs) ws z,
        rebuilt.triangles ∙ left_filled (rebuild_number n refs ws ts) (rebuilt_triangles n refs) ts z,
        s,
      )

  pub text_refused : (k : Refusal) → r ≡ Err k → refusal_line (number k) ≡ rebuild_text n refs
  unfolding rebuild_text
  text_refused k e =
      let s : number k ≡ rebuild_says n refs = rw e at rebuilt.answer ∙ rebuild_says_holds n refs ws ts sizes in
      rw (sym s, ne_eqb (number k) 0 (λ z. let a = number_above k in omega arith))
