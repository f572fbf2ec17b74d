-- The text of an array: an edge's line where the edge is used and where it is not, how long the lines are together, and that each has
-- room wherever the whole text has.
use Prim.Native.Nat.{ℕ, zero, suc, ◌+◌, ◌-◌, ◌*◌, ◌≤◌, ◌<◌}
use native.Mathlib.Nat.{zero-add}
use native.Mathlib.Omega.{arith}
use mathlib.Core.Path.{◌≡◌, refl, sym, ◌∙◌, ap}
use mathlib.Core.List.{List, [], ◌++◌}
use mathlib.Core.Bool.{true, false}
use lib.ListN.{length, get_or, length-append}
use Rattle.mesh.specs.Search.{gather_from, gather}
use Rattle.mesh.specs.Limits.{at, unused_mark}
use Rattle.mesh.specs.Wood.{used}
use Rattle.mesh.specs.Array.{left, right, front_place}
use Rattle.mesh.proofs.Tests.{by_bool}
use Rattle.mesh.proofs.Lists.{gather_more, gather_grows, get_d_any}
use Rattle.tables.proofs.EdgeLaws.{used_inner}
use Rattle.frames.specs.Frames.{width, head_frame, edge_frame, edge_line, array_text}
use Rattle.frames.specs.Lines.{head_length, edge_length, edge_place, edge_total}
use Rattle.frames.specs.Put.{Wrote, Stored}
use Rattle.std.specs.declared.result.Result.{Result}
use Rattle.std.specs.declared.result.Result.TheVariants.{Ok}
use Rattle.tables.specs.declared.refusal.Refusal.{Refusal}
use Rattle.frames.proofs.FrameLaws.{length_head, length_edge}
use Rattle.frames.proofs.StoreLaws.{stored_more}
use Rattle.frames.proofs.PutLaws.{wrote_frame, wrote_stored}

module _ (refs service : List ℕ) where
  -- an edge's line by the bytes that the code reads
  pub line_used : (j : ℕ) → used j ≡ true → 2 * j + 1 < length refs → j < length service
      → edge_frame width j (get_or refs (2 * j) 0) (get_or refs (2 * j + 1) 0) (get_or service j 0) ≡ edge_line width refs service j
  unfolding edge_line
  line_used j u l g =
      let a : 2 * j < length refs = omega arith in
      rw (u, get_d_any refs (2 * j) 0 unused_mark a, get_d_any refs (2 * j + 1) 0 unused_mark l, get_d_any service j 0 unused_mark g)

  pub line_unused : (j : ℕ) → used j ≡ false → [] ≡ edge_line width refs service j
  unfolding edge_line
  line_unused j u = rw u

  length_used : (j : ℕ) → used j ≡ true → length (edge_line width refs service j) ≡ edge_length width
  unfolding edge_line
  length_used j u = rw u (length_edge width j (at refs (front_place left j)) (at refs (front_place right j)) (at service j))

  pub line_few : (j : ℕ) → length (edge_line width refs service j) ≤ edge_length width
  line_few j =
      by_bool (used j) (λ u. omega (arith, length_used j u)) (λ u. omega (arith, ap length (line_unused j u)))

  -- of the first nine indices three are used, and all behind them
  first_nine : length (gather (edge_line width refs service) 9) ≡ edge_length width * 3
  unfolding edge_line gather gather_from
  first_nine = refl

  lines_length : (k : ℕ) → length (gather (edge_line width refs service) (9 + k)) ≡ edge_length width * (3 + k)
  lines_length zero = first_nine
  lines_length (suc k) =
      let j : ℕ = 9 + k in
      let e : gather (edge_line width refs service) (9 + suc k) ≡ gather (edge_line width refs service) j ++ edge_line width refs service j =
      ap (gather (edge_line width refs service)) (omega arith) ∙ gather_more (edge_line width refs service) j in
      let u = length_used j (used_inner j (omega arith)) in
      ap length e ∙ length-append (gather (edge_line width refs service) j) (edge_line width refs service j) ∙ omega (arith, lines_length k)

  module _ (n : ℕ) (enough : 3 ≤ n) where
    all_lines : head_length width + length (gather (edge_line width refs service) (3 * n)) ≡ edge_place width (edge_total n)
    all_lines =
        let k : ℕ = 3 * n - 9 in
        let e : 3 * n ≡ 9 + k = omega arith in
        omega (arith, lines_length k, ap (λ (m : ℕ). length (gather (edge_line width refs service) m)) e)

    pub length_array : length (array_text n refs service) ≡ edge_place width (edge_total n)
    unfolding array_text
    length_array =
        length-append (head_frame width n) (gather (edge_line width refs service) (3 * n)) ∙ omega (arith, length_head width n, all_lines)

    -- the next line has room
    pub line_room : (j : ℕ) → j < 3 * n
        → head_length width + length (gather (edge_line width refs service) j) + length (edge_line width refs service j) ≤ edge_place width (edge_total n)
    line_room j l =
        omega (
          arith,
          all_lines,
          gather_grows (edge_line width refs service) (j + 1) (3 * n) (omega arith),
          ap length (gather_more (edge_line width refs service) j),
          length-append (gather (edge_line width refs service) j) (edge_line width refs service j),
        )

    -- the head, then the lines behind it
    pub array_wrote : (entry out last : List ℕ) (r : Result ℕ Refusal) (m at : ℕ) → edge_place width (edge_total n) ≤ length entry → Wrote (head_frame width n) entry r out
        → Stored m (gather (edge_line width refs service) (3 * n)) (head_length width) out at last → Wrote (array_text n refs service) entry (Ok at) last
    unfolding array_text
    array_wrote entry out last r m at room w s =
        let h : length (head_frame width n) ≡ head_length width = length_head width n in
        let f = wrote_stored (head_frame width n) entry r out w (omega arith) in
        let v = stored_more (length (head_frame width n)) m (head_frame width n) (gather (edge_line width refs service) (3 * n)) 0 (length (head_frame width n)) at
        entry out last f (rw (sym h) at s) in
        let l = length_array in
        wrote_frame (head_frame width n ++ gather (edge_line width refs service) (3 * n)) entry at last (v.after ∙ zero-add _) (omega (arith, v.after)) v.stored
