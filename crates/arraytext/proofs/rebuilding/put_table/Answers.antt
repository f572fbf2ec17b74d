-- `put_table` stores one frame behind the other; the chunks that are left begin three numbers a frame on.
use Rattle.std.proofs.Common.{◌≡◌, ◌+◌, ◌*◌, ◌/◌, ◌≤◌, ◌++◌, length, drop, sym, refl, ap, ◌∙◌}
use Rattle.std.specs.Slice.Iter.{chunks_exact_rest, chunks_exact_size}
use Rattle.std.proofs.lemmas.List.{length_push}
use lib.ListN.{length-drop}
use Rattle.frames.specs.Frames.{width, table_frames}
use Rattle.frames.specs.Lines.{frame_length}
use Rattle.frames.proofs.StoreLaws.{stored_length, lines_none}
use Rattle.frames.proofs.PartLaws.{length_rest}
use Rattle.arraytext.proofs.RebuildLaws.{triple_done, chunk_within, chunk_rest, table_fits, table_goes_on}
use native.Mathlib.Omega.{arith}
use Rattle.arraytext.proofs.rebuilding.put_table.Goals.{In-Some}
use Rattle.arraytext.proofs.rebuilding.put_table.Goals as goal

-- the chunk that comes, and the room for its frame
cut : (t : In-Some) → drop (3 * length t.loop-triple.yielded) t.args.table.now ≡ t.in-Some.triple.now ++ chunks_exact_rest t.next.new.self
cut t = let s = t.in-Some.ensures.steps in sym t.loop-triple.invariant.rest ∙ s.1.0

whole : (t : In-Some) → length t.in-Some.triple.now ≡ 3
whole t = let s = t.in-Some.ensures.steps in s.1.1 ∙ t.loop-triple.invariant.size

room : (t : In-Some) → t.loop-triple.at + frame_length width ≤ length t.loop-triple.part
room t = table_fits _ _ _ _ (cut t) (whole t) _ _ _ _ t.loop-triple.invariant.stored t.requires

pub loop-triple-init : goal.loop-triple-init
loop-triple-init c =
    let e = c.into_iter-triple-iterator.ensures.into_iter_gives in record {
      size = ap chunks_exact_size e ∙ c.chunks_exact-triple-items.ensures.size;
      within = omega arith;
      rest = ap chunks_exact_rest e ∙ c.chunks_exact-triple-items.ensures.rest;
      stored = lines_none (frame_length width) _ 0 c.args.part.now;
    }

pub unwrap-at-requires : goal.unwrap-at-requires
unwrap-at-requires c =
    let t = (goal.at.unwrap-at-requires c).In-Some in
    rw (triple_done _ _ _ _ _ _ _ (omega (arith, room t, length_rest c.loop-triple.at c.loop-triple.part)) c.put_triple.ensures) refl

pub loop-triple-preserved : goal.loop-triple-preserved
loop-triple-preserved c =
    let t = (goal.at.loop-triple-preserved c).In-Some in
    let s = c.in-Some.ensures.steps in
    let table = c.args.table.now in
    let chunk = c.in-Some.triple.now in
    let left = chunks_exact_rest c.next.new.self in
    let i = length c.loop-triple.yielded in
    rw (length_push c.loop-triple.yielded c.in-Some.triple)
    (record {
      size = s.0 ∙ c.loop-triple.invariant.size;
      within = chunk_within table chunk left i (cut t) (whole t);
      rest = chunk_rest table chunk left i (cut t) (whole t);
      stored = table_goes_on table chunk left i (cut t) (whole t) _ _ _ _ c.loop-triple.invariant.stored _ _ _ (room t) c.put_triple.ensures c.unwrap-at.ensures;
    })

pub overflow_add-at : goal.overflow_add-at
overflow_add-at c =
    let t = (goal.at.overflow_add-at c).In-Some in
    let p = (loop-triple-preserved c).stored in
    omega (arith, p.few, p.after, stored_length _ _ _ _ _ _ p, chunk_within c.args.table.now c.in-Some.triple.now (chunks_exact_rest c.next.new.self) (length c.loop-triple.yielded) (cut t) (whole t), length_push c.loop-triple.yielded c.in-Some.triple)

pub returns : goal.returns
unfolding table_frames
returns c =
    let s = c.in-None.ensures.steps in
    let i : length c.loop-triple.yielded ≡ length c.args.table.now / 3 =
    omega (arith, c.loop-triple.invariant.within, c.loop-triple.invariant.size, s.1.0, ap length c.loop-triple.invariant.rest, length-drop (3 * length c.loop-triple.yielded) c.args.table.now) in
    rw i at c.loop-triple.invariant.stored
