-- `put_line` stores the code, then one field behind the other.
use Rattle.std.proofs.Common.{◌≡◌, ◌+◌, ◌≤◌, length, refl}
use lib.Seq.{take_all}
use Rattle.frames.specs.Fields.{spelled}
use Rattle.frames.specs.Frames.{line}
use Rattle.frames.proofs.StoreLaws.{stored_length}
use Rattle.frames.proofs.PutLaws.{no_room}
use Rattle.frames.proofs.PartLaws.{filled_digits}
use Rattle.frames.proofs.FrameLaws.{length_line}
use Rattle.frames.proofs.FieldLaws.{field_at, before, length_spelled, spelled_fit, line_starts, field_stored, line_ends}
use native.Mathlib.Omega.{arith}
use Rattle.frames.proofs.frame.put_line.Goals.{In-loop-k}
use Rattle.frames.proofs.frame.put_line.Goals as goal

-- the next field has room
room : (t : In-loop-k) → t.loop-k.at + (field_at t.args.fields.now t.loop-k.k-index).0 ≤ length t.loop-k.part
room t =
    let s = t.loop-k.invariant in
    let k : t.line_length-room.result ≡ 3 + length (spelled t.args.fields.now) = omega (arith, t.line_length-room.ensures, length_spelled t.args.fields.now) in
    omega (arith, s.few, s.after, stored_length _ _ _ _ _ _ s, spelled_fit t.args.fields.now t.loop-k.k-index t.loop-k-test.true, k, t.if-part-room.false)

pub returns-then-part-room : goal.returns-then-part-room
returns-then-part-room c =
    let body = spelled c.args.fields.now in
    let k : c.line_length-room.result ≡ 3 + length body = omega (arith, c.line_length-room.ensures, length_spelled c.args.fields.now) in
    no_room _ (line c.args.code body) c.args.part.now (omega (arith, k, length_line c.args.code body))

pub loop-k-init : goal.loop-k-init
loop-k-init c =
    let a = c.args in
    line_starts a.code a.part.now _ (filled_digits 0 2 2 a.code a.part.now c.store_digits.new.places refl (omega (arith, c.line_length-room.ensures)) c.store_digits.ensures).0

pub overflow_add-at : goal.overflow_add-at
overflow_add-at c = omega (arith, room (goal.at.overflow_add-at c).In-loop-k)

pub slice_bounds-store_digits-end-in-loop-k : goal.slice_bounds-store_digits-end-in-loop-k
slice_bounds-store_digits-end-in-loop-k c = omega (arith, room (goal.at.slice_bounds-store_digits-end-in-loop-k c).In-loop-k)

pub loop-k-preserved : goal.loop-k-preserved
loop-k-preserved c =
    let a = c.args in
    let f = field_at a.fields.now c.loop-k.k-index in
    let s = filled_digits c.loop-k.at f.0 _ f.1 c.loop-k.part c.store_digits-in-loop-k.new.places (omega arith)
    (room (goal.at.loop-k-preserved c).In-loop-k) c.store_digits-in-loop-k.ensures in
    field_stored a.code a.part.now c.loop-k.part c.loop-k.at a.fields.now c.loop-k.k-index _ c.loop-k-test.true c.loop-k.invariant s.0

pub bounds-part-at : goal.bounds-part-at
bounds-part-at c =
    let s = c.loop-k.invariant in
    let f = take_all c.loop-k.k-index c.args.fields.now c.loop-k-test.false in
    let i : length (before c.args.fields.now c.loop-k.k-index) ≡ length (spelled c.args.fields.now) = rw f refl in
    omega (arith, s.few, s.after, i, stored_length _ _ _ _ _ _ s, c.line_length-room.ensures, length_spelled c.args.fields.now, c.if-part-room.false)

pub returns : goal.returns
returns c =
    let a = c.args in
    let body = spelled a.fields.now in
    let k : c.line_length-room.result ≡ 3 + length body = omega (arith, c.line_length-room.ensures, length_spelled c.args.fields.now) in
    let f = take_all c.loop-k.k-index a.fields.now c.loop-k-test.false in
    line_ends a.code a.part.now c.loop-k.part c.loop-k.at body c.line_length-room.result k c.if-part-room.false (rw f at c.loop-k.invariant)
