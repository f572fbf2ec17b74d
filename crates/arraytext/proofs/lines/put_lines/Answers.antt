-- `put_lines` writes by what the reader finds.
use Rattle.arraytext.proofs.LinesLaws.{room_found, room_missed, lines_refused, lines_written}
use Rattle.arraytext.proofs.lines.put_lines.Goals as goal

pub returns-in_err-refuse_if : goal.returns-in_err-refuse_if
returns-in_err-refuse_if g c = room_missed _ _ c.args.out.now c.from_residual.result c.in_err-refuse_if.field-0.0 c.in_err-refuse_if.ensures c.from_residual.ensures.1

pub returns-in-Ok : goal.returns-in-Ok
returns-in-Ok g c =
    let a = c.args in
    let k = c.in-Ok.array in
    lines_written g.lines a.text.now a.most a.out.now c.write.result c.write.new.arg3 k.size.vertices k.text.now c.in-Ok.ensures.range c.in-Ok.ensures.ok.0 c.in-Ok.ensures.ok.1
    (c.requires.1.1.1 _ _ _ _ (room_found _ _ c.in_ok-refuse_if.ensures) c.write.ensures)

pub returns-in-Err : goal.returns-in-Err
returns-in-Err g c =
    let a = c.args in
    lines_refused g.lines a.text.now a.most a.out.now c.put_refusal.result c.put_refusal.new.part c.in-Err.refusal c.in-Err.ensures.range c.requires.1.0 (room_found _ _ c.in_ok-refuse_if.ensures)
    (rw c.number.ensures at c.put_refusal.ensures)
