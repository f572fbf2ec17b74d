-- `answer_array` reads both tables and answers from them.
use Rattle.std.proofs.Common.{sym}
use Rattle.frames.proofs.PutLaws.{stored_front}
use Rattle.arraytext.proofs.answering.answer_array.Goals as goal

pub returns : goal.returns
returns c =
    rw (sym c.read_references.ensures, sym c.read_service.ensures)
    (stored_front _ _ c.args.out.now c.put_answers.result c.put_answers.new.out c.requires c.put_answers.ensures)
