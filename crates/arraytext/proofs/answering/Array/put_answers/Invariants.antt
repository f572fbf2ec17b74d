-- `put_answers` stores one line behind the other, first those about indices.
use Rattle.std.proofs.Common.{◌*◌}
use Rattle.mesh.specs.Search.{gather}
use Rattle.frames.specs.Put.{Stored}
use Rattle.arraytext.specs.AnswerLines.{about_index, about_vertex, index_answers, vertex_answers, answer_line, index_most, vertex_most, line_most}
use Rattle.arraytext.proofs.answering.Array.put_answers.Given as goal

abbrev pub invariant-loop-j : goal.invariant-loop-j
invariant-loop-j l =
    let a = l.self in
    Stored (l.j * line_most index_most) (gather (answer_line about_index (index_answers a.size.vertices a.references.now a.service.now)) l.j) 0 l.initial.out l.at l.out

abbrev pub invariant-loop-u : goal.invariant-loop-u
invariant-loop-u l =
    Stored (l.u * line_most vertex_most) (gather (answer_line about_vertex (vertex_answers l.self.size.vertices)) l.u) l.initial.at l.initial.out l.at l.out
