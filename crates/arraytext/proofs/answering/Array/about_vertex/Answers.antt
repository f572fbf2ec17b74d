-- `about_vertex` puts the one question about a vertex.
use Rattle.arraytext.specs.AnswerLines.{vertex_answers}
use Rattle.arraytext.proofs.AnswerLaws.{spells_listed, spells_none, spells_more}
use Rattle.arraytext.proofs.answering.Array.about_vertex.Goals as goal

pub returns : goal.returns
unfolding vertex_answers
returns c = spells_more (spells_listed _ _ _ c.edge.ensures c.into.ensures) spells_none
