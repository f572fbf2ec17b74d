-- `about_index` puts the questions in the order of its definition, each answer in its field.
use Rattle.arraytext.specs.AnswerLines.{index_answers}
use Rattle.arraytext.proofs.AnswerLaws.{spells_listed, spells_target, spells_none, spells_more}
use Rattle.arraytext.proofs.answering.Array.about_index.Goals as goal

pub returns : goal.returns
unfolding index_answers
returns c =
    spells_more (spells_listed _ _ _ c.source.ensures c.into.ensures)
    (spells_more (spells_target _ _ _ c.target.ensures c.into-2.ensures)
    (spells_more (spells_listed _ _ _ c.left_front.ensures c.into-3.ensures)
    (spells_more (spells_listed _ _ _ c.right_front.ensures c.into-4.ensures)
    (spells_more (spells_listed _ _ _ c.left_back.ensures c.into-5.ensures)
    (spells_more (spells_listed _ _ _ c.right_back.ensures c.into-6.ensures) spells_none)))))
