-- `answer_lines` writes a text's answers.
use Rattle.arraytext.specs.AnswerLines.{answers_text}
use Rattle.arraytext.proofs.answering.answer_lines.Given as goal

abbrev pub ghost-put_lines : goal.ghost-put_lines
ghost-put_lines a = answers_text
