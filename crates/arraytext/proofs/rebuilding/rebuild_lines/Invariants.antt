-- `rebuild_lines` writes the mesh that a text's references tell of.
use Rattle.arraytext.specs.RebuildLines.{rebuild_text}
use Rattle.arraytext.proofs.rebuilding.rebuild_lines.Given as goal

abbrev pub ghost-put_lines : goal.ghost-put_lines
ghost-put_lines a = λ n refs service. rebuild_text n refs
