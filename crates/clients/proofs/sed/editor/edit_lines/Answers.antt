use Rattle.bites_filter.proofs.LineLemmas.{lines_written}
use Rattle.clients.specs.Edits.{Edits}
use Rattle.clients.proofs.sed.editor.edit_lines.Goals as goal

pub returns : goal.returns
returns g c =
    lines_written (λ s. s) Edits (g.R.Read.remaining c.args.input.now) (g.W.Write.contents c.args.out.now)
    (g.W.Write.contents c.each_line.new.out) c.args.editor.now c.in_ok-each_line.field-0 c.each_line.new.task c.in_ok-each_line.ensures
