use Rattle.clients.proofs.ExtractLemmas.{all_extracted}
use Rattle.clients.proofs.fields.extract.extract_fields.Goals as goal

pub returns : goal.returns
returns g c =
    all_extracted (λ s. g.E.Write.contents s.err) (g.R.Read.remaining c.args.input.now) (g.W.Write.contents c.args.out.now)
    (g.W.Write.contents c.each_line.new.out) c.args.extractor.now c.in_ok-bad.bad c.each_line.new.task c.in_ok-bad.ensures
