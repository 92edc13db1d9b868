use Rattle.bites_filter.proofs.Written.{appends_both}
use Rattle.bites_filter.proofs.RowLemmas.{row_more}
use Rattle.bites_filter.proofs.csv.write_row.Goals as goal

pub loop-field-preserved : goal.loop-field-preserved
loop-field-preserved g c =
    let l = c.loop-field in let contents = g.W.Write.contents in (
      _,
      appends_both (contents c.args.out.now) (contents l.out) (contents c.write_field.new.out) l.invariant.0 _ l.invariant.1 c.in_ok-write_field.ensures,
      row_more c.args.fields.now l.field-index _ l.separator.now _ l.invariant.0 c.loop-field-test.true l.invariant.2,
    )
