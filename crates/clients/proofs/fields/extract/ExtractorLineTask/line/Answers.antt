use Rattle.std.proofs.Common.{ℕ, List, [], map, refl, subst}
use Rattle.std.specs.Borrow.{Bor}
use Rattle.std.specs.Io.BufRead.{strip_last}
use Rattle.std.specs.Io.KnownBytes.{Appends}
use Rattle.bites_filter.specs.Csv.{row}
use Rattle.bites_filter.specs.Parts.{AreParts, ExtractsBytes}
use Rattle.bites_filter.proofs.Written.{appends_none}
use Rattle.clients.specs.Entry.{entry_tree}
use Rattle.clients.specs.Rows.{told}
use Rattle.clients.proofs.fields.extract.ExtractorLineTask.line.Goals as goal

pub returns-then-branch : goal.returns-then-branch
returns-then-branch g c =
    let fields = map (λ f. f.now) c.entry.new.into in let text = strip_last 10 c.args.line.now in
    let contents = g.W.Write.contents in
    let parts : AreParts entry_tree text fields =
    subst (λ found. ExtractsBytes entry_tree text found fields) c.if-branch.true
    (subst (λ t. ExtractsBytes entry_tree t c.in_ok-entry.field-0 fields) c.without_line_feed.ensures c.in_ok-entry.ensures.found) in (
      row fields,
      ([], ((fields, (c.entry.ensures.seven, parts), refl), refl), appends_none (g.E.Write.contents c.args.self.now.err)),
      subst (λ (fs : List (Bor (List ℕ))). Appends (contents c.args.out.now) (contents c.write_row.new.out) (row (map (λ f. f.now) fs)))
          c.as_slice.ensures c.in_ok-write_row.ensures,
    )

pub returns : goal.returns
returns g c =
    let fields = map (λ f. f.now) c.entry.new.into in let text = strip_last 10 c.args.line.now in
    let none =
    subst (λ found. ExtractsBytes entry_tree text found fields) c.if-branch.false
    (subst (λ t. ExtractsBytes entry_tree t c.in_ok-entry.field-0 fields) c.without_line_feed.ensures c.in_ok-entry.ensures.found) in
    ([], (told c.args.number, (none, refl, refl), c.in_ok-tell.ensures), appends_none (g.W.Write.contents c.args.out.now))
