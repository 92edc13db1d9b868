use Rattle.std.proofs.Common.{◌≡◌, ◌++◌, subst}
use Rattle.std.specs.Cow.{cow_slice_items}
use Rattle.std.specs.Io.BufRead.{strip_last}
use Rattle.std.specs.Io.KnownBytes.{Appends}
use Rattle.bites_filter.specs.Lines.{line_feed_of}
use Rattle.bites_filter.specs.Substituted.{Substitutes}
use Rattle.bites_filter.proofs.Written.{appends_both}
use Rattle.bites_spec.specs.Found.{NoMatch}
use Rattle.bites_spec.specs.Utf8.{places}
use Rattle.clients.proofs.EditLemmas.{is_edited, same_editor}
use Rattle.clients.proofs.sed.editor.EditorLineTask.line.Goals as goal

pub returns : goal.returns
returns g c =
    let s = c.args.self.now in let line = c.args.line.now in let new = cow_slice_items c.in_ok-edited.edited in
    let contents = g.W.Write.contents in let before = contents c.args.out.now in let between = contents c.write_all.new.self in
    let substitutes : Substitutes s.searcher s.template.now s.limit (strip_last 10 line) new =
    subst (λ h. Substitutes s.searcher s.template.now s.limit h new) c.without_line_feed-text.ensures c.in_ok-edited.ensures.substitutes in
    let same : NoMatch s.searcher.tree (strip_last 10 line) (places (strip_last 10 line) 0) → new ≡ strip_last 10 line =
    subst (λ h. NoMatch s.searcher.tree h (places h 0) → new ≡ h) c.without_line_feed-text.ensures c.in_ok-edited.ensures.unchanged in (
      new ++ line_feed_of line,
      (is_edited s.searcher s.template.now s.limit line new substitutes same, same_editor s c.substitute.new.searcher c.substitute.ensures.same),
      appends_both before between (contents c.write_all-2.new.self) new (line_feed_of line)
          (subst (Appends before between) c.as_slice.ensures.value c.in_ok-write_all.ensures.bytes)
          (subst (Appends between (contents c.write_all-2.new.self)) c.line_feed.ensures c.in_ok-write_all-2.ensures.bytes),
    )
