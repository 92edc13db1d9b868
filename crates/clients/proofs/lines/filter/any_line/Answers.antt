use Rattle.std.proofs.Common.{not, ◌∙◌, subst}
use Rattle.bites_filter.specs.Lines.{ReadsLine, SkipsLines}
use Rattle.clients.specs.declared.lines.filter.Filter.{Filter}
use Rattle.clients.specs.Filtered.{Filters}
use Rattle.clients.specs.Selected.{IsAskedFor}
use Rattle.clients.proofs.AnyLemmas.{none_is, none_more, one_is}
use Rattle.clients.proofs.SkipLemmas.{none_skipped}
use Rattle.clients.proofs.lines.filter.any_line.Goals as goal

pub loop-preserved : goal.loop-preserved
loop-preserved g c =
    let s = c.args.filter.now in let input = g.R.Read.remaining c.args.input.now in
    let left = g.R.Read.remaining c.skip_lines.new.input in let rest = g.R.Read.remaining c.next_line.new.input in
    let line = c.next_line.new.line.items in
    let skips = subst (λ (f : Filter). SkipsLines Filters f (g.R.Read.remaining c.loop.input) c.in_ok-skip_lines.field-0 left) c.loop.invariant.0 c.in_ok-skip_lines.ensures in
    let skipped = none_skipped s input (g.R.Read.remaining c.loop.input) left c.in_ok-skip_lines.field-0 c.loop.invariant.1 skips in
    let asked = subst (λ l. IsAskedFor c.loop.filter.searcher.tree (not c.loop.filter.invert) l) c.deref.ensures.value c.if-selects.ensures.asked in (
      c.if-selects.ensures.same ∙ c.loop.invariant.0,
      none_more s.searcher.tree s.invert input left rest line skipped
          (subst (λ there. ReadsLine left there line rest) c.if-not-branch.false c.in_ok-next_line.ensures)
          (subst (λ (f : Filter). IsAskedFor f.searcher.tree (not f.invert) line) c.loop.invariant.0 asked),
    )

pub returns-then-not-branch-clause-any : goal.returns-then-not-branch-clause-any
returns-then-not-branch-clause-any g c =
    let s = c.args.filter.now in let input = g.R.Read.remaining c.args.input.now in
    let left = g.R.Read.remaining c.skip_lines.new.input in let rest = g.R.Read.remaining c.next_line.new.input in
    let line = c.next_line.new.line.items in
    let skips = subst (λ (f : Filter). SkipsLines Filters f (g.R.Read.remaining c.loop.input) c.in_ok-skip_lines.field-0 left) c.loop.invariant.0 c.in_ok-skip_lines.ensures in
    let skipped = none_skipped s input (g.R.Read.remaining c.loop.input) left c.in_ok-skip_lines.field-0 c.loop.invariant.1 skips in
    none_is s.searcher.tree s.invert input left rest line skipped (subst (λ there. ReadsLine left there line rest) c.if-not-branch.true c.in_ok-next_line.ensures)

pub returns-then-selects-clause-any : goal.returns-then-selects-clause-any
returns-then-selects-clause-any g c =
    let s = c.args.filter.now in let input = g.R.Read.remaining c.args.input.now in
    let left = g.R.Read.remaining c.skip_lines.new.input in let rest = g.R.Read.remaining c.next_line.new.input in
    let line = c.next_line.new.line.items in
    let skips = subst (λ (f : Filter). SkipsLines Filters f (g.R.Read.remaining c.loop.input) c.in_ok-skip_lines.field-0 left) c.loop.invariant.0 c.in_ok-skip_lines.ensures in
    let skipped = none_skipped s input (g.R.Read.remaining c.loop.input) left c.in_ok-skip_lines.field-0 c.loop.invariant.1 skips in
    let asked = subst (λ l. IsAskedFor c.loop.filter.searcher.tree c.loop.filter.invert l) c.deref.ensures.value c.if-selects.ensures.asked in
    one_is s.searcher.tree s.invert input left rest line skipped (subst (λ there. ReadsLine left there line rest) c.if-not-branch.false c.in_ok-next_line.ensures)
    (subst (λ (f : Filter). IsAskedFor f.searcher.tree f.invert line) c.loop.invariant.0 asked)
