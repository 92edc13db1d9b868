use Rattle.std.proofs.Common.{◌∙◌, ◌≡◌, true, false, Some, MatchOption, ap, subst}
use Rattle.bites_filter.specs.Lines.{lines_of, ReadsLine}
use Rattle.bites_filter.specs.Table.{IsEntry, says_nothing, without_end}
use Rattle.bites_filter.proofs.TableLemmas.{entry_more, line_passed, no_entry_more}
use Rattle.bites_filter.proofs.table.read_table.Goals as goal
use Rattle.bites_filter.proofs.table.read_table.Goals.{in-Some+in-Ok, in_default}

pub returns-then-not-branch : goal.returns-then-not-branch
returns-then-not-branch g c =
    no_entry_more g.E.Entry.is (lines_of c.args.table.now) c.loop-number.entries.items (lines_of c.loop-number.left.now)
    (subst (λ there. ReadsLine (Some c.loop-number.left.now) there c.next_line.new.line.items (Some c.next_line.new.input.now)) c.if-not-branch.true
    c.in_ok-next_line.ensures)
    c.loop-number.invariant

pub loop-number-preserved : goal.loop-number-preserved
loop-number-preserved g c =
    let line = c.next_line.new.line.items in let all = lines_of c.args.table.now in
    let lines = lines_of c.loop-number.left.now in let left = lines_of c.next_line.new.input.now in
    let reads = subst (λ there. ReadsLine (Some c.loop-number.left.now) there line (Some c.next_line.new.input.now)) c.if-not-branch.false
    c.in_ok-next_line.ensures in
    let read = subst (λ l. MatchOption c.in_ok-entry.field-0 (says_nothing l ≡ true) (λ x. (says_nothing l ≡ false) × IsEntry g.E.Entry.is l x))
    (c.without_line_end.ensures ∙ ap without_end c.deref.ensures.value) c.in_ok-entry.ensures in
    elim c.match-branch-3.branch [
      | in-Some+in-Ok w ↦
          let entry = rw w.in-Some.is at read in
          rw (w.entries-is, w.in-Ok.ensures.items)
          (entry_more g.E.Entry.is all c.loop-number.entries.items lines line left reads c.loop-number.invariant entry.0 _ entry.1)
      | in_default w ↦
          let passed = rw w.in_default.is at read in
          rw w.entries-is
          (line_passed g.E.Entry.is all c.loop-number.entries.items lines line left reads c.loop-number.invariant passed)
    ]
