use Rattle.bites_table.specs.Built.{starts_as}
use Rattle.bites_table.proofs.ExploreLemmas.{roots-are}
use Rattle.bites_table.proofs.explore.roots.add_roots.Goals as goal

pub returns-clause-roots : goal.returns-clause-roots
returns-clause-roots c p tells =
    let edge = c.in_ok-edge.ensures.root p tells in
    let line_feed = c.in_ok-line_feed.ensures.root p tells edge in
    let carriage_return = c.in_ok-carriage_return.ensures.root p tells line_feed in
    let word_byte = c.in_ok-word_byte.ensures.root p tells carriage_return in
    roots-are p c.add_root.new.graph c.next_root.new.graph c.next_root-2.new.graph c.next_root-3.new.graph c.next_root-4.new.graph (starts_as c.args.starts)
    (record { edge = c.in_ok-edge.edge; line_feed = c.in_ok-line_feed.line_feed; carriage_return = c.in_ok-carriage_return.carriage_return; word_byte = c.in_ok-word_byte.word_byte; other = c.in_ok-other.other })
    c.next_root.ensures.grows c.next_root-2.ensures.grows c.next_root-3.ensures.grows c.next_root-4.ensures.grows
    edge line_feed carriage_return word_byte (c.in_ok-other.ensures.root p tells word_byte)
