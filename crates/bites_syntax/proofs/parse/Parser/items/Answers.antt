use Rattle.std.proofs.lemmas.Grind.{common_steps}
use Rattle.std.proofs.Common.{◌≡◌, ◌<◌, ◌∷◌, arith, refl, sym, subst, length}
use Rattle.bites_spec.specs.RangesOf.{ranges_of}
use Rattle.bites_spec.specs.Reader.{at_item, inner}
use Rattle.bites_syntax.specs.FlagsView.{flags_of}
use Rattle.bites_syntax.specs.Progress.{GoesOn}
use Rattle.bites_syntax.proofs.CursorLemmas.{peeked}
use Rattle.bites_syntax.proofs.ProgressLemmas.{item_goes, item_under, read_item}
use Rattle.bites_syntax.proofs.parse.Parser.items.Goals as goal

pub loop-c-init : goal.loop-c-init
loop-c-init c = (
  λ limit g bs ts is depth n room. record {
    g = g;
    branches = bs;
    nodes = ts;
    steps = n;
    is_at = record { limit_is = is.limit_is; state = is.state; branches_are = is.branches_are; nodes_are = is.nodes_are };
    room = omega (arith, c.skip.ensures.forward, room);
    same = read_item limit n depth (flags_of c.args.self.now.state.flags) g bs ts c.args.self.now.cursor c.skip.new.self is.state.flags c.skip.ensures.reads;
  },
  c.skip.ensures.forward,
)

pub loop-c-preserved : goal.loop-c-preserved
loop-c-preserved c = (
  λ limit g bs ts is depth n room.
      let r = c.loop-c.invariant.0 limit g bs ts is depth n room in
      let at : c.loop-c.self.cursor ≡ c.in-Some.c ∷ c.bump.new.self = peeked _ c.bump.new.self c.in-Some.c c.in-Some.ensures c.bump.ensures.rest.reads in
      let shorter : length c.bump.new.self < length c.loop-c.self.cursor = subst (λ t. length c.bump.new.self < length t) (sym at) (omega arith) in
      let on : GoesOn limit depth r.steps c.item.new.self c.item.new.branches
      (at_item ranges_of limit (inner ranges_of limit r.steps) r.steps depth r.g r.branches r.nodes (c.in-Some.c ∷ c.bump.new.self)) =
      item_under limit (record { alloc = c.loop-c.self.alloc; limit = c.loop-c.self.limit; cursor = c.bump.new.self; state = c.loop-c.self.state }) c.loop-c.branches c.in-Some.c c.item.new.self c.item.new.branches r.is_at.limit_is c.in_ok-item.ensures.reads
      r.g r.branches r.nodes (record { limit_is = r.is_at.limit_is; state = r.is_at.state; branches_are = r.is_at.branches_are; nodes_are = r.is_at.nodes_are }) depth r.steps
      (omega (arith, r.room, shorter)) in
      item_goes limit depth c.loop-c.self c.loop-c.branches _ r c.item.new.self (record { alloc = c.item.new.self.alloc; limit = c.item.new.self.limit; cursor = c.skip-in-Some.new.self; state = c.item.new.self.state }) c.item.new.branches
      (subst (λ t. GoesOn limit depth r.steps c.item.new.self c.item.new.branches
      (at_item ranges_of limit (inner ranges_of limit r.steps) r.steps depth r.g r.branches r.nodes t)) (sym at) on)
      (omega (arith, shorter, c.in_ok-item.ensures.forward)) refl refl c.skip-in-Some.ensures.reads c.skip-in-Some.ensures.forward,
  (
      let at : c.loop-c.self.cursor ≡ c.in-Some.c ∷ c.bump.new.self = peeked _ c.bump.new.self c.in-Some.c c.in-Some.ensures c.bump.ensures.rest.reads in
      let shorter : length c.bump.new.self < length c.loop-c.self.cursor = subst (λ t. length c.bump.new.self < length t) (sym at) (omega arith) in
      omega (arith, shorter, c.in_ok-item.ensures.forward, c.skip-in-Some.ensures.forward, c.loop-c.invariant.1)
      ),
)

pub item-requires-clause-start : goal.item-requires-clause-start
item-requires-clause-start c = grind (arith, common_steps)

pub returns-in_err-item-clause-items : goal.returns-in_err-item-clause-items
returns-in_err-item-clause-items c = grind (arith, common_steps)

pub returns-then-c-eq40-clause-items : goal.returns-then-c-eq40-clause-items
returns-then-c-eq40-clause-items c = grind (arith, common_steps)

pub returns-then-c-eq40-clause-ends : goal.returns-then-c-eq40-clause-ends
returns-then-c-eq40-clause-ends c = grind (arith, common_steps)

pub returns-in_default-clause-items : goal.returns-in_default-clause-items
returns-in_default-clause-items c = grind (arith, common_steps)

pub returns-in_default-clause-ends : goal.returns-in_default-clause-ends
returns-in_default-clause-ends c = grind (arith, common_steps)
