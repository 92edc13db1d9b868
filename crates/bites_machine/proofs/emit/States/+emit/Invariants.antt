use Rattle.bites_machine.proofs.Library.{◌≡◌, ◌+◌, ◌*◌, ◌-◌, drop, sequence, trees_of, height, emitted, again, options, emit, emit_all, emit_each}
use Rattle.bites_machine.proofs.compile.EmittedLemmas.{with_rounds}
use Rattle.bites_machine.proofs.emit.States.+emit.Given as goal

abbrev pub decreases-emit : goal.decreases-emit
decreases-emit l = 5 * height l.tree.now

abbrev pub decreases-group : goal.decreases-group
decreases-group l = 5 * height l.sub.now + 1

abbrev pub decreases-unbounded : goal.decreases-unbounded
decreases-unbounded l = 5 * height l.sub.now + 3

abbrev pub decreases-counted : goal.decreases-counted
decreases-counted l = 5 * height l.sub.now + 3

abbrev pub decreases-copies : goal.decreases-copies
decreases-copies l = 5 * height l.sub.now + 1

abbrev pub decreases-bounded : goal.decreases-bounded
decreases-bounded l = 5 * height l.sub.now + 1

abbrev pub decreases-looped : goal.decreases-looped
decreases-looped l = 5 * height l.sub.now + 1

abbrev pub decreases-star : goal.decreases-star
decreases-star l = 5 * height l.sub.now + 1

abbrev pub decreases-optional_loop : goal.decreases-optional_loop
decreases-optional_loop l = 5 * height l.sub.now + 2

abbrev pub decreases-sequence : goal.decreases-sequence
decreases-sequence l = 5 * height (sequence (trees_of l.parts.now)) - 1

abbrev pub decreases-alternation : goal.decreases-alternation
decreases-alternation l = 5 * height (sequence (trees_of l.parts.now)) - 1

abbrev pub invariant-copies-loop : goal.invariant-copies-loop
invariant-copies-loop l = emitted l.self l.from ≡ again l.counter (emit l.sub) l.to l.initial.self

abbrev pub invariant-bounded-loop : goal.invariant-bounded-loop
invariant-bounded-loop l = emitted l.self l.from ≡ options l.counter l.greedy (emit l.sub) l.out l.initial.self

abbrev pub invariant-sequence-loop-i : goal.invariant-sequence-loop-i
invariant-sequence-loop-i l = emitted l.self l.from ≡ emit_all (trees_of (drop l.i l.parts)) l.to l.initial.self

abbrev pub invariant-alternation-loop-part : goal.invariant-alternation-loop-part
invariant-alternation-loop-part l = emit_each (trees_of l.parts) l.out l.initial.self ≡ with_rounds l.rounds.items (emit_each (trees_of (drop l.part-index l.parts)) l.out l.self)
