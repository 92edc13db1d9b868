use Rattle.bites_table.proofs.Library.{◌≡◌, subst}
use Rattle.bites_table.proofs.Words.{Grows, AreRoots, Graph, Roots, Starts, everywhere, number_in, program_in, classes_in}
use Rattle.bites_spec.specs.Program.{Program}
use Rattle.bites_table.proofs.GraphLemmas.{grows-trans, root-stays}
use Rattle.bites_table.proofs.ExploreLemmas.{making-stays}
use Rattle.bites_table.proofs.explore.follow_roots.Goals as goal

pub follow-requires : goal.follow-requires
follow-requires c =
    making-stays c.args.context.now c.args.graph.now c.add_roots.new.graph c.args.memory.now.base c.add_roots.ensures.grows (c.add_roots.ensures.made (program_in c.args.context.now) (classes_in c.args.context.now) c.requires.made) c.requires

pub returns-in_err-everywhere-clause-making : goal.returns-in_err-everywhere-clause-making
returns-in_err-everywhere-clause-making c =
    making-stays c.args.context.now c.args.graph.now c.add_roots.new.graph c.args.memory.now.base c.add_roots.ensures.grows (c.add_roots.ensures.made (program_in c.args.context.now) (classes_in c.args.context.now) c.requires.made) c.requires

pub returns-in_err-here-clause-making : goal.returns-in_err-here-clause-making
returns-in_err-here-clause-making c =
    making-stays c.args.context.now c.follow.new.graph c.add_roots-2.new.graph c.follow.new.memory.base c.add_roots-2.ensures.grows (c.add_roots-2.ensures.made (program_in c.args.context.now) (classes_in c.args.context.now) c.follow.ensures.making.made) c.follow.ensures.making

pub returns-then-matches-clause-making : goal.returns-then-matches-clause-making
returns-then-matches-clause-making c =
    making-stays c.args.context.now c.follow.new.graph c.add_roots-2.new.graph c.follow.new.memory.base c.add_roots-2.ensures.grows (c.add_roots-2.ensures.made (program_in c.args.context.now) (classes_in c.args.context.now) c.follow.ensures.making.made) c.follow.ensures.making

pub follow-requires-2 : goal.follow-requires-2
follow-requires-2 c =
    making-stays c.args.context.now c.follow.new.graph c.add_roots-2.new.graph c.follow.new.memory.base c.add_roots-2.ensures.grows (c.add_roots-2.ensures.made (program_in c.args.context.now) (classes_in c.args.context.now) c.follow.ensures.making.made) c.follow.ensures.making

-- the lists where searches begin stay so as well
begin : (p : Program) (g h : Graph) (starts : Starts) (r : Roots) → Grows g h → AreRoots p g starts r → AreRoots p h starts r
begin p g h starts r grows are b = root-stays p g h grows b starts (number_in r b) (are b)

pub returns-then-matches-clause-everywhere : goal.returns-then-matches-clause-everywhere
returns-then-matches-clause-everywhere c tells =
    let p = program_in c.args.context.now in let r = c.in_ok-everywhere.everywhere in
    begin p c.add_roots.new.graph c.add_roots-2.new.graph everywhere r
    (grows-trans c.add_roots.new.graph c.follow.new.graph c.add_roots-2.new.graph c.follow.ensures.grows c.add_roots-2.ensures.grows) (c.in_ok-everywhere.ensures.roots p tells)

-- those at one place walk the start as it was asked for
here-so : (p : Program) (g : Graph) (one other : Starts) (r : Roots) → one ≡ other → AreRoots p g one r → AreRoots p g other r
here-so p g one other r same are = subst (λ (s : Starts). AreRoots p g s r) same are

pub returns-then-matches-clause-here : goal.returns-then-matches-clause-here
returns-then-matches-clause-here c tells =
    let p = program_in c.args.context.now in
    here-so p c.add_roots-2.new.graph _ _ c.in_ok-here.here c.starts_here.ensures (c.in_ok-here.ensures.roots p tells)

pub returns-clause-everywhere : goal.returns-clause-everywhere
returns-clause-everywhere c tells =
    let p = program_in c.args.context.now in let r = c.in_ok-everywhere.everywhere in
    let g1 = c.add_roots.new.graph in let g2 = c.follow.new.graph in let g3 = c.add_roots-2.new.graph in let g4 = c.follow-2.new.graph in
    begin p g1 g4 everywhere r (grows-trans g1 g2 g4 c.follow.ensures.grows (grows-trans g2 g3 g4 c.add_roots-2.ensures.grows c.follow-2.ensures.grows)) (c.in_ok-everywhere.ensures.roots p tells)

pub returns-clause-here : goal.returns-clause-here
returns-clause-here c tells =
    let p = program_in c.args.context.now in
    begin p c.add_roots-2.new.graph c.follow-2.new.graph _ c.in_ok-here.here c.follow-2.ensures.grows
    (here-so p c.add_roots-2.new.graph _ _ c.in_ok-here.here c.starts_here.ensures (c.in_ok-here.ensures.roots p tells))
