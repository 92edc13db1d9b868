use Rattle.bites_table.proofs.Library.{◌-◌, ◌<◌, Bool, List, Option, ℕ, ap, ◌∙◌, arith, length, refl, subst, sym}
use Rattle.bites_table.proofs.Words.{CanGoOnBy}
use Rattle.bites_table.proofs.SearchesLemmas.{can_go_on, stands_within}
use Rattle.bites_table.proofs.search.record.Search.pass_quietly.Goals as goal
use Rattle.bites_table.proofs.search.record.Search.pass_quietly.Goals.{After-pass_one-arg-1}
use Rattle.bites_table.proofs.search.record.Search.pass_quietly.Given.{Over}

-- before a byte the search can go on
on : (g : Over) (c : After-pass_one-arg-1 g) (f : Bool) (l : List (Option ℕ)) → CanGoOnBy c.args.self.now c.args.width g.before c.args.from c.args.registers.now f l →
    CanGoOnBy c.bytes.self c.args.width g.before c.bytes.at c.bytes.registers f l
on g c f l can =
    can_go_on _ _ c.args.width g.before c.args.from _ _ _ f f l l c.bytes.invariant.same can c.bytes.auto.registers refl (c.bytes.invariant.stands f l can)

pub pass_one-requires : goal.pass_one-requires
pass_one-requires g c =
    let some = c.requires.0 in
    ((some.0, some.1, on g (goal.at.pass_one-requires g c).After-pass_one-arg-1 some.0 some.1 some.2), c.requires.1 ∙ ap (λ i. i.now.haystack.now) (sym c.bytes.invariant.same.input))

pub bytes-smaller : goal.bytes-smaller
bytes-smaller g c =
    let some = c.requires.0 in
    let to = c.in-Some.ensures.stands in
    let stands = to.1 some.0 some.1 (on g (goal.at.bytes-smaller g c).After-pass_one-arg-1 some.0 some.1 some.2) in
    let within = stands_within c.bytes.self c.pass_one.new.self g.before _ _ _ _ c.in-Some.ensures.same stands in
    let later = to.0 in
    subst (λ i. length i.now.haystack.now - c.in-Some.to.place < length c.bytes.self.input.now.haystack.now - c.bytes.at.place) (sym c.in-Some.ensures.same.input) (omega arith)
