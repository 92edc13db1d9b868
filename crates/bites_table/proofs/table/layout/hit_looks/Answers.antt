use Rattle.std.proofs.Common.{◌≡◌, true, false, rules, refl, arith}
use Rattle.bites_table.proofs.Words.{list_of, outcome_of, is_dead}
use Rattle.bites_table.proofs.LaidOutLemmas.{does-hit, does-whole-hit}
use Rattle.bites_table.proofs.table.layout.hit_looks.Goals as goal

pub returns-clause-hits : goal.returns-clause-hits
returns-clause-hits c = λ none.
    let alive : is_dead (list_of c.args.next.now) ≡ false = search rules in
    let kept : c.are_kept.result ≡ true = search rules in
    let few = c.in-Some.ensures.few in
    does-hit (outcome_of c.args.outcome.now) (list_of c.args.next.now) c.args.next.now.threads.now refl c.in-Some.begins (omega arith) c.in-Some.ensures.ends alive
    (c.are_kept.ensures kept)

pub returns-then-are_kept-clause-hits : goal.returns-then-are_kept-clause-hits
returns-then-are_kept-clause-hits c = λ none.
    let alive : is_dead (list_of c.args.next.now) ≡ false = search rules in
    let kept : c.are_kept.result ≡ true = search rules in
    let few = c.in-Some.ensures.few in
    does-hit (outcome_of c.args.outcome.now) (list_of c.args.next.now) c.args.next.now.threads.now refl c.in-Some.begins (omega arith) c.in-Some.ensures.ends alive
    (c.are_kept.ensures kept)

pub returns-then-are_kept-clause-whole_hits : goal.returns-then-are_kept-clause-whole_hits
returns-then-are_kept-clause-whole_hits c = λ none.
    let alive : is_dead (list_of c.args.next.now) ≡ false = search rules in
    let kept : c.are_kept-2.result ≡ true = search rules in
    does-whole-hit (outcome_of c.args.outcome.now) (list_of c.args.next.now) c.args.next.now.threads.now refl c.in-Some.begins c.in-Some.ensures.ends alive
    (c.are_kept-2.ensures kept)
