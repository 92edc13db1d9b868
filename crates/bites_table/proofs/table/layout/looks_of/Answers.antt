use Rattle.std.proofs.Common.{rules, refl}
use Rattle.bites_table.proofs.Words.{list_of, outcome_of}
use Rattle.bites_table.proofs.LaidOutLemmas.{not-none, goes-so, passes-so}
use Rattle.bites_table.proofs.table.layout.looks_of.Goals as goal

pub returns-in-Some-written_index-clause-passes : goal.returns-in-Some-written_index-clause-passes
returns-in-Some-written_index-clause-passes c =
    let o = outcome_of c.args.outcome.now in
    let l = list_of c.args.next.now in
    let goes = goes-so o.hit l (search rules) (search rules) in
    passes-so o l goes c.args.next.now.threads.now refl c.args.slots c.in-Some.begins c.in-Some-written_index.index c.in-Some.ensures.few 248 (not-none 247)
    (λ e t at. c.in-Some.ensures.begun t (c.requires.held t at)) (λ e. (c.in-Some-written_index.ensures.within, λ t at. c.in-Some-written_index.ensures.alike t.register (c.requires.held t at)))

pub returns-in-None-clause-passes : goal.returns-in-None-clause-passes
returns-in-None-clause-passes c =
    let o = outcome_of c.args.outcome.now in
    let l = list_of c.args.next.now in
    let goes = goes-so o.hit l (search rules) (search rules) in
    passes-so o l goes c.args.next.now.threads.now refl c.args.slots c.in-Some.begins 0 c.in-Some.ensures.few 212 (not-none 211)
    (λ e t at. c.in-Some.ensures.begun t (c.requires.held t at)) (λ e. absurd (not-none 3 e))
