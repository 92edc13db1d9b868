use Rattle.std.proofs.Common.{sym, subst}
use Rattle.bites_table.proofs.Words.{IsOver, asked}
use Rattle.bites_table.proofs.SearchesLemmas.{rested, rested_apart}
use Rattle.bites_table.proofs.search.record.Search.settle.Goals as goal

pub record_rest-requires : goal.record_rest-requires
record_rest-requires c =
    let now = c.args.self.now in
    let h = c.requires.stands.0 in
    let at = c.requires.stands.1 in
    record {
      fresh = rested_apart (asked now h.before) at.is_asked c.args.at.place c.args.at.row h.registers h.is_found h.slots now.counted.walked at.stands
          c.args.number c.requires.number c.in-Some.rest.now c.in-Some.ensures;
    }

pub returns-clause-over : goal.returns-clause-over
returns-clause-over c h at =
    let now = c.args.self.now in
    let s = asked now h.before in
    subst (λ w. IsOver s h.is_found h.slots w) (sym c.record_rest.ensures.walked)
    (rested s at.is_asked c.args.at.place c.args.at.row h.registers h.is_found h.slots now.counted.walked at.stands
    c.args.number c.requires.number c.in-Some.rest.now c.in-Some.ensures)
