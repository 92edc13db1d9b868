use Rattle.bites_table.proofs.Words.{asked}
use Rattle.bites_table.proofs.SearchesLemmas.{skipped, skipped_apart}
use Rattle.bites_table.proofs.search.record.Search.skip.Goals as goal
use Rattle.bites_table.proofs.Library.{arith, common_steps}

pub record_transitions-requires : goal.record_transitions-requires
record_transitions-requires c =
    let now = c.args.self.now in
    let h = c.requires.stands.0 in
    let at = c.requires.stands.1 in
    record {
      fresh = skipped_apart (asked now h.before) at.is_asked c.args.at.place c.args.at.row h.registers h.is_found h.slots now.counted.walked at.stands
          c.args.number c.requires.number c.in-Some.skip.now c.in-Some.ensures c.skip_while-place.result
          c.skip_while-place.ensures.onward c.skip_while-place.ensures.within c.skip_while-place.ensures.passed;
    }

pub returns-clause-stands : goal.returns-clause-stands
returns-clause-stands c h at = grind (arith, common_steps, skipped, c.record_transitions.ensures.walked, c.requires.number, c.in-Some.ensures, c.skip_while-place.ensures.onward, c.skip_while-place.ensures.within, c.skip_while-place.ensures.passed)
