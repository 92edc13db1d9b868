use Rattle.std.proofs.Common.{subst}
use Rattle.bites_table.proofs.Words.{Asked, asked, ComesTo}
use Rattle.bites_table.proofs.SearchesLemmas.{asked_same}
use Rattle.bites_table.proofs.TraceLemmas.{comes_to_list}
use Rattle.bites_table.proofs.search.record.Search.trace_settled.Goals as goal

pub returns : goal.returns
returns c =
    let was = c.args.self.now in
    let now = c.settle.new.self in
    let to = c.in-Some.to in
    record {
      stops = λ h at. (c.in-Some.ensures.stands h at).stands;
      lead = λ h at before. c.in_ok-note_skip.ensures (asked was h.before) before
          (λ n e. subst (λ (a : Asked). ComesTo a to.place n) (asked_same was now h.before c.settle.ensures.same)
          (comes_to_list (asked now h.before) to.place to.row h.registers h.is_found h.slots now.counted.walked (c.in-Some.ensures.stands h at).stands n e));
      same = c.settle.ensures.same;
    }
