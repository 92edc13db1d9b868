use Rattle.std.proofs.Common.{◌∙◌, ap, length, subst, sym}
use Rattle.bites_spec.specs.Set.{AreMatched}
use Rattle.bites_spec.specs.Utf8.{places}
use Rattle.bites_bytes.proofs.SlotLemmas.{written_over}
use Rattle.bites_bytes.proofs.bytes.set.RegexSet.matches_at_with.Goals as goal

pub returns : goal.returns
returns c =
    let e = c.matches_read_at_with.ensures in let old = c.in_ok-matched.matched in let now = c.as_mut_slice.ensures.value in
    let new = c.matches_read_at_with.new.matched in
    let written = written_over old.len new old.items (c.matches_read_at_with.auto.matched ∙ ap length now) (sym c.as_mut_slice.ensures.len ∙ ap length now) in
    record {
      found = subst (AreMatched c.args.self.now c.args.haystack.now (places c.args.haystack.now c.args.start)) (sym (c.of.ensures ∙ written)) e.found;
      same = e.same;
    }
