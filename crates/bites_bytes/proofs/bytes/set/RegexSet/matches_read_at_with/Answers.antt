use Rattle.std.proofs.Common.{◌∙◌, ap, length, subst, sym}
use Rattle.bites_spec.specs.Set.{AreMatched, fits_of}
use Rattle.bites_spec.specs.Utf8.{places}
use Rattle.bites_bytes.proofs.SlotLemmas.{written_over}
use Rattle.bites_bytes.proofs.bytes.set.RegexSet.matches_read_at_with.Goals as goal

pub returns : goal.returns
returns c =
    let e = c.match_each.ensures in let rooms = c.cache.inside.caches in let now = c.as_mut_slice-caches.ensures.value in
    let new = c.match_each.new.caches in
    let written = written_over rooms.len new rooms.items (c.match_each.auto.caches ∙ ap length now) (sym c.as_mut_slice-caches.ensures.len ∙ ap length now) in
    record {
      found = subst (λ rs. AreMatched rs c.args.haystack.now (places c.args.haystack.now c.args.start) c.match_each.new.matched)
          (c.as_slice.ensures.value ∙ c.self.view_is) e.found;
      same = ap fits_of written ∙ e.same ∙ ap fits_of (now ∙ c.cache.view_is);
    }
