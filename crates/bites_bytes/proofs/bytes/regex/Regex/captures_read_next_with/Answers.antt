use Rattle.std.proofs.Common.{◌∙◌, inl, inr, ap, sym, length, option_map}
use Rattle.bites_bytes.specs.Matched.{excerpt_of}
use Rattle.bites_bytes.proofs.MatchLemmas.{next_written}
use Rattle.bites_bytes.proofs.SlotLemmas.{written_over}
use Rattle.bites_bytes.proofs.bytes.regex.Regex.captures_read_next_with.Goals as goal

pub find_next-requires : goal.find_next-requires
find_next-requires c = record {
  room = inl c.requires.cache;
  slots = inr (ap length c.deref_mut.ensures.value ∙ ap length c.locations.view_is ∙ c.requires.locations);
}

pub returns : goal.returns
returns c =
    let e = c.find_next.ensures in let slots = c.locations.inside.slots in let new = c.find_next.new.slots in let now = c.deref_mut.ensures.value in
    let same = c.find_next.auto.slots ∙ ap length now in record {
      found = record {
        found = next_written c.args.self.now e.compiled c.args.haystack.now c.args.last (option_map excerpt_of c.find_next.result) c.args.locations.now slots.items
            c.deref_mut.result.now new slots.len (sym c.locations.view_is) now c.requires.locations (sym c.deref_mut.ensures.len) e.next;
        same = ap length (written_over slots.len new slots.items same (sym c.deref_mut.ensures.len ∙ ap length now)) ∙ same ∙ ap length c.locations.view_is;
      };
      fits = e.fits;
      searches = e.searches;
    }
