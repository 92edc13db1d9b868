use Rattle.std.proofs.Common.{◌∙◌, sym, ap, length}
use Rattle.bites_bytes.proofs.FullLemmas.{full_if, full_on_tree, full_written, full_unknown}
use Rattle.bites_bytes.proofs.SlotLemmas.{length-over}
use Rattle.bites_bytes.proofs.bytes.locations.CaptureLocations.find_full.Goals as goal

pub returns : goal.returns
returns c =
    let e = c.find_full.ensures in let r = c.args.regex.now in let hay = c.args.haystack.now in let there = c.find_full.result in
    let found = full_if r e.compiled hay there _
    (λ holds. full_written r e.compiled hay there c.args.self.now c.self.inside.slots.items c.deref_mut.result.now c.find_full.new.slots
    c.self.inside.slots.len (sym c.self.view_is) c.deref_mut.ensures.value c.requires.locations (sym c.deref_mut.ensures.len) e.full holds)
    (λ missing. full_unknown r e.compiled hay there _ _ e.full missing) in
    record {
      reads = record {
        found = found;
        on_tree = full_on_tree r e.compiled hay _ found;
        searched = e.searched;
        searches = e.searches;
        len = length-over _ c.find_full.new.slots c.self.inside.slots.items (sym c.deref_mut.ensures.len ∙ ap length c.deref_mut.ensures.value)
            ∙ ap length c.self.view_is;
      };
      compiled = e.compiled;
    }
