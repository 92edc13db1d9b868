use Rattle.std.proofs.Common.{sym, option_map}
use Rattle.bites_spec.specs.Regex.{run_at}
use Rattle.bites_machine.specs.Inputs.{starts_of}
use Rattle.bites_bytes.specs.Matched.{excerpt_of}
use Rattle.bites_bytes.proofs.SlotLemmas.{starts_are, slots_written, read_on_tree}
use Rattle.bites_bytes.proofs.bytes.locations.CaptureLocations.find.Goals as goal

pub returns : goal.returns
returns c =
    let r = c.args.regex.now in let hay = c.args.haystack.now in let s = c.args.start in let b = c.args.anchored in let e = c.find.ensures in
    let written = slots_written r.program (run_at r hay (starts_of hay b s)) _ c.args.self.now c.self.inside.slots.items c.deref_mut.result.now
    c.find.new.slots c.self.inside.slots.len (sym c.self.view_is) c.deref_mut.ensures.value c.requires.locations (sym c.deref_mut.ensures.len) e.answered in
    record {
      reads = record {
        read = record {
          found = e.finds.found;
          groups = written;
          on_tree = read_on_tree r e.compiled hay s _ (starts_are hay b s) (option_map excerpt_of c.find.result) e.finds.found.span _ _ written;
        };
        searched = e.finds.searched;
        searches = e.finds.searches;
      };
      compiled = e.compiled;
      cache = e.fits;
    }
