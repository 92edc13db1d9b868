use Rattle.std.proofs.Common.{◌≡◌, ◌+◌, suc, length, ap, sym, ◌∙◌, subst, arith}
use Rattle.bites_table.proofs.Words.{Graph, table_of, Packed, lists_in, stride, AreWithin, AreActs, AreEntries, AreNamed, Fits, classes_of, AreStays}
use Rattle.bites_table.specs.Packed.{classes_in}
use Rattle.bites_table.proofs.LaidOutLemmas.{act-part, are-entries}
use Rattle.bites_table.proofs.table.layout.lay_out.Goals as goal

pub invariant_of-result : goal.invariant_of-result
invariant_of-result c =
    let acts = c.in_ok-acts.field-0.acts.items in
    let steps = c.in_ok-acts.field-0.steps.items in
    let entries = c.in_ok-entries.field-0.entries.items in
    let threads = c.in_ok-entries.field-0.threads.items in
    let value : c.of-value.result.value ≡ c.args.explored.graph = c.of-value.ensures in
    let x : Packed = record {
      slots = c.args.slots;
      cells = c.in_ok-cells.cells.items;
      intervals = c.args.classes;
      graph = c.of-value.result.value;
      everywhere = c.args.explored.everywhere;
      here = c.args.explored.here;
      longest = c.args.explored.is_longest;
      acts = acts;
      steps = steps;
    } in
    let count : length acts ≡ length x.graph.outcomes = subst (λ (g : Graph). length acts ≡ length g.outcomes) (sym value) c.in_ok-acts.ensures.count in
    let do-acts : AreActs x.graph x.slots steps acts = subst (λ (g : Graph). AreActs g x.slots steps acts) (sym value) c.in_ok-acts.ensures.do_so in
    let len : length entries ≡ lists_in x = subst (λ (g : Graph). length entries ≡ length g.lists) (sym value) c.in_ok-entries.ensures.count in
    let are : AreEntries x.graph threads entries = subst (λ (g : Graph). AreEntries g threads entries) (sym value) c.in_ok-entries.ensures.entries in
    let stride_is : c.len-stride.result + 1 ≡ stride x = ap (λ n. n + 1) c.len-stride.ensures.len ∙ (let e : (classes_in x).len + 1 ≡ suc (classes_in x).len = omega arith in e) in
    let classes : suc x.graph.classes ≡ stride x = ap suc (ap (λ (g : Graph). g.classes) value ∙ c.fits.ensures.classes c.if-not-fits.false) in
    let fits : Fits x c.deref.result.now (c.len-stride.result + 1) = record {
      named = subst (AreNamed acts (c.len-stride.result + 1)) (sym c.deref.ensures.value) c.in_ok-acts.ensures.named;
      count = count;
      acts_do = do-acts;
      stride_is = stride_is;
      classes = classes;
    } in
    record {
      stride_is = stride_is;
      cells = c.in_ok-cells.ensures x value fits;
      parts = act-part x.graph x.slots steps acts count do-acts;
      hits = c.in_ok-acts.ensures.hits;
      names = c.in_ok-acts.ensures.names;
      count = len;
      entries = are-entries x threads entries len are;
      held = c.in_ok-entries.ensures.held;
      stays = subst (λ (g : Graph). AreStays (table_of g) (classes_of x.intervals) c.args.explored.stays.skips.items c.args.explored.stays.lists.items) (sym value) c.requires.stays;
      everywhere = subst (λ (g : Graph). AreWithin (length g.lists) x.everywhere) (sym value) (c.fits.ensures.everywhere c.if-not-fits.false);
      here = subst (λ (g : Graph). AreWithin (length g.lists) x.here) (sym value) (c.fits.ensures.here c.if-not-fits.false);
      one_root = c.have_one_root.ensures;
    }
