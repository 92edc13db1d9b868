use Rattle.std.proofs.Common.{◌≡◌, ◌≤◌, ◌/◌, Some, length, refl, ap, subst, ◌∙◌, arith}
use Rattle.bites_spec.specs.Captured.{excerpt}
use Rattle.bites_spec.specs.Regex.{IsCompiled}
use Rattle.bites_bytes.specs.Calls.{AreNextGroups}
use Rattle.bites_bytes.specs.Matched.{excerpt_of}
use Rattle.bites_c.specs.Put.{HasPrefix}
use Rattle.bites_c.specs.declared.held.Held.{Held}
use Rattle.bites_c.proofs.SlotsLemmas.{room_same}
use Rattle.bites_c.proofs.taken.Search.captures_next.Goals as goal

pub put_groups-requires-clause-both : goal.put_groups-requires-clause-both
put_groups-requires-clause-both c =
    let s = c.args.self.now in let r = s.held.value.regex in let hay = c.args.haystack.now in let slots = c.captures_read_next_with.new.locations in
    let x = excerpt_of c.in-Some.field-0 in
    let e : AreNextGroups r hay c.args.last x slots =
    subst (λ (h : Held). AreNextGroups h.regex hay c.args.last x slots) c.deref.ensures c.in-Some.ensures.found.found in
    e.are.both

pub returns : goal.returns
returns c =
    let s = c.args.self.now in let r = s.held.value.regex in let hay = c.args.haystack.now in let slots = c.captures_read_next_with.new.locations in
    let x = excerpt_of c.in-Some.field-0 in
    let compiled : IsCompiled r = subst (λ (h : Held). IsCompiled h.regex) c.deref.ensures c.as_str.ensures.compiled in
    let e : AreNextGroups r hay c.args.last x slots =
    subst (λ (h : Held). AreNextGroups h.regex hay c.args.last x slots) c.deref.ensures c.in-Some.ensures.found.found in
    let size : c.captures_len-size.result ≡ length r.names =
    c.captures_len-size.ensures.groups ∙ ap (λ (h : Held). length h.regex.names) c.deref.ensures in
    let wide : c.captures_len-size.result ≤ length c.args.groups.now = c.if-groups-size.false in
    let half : length slots / 2 ≡ length r.names = omega (arith, e.are.count, compiled.slots) in
    record {
      held = refl;
      fits = c.captures_read_next_with.ensures.fits
          ∙ room_same s c.room.inside.cache c.deref_mut-room.result.now c.room.view_is c.deref_mut-room.ensures.value;
      found = (
        size,
        (
          λ small. absurd (omega (arith, small, size, wide)),
          λ _. (
            Some slots,
            (x.span, subst (λ h. AreNextGroups r hay c.args.last (excerpt h x.span) slots) e.next.haystack e),
            (refl, subst (λ n. HasPrefix slots n c.args.groups.now c.put_groups.new.groups) half c.put_groups.ensures.prefix),
          ),
        ),
      );
    }
