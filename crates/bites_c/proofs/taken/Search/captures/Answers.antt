use Rattle.std.proofs.Common.{◌≡◌, ◌≤◌, ◌/◌, length, option_map, refl, sym, ap, subst, ◌∙◌, arith}
use Rattle.bites_spec.specs.Counts.{Fit, fit_of}
use Rattle.bites_spec.specs.Regex.{IsCompiled}
use Rattle.bites_machine.specs.Inputs.{starts_of}
use Rattle.bites_bytes.specs.Calls.{ReadsGroups}
use Rattle.bites_bytes.specs.Matched.{excerpt_of}
use Rattle.bites_c.specs.declared.held.Held.{Held}
use Rattle.bites_c.proofs.SlotsLemmas.{are_starts, both_written, found_put, read_len, room_fits, room_len, room_same, still_fits}
use Rattle.bites_c.proofs.taken.Search.captures.Goals as goal

pub invariant_of-room : goal.invariant_of-room
invariant_of-room c =
    let s = c.args.self.now in let r = s.held.value.regex in let hay = c.args.haystack.now in let ps = starts_of hay c.args.anchored c.args.start in
    let was = c.room.inside.locations in let new = c.read.new.locations in let cache = c.room.inside.cache in
    let value = c.deref_mut-room.ensures.value in
    let compiled : IsCompiled r = subst (λ (h : Held). IsCompiled h.regex) c.deref.ensures c.as_str.ensures.compiled in
    let read : ReadsGroups r hay ps (option_map excerpt_of c.read.result) was new =
    subst (λ (h : Held). ReadsGroups h.regex hay ps (option_map excerpt_of c.read.result) was new) c.deref.ensures c.read.ensures.read in
    let len : length new ≡ r.program.slots =
    read_len r compiled hay c.args.start ps (are_starts hay c.args.anchored c.args.start) excerpt_of c.read.result was new read c.slots_are_groups.ensures
    (room_len s cache c.deref_mut-room.result.now c.room.view_is value was c.room.invariant) in
    let fits : c.read.new.cache.fits ≡ fit_of r.program =
    room_fits s cache c.deref_mut-room.result.now c.room.view_is value c.read.new.cache
    (still_fits c.deref.result.now.regex hay c.args.anchored c.args.start _ cache c.read.new.cache c.read.ensures.searched) in
    len ∙ sym (ap (λ (f : Fit). f.slots) fits)

pub invariant_of-room-2 : goal.invariant_of-room-2
invariant_of-room-2 c =
    let s = c.args.self.now in let r = s.held.value.regex in let hay = c.args.haystack.now in let ps = starts_of hay c.args.anchored c.args.start in
    let was = c.room.inside.locations in let new = c.read.new.locations in let cache = c.room.inside.cache in
    let value = c.deref_mut-room.ensures.value in
    let compiled : IsCompiled r = subst (λ (h : Held). IsCompiled h.regex) c.deref.ensures c.as_str.ensures.compiled in
    let read : ReadsGroups r hay ps (option_map excerpt_of c.read.result) was new =
    subst (λ (h : Held). ReadsGroups h.regex hay ps (option_map excerpt_of c.read.result) was new) c.deref.ensures c.read.ensures.read in
    let len : length new ≡ r.program.slots =
    read_len r compiled hay c.args.start ps (are_starts hay c.args.anchored c.args.start) excerpt_of c.read.result was new read c.slots_are_groups.ensures
    (room_len s cache c.deref_mut-room.result.now c.room.view_is value was c.room.invariant) in
    let fits : c.read.new.cache.fits ≡ fit_of r.program =
    room_fits s cache c.deref_mut-room.result.now c.room.view_is value c.read.new.cache
    (still_fits c.deref.result.now.regex hay c.args.anchored c.args.start _ cache c.read.new.cache c.read.ensures.searched) in
    len ∙ sym (ap (λ (f : Fit). f.slots) fits)

pub invariant_of-self-in_default : goal.invariant_of-self-in_default
invariant_of-self-in_default c =
    let s = c.args.self.now in let r = s.held.value.regex in let hay = c.args.haystack.now in let ps = starts_of hay c.args.anchored c.args.start in
    let was = c.room.inside.locations in let new = c.read.new.locations in let cache = c.room.inside.cache in
    let value = c.deref_mut-room.ensures.value in
    let fits : c.read.new.cache.fits ≡ fit_of r.program =
    room_fits s cache c.deref_mut-room.result.now c.room.view_is value c.read.new.cache
    (still_fits c.deref.result.now.regex hay c.args.anchored c.args.start _ cache c.read.new.cache c.read.ensures.searched) in
    record { fits = fits }

pub invariant_of-self-2 : goal.invariant_of-self-2
invariant_of-self-2 c =
    let s = c.args.self.now in let r = s.held.value.regex in let hay = c.args.haystack.now in let ps = starts_of hay c.args.anchored c.args.start in
    let was = c.room.inside.locations in let new = c.read.new.locations in let cache = c.room.inside.cache in
    let value = c.deref_mut-room.ensures.value in
    let fits : c.read.new.cache.fits ≡ fit_of r.program =
    room_fits s cache c.deref_mut-room.result.now c.room.view_is value c.read.new.cache
    (still_fits c.deref.result.now.regex hay c.args.anchored c.args.start _ cache c.read.new.cache c.read.ensures.searched) in
    record { fits = fits }

pub put_groups-requires-clause-room : goal.put_groups-requires-clause-room
put_groups-requires-clause-room c =
    let s = c.args.self.now in let r = s.held.value.regex in let hay = c.args.haystack.now in let ps = starts_of hay c.args.anchored c.args.start in
    let was = c.room.inside.locations in let new = c.read.new.locations in let cache = c.room.inside.cache in
    let value = c.deref_mut-room.ensures.value in
    let compiled : IsCompiled r = subst (λ (h : Held). IsCompiled h.regex) c.deref.ensures c.as_str.ensures.compiled in
    let read : ReadsGroups r hay ps (option_map excerpt_of c.read.result) was new =
    subst (λ (h : Held). ReadsGroups h.regex hay ps (option_map excerpt_of c.read.result) was new) c.deref.ensures c.read.ensures.read in
    let len : length new ≡ r.program.slots =
    read_len r compiled hay c.args.start ps (are_starts hay c.args.anchored c.args.start) excerpt_of c.read.result was new read c.slots_are_groups.ensures
    (room_len s cache c.deref_mut-room.result.now c.room.view_is value was c.room.invariant) in
    let size : c.captures_len-size.result ≡ length r.names =
    c.captures_len-size.ensures.groups ∙ ap (λ (h : Held). length h.regex.names) c.deref.ensures in
    let wide : c.captures_len-size.result ≤ length c.args.groups.now = c.if-groups-size.false in
    omega (arith, len, compiled.slots, size, wide)

pub put_groups-requires-clause-both : goal.put_groups-requires-clause-both
put_groups-requires-clause-both c =
    let s = c.args.self.now in let r = s.held.value.regex in let hay = c.args.haystack.now in let ps = starts_of hay c.args.anchored c.args.start in
    let was = c.room.inside.locations in let new = c.read.new.locations in let cache = c.room.inside.cache in
    let value = c.deref_mut-room.ensures.value in
    let compiled : IsCompiled r = subst (λ (h : Held). IsCompiled h.regex) c.deref.ensures c.as_str.ensures.compiled in
    let read : ReadsGroups r hay ps (option_map excerpt_of c.read.result) was new =
    subst (λ (h : Held). ReadsGroups h.regex hay ps (option_map excerpt_of c.read.result) was new) c.deref.ensures c.read.ensures.read in
    both_written r compiled hay c.args.start ps (are_starts hay c.args.anchored c.args.start) excerpt_of c.read.result was new read c.slots_are_groups.ensures c.in-Some.field-0 c.in-Some.is

pub returns : goal.returns
returns c =
    let s = c.args.self.now in let r = s.held.value.regex in let hay = c.args.haystack.now in let ps = starts_of hay c.args.anchored c.args.start in
    let was = c.room.inside.locations in let new = c.read.new.locations in let cache = c.room.inside.cache in
    let value = c.deref_mut-room.ensures.value in
    let compiled : IsCompiled r = subst (λ (h : Held). IsCompiled h.regex) c.deref.ensures c.as_str.ensures.compiled in
    let read : ReadsGroups r hay ps (option_map excerpt_of c.read.result) was new =
    subst (λ (h : Held). ReadsGroups h.regex hay ps (option_map excerpt_of c.read.result) was new) c.deref.ensures c.read.ensures.read in
    let len : length new ≡ r.program.slots =
    read_len r compiled hay c.args.start ps (are_starts hay c.args.anchored c.args.start) excerpt_of c.read.result was new read c.slots_are_groups.ensures
    (room_len s cache c.deref_mut-room.result.now c.room.view_is value was c.room.invariant) in
    let size : c.captures_len-size.result ≡ length r.names =
    c.captures_len-size.ensures.groups ∙ ap (λ (h : Held). length h.regex.names) c.deref.ensures in
    let wide : c.captures_len-size.result ≤ length c.args.groups.now = c.if-groups-size.false in
    let half : length new / 2 ≡ length r.names = omega (arith, len, compiled.slots) in
    record {
      held = refl;
      fits = still_fits c.deref.result.now.regex hay c.args.anchored c.args.start _ cache c.read.new.cache c.read.ensures.searched
          ∙ room_same s cache c.deref_mut-room.result.now c.room.view_is value;
      found = (
        size,
        found_put r compiled hay c.args.start ps (are_starts hay c.args.anchored c.args.start) excerpt_of c.read.result was new read c.slots_are_found.ensures
            c.args.groups.now c.put_groups.new.groups (subst (λ n. n ≤ length c.args.groups.now) size wide) c.in-Some.field-0 c.in-Some.is half c.put_groups.ensures,
      );
    }
