use Rattle.std.proofs.Common.{◌≡◌, ◌≤◌, ◌∙◌, cond, length, sym, ap, subst, arith}
use Rattle.bites_spec.specs.Utf8.{places}
use Rattle.bites_c.specs.Codes.{matched, not_matched}
use Rattle.bites_c.specs.Sets.{PutsMatched, SetHeld}
use Rattle.bites_c.proofs.SetLemmas.{answers_any}
use Rattle.bites_c.proofs.held_set.HeldSet.matches.Goals as goal
use Rattle.bites_c.proofs.held_set.HeldSet.matches.Goals.{then-has_entry, else-has_entry}

pub returns : goal.returns
returns c =
    let regexes = c.self.inside.set in let hay = c.args.haystack.now in let starts = places hay c.args.start in
    let entries = c.matches_read_at_with.new.matched in
    let size : c.len-size.result ≡ length c.args.self.now.regexes = c.len-size.ensures ∙ ap (λ (h : SetHeld). length h.regexes) c.self.view_is in
    let room : c.len-size.result ≤ length c.args.out.now = c.if-out-size.false in
    let code : c.if-has_entry.code ≡ cond c.has_entry.result matched not_matched =
    elim c.if-has_entry.branch [
      | then-has_entry w ↦ w.code-is ∙ sym (ap (λ b. cond b matched not_matched) w.if-has_entry.true)
      | else-has_entry w ↦ w.code-is ∙ sym (ap (λ b. cond b matched not_matched) w.if-has_entry.false)
    ] in
    let put =
    subst (λ (h : SetHeld). PutsMatched h.regexes hay starts c.if-has_entry.code c.args.out.now c.put_entries.new.out) c.self.view_is
    (record {
      matched = entries;
      are = c.matches_read_at_with.ensures.found;
      any = answers_any regexes hay starts entries c.has_entry.result c.if-has_entry.code c.matches_read_at_with.ensures.found c.has_entry.ensures code;
      put = c.put_entries.ensures;
    }) in
    record { found = (size, (λ small. absurd (omega (arith, small, size, room)), λ _. put)); same = c.self.view_is }
