use Rattle.std.proofs.Common.{ℕ, suc, inl, List, length, sym, subst, ap, ◌∙◌, true, arith}
use Rattle.std.proofs.lemmas.List.{take_all}
use Rattle.bites_spec.specs.Program.{Program}
use Rattle.bites_spec.specs.Run.{slots}
use Rattle.bites_spec.specs.Utf8.{places}
use Rattle.bites_spec.specs.Counts.{Room, IsWalked}
use Rattle.bites_machine.specs.Trace.{HasRun}
use Rattle.bites_bytes.specs.NextMatch.{asks_end}
use Rattle.bites_bytes.specs.FixedGroups.{HoldsGroups}
use Rattle.bites_bytes.proofs.SlotLemmas.{length-slots}
use Rattle.bites_bytes.proofs.FixedGroupLemmas.{slots_are}
use Rattle.bites_bytes.proofs.LiteralLemmas.{end_asked, has_run, matched}
use Rattle.bites_bytes.proofs.bytes.cache.Cache.take_groups.Goals as goal

pub record_run-requires : goal.record_run-requires
record_run-requires c =
    let r = c.args.regex.now in let i = c.args.asked.now in
    subst (λ (hay : List ℕ). HasRun c.program.result.now.program hay c.args.start) (sym c.requires.haystack)
    (subst (λ (p : Program). HasRun p i.haystack.now c.args.start) (sym c.program.ensures.program)
    (has_run (asks_end i.kind) r c.program.ensures.compiled i.haystack.now i.start c.args.start c.args.end c.requires.found))

pub returns : goal.returns
returns c =
    let r = c.args.regex.now in let i = c.args.asked.now in
    let new = c.copy_from_slice.new.self in
    let fixed = c.requires.fixed in
    let holds = subst (HoldsGroups fixed.0 r.program.slots) (sym c.copy_from_slice.ensures.after) fixed.2 in
    matched r c.program.ensures.compiled i c.requires.asked c.args.start c.args.end c.requires.found c.args.slots.now new (λ k. absurd (c.requires.kind k)) (inl (end_asked i.kind c.requires.kind))
    (λ x runs at.
    slots_are r c.program.ensures.compiled fixed.0 fixed.1 i.haystack.now x runs new holds
    ∙ sym (take_all (length c.args.slots.now) (slots r.program x) (omega (arith, length-slots r.program x, c.requires.all))))
    c.args.self.now c.record_run.new.self (c.record_run.ensures.fits ∙ ap (λ (a : Room). a.fits) c.self.view_is)
    (c.record_run.ensures.searches ∙ ap (λ (a : Room). suc a.searches) c.self.view_is)
    (subst (λ (hay : List ℕ). IsWalked r.program hay c.args.start (places hay c.args.start) true c.record_run.new.self.walked) c.requires.haystack
    (subst (λ (p : Program). IsWalked p c.args.haystack.now c.args.start (places c.args.haystack.now c.args.start) true c.record_run.new.self.walked) c.program.ensures.program c.record_run.ensures.walked))
