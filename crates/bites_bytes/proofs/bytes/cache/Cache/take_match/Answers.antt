use Rattle.std.proofs.Common.{◌≡◌, List, sym, subst, arith, length, ⊎_elim, inl, inr, ap, ap₂, ◌∙◌, ℕ, suc, true}
use Rattle.std.specs.Prelude.{slice_set}
use Rattle.bites_spec.specs.Program.{Program}
use Rattle.bites_spec.specs.Utf8.{places}
use Rattle.bites_spec.specs.Counts.{Room, IsWalked}
use Rattle.bites_machine.specs.Trace.{HasRun}
use Rattle.bites_bytes.specs.NextMatch.{asks_end}
use Rattle.bites_bytes.proofs.LiteralLemmas.{both_written, end_asked, few_count, has_run, leaves_ends, lies, matched, few_none, no_slots, none_written}
use Rattle.bites_bytes.proofs.bytes.cache.Cache.take_match.Goals as goal

pub record_run-requires : goal.record_run-requires
record_run-requires c =
    let r = c.args.regex.now in let i = c.args.asked.now in
    subst (λ (hay : List ℕ). HasRun c.program.result.now.program hay c.args.start) (sym c.requires.haystack)
    (subst (λ (p : Program). HasRun p i.haystack.now c.args.start) (sym c.program.ensures.program)
    (has_run (asks_end i.kind) r c.program.ensures.compiled i.haystack.now i.start c.args.start c.args.end c.requires.found))

pub at-requires : goal.at-requires
at-requires c =
    let m = lies (asks_end c.args.asked.now.kind) c.args.regex.now c.program.ensures.compiled c.args.asked.now.haystack.now c.args.asked.now.start c.args.start c.args.end c.requires.found in
    omega (arith, m, ap length c.requires.haystack)

pub at-requires-then-slots-eq2 : goal.at-requires-then-slots-eq2
at-requires-then-slots-eq2 c =
    let m = lies (asks_end c.args.asked.now.kind) c.args.regex.now c.program.ensures.compiled c.args.asked.now.haystack.now c.args.asked.now.start c.args.start c.args.end c.requires.found in
    omega (arith, m, ap length c.requires.haystack)

pub returns-then-slots-eq2 : goal.returns-then-slots-eq2
returns-then-slots-eq2 c =
    let r = c.args.regex.now in let i = c.args.asked.now in
    let asks = inl (⊎_elim (λ none. absurd (omega (arith, none, c.if-slots-eq2.true))) (λ both. end_asked i.kind both.1) c.requires.few) in
    matched r c.program.ensures.compiled i c.requires.asked c.args.start c.args.end c.requires.found c.args.slots.now _ (few_none i.kind _ c.requires.few) asks
    (leaves_ends (asks_end i.kind) r c.program.ensures.compiled i.haystack.now i.start c.args.start c.args.end c.requires.found c.args.slots.now _ (few_count i.kind _ c.requires.few)
    (ap₂ (λ a b. slice_set (slice_set c.args.slots.now 0 a) 1 b) c.at.ensures c.at-then-slots-eq2.ensures ∙ both_written c.args.slots.now c.args.start c.args.end c.if-slots-eq2.true))
    c.args.self.now c.record_run.new.self (c.record_run.ensures.fits ∙ ap (λ (a : Room). a.fits) c.self.view_is)
    (c.record_run.ensures.searches ∙ ap (λ (a : Room). suc a.searches) c.self.view_is)
    (subst (λ (hay : List ℕ). IsWalked r.program hay c.args.start (places hay c.args.start) true c.record_run.new.self.walked) c.requires.haystack
    (subst (λ (p : Program). IsWalked p c.args.haystack.now c.args.start (places c.args.haystack.now c.args.start) true c.record_run.new.self.walked) c.program.ensures.program c.record_run.ensures.walked))

pub returns-else-slots-eq2 : goal.returns-else-slots-eq2
returns-else-slots-eq2 c =
    let r = c.args.regex.now in let i = c.args.asked.now in
    let none : length c.args.slots.now ≡ 0 = ⊎_elim (λ e. e) (λ e. absurd (omega (arith, e.0, c.if-slots-eq2.false))) c.requires.few in
    matched r c.program.ensures.compiled i c.requires.asked c.args.start c.args.end c.requires.found c.args.slots.now _ (few_none i.kind _ c.requires.few) (inr (none, no_slots c.args.slots.now none))
    (leaves_ends (asks_end i.kind) r c.program.ensures.compiled i.haystack.now i.start c.args.start c.args.end c.requires.found c.args.slots.now _ (few_count i.kind _ c.requires.few)
    (none_written c.args.slots.now c.args.start c.args.end none))
    c.args.self.now c.record_run.new.self (c.record_run.ensures.fits ∙ ap (λ (a : Room). a.fits) c.self.view_is)
    (c.record_run.ensures.searches ∙ ap (λ (a : Room). suc a.searches) c.self.view_is)
    (subst (λ (hay : List ℕ). IsWalked r.program hay c.args.start (places hay c.args.start) true c.record_run.new.self.walked) c.requires.haystack
    (subst (λ (p : Program). IsWalked p c.args.haystack.now c.args.start (places c.args.haystack.now c.args.start) true c.record_run.new.self.walked) c.program.ensures.program c.record_run.ensures.walked))
