use Rattle.std.proofs.Common.{◌≡◌, ◌∙◌, IfSome, true, not, ap, subst, sym, rules}
use Rattle.bites_spec.specs.Regex.{Regex}
use Rattle.bites_literals.specs.Begins.{BeginsBy, IsPrefilter}
use Rattle.bites_bytes.specs.Calls.{BeginsAt}
use Rattle.bites_bytes.specs.FixedGroups.{IsPrefilterWithSlots}
use Rattle.bites_bytes.specs.declared.bytes.prefilter_with_slots.PrefilterWithSlots.{PrefilterWithSlots}
use Rattle.bites_bytes.proofs.LaterLemmas.{begins_here, begins_from, begins_at, explores_from}
use Rattle.bites_bytes.proofs.bytes.regex.Regex.begin.Goals as goal
use Rattle.bites_bytes.proofs.bytes.regex.Regex.begin.Goals.{then-with_end, else-with_end}

pub returns-then-not-self : goal.returns-then-not-self
returns-then-not-self c = explores_from c.args.with_end c.args.self.now c.args.haystack.now c.args.start _ (begins_here c.args.self.now c.args.haystack.now c.args.start)

pub returns-in_default : goal.returns-in_default
returns-in_default c = explores_from c.args.with_end c.args.self.now c.args.haystack.now c.args.start _ (begins_here c.args.self.now c.args.haystack.now c.args.start)

pub returns : goal.returns
returns c =
    let r = c.args.self.now in
    let x = c.self.inside in
    let on : x.prefilter ≡ true = search rules in
    let is : IsPrefilterWithSlots x.compiled.value.tree x.compiled.value.program.slots c.in-Some.known.value =
    subst (λ o. IfSome o (λ known. IsPrefilterWithSlots x.compiled.value.tree x.compiled.value.program.slots known.value)) c.in-Some.is c.self.invariant.1 in
    let its : IsPrefilter r.tree c.deref.result.now.prefilter =
    subst (λ t. IsPrefilter t c.deref.result.now.prefilter) (ap (λ (s : Regex). s.tree) c.self.view_is)
    (subst (λ (l : PrefilterWithSlots). IsPrefilter x.compiled.value.tree l.prefilter) (sym c.deref.ensures) is.prefilter) in
    let some = c.is_none.ensures ∙ ap not c.if-is_none.false in
    let asked : c.if-with_end.with_end ≡ c.args.with_end = elim c.if-with_end.branch [
      | then-with_end w ↦ w.with_end-is ∙ w.is_some-with_end.ensures ∙ some ∙ sym w.if-with_end.true
      | else-with_end w ↦ w.with_end-is
    ] in
    begins_from c.args.with_end r c.args.haystack.now c.args.start (sym (ap (λ (s : Regex). s.prefilter) c.self.view_is) ∙ on) c.begin-begin.result
    (subst (λ w. BeginsBy w r.tree c.args.haystack.now c.args.start c.begin-begin.result) asked (c.begin-begin.ensures r.tree its))
    (sym (ap (λ (s : Regex). s.has_table) c.self.view_is) ∙ some)

pub returns-then-is_none : goal.returns-then-is_none
returns-then-is_none c =
    let r = c.args.self.now in
    let x = c.self.inside in
    let on : x.prefilter ≡ true = search rules in
    let is : IsPrefilterWithSlots x.compiled.value.tree x.compiled.value.program.slots c.in-Some.known.value =
    subst (λ o. IfSome o (λ known. IsPrefilterWithSlots x.compiled.value.tree x.compiled.value.program.slots known.value)) c.in-Some.is c.self.invariant.1 in
    let its : IsPrefilter r.tree c.deref.result.now.prefilter =
    subst (λ t. IsPrefilter t c.deref.result.now.prefilter) (ap (λ (s : Regex). s.tree) c.self.view_is)
    (subst (λ (l : PrefilterWithSlots). IsPrefilter x.compiled.value.tree l.prefilter) (sym c.deref.ensures) is.prefilter) in
    explores_from c.args.with_end r c.args.haystack.now c.args.start _
    (subst (BeginsAt r c.args.haystack.now c.args.start) (sym c.place.ensures)
    (begins_at c.if-with_end.with_end r c.args.haystack.now c.args.start (sym (ap (λ (s : Regex). s.prefilter) c.self.view_is) ∙ on) c.begin-begin.result (c.begin-begin.ensures r.tree its)))
