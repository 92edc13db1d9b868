use Rattle.std.proofs.Common.{◌≡◌, ◌∙◌, ℕ, Bool, ap, refl, sym, subst, arith, false}
use Rattle.std.proofs.lemmas.Option.{same_Some}
use Rattle.bites_spec.specs.Utf8.{start_alone}
use Rattle.bites_spec.specs.Match.{Span}
use Rattle.bites_spec.specs.Run.{Answered, longest_run}
use Rattle.bites_machine.specs.Inputs.{starts_of}
use Rattle.bites_bytes.specs.Calls.{Searched}
use Rattle.bites_bytes.specs.NextMatch.{IsAnswered}
use Rattle.bites_bytes.proofs.MadeLemmas.{made_more, made_both, made_longest}
use Rattle.bites_bytes.proofs.LongestLemmas.{none_longest, begins_in, longest_here, searched_here}
use Rattle.bites_bytes.proofs.bytes.cache.Cache.explore_longest.Goals as goal

pub returns-then-not-explore : goal.returns-then-not-explore
returns-then-not-explore c =
    let r = c.args.regex.now in let i = c.args.input.now in let hay = i.haystack.now in let e = c.explore-2.ensures in
    let old = c.args.slots.now in
    let Finds : Bool → Type 0 = λ f. Searched r hay i.start (starts_of hay false i.start) f c.args.self.now c.explore-2.new.self in
    let At : Bool → Type 0 = λ b. Searched r hay i.start (starts_of hay b i.start) false c.args.self.now c.explore-2.new.self in
    record {
      answered = subst (λ b. IsAnswered r i.kind hay (starts_of hay b i.start) false old old) (sym c.requires.unanchored)
          (none_longest r e.answered.compiled hay i.start i.kind c.explore-2.result _ _ old c.requires.longest c.if-not-explore.true (e.answered.first refl));
      searched = subst At (sym c.requires.unanchored) (subst Finds c.if-not-explore.true e.searched);
      searches = made_longest i.kind i.anchored c.requires.longest c.requires.unanchored c.args.self.now c.explore-2.new.self
          (made_more 1 2 (omega arith) c.args.self.now c.explore-2.new.self e.searches);
    }

pub returns-in_default : goal.returns-in_default
returns-in_default c =
    let e = c.explore-2.ensures in
    let x = begins_in c.args.regex.now e.answered.compiled c.args.input.now.haystack.now c.args.input.now.start c.explore-2.result _ c.explore-2.new.slots c.if-not-explore.false (omega arith) (e.answered.first refl) in
    let never = c.in_default.ensures ∙ x.2 in absurd (cc)

pub returns : goal.returns
returns c =
    let r = c.args.regex.now in let i = c.args.input.now in let hay = i.haystack.now in let e = c.explore-2.ensures in let f = c.explore-3.ensures in
    let x = begins_in r e.answered.compiled hay i.start c.explore-2.result _ c.explore-2.new.slots c.if-not-explore.false (omega arith) (e.answered.first refl) in
    let at : c.in-Some.start ≡ x.0.start = ap (λ (s : Span). s.start) (same_Some _ _ (c.in-Some.ensures ∙ x.2)) in
    let Starts : ℕ → Type 0 = λ k. Answered r.program (longest_run r.program hay (start_alone hay k)) c.explore-3.result c.args.slots.now c.explore-3.new.slots in
    let Walks : ℕ → Type 0 = λ k. Searched r hay k (start_alone hay k) c.explore-3.result c.explore-2.new.self c.explore-3.new.self in
    let found = subst Starts at (f.answered.longest refl) in
    record {
      answered = subst (λ b. IsAnswered r i.kind hay (starts_of hay b i.start) c.explore-3.result c.args.slots.now c.explore-3.new.slots) (sym c.requires.unanchored)
          (longest_here r e.answered.compiled hay i.start x.0 x.1 i.kind c.explore-3.result _ _ c.requires.longest found);
      searched = subst (λ b. Searched r hay i.start (starts_of hay b i.start) c.explore-3.result c.args.self.now c.explore-3.new.self) (sym c.requires.unanchored)
          (searched_here r e.answered.compiled hay i.start x.0 x.1 c.explore-3.result _ _ c.args.self.now c.explore-2.new.self c.explore-3.new.self e.searched.fits found (subst Walks at f.searched));
      searches = made_longest i.kind i.anchored c.requires.longest c.requires.unanchored c.args.self.now c.explore-3.new.self
          (made_both 1 1 c.args.self.now c.explore-2.new.self c.explore-3.new.self e.searches f.searches);
    }
