use Rattle.std.proofs.Common.{◌≡◌, false, sym, ◌∙◌, length, subst, option_map, IfSome, arith}
use Rattle.bites_spec.specs.Full.{FindsGroupsFull}
use Rattle.bites_spec.specs.Measure.{groups_left}
use Rattle.bites_spec.specs.Regex.{Regex}
use Rattle.bites_filter.proofs.PartLemmas.{each_is_there, parts_found}
use Rattle.bites_filter.proofs.extract.extract_full.Goals as goal

pub part-requires : goal.part-requires
part-requires c =
    let r = c.args.searcher.now in let n = length c.args.parts.now in let q = c.regex.result.now in let same : q ≡ r = c.regex.ensures in
    each_is_there c.each_participates.ensures r n c.requires
    (subst (λ (q : Regex). q.keep_dropped_groups ≡ false → q.names ≡ groups_left q.tree) same
    (λ kept. sym c.capture_names.ensures.names ∙ c.capture_names.ensures.left kept)) c.in-Some.captures
    (subst (λ o. IfSome o (λ x. x.regex ≡ r)) c.in-Some.is c.in_ok-captures.ensures.found.regex)
    c.len.result c.len.ensures.groups c.len.ensures.slots c.len.ensures.are c.loop-k.k (omega arith)

pub returns-clause-found : goal.returns-clause-found
returns-clause-found c =
    let r = c.args.searcher.now in let text = c.args.haystack.now in
    parts_found r text c.in-Some.captures
    (subst (λ o. IfSome o (λ x. x.haystack ≡ text)) c.in-Some.is c.in_ok-captures.ensures.found.haystack)
    (subst (λ o. FindsGroupsFull r text (option_map (λ x. x.slots) o)) c.in-Some.is c.in_ok-captures.ensures.found.on_tree)
    c.loop-k.parts c.loop-k.k (omega arith) c.loop-k.invariant
