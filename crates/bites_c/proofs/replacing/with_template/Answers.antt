use Rattle.std.proofs.Common.{sym, subst, ◌∙◌}
use Rattle.bites_spec.specs.Iteration.{captures_in}
use Rattle.bites_c.specs.Replaced.{HoldsIfMatched}
use Rattle.bites_bytes.proofs.ReplacedLemmas.{if_ok}
use Rattle.bites_c.proofs.ReplacedLemmas.{plain_template}
use Rattle.bites_c.proofs.ReplacingLemmas.{template_end}
use Rattle.bites_c.proofs.replacing.with_template.Goals as goal

pub returns : goal.returns
returns c = record {
  held = c.by_template.ensures.held;
  fits = c.by_template.ensures.fits;
  found = if_ok c.finish.result _ _ c.finish.ensures
      (λ o h. template_end c.args.search.now.held.value.regex c.args.haystack.now c.args.limit c.new-replacing.result c.by_template.new.self
      c.new-replacing.ensures (λ v. v.items) c.args.template.now o c.in_ok-by_template.ensures.found h);
}

pub returns-then-is_plain : goal.returns-then-is_plain
returns-then-is_plain c =
    let r = c.args.search.now.held.value.regex in let hay = c.args.haystack.now in
    record {
      held = c.with_text.ensures.held;
      fits = c.with_text.ensures.fits;
      found = if_ok c.with_text.result _ _ c.with_text.ensures.found
          (λ o h. subst (λ text. HoldsIfMatched (λ v. v.items) (captures_in r hay) text o)
          (plain_template r hay c.args.limit c.args.template.now (sym c.is_plain.ensures ∙ c.if-is_plain.true)) h);
    }
