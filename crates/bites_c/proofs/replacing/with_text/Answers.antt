use Rattle.std.proofs.Common.{subst}
use Rattle.bites_spec.specs.Regex.{IsCompiled}
use Rattle.bites_bytes.proofs.ReplacedLemmas.{if_ok}
use Rattle.bites_c.specs.declared.held.Held.{Held}
use Rattle.bites_c.proofs.ReplacingLemmas.{text_end}
use Rattle.bites_c.proofs.replacing.with_text.Goals as goal

pub returns : goal.returns
returns c = record {
  held = c.by_text.ensures.held;
  fits = c.by_text.ensures.fits;
  found = if_ok c.finish.result _ _ c.finish.ensures
      (λ o h. text_end c.args.search.now.held.value.regex c.args.haystack.now c.args.limit c.new-replacing.result c.by_text.new.self c.new-replacing.ensures
      (subst (λ (h : Held). IsCompiled h.regex) c.deref.ensures c.as_str.ensures.compiled) (λ v. v.items) c.args.text.now o c.in_ok-by_text.ensures.found h);
}
