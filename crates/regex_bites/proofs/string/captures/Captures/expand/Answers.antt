use Rattle.std.proofs.Common.{rules, sym, subst, string_bytes}
use Rattle.bites_spec.specs.Expansion.{text_in, index_in}
use Rattle.bites_spec.specs.Refused.{AppendsUntilRefused}
use Rattle.bites_spec.proofs.templates.TemplateTexts.{expansion_of_text}
use Rattle.regex_bites.proofs.string.captures.Captures.expand.Goals as goal

pub returns : goal.returns
returns c =
    let s = c.args.self.now in
    subst (AppendsUntilRefused c.string.result (string_bytes c.args.dst.now) (string_bytes c.string.new.dst))
    (sym (expansion_of_text 0xFFFF_FFFF_FFFF_FFFF (text_in s.slots s.haystack) (index_in s.regex.names) c.args.template.now c.utf8.template))
    (c.string.ensures.expanded (text_in s.slots s.haystack) (index_in s.regex.names) (λ k r h p. search rules) (λ n r p. search rules))
