use Rattle.std.proofs.Common.{rules}
use Rattle.bites_spec.specs.Expansion.{text_in, index_in}
use Rattle.bites_bytes.proofs.bytes.captures.Captures.expand.Goals as goal

pub returns : goal.returns
returns c =
    let s = c.args.self.now in
    c.bytes.ensures.expanded (text_in s.slots s.haystack) (index_in s.regex.names) (λ k r h p. search rules) (λ n r p. search rules)
