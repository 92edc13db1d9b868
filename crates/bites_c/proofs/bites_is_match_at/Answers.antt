use Rattle.std.proofs.Common.{rules}
use Rattle.std.specs.Prelude.{⊤}
use Rattle.bites_spec.specs.Found.{HasMatch}
use Rattle.bites_spec.specs.Utf8.{places}
use Rattle.bites_c.specs.Searched.{AnswersIf}
use Rattle.bites_c.proofs.TextLemmas.{refused_from}
use Rattle.bites_c.proofs.bites_is_match_at.Goals as goal

pub returns-in-Err : goal.returns-in-Err
returns-in-Err c =
    refused_from c.args.haystack.now c.args.start _ _ _ _ c.in-Err.code ⊤
    (λ r. AnswersIf c.in-Err.code (HasMatch r.tree c.args.haystack.now (places c.args.haystack.now c.args.start))) tt c.in-Err.ensures.2

pub returns-then-found : goal.returns-then-found
returns-then-found c = search rules
