use Rattle.std.proofs.Common.{sym, subst}
use Rattle.bites_literals.specs.Begins.{place_of}
use Rattle.bites_bytes.specs.NextMatch.{BeginsBy, IsMatch}
use Rattle.bites_bytes.proofs.LaterLemmas.{begins_there}
use Rattle.bites_bytes.proofs.bytes.cache.Cache.begin.Goals as goal

pub returns-then-input-clause-begins : goal.returns-then-input-clause-begins
returns-then-input-clause-begins c = let i = c.args.input.now in begins_there c.args.regex.now i.haystack.now i.start i.anchored

pub returns-then-not-looks-clause-begins : goal.returns-then-not-looks-clause-begins
returns-then-not-looks-clause-begins c = let i = c.args.input.now in begins_there c.args.regex.now i.haystack.now i.start i.anchored

pub returns-clause-begins : goal.returns-clause-begins
returns-clause-begins c =
    let i = c.args.input.now in
    subst (λ b. BeginsBy b c.args.regex.now i.haystack.now i.start (place_of i.haystack.now c.begin-begin.result)) (sym c.if-input.false) c.begin-begin.ensures.begins

pub returns-clause-found : goal.returns-clause-found
returns-clause-found c k l e =
    let i = c.args.input.now in
    (c.if-input.false, subst (λ w. IsMatch w c.args.regex.now i.haystack.now i.start k l) c.asks_end.ensures (c.begin-begin.ensures.found k l e))
