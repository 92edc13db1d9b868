use Rattle.std.proofs.Common.{◌<◌, ◌≤◌, ◌==◌, false, sym, subst, arith}
use Rattle.std.proofs.lemmas.Bool.Decides.{nat_tests}
use Rattle.bites_literals.specs.Ascii.{Has}
use Rattle.bites_literals.proofs.CharacterFacts.{character_facts, letter_facts, is_this}
use Rattle.bites_literals.proofs.class.facts_of_char.Goals as goal

pub returns-then-is_ascii : goal.returns-then-is_ascii
returns-then-is_ascii c =
    let low : c.args.c < 128 = grind (arith, nat_tests) in
    letter_facts (λ d. d == c.args.c) c.args.c false (λ d e. let is = is_this c.args.c d e in (omega (arith, is, low), is)) (λ d e. grind (arith, nat_tests)) c.one.result c.of_byte.result _
    (λ d lt e. subst (λ d. Has c.of_byte.result d) (sym (is_this c.args.c d e)) c.of_byte.ensures.has) c.one.ensures.bytes c.one.ensures.caseless c.one_byte.ensures

pub returns : goal.returns
returns c =
    let high : 128 ≤ c.args.c = grind (arith, nat_tests) in
    character_facts (λ d. d == c.args.c) c.none.result _ (λ d lt e. absurd (omega (arith, is_this c.args.c d e, high, lt))) c.without_text.ensures
