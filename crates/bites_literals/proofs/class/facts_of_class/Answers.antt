use Rattle.std.proofs.Common.{◌≡◌, List, Some, true, false, sym, subst}
use Rattle.bites_spec.specs.Range.{Range, in_ranges}
use Rattle.bites_literals.specs.Facts.{IsOneLetter, IsWithoutText}
use Rattle.bites_literals.proofs.CharacterFacts.{HasEach, ascii_facts, character_facts, letter_facts}
use Rattle.bites_literals.proofs.class.facts_of_class.Goals as goal
use Rattle.bites_literals.proofs.class.facts_of_class.Goals.{then-is_ascii, else-is_ascii}

pub returns-in-Some : goal.returns-in-Some
returns-in-Some c =
    let letter = c.in-Some.letter in
    let ranges = c.ranges-ranges.ensures.ranges in
    let is = subst (λ (rs : List Range). IsOneLetter rs letter) ranges c.in-Some.ensures in
    letter_facts (in_ranges c.args.class.now) letter true is.cases is.both c.one.result c.of-ascii.result _
    (λ d lt e. c.of-ascii.ensures.has d lt (subst (λ (rs : List Range). in_ranges rs d ≡ true) (sym ranges) e)) c.one.ensures.bytes c.one.ensures.caseless c.one_byte.ensures

pub returns : goal.returns
returns c =
    let ranges = c.ranges-ranges.ensures.ranges in
    let each : HasEach (in_ranges c.args.class.now) c.of-ascii.result = λ d lt e. c.of-ascii.ensures.has d lt (subst (λ (rs : List Range). in_ranges rs d ≡ true) (sym ranges) e) in
    elim c.if-is_ascii.branch [
      | then-is_ascii w ↦
          ascii_facts (in_ranges c.args.class.now) (λ d e. c.is_ascii.ensures w.if-is_ascii.true d (subst (λ (rs : List Range). in_ranges rs d ≡ true) (sym ranges) e)) c.of-ascii.result _ each
          (subst (λ n. IsWithoutText (Some n) false c.of-ascii.result c.without_text.result) w.most-is c.without_text.ensures)
      | else-is_ascii w ↦
          character_facts (in_ranges c.args.class.now) c.of-ascii.result _ each (subst (λ n. IsWithoutText (Some n) false c.of-ascii.result c.without_text.result) w.most-is c.without_text.ensures)
    ]
