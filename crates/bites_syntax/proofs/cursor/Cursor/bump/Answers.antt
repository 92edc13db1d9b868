use Rattle.std.proofs.Common.{drop, sym, ap, ◌∙◌, arith, length}
use Rattle.std.proofs.lemmas.Str.{is_utf8-from_IsUtf8}
use Rattle.bites_syntax.proofs.CursorLemmas.{chars_bumped}
use Rattle.bites_syntax.proofs.PartLemmas.{no_longer}
use Rattle.bites_syntax.proofs.cursor.Cursor.bump.Goals as goal

pub returns-clause-value : goal.returns-clause-value
returns-clause-value c =
    let read = chars_bumped _ c.next.new.self.rest.now c.in_ok-c.c c.self.invariant (rw (← c.chars-chars.ensures.rest) c.in_ok-c.ensures.steps.0) in
    sym c.self.view_is ∙ rw c.as_str-self-inside.ensures read

pub returns-clause-rest : goal.returns-clause-rest
returns-clause-rest c = no_longer (omega (arith, ap length (returns-clause-value c))) (
    let read = chars_bumped _ c.next.new.self.rest.now c.in_ok-c.c c.self.invariant (rw (← c.chars-chars.ensures.rest) c.in_ok-c.ensures.steps.0) in
    rw c.as_str-self-inside.ensures (sym (ap (drop 1) (sym c.self.view_is ∙ read))))

pub invariant_of-self : goal.invariant_of-self
invariant_of-self c = is_utf8-from_IsUtf8 _ c.as_str-self-inside.utf8
