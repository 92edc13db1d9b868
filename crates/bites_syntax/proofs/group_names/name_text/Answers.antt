use Rattle.std.proofs.Common.{◌≡◌, arith, sym, ◌∙◌, refl, [], ◌∷◌, ◌++◌, true}
use Rattle.std.specs.Prelude.{chars, string_bytes}
use Rattle.std.proofs.lemmas.Bool.{ne_eqb}
use Rattle.std.proofs.lemmas.Str.{chars-nil}
use Rattle.bites_spec.specs.Group.{is_name_front}
use Rattle.bites_syntax.proofs.CursorLemmas.{peeked}
use Rattle.bites_syntax.proofs.NameLemmas.{chars_push, name_from_more}
use Rattle.bites_syntax.proofs.group_names.name_text.Goals as goal

pub loop-c-init : goal.loop-c-init
loop-c-init c =
    let e : chars (string_bytes c.new-text.result) ≡ [] = rw c.new-text.ensures.bytes chars-nil in (λ names. rw e refl, rw e refl, omega arith)

pub loop-c-preserved : goal.loop-c-preserved
loop-c-preserved c =
    let pushed : chars (string_bytes c.push.new.self) ≡ chars (string_bytes c.loop-c.text) ++ c.in-Some.c ∷ [] =
    chars_push c.loop-c.text c.push.new.self c.in-Some.c c.in_ok-push.ensures.bytes in
    let front : is_name_front (chars (string_bytes c.loop-c.text) ++ c.in-Some.c ∷ []) ≡ true =
    rw (← c.deref.ensures) (sym (c.may_follow.ensures (rw c.deref.ensures c.loop-c.invariant.1)) ∙ c.if-not-may_follow.false) in (
      (λ names. c.loop-c.invariant.0 names
          ∙ rw pushed (name_from_more names _ c.loop-c.cursor c.bump.new.self c.in-Some.c (peeked _ _ _ c.in-Some.ensures c.bump.ensures.rest.reads) (ne_eqb c.in-Some.c 62 c.if-c-eq62.false) front)),
      rw pushed front,
      omega arith,
    )
