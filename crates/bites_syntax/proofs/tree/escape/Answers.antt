use Rattle.std.proofs.Common.{◌∙◌, sym, ap}
use Rattle.std.specs.Prelude.{string_bytes, encode_utf8_all}
use Rattle.std.proofs.lemmas.Iterator.{YieldsList-from_chars}
use Rattle.std.proofs.lemmas.Iterator.Consumers.{YieldsList-end}
use Rattle.bites_spec.specs.Escaped.{escaped}
use Rattle.bites_syntax.proofs.EscapedText.{marked_more, plain_more, map_itself}
use Rattle.bites_syntax.proofs.tree.escape.Goals.{then-is_marked+in_ok-push, else-is_marked}
use Rattle.bites_syntax.proofs.tree.escape.Goals as goal

pub loop-c-preserved : goal.loop-c-preserved
loop-c-preserved c = c.in_ok-push-2.ensures.bytes ∙ elim c.if-is_marked.branch [
  | then-is_marked+in_ok-push w ↦ rw (w.pattern-is, w.in_ok-push.ensures.bytes) (marked_more c.loop-c.yielded (string_bytes c.loop-c.pattern) c.in-Some.c (sym c.is_marked.ensures ∙ w.if-is_marked.true) c.loop-c.invariant)
  | else-is_marked w ↦ rw w.pattern-is (plain_more c.loop-c.yielded (string_bytes c.loop-c.pattern) c.in-Some.c (sym c.is_marked.ensures ∙ w.if-is_marked.false) c.loop-c.invariant)
]

pub returns : goal.returns
returns c =
    let t = YieldsList-end (YieldsList-from_chars c.args.text.now c.utf8.text cc) c.loop-c.yielded _ c.loop-c.yielded_by _ _ c.in-None.is c.next.ensures.steps in
    c.loop-c.invariant ∙ ap (λ cs. encode_utf8_all (escaped cs)) (sym (map_itself c.loop-c.yielded) ∙ t.0)
