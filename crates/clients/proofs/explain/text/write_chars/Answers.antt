use Rattle.std.proofs.Common.{flat_map, [], sym, ◌∙◌, subst}
use Rattle.std.specs.Io.KnownBytes.{Appends}
use Rattle.std.proofs.lemmas.Iterator.{YieldsList-from_chars}
use Rattle.std.proofs.lemmas.Iterator.Consumers.{YieldsList-end}
use Rattle.std.proofs.lemmas.List.{flat_map_more}
use Rattle.bites_filter.proofs.Written.{appends_none, appends_both}
use Rattle.clients.specs.Json.{written_char}
use Rattle.clients.proofs.PageTextLemmas.{map_same}
use Rattle.clients.proofs.explain.text.write_chars.Goals as goal

pub loop-c-init : goal.loop-c-init
loop-c-init g c = appends_none (g.W.Write.contents c.args.out.now)

pub loop-c-preserved : goal.loop-c-preserved
loop-c-preserved g c =
    let l = c.loop-c in let contents = g.W.Write.contents in
    subst (λ t. Appends (contents c.args.out.now) (contents c.write_char.new.out) t)
    (flat_map_more written_char [] l.yielded c.in-Some.c)
    (appends_both (contents c.args.out.now) (contents l.out) (contents c.write_char.new.out) (flat_map written_char l.yielded) (written_char c.in-Some.c)
    l.invariant c.in_ok-write_char.ensures)

pub returns : goal.returns
returns g c =
    let t = YieldsList-end (YieldsList-from_chars c.args.text.now c.utf8.text cc) c.loop-c.yielded _ c.loop-c.yielded_by _ _ c.in-None.is c.next.ensures.steps in
    subst (λ cs. Appends (g.W.Write.contents c.args.out.now) (g.W.Write.contents c.loop-c.out) (flat_map written_char cs))
    (sym (map_same c.loop-c.yielded) ∙ t.0) c.loop-c.invariant
