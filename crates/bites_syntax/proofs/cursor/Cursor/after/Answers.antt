use Rattle.std.proofs.Common.{arith, sym, ap, true, get_or, drop, length}
use Rattle.std.specs.Prelude.{◌≡◌}
use Rattle.bites_spec.specs.Class.{single}
use Rattle.bites_spec.specs.Pattern.{next_is}
use Rattle.bites_syntax.proofs.CursorLemmas.{begins_more, drop_more}
use Rattle.bites_syntax.proofs.cursor.Cursor.after.Goals as goal

pub loop-b-preserved : goal.loop-b-preserved
loop-b-preserved c =
    let found : next_is (single (get_or c.args.text.now c.loop-b.b-index 0)) c.loop-b.ahead ≡ true =
    rw (← c.as_bytes-b-items.ensures.value, ← c.from.ensures) (sym c.if-not-bump_if.ensures.value) in
    let rest : c.bump_if.new.self ≡ drop 1 c.loop-b.ahead = c.if-not-bump_if.ensures.rest.reads in
    (begins_more c.args.text.now _ _ _ c.loop-b.b-index (omega (arith, ap length c.as_bytes-b-items.ensures.value)) found rest c.loop-b.invariant.0, drop_more _ _ c.loop-b.b-index rest c.args.self.now c.loop-b.invariant.1)
