use Rattle.std.proofs.Common.{arith}
use Rattle.bites_literals.proofs.ChoiceLemmas.{front_added}
use Rattle.bites_literals.proofs.choice.add_front.Goals as goal

pub returns : goal.returns
returns c t facts said =
    front_added c.args.front.now t c.args.facts.now facts c.joined-text.result c.joined-text.ensures (omega (arith, c.if-len-lt-LEAST_LEN.false, c.len.ensures)) c.literal.result c.literal.ensures
    c.args.texts.now.items c.push.new.self.items c.in_ok-push.ensures.items
