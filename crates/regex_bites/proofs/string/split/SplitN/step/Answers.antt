use Rattle.std.proofs.Common.{◌≡◌, ◌-◌, suc, arith}
use Rattle.bites_bytes.proofs.SplitLemmas.{step_yields}
use Rattle.regex_bites.specs.Split.{pieces_left, at_most_left}
use Rattle.regex_bites.proofs.string.split.SplitN.step.Goals as goal

pub returns-else-self-eq0-2 : goal.returns-else-self-eq0-2
returns-else-self-eq0-2 c =
    let n = c.args.self.now.left in
    let some = c.if-self-eq0.false in let more = c.if-self-eq0-2.false in
    let one : n ≡ suc (suc (n - 2)) = omega arith in
    let two : n - 1 ≡ suc (n - 2) = omega arith in
    step_yields pieces_left at_most_left n (n - 1) (n - 2) c.args.self.now.split c.step.new.self c.step.result one two c.step.ensures
