use Rattle.bites_table.proofs.Library.{common_steps, ◌≡◌, ◌<◌, ◌≤◌, ap, sym, ◌∙◌, ⊎_elim, rules, arith, cases_lt, get_or-replicate}
use Rattle.bites_table.specs.Blocks.{at, IsInterval}
use Rattle.bites_table.proofs.BlockLemmas.{rises}
use Rattle.bites_table.proofs.ClassLemmas.{interval_is}
use Rattle.bites_table.proofs.classes.of_bytes.Goals as goal

pub loop-interval-init : goal.loop-interval-init
loop-interval-init c = record {
  len = search rules;
  ascii = λ lt b less. absurd (omega arith);
  rest = λ b le lt. get_or-replicate 256 b c.args.past 0 lt;
}

pub fill_ascii-requires-clause-from : goal.fill_ascii-requires-clause-from
fill_ascii-requires-clause-from c = grind (arith, common_steps, rises)

pub loop-interval-preserved : goal.loop-interval-preserved
loop-interval-preserved c =
    let xs = c.args.begins.now in
    let n = c.loop-interval.interval in
    let inv = c.loop-interval.invariant in
    let filled = c.fill_ascii.ensures in
    record {
      len = search rules;
      ascii = λ some b lt. ⊎_elim
          (λ (less : b < at xs n).
          let before : 0 < n = ⊎_elim (λ (lt : 0 < n). lt) (λ (le : n ≤ 0). absurd (let zero : n ≡ 0 = omega arith in let e : at xs n ≡ 0 = ap (at xs) zero ∙ c.requires.begins.first in omega arith)) (cases_lt 0 n) in
          let own = inv.ascii before b lt in (
            own.0,
            omega (arith, own.1),
            own.2,
            λ k more next. ⊎_elim (λ (lt : k < n). own.3 k more lt) (λ (le : n ≤ k). let same : k ≡ n = omega arith in rw same less) (cases_lt k n),
            filled.below b less ∙ own.4,
          ))
          (λ (le : at xs n ≤ b). (n, omega arith, le, λ k more next. absurd (omega arith), filled.filled b le lt))
          (cases_lt b (at xs n));
      rest = λ b le lt. filled.past b le ∙ inv.rest b le lt;
    }

pub returns-clause-ascii : goal.returns-clause-ascii
returns-clause-ascii c b lt =
    let xs = c.args.begins.now in
    let last = c.requires.last in
    let own = c.loop-interval.invariant.ascii (omega arith) b lt in
    let is : IsInterval xs b own.0 = grind (arith, common_steps, cases_lt) in
    own.4 ∙ ap (at c.args.of.now) (sym (interval_is xs c.requires.begins.rising b own.0 (omega (arith, last.within)) (omega (arith, c.requires.begins.first)) is))
