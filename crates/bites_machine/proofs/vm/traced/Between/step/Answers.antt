use Rattle.bites_machine.proofs.Library.{common_steps, each_same, option_or, reverse-reverse, arith, refl, ◌≡◌, ◌++◌, map, reverse, at, begun, searching_of, append-nil, traced_walking as walking_of}
use Rattle.bites_machine.proofs.vm.traced.Between.step.Goals as goal
use Rattle.bites_machine.proofs.vm.traced.Between.step.Goals.{then-starts+in_ok-started+in_ok-push, else-starts}

pub returns : goal.returns
returns c visits looks =
    let here = c.args.here.now in
    let p = c.args.program.now.program in
    let walk = c.in_ok-walk.walk in
    let walked = c.in_ok-walk.ensures.walks looks in
    let best : c.match-first_match.self.best ≡ option_or walk.first_match c.args.self.now.best = grind (arith, common_steps) in
    let threads : c.if-starts.threads.items ≡ (begun here.haystack.now here.longest p p.slots (searching_of c.args.self.now here.place visits looks)).stack = elim c.if-starts.branch [
      | then-starts+in_ok-started+in_ok-push w ↦ grind (arith, common_steps)
      | else-starts w ↦ grind (arith, common_steps, append-nil)
    ] in
    let copied = each_same _ _ c.in_ok-clone.ensures.cases.0 in (
      map (λ q. at q here.place) (reverse walk.visited.items) ++ visits,
      walked.0,
      record {
        searches = record {
          last = walking_of walk walked.0;
          walks = rw (copied, threads) at walked.1;
          over = c.in_ok-walk.ensures.over;
          is = rw (c.starts_on-self.ensures, best, here.len_is) refl;
        };
        traced = rw (reverse-reverse walk.visited.items, threads) refl;
      },
    )
