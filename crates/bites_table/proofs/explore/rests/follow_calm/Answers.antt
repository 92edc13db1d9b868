use Rattle.bites_table.proofs.Library.{rules, ◌≡◌, ◌+◌, ◌≤◌, ◌<◌, ℕ, List, Some, ap, length, reverse, sym, subst, arith, slice_get, Among, Among-left, slice_get_read, refl}
use Rattle.bites_table.proofs.Words.{table_of, classes_in, IsCalm}
use Rattle.bites_table.proofs.RestLemmas.{IsDone, AreDone, all-done, done-next}
use Rattle.bites_table.proofs.explore.rests.follow_calm.Goals as goal

pub returns-then-i-len : goal.returns-then-i-len
unfolding classes_in
returns-then-i-len c r seen_is looks_is =
    let tab = table_of c.args.graph.now in
    let k = classes_in c.args.context.now in
    let end = c.end-end.result in
    let lists = c.loop-i.lists.items in
    let seen = reverse c.loop-i.memory.seen.items in
    let looks = c.args.walked.looks in
    let le : length lists ≤ c.loop-i.i = omega arith in
    let all : (m : ℕ) → Among lists m → IsDone tab k end seen looks lists m = all-done tab k end seen looks lists c.loop-i.i c.loop-i.invariant.done le in
    record {
      lists = lists;
      own = c.loop-i.invariant.own;
      calm = λ m is. subst (λ v. IsCalm tab k m (reverse v.items) r.looks.value) (sym seen_is) (subst (IsCalm tab k m seen) (sym looks_is) (all m is).calm);
      closed = λ m is ch. (all m is).closed (k.class_of (Some ch)) (c.end-end.ensures.last ch);
    }

pub loop-i-preserved : goal.loop-i-preserved
loop-i-preserved c =
    let tab = table_of c.args.graph.now in
    let k = classes_in c.args.context.now in
    let end = c.end-end.result in
    let lists = c.loop-i.lists.items in
    let new = c.add_next.new.lists.items in
    let i = c.loop-i.i in
    let seen = reverse c.loop-i.memory.seen.items in
    let looks = c.args.walked.looks in
    let m = c.index-list.result.now in
    let within : i < length lists = omega arith in
    let at : slice_get lists i ≡ Some m = slice_get_read lists (length lists) i m refl within c.index-list.ensures in
    let calm : IsCalm tab k m seen looks = c.is_calm.ensures.calm (search rules) in
    let kept = c.is_calm.ensures.seen in
    let more = c.add_next.ensures.grows.0 in
    let grown = c.add_next.ensures.grows.1 in
    record {
      own = subst (λ (l : List ℕ). Among l c.args.number) (sym grown) (Among-left lists more c.args.number c.loop-i.invariant.own);
      done = subst (λ (s : List ℕ). AreDone tab k end (reverse s) looks new (i + 1)) (sym (ap (λ v. v.items) kept))
          (done-next tab k end seen looks lists i c.loop-i.invariant.done within more new grown m at calm c.in_ok-add_next.ensures.closed);
    }
