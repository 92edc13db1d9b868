use Rattle.std.proofs.Common.{◌++◌, ◌∷◌, [], arith, subst, sym, take}
use Rattle.bites_bytes.specs.Set.{ArePrepared}
use Rattle.bites_bytes.proofs.SetLemmas.{prepared_more, taken_more}
use Rattle.bites_bytes.proofs.bytes.set.prepare_each.Goals as goal

pub loop-regex-preserved : goal.loop-regex-preserved
loop-regex-preserved c =
    let l = c.loop-regex in let regexes = c.args.regexes.now in let r = c.regex-item.result in
    let front = prepared_more c.args.dfa_size_limit l.left c.args.prefilter (take l.regex-index regexes) l.prepared.items r c.in_ok-made.made
    l.invariant.are c.in_ok-made.ensures l.invariant.left in
    let more = taken_more regexes l.regex-index r (omega (arith, c.loop-regex-test.true)) c.regex-item.is in record {
      are = subst (λ rs. ArePrepared c.args.dfa_size_limit c.args.prefilter rs c.push.new.self.items) (sym more)
          (subst (ArePrepared c.args.dfa_size_limit c.args.prefilter (take l.regex-index regexes ++ r ∷ [])) (sym c.in_ok-push.ensures.items) front);
      left = λ none. let zero = l.invariant.left none in omega (arith, zero, c.saturating_sub-left.ensures);
    }
