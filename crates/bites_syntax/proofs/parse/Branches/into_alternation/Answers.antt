use Rattle.std.proofs.Common.{◌≡◌, ◌++◌, ◌∷◌, [], sym, arith}
use Rattle.std.specs.Prelude.{vec_len}
use Rattle.std.proofs.lemmas.Bool.{eqb-true}
use Rattle.bites_spec.specs.Tree.{sequence_of}
use Rattle.bites_syntax.proofs.NodeLemmas.{nodes_push, node_alone}
use Rattle.bites_syntax.proofs.parse.Branches.into_alternation.Goals as goal

pub returns-then-is_empty : goal.returns-then-is_empty
returns-then-is_empty c = λ bs ts bs_are ts_are.
    let none : vec_len c.args.self.complete ≡ 0 = eqb-true (vec_len c.args.self.complete) 0 (sym c.if-is_empty.ensures) in
    node_alone c.args.limit c.args.self.complete.items c.in_ok-last.last bs (sequence_of ts) (omega (arith, c.args.self.complete.ok.0)) bs_are (c.in_ok-last.ensures ts ts_are)

pub returns : goal.returns
returns c = λ bs ts bs_are ts_are.
    c.alternation_of.ensures (bs ++ sequence_of ts ∷ []) (rw c.in_ok-push.ensures.items
    (nodes_push c.args.limit c.args.self.complete.items c.in_ok-last.last bs (sequence_of ts) bs_are (c.in_ok-last.ensures ts ts_are)))
