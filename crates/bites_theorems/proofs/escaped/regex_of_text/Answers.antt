use Rattle.std.proofs.Common.{◌∙◌}
use Rattle.std.proofs.lemmas.Result.{IfOk-weaker}
use Rattle.bites_theorems.proofs.EscapedLemmas.{tree_of_text, refused_by_size}
use Rattle.bites_theorems.proofs.escaped.regex_of_text.Goals as goal

pub returns-clause-tree : goal.returns-clause-tree
returns-clause-tree c =
    IfOk-weaker c.new.result _ _
    (λ r h. tree_of_text c.args.text.now c.deref.result.now c.utf8.text (c.deref.ensures ∙ c.in_ok-pattern.ensures) r.tree h.read)
    c.new.ensures.accepted

pub returns-clause-refused : goal.returns-clause-refused
returns-clause-refused c =
    refused_by_size c.args.text.now c.deref.result.now c.utf8.text (c.deref.ensures ∙ c.in_ok-pattern.ensures) c.new.result
    c.new.ensures.refused c.new.ensures.message
