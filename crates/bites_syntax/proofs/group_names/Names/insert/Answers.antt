use Rattle.std.proofs.Common.{◌∙◌}
use Rattle.std.specs.Prelude.{string_bytes, bytes_eq}
use Rattle.std.proofs.lemmas.Map.Text.{btree_set_updates_text}
use Rattle.bites_syntax.proofs.NameLemmas.{or_is_cond}
use Rattle.bites_syntax.proofs.group_names.Names.insert.Goals as goal

pub returns : goal.returns
returns c = λ q. btree_set_updates_text (string_bytes c.args.name) _ _ _ c.in_ok-insert.ensures.updates q ∙ or_is_cond (bytes_eq (string_bytes c.args.name) q) _
