use Rattle.std.proofs.Common.{sym, ap, length, ◌∙◌}
use Rattle.std.specs.Prelude.{encode_utf8_all}
use Rattle.std.proofs.lemmas.Str.{encodes-chars, IsUtf8-from_is_utf8}
use Rattle.bites_syntax.specs.declared.refusal.Refusal.TheVariants.{At}
use Rattle.bites_syntax.proofs.cursor.Cursor.fault.Goals as goal

pub returns : goal.returns
returns c = ap (At c.args.error) (ap length (sym (encodes-chars _ (IsUtf8-from_is_utf8 _ c.self.invariant))) ∙ ap (λ t. length (encode_utf8_all t)) c.self.view_is)
