use Rattle.std.proofs.Common.{◌≡◌, ◌∷◌, sym, ap, ◌∙◌, Some, arith}
use Rattle.bites_spec.specs.Escape.{is_hex_digit}
use Rattle.bites_spec.specs.Message.{brace_hex_invalid}
use Rattle.bites_spec.specs.Pattern.{right_brace}
use Rattle.bites_syntax.specs.FlagsView.{flags_of}
use Rattle.bites_text.specs.declared.error.Error.TheVariants.{BraceHexEmpty}
use Rattle.bites_syntax.specs.Parts.{fault_at, fault_in}
use Rattle.bites_syntax.specs.Steps.{each_of}
use Rattle.bites_syntax.proofs.HexadecimalLemmas.{braces_closed, braces_empty, scalar_answers}
use Rattle.bites_syntax.proofs.PartLemmas.{no_longer}
use Rattle.bites_syntax.proofs.hexadecimal.in_braces.Goals as goal

pub returns-in-Some-eq125 : goal.returns-in-Some-eq125
returns-in-Some-eq125 c = no_longer (grind arith) (
    let behind : (each_of (flags_of c.args.flags) is_hex_digit c.args.cursor.now).1 ≡ right_brace ∷ c.bump.new.self =
    sym c.number-value.ensures.rest.reads ∙ rw (← c.in-Some-eq125.field-0-test) c.in-Some-eq125.ensures.value in
    let here : c.ahead-end.result ≡ right_brace ∷ c.bump.new.self = c.ahead-end.ensures ∙ c.number-value.ensures.rest.reads ∙ behind in
    ap fault_in (braces_empty (flags_of c.args.flags) c.args.cursor.now _ (sym c.if-empty.ensures) behind)
    ∙ ap Some (sym (c.fault-in-Some-eq125.ensures ∙ ap (fault_at BraceHexEmpty) here)))

pub returns-in-Some-eq125-2 : goal.returns-in-Some-eq125-2
returns-in-Some-eq125-2 c = no_longer (grind arith) (
    let behind : (each_of (flags_of c.args.flags) is_hex_digit c.args.cursor.now).1 ≡ right_brace ∷ c.bump.new.self =
    sym c.number-value.ensures.rest.reads ∙ rw (← c.in-Some-eq125.field-0-test) c.in-Some-eq125.ensures.value in
    rw (braces_closed (flags_of c.args.flags) c.args.cursor.now _ (sym c.if-empty.ensures) behind)
    (scalar_answers brace_hex_invalid _ (each_of (flags_of c.args.flags) is_hex_digit c.args.cursor.now).0 c.bump.new.self _ _ _ c.number-value.ensures.value c.character.ensures c.ok_or.ensures.value (sym c.fault-in-Some-eq125-2.ensures)))
