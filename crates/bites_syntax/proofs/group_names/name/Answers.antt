use Rattle.std.proofs.Common.{◌≡◌, ◌∙◌, sym, ap, inr, refl, true, false, Some, arith}
use Rattle.std.specs.Prelude.{string_bytes}
use Rattle.std.specs.BTreeSet.{contains_text}
use Rattle.std.proofs.lemmas.Str.{IsUtf8-string_bytes}
use Rattle.bites_text.specs.declared.error.Error.TheVariants.{EmptyName, DuplicateName}
use Rattle.bites_syntax.specs.Parts.{fault_at}
use Rattle.bites_syntax.proofs.NameLemmas.{name_empty, name_taken, name_new, no_bytes}
use Rattle.bites_syntax.proofs.PartLemmas.{no_longer}
use Rattle.bites_syntax.proofs.group_names.name.Goals as goal

pub returns-then-is_empty : goal.returns-then-is_empty
returns-then-is_empty c = no_longer (grind arith) λ all are.
    inr (name_empty all c.args.cursor.now c.name_text.new.cursor (string_bytes c.in_ok-text.text) (c.in_ok-text.ensures.text.reads all) (sym c.if-not-bump_if.ensures.value)
    (no_bytes c.in_ok-text.text true c.if-is_empty.ensures) ∙ ap Some (sym (c.fault-then-is_empty.ensures ∙ ap (fault_at EmptyName) c.ahead-end.ensures)))

pub returns-then-contains : goal.returns-then-contains
returns-then-contains c = no_longer (grind arith) λ all are.
    let found : true ≡ contains_text c.args.names.now.texts (string_bytes c.in_ok-text.text) = rw (← c.deref-2.ensures) c.if-contains.ensures in
    inr (name_taken c.args.names.now all c.args.cursor.now c.name_text.new.cursor (string_bytes c.in_ok-text.text) are (c.in_ok-text.ensures.text.reads all) (sym c.if-not-bump_if.ensures.value)
    (IsUtf8-string_bytes c.in_ok-text.text) (no_bytes c.in_ok-text.text false c.if-is_empty.ensures) found
    ∙ ap Some (sym (c.fault-then-contains.ensures ∙ ap (fault_at DuplicateName) c.if-not-bump_if.ensures.rest.reads)))

pub returns : goal.returns
returns c = no_longer (grind arith) λ all are.
    let found : false ≡ contains_text c.args.names.now.texts (string_bytes c.in_ok-text.text) = rw (← c.deref-2.ensures) c.if-contains.ensures in (
      _,
      name_new c.args.names.now all c.args.cursor.now c.name_text.new.cursor _ (string_bytes c.in_ok-text.text) are (c.in_ok-text.ensures.text.reads all) (sym c.if-not-bump_if.ensures.value)
          (IsUtf8-string_bytes c.in_ok-text.text) (no_bytes c.in_ok-text.text false c.if-is_empty.ensures) found c.if-not-bump_if.ensures.rest.reads,
      refl,
    )
