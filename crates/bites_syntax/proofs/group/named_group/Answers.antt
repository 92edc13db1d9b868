use Rattle.std.proofs.Common.{◌≡◌, ◌≤◌, ◌+◌, [], ◌∷◌, ◌++◌, sym, refl, ap, ◌∙◌, arith, Some}
use Rattle.std.specs.Prelude.{encode_utf8_all, string_bytes}
use Rattle.std.proofs.lemmas.Str.{IsUtf8-string_bytes}
use Rattle.bites_spec.specs.Group.{numbered, with_group}
use Rattle.bites_spec.specs.Reader.{group}
use Rattle.bites_syntax.proofs.GroupLemmas.{named_reads, name_bytes, are_names_more, opened_one_more}
use Rattle.bites_spec.specs.Pattern.{given}
use Rattle.bites_syntax.proofs.PartLemmas.{no_longer}
use Rattle.bites_syntax.proofs.group.named_group.Goals as goal

pub returns : goal.returns
returns c = no_longer (grind arith) λ g is.
    let room : g.groups + 1 ≤ 4294967295 = omega (arith, is.groups, c.in-Some.ensures.0) in
    let read = c.in_ok-text.ensures.reads (given g.names) is.names in
    let bytes : encode_utf8_all read.0 ≡ string_bytes c.in_ok-text.text = name_bytes read.0 (string_bytes c.in_ok-text.text) (IsUtf8-string_bytes c.in_ok-text.text) read.2 in (
      group (numbered (Some read.0)) (with_group (Some read.0) g),
      named_reads g c.args.cursor.now c.name.new.cursor read.0 room read.1,
      (
        Some read.0,
        with_group (Some read.0) g,
        refl,
        ap Some (c.from.ensures ∙ sym bytes),
        refl,
        record {
          flags = is.flags;
          groups = c.in-Some.ensures.1 ∙ ap (λ n. n + 1) is.groups;
          names = are_names_more c.args.state.now.names c.insert.new.self (given g.names) read.0 (string_bytes c.in_ok-clone.field-0) is.names (bytes ∙ sym c.in_ok-clone.ensures.cases) c.in_ok-insert.ensures;
          opened = c.in_ok-push.ensures ∙ ap (λ name. c.args.state.now.opened ++ Some name ∷ []) (c.in_ok-new.ensures ∙ c.deref.ensures ∙ sym bytes)
              ∙ opened_one_more c.args.state.now.opened (Some read.0) g is.opened;
        },
      ),
    )
