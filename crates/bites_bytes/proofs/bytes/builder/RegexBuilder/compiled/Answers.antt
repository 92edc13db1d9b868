use Rattle.std.proofs.Common.{◌≡◌, ◌∙◌, ap, refl, sym, subst}
use Rattle.std.specs.Prelude.{chars, string_bytes}
use Rattle.bites_spec.specs.Contents.{Contents}
use Rattle.bites_spec.specs.Grammar.{Reading}
use Rattle.bites_spec.specs.Measure.{HasItsGroups, TreeLimitsWith, groups_opened}
use Rattle.bites_spec.specs.Regex.{IsCompiled, with_prefilter, with_table}
use Rattle.bites_spec.specs.Settings.{Settings}
use Rattle.bites_spec.proofs.regex.KeptLemmas.{opened_has_groups}
use Rattle.bites_syntax.specs.FlagsView.{flags_of}
use Rattle.bites_machine.specs.Compiled as compiled
use Rattle.bites_machine.specs.Contents.{patterned}
use Rattle.bites_bytes.specs.Parts.{chosen, regex_of}
use Rattle.bites_bytes.specs.Settings.{limit}
use Rattle.bites_bytes.proofs.SettingsLemmas.{passed_on, no_other_tree, accepted_of, refused_kept, compiled_of, built_of}
use Rattle.bites_bytes.proofs.bytes.builder.RegexBuilder.compiled.Goals as goal

pub compile_kept-requires-clause-groups : goal.compile_kept-requires-clause-groups
compile_kept-requires-clause-groups c =
    let reading = c.requires.read.reading in
    subst (λ groups. HasItsGroups groups c.args.tree.now) (sym (c.requires.groups reading)) (opened_has_groups reading)

pub returns-in_err-program : goal.returns-in_err-program
returns-in_err-program c =
    let s = c.args.self in
    let t = c.args.tree.now in
    let groups = c.args.groups.now in
    let read = c.requires.read in
    let e = c.in_err-program.field-0.0 in
    let Passed : Settings → Type 0 = λ x. compiled.RefusesTree x.size_limit (chosen x.keep_dropped_groups groups t) t e in
    let passed = refused_kept s t groups read (c.requires.groups read.reading) e (subst Passed c.self.view_is c.in_err-program.ensures.refused) in
    passed_on s e c.from_residual.result c.from_residual.ensures.1 (λ ne u a. no_other_tree s t e read passed ne u a) (λ ne. limit t read passed)

pub from_parts-requires : goal.from_parts-requires
from_parts-requires c =
    let x = c.self.inside in
    let t = c.args.tree.now in
    let groups = c.args.groups.now in
    let Reads : Settings → Type 0 = λ s. Reading (chars s.pattern) s.flags t in
    let Opens : Settings → Type 0 = λ s. (r : Reads s) → groups ≡ groups_opened r in
    let reading = subst Reads (sym c.self.view_is) c.requires.read.reading in
    let made = c.in_ok-program.ensures in
    let pattern = string_bytes x.pattern in
    let Compiled : Contents → Type 0 = λ p. IsCompiled (regex_of (flags_of x.flags) t x.keep_dropped_groups x.leftmost_longest p) in
    subst Compiled (sym c.with_pattern-program.ensures)
    (compiled_of (flags_of x.flags) t x.keep_dropped_groups x.leftmost_longest (patterned pattern c.in_ok-program.program) pattern groups reading
    (subst Opens (sym c.self.view_is) c.requires.groups reading) c.requires.compilable refl made.names made.slots made.static_len made.built made.well_formed)

pub returns-in_err-regex : goal.returns-in_err-regex
returns-in_err-regex c =
    let is = c.in_err-regex.ensures in
    passed_on c.args.self c.in_err-regex.field-0.0 c.from_residual-in_err-regex.result c.from_residual-in_err-regex.ensures.1
    (λ ne. absurd (ne is)) (λ ne. absurd (ne is))

pub returns : goal.returns
returns c =
    let t = c.args.tree.now in
    let groups = c.args.groups.now in
    let read = c.requires.read in
    let b = c.with_table.ensures.same.0 in
    let Made : Settings → Type 0 = λ s.
    c.with_table.result ≡ with_table b (with_prefilter s.prefilter (regex_of s.flags t s.keep_dropped_groups s.leftmost_longest c.with_pattern-program.result)) in
    let Within : Settings → Type 0 = λ s. TreeLimitsWith s.size_limit (chosen s.keep_dropped_groups groups t) t in
    built_of c.args.self c.with_table.result t c.with_pattern-program.result b
    (subst Made c.self.view_is (c.with_table.ensures.same.1 ∙ ap (with_table b) c.in_ok-regex.ensures))
    (ap (λ (p : Contents). p.pattern) c.with_pattern-program.ensures ∙ ap (λ (s : Settings). s.pattern) c.self.view_is)
    (λ zero. c.with_table.ensures.none (ap (λ (s : Settings). s.dfa_size_limit) c.self.view_is ∙ zero))
    (accepted_of c.args.self t groups read (c.requires.groups read.reading) (subst Within c.self.view_is c.in_ok-program.ensures.limits))
