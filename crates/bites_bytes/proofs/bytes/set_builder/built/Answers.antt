use Rattle.std.proofs.Common.{◌≡◌, ◌≢◌, ◌∙◌, ◌++◌, ◌∷◌, [], map, length, take, slice_get, Some, option_map, subst, sym, refl, ap, arith}
use Rattle.std.specs.Prelude.{string_bytes}
use Rattle.std.proofs.lemmas.List.{take-map}
use Rattle.std.proofs.lemmas.Option.{slice_get-map, slice_get_read}
use Rattle.bites_text.specs.declared.error.Error.TheVariants.{Memory}
use Rattle.bites_spec.specs.Set.{AreBuilt, IsBuilt, with_pattern, set_settings}
use Rattle.bites_bytes.proofs.SetLemmas.{built_more, patterns_more, refused_at}
use Rattle.bites_bytes.proofs.bytes.set_builder.built.Goals as goal

pub returns-in-Err-clause-refused : goal.returns-in-Err-clause-refused
returns-in-Err-clause-refused c =
    λ ne.
    let l = c.loop-index in let patterns = c.args.patterns.now in let s = c.args.all.now in let p = c.index-patterns-index.result in
    let e = c.in-Err.error in
    let ne_e = subst (λ x. x ≢ Memory) c.of.ensures.error ne in
    let bytes = string_bytes p in
    let at : slice_get (map string_bytes patterns) l.index ≡ Some bytes =
    slice_get-map string_bytes patterns l.index
    ∙ ap (option_map string_bytes) (slice_get_read patterns (length patterns) l.index p refl (omega (arith, c.loop-index-test.true)) c.index-patterns-index.is) in
    refused_at s (map string_bytes patterns) l.index bytes e c.of.result c.of.ensures.index c.of.ensures.error at
    (rw (← c.as_str.ensures.value) (c.in-Err.ensures.refused ne_e)) (rw (← c.as_str.ensures.value) (c.in-Err.ensures.message ne_e))
    l.regexes.items (subst (λ ps. AreBuilt (set_settings ps s) l.regexes.items) (sym (take-map string_bytes l.index patterns)) l.invariant)

pub loop-index-preserved : goal.loop-index-preserved
loop-index-preserved c =
    let l = c.loop-index in let patterns = c.args.patterns.now in let s = c.args.all.now in let p = c.index-patterns-index.result in
    let r = c.in_default.ensures.added.0 in
    let bytes = string_bytes p in
    let is : IsBuilt (with_pattern s bytes) r = subst (λ b. IsBuilt (with_pattern s b) r) c.as_str.ensures.value c.in_default.ensures.added.2 in
    let more = built_more s (map string_bytes (take l.index patterns)) bytes l.regexes.items r l.invariant is in
    let patterns_is = patterns_more string_bytes patterns l.index p (omega (arith, c.loop-index-test.true)) c.index-patterns-index.is in
    subst (λ ps. AreBuilt (set_settings ps s) c.add_regex.new.regexes.items) (sym patterns_is)
    (subst (λ rs. AreBuilt (set_settings (map string_bytes (take l.index patterns) ++ bytes ∷ []) s) rs) (sym c.in_default.ensures.added.1) more)
