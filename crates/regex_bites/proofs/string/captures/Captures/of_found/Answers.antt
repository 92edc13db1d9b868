use Rattle.std.proofs.Common.{◌≡◌, ◌∙◌, List, Option, Some, ap, option_map, refl, subst, sym, ℕ}
use Rattle.bites_spec.specs.Captured.{Captured, captured, AreGroups}
use Rattle.bites_spec.specs.Regex.{Regex}
use Rattle.bites_bytes.specs.Calls.{groups_if}
use Rattle.regex_bites.specs.Borders.{AreGroupsOf}
use Rattle.regex_bites.proofs.BorderLemmas.{found_in_text, over_text}
use Rattle.regex_bites.proofs.string.captures.Captures.of_found.Goals as goal

-- groups in the bytes of a text are those in the text
same : (q r : Regex) (k hay : List ℕ) (inside slots : List (Option ℕ)) → q ≡ r → k ≡ hay → inside ≡ slots → (x : Captured) → x ≡ captured q k inside →
    x ≡ captured r hay slots
same q r k hay inside slots regex bytes view x e =
    subst (λ l. x ≡ captured r hay l) view (over_text (λ p h. x ≡ captured p h inside) q r k hay regex bytes e)

pub of-requires : goal.of-requires
of-requires c =
    over_text (λ p h. AreGroups p h c.locations.inside.locations) _ _ _ _ (sym c.over_bytes.ensures.same) (sym c.as_bytes.ensures.value)
    (subst (AreGroups c.args.regex.now c.args.haystack.now) (sym c.locations.view_is) (found_in_text _ _ _ _ c.requires c.if-not-found.false).are)

pub of-requires-2 : goal.of-requires-2
of-requires-2 c =
    subst (AreGroupsOf c.args.haystack.now)
    (sym (same _ _ _ _ _ _ c.over_bytes.ensures.same c.as_bytes.ensures.value c.locations.view_is c.in_ok-captures.captures c.in_ok-captures.ensures))
    (refl, (found_in_text _ _ _ _ c.requires c.if-not-found.false).borders.groups)

pub returns : goal.returns
returns c =
    let r = c.args.regex.now in let hay = c.args.haystack.now in
    ap Some
    (c.of-2.ensures
    ∙ same _ _ _ _ _ _ c.over_bytes.ensures.same c.as_bytes.ensures.value c.locations.view_is c.in_ok-captures.captures c.in_ok-captures.ensures)
    ∙ ap (λ b. option_map (captured r hay) (groups_if b c.args.locations.now)) (sym c.if-not-found.false)
