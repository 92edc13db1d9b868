-- Tokens one after another, and what is written of them.
use Rattle.std.proofs.Common.{◌≡◌, ℕ, ◌+◌, ◌-◌, ◌<◌, ◌≤◌, List, [], ◌∷◌, ◌++◌, length, get_or, take, drop, Option, refl, sym, ◌∙◌, subst, ap, arith, append_assoc}
use Rattle.std.proofs.lemmas.List.{append-nil, at_drop_more}
use Rattle.std.specs.Io.KnownBytes.{Appends, Keeps}
use Rattle.bites_filter.proofs.Written.{appends_none, appends_both, appends_kept}
use Rattle.bites_filter.specs.Table.{NamedRegex, IsFurthest, AreReadings, name_at}
use Rattle.bites_filter.specs.declared.table.Reading.{Reading}
use Rattle.clients.specs.Tokens.{AreWritten, token_line, token_lines, escaped, escaped_byte}

pub byte_more : (text : List ℕ) (i d : ℕ) (written : List ℕ) → i < length text → escaped text ≡ written ++ escaped (drop i text) →
    escaped text ≡ (written ++ escaped_byte (get_or text i d)) ++ escaped (drop (i + 1) text)
byte_more text i d written lt e =
    e ∙ ap (λ r. written ++ r) (at_drop_more escaped text i d lt)
    ∙ sym (append_assoc written (escaped_byte (get_or text i d)) (escaped (drop (i + 1) text)))

module _ (rules : List NamedRegex) (text : List ℕ) (old : Option (List ℕ)) where
  -- what was written so far is right: together with the lines of the tokens from i on it is right for all tokens
  abbrev pub IsSoFar : ℕ → Option (List ℕ) → Type 0
  IsSoFar i now = (written : List ℕ) × Appends old now written
      × ((more : List Reading) (stop : ℕ) → AreReadings rules text i more stop →
      (ts : List Reading) × AreReadings rules text 0 ts stop × (token_lines rules text 0 ts ≡ written ++ token_lines rules text i more))

  pub so_far_none : IsSoFar 0 old
  so_far_none = ([], appends_none old, λ more stop are. (more, are, refl))

  pub so_far_more : (i : ℕ) (now new : Option (List ℕ)) (t : Reading) → IsSoFar i now → i < t.end → IsFurthest rules text i t.rule t.end →
      Appends now new (token_line (name_at rules t.rule) (take (t.end - i) (drop i text))) → IsSoFar t.end new
  so_far_more i now new t (written, a, on) some furthest b =
      let line = token_line (name_at rules t.rule) (take (t.end - i) (drop i text)) in (
        written ++ line,
        appends_both old now new written line a b,
        λ more stop are.
            let all = on (t ∷ more) stop (some, furthest, are) in
            (all.0, all.1, all.2 ∙ sym (append_assoc written line (token_lines rules text t.end more))),
      )

  pub all_so_far : (i k j : ℕ) (now new : Option (List ℕ)) → IsSoFar i now → IsFurthest rules text i k j → j ≤ i → Keeps now new →
      AreWritten rules text old new i
  all_so_far i k j now new (written, a, on) furthest none keeps =
      let all = on [] i (refl, λ l e reads. let le : e ≤ j = furthest.greatest l e reads in omega (arith, le, none)) in
      record {
        tokens = all.0;
        are = all.1;
        within = let from : i ≤ j = furthest.from in let in_text : j ≤ length text = furthest.within in omega (arith, from, in_text);
        written = subst (Appends old new) (sym (append-nil written) ∙ sym all.2) (appends_kept old now new written a keeps);
      }
