-- What is done with each line of a log extracts its fields.
use Rattle.std.proofs.Common.{ℕ, ◌+◌, List, [], ◌∷◌, ◌++◌, Option, Some, None, IfSome, refl, sym, subst}
use Rattle.std.specs.Io.KnownBytes.{Appends}
use Rattle.bites_filter.specs.Lines.{lines_of, DoesEach}
use Rattle.bites_filter.proofs.Written.{appends_none, appends_both}
use Rattle.clients.specs.Rows.{Extracts, AreExtracted}

module _ {S : Type 0} (contents : S → Option (List ℕ)) where
  extracts : (n : ℕ) (ls : List (List ℕ)) (s : S) (text : List ℕ) (bad : ℕ) (t : S) → DoesEach (Extracts contents) n ls s text bad t →
      (reports : List ℕ) × AreExtracted n ls text reports bad × Appends (contents s) (contents t) reports
  extracts n [] s text bad t does =
      ([], (does.0, refl, does.1), subst (λ u. Appends (contents s) (contents u) []) (sym does.2) (appends_none (contents s)))
  extracts n (l ∷ ls) s text bad t (first, is_bad, m, texts, more, (report, outcome, told), does, text_is, bad_is) =
      let on = extracts (n + 1) ls m texts more t does in (
        report ++ on.0,
        (first, report, is_bad, texts, on.0, more, outcome, on.1, text_is, refl, bad_is),
        appends_both (contents s) (contents m) (contents t) report on.0 told on.2,
      )

  pub all_extracted : (input old new : Option (List ℕ)) (s : S) (bad : ℕ) (t : S) →
      IfSome input (λ bytes. (text : List ℕ) × DoesEach (Extracts contents) 0 (lines_of bytes) s text bad t × Appends old new text) →
      IfSome input (λ bytes. (text : List ℕ) × (reports : List ℕ) × AreExtracted 0 (lines_of bytes) text reports bad
      × Appends old new text × Appends (contents s) (contents t) reports)
  all_extracted None old new s bad t does = tt
  all_extracted (Some xs) old new s bad t (text, does, appends) =
      let is = extracts 0 (lines_of xs) s text bad t does in (text, is.0, is.1, appends, is.2)
