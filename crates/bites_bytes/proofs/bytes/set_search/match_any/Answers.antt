use Rattle.std.proofs.Common.{◌∙◌, length, refl, sym, true≢false, arith}
use Rattle.std.proofs.lemmas.Option.{slice_get_read}
use Rattle.bites_spec.specs.Utf8.{places}
use Rattle.bites_bytes.proofs.SetLemmas.{fit_at, fits_kept, match_of, none_more, none_of_all}
use Rattle.bites_bytes.proofs.bytes.set_search.match_any.Goals as goal

pub matches_at-requires-clause-fits : goal.matches_at-requires-clause-fits
matches_at-requires-clause-fits c =
    let l = c.loop-number in
    fit_at l.caches c.args.regexes.now l.number c.index-caches-number.result c.index-regexes-number.result (l.invariant.fits ∙ c.requires)
    (omega (arith, c.loop-number-test.true)) c.index-regexes-number.is

pub returns-then-matches_at : goal.returns-then-matches_at
returns-then-matches_at c =
    let l = c.loop-number in let regexes = c.args.regexes.now in let r = c.index-regexes-number.result in
    let at = slice_get_read regexes (length regexes) l.number r refl (omega (arith, c.loop-number-test.true)) c.index-regexes-number.is in record {
      found = (λ _. (l.number, (r, at, c.matches_at.ensures.found.0 c.if-matches_at.true)), λ _. refl);
      same = fits_kept l.caches l.number c.matches_at.new.cache c.index-caches-number.result c.matches_at.ensures.same ∙ l.invariant.fits;
    }

pub loop-number-preserved : goal.loop-number-preserved
loop-number-preserved c =
    let l = c.loop-number in let regexes = c.args.regexes.now in let hay = c.args.haystack.now in let r = c.index-regexes-number.result in
    let starts = places hay c.args.start in
    let at = slice_get_read regexes (length regexes) l.number r refl (omega (arith, c.loop-number-test.true)) c.index-regexes-number.is in
    let found = c.matches_at.result in
    record {
      fits = fits_kept l.caches l.number c.matches_at.new.cache c.index-caches-number.result c.matches_at.ensures.same ∙ l.invariant.fits;
      none = none_more regexes hay starts l.number found (match_of regexes hay starts l.number r found at c.matches_at.ensures.found)
          c.if-matches_at.false l.invariant.none;
    }

pub returns : goal.returns
returns c =
    let l = c.loop-number in record {
      found = (
        λ yes. absurd (true≢false (sym yes)),
        λ some. absurd (none_of_all c.args.regexes.now c.args.haystack.now (places c.args.haystack.now c.args.start) l.number
            (omega (arith, c.loop-number-test.false)) l.invariant.none some),
      );
      same = l.invariant.fits;
    }
