use Rattle.std.proofs.Common.{◌<◌, ◌∙◌, length, refl, arith}
use Rattle.std.proofs.lemmas.List.{length-set}
use Rattle.std.proofs.lemmas.Option.{slice_get_read}
use Rattle.bites_spec.specs.Utf8.{places}
use Rattle.bites_bytes.proofs.SetLemmas.{fit_at, fits_kept, match_of, entry_more, all_matched}
use Rattle.bites_bytes.proofs.bytes.set_search.match_each.Goals as goal

pub matches_at-requires-clause-fits : goal.matches_at-requires-clause-fits
matches_at-requires-clause-fits c =
    let l = c.loop-number in
    fit_at l.caches c.args.regexes.now l.number c.index-caches-number.result c.index-regexes-number.result (l.invariant.fits ∙ c.requires.fits)
    (omega (arith, c.loop-number-test.true)) c.index-regexes-number.is

pub loop-number-preserved : goal.loop-number-preserved
loop-number-preserved c =
    let l = c.loop-number in let regexes = c.args.regexes.now in let hay = c.args.haystack.now in let r = c.index-regexes-number.result in
    let starts = places hay c.args.start in
    let at = slice_get_read regexes (length regexes) l.number r refl (omega (arith, c.loop-number-test.true)) c.index-regexes-number.is in
    let found = c.matches_at.result in
    let within : l.number < length l.matched = omega (arith, c.loop-number-test.true, l.invariant.len, c.requires.entries) in
    record {
      fits = fits_kept l.caches l.number c.matches_at.new.cache c.index-caches-number.result c.matches_at.ensures.same ∙ l.invariant.fits;
      len = length-set l.matched l.number found ∙ l.invariant.len;
      each = entry_more regexes hay starts l.matched l.number found within
          (match_of regexes hay starts l.number r found at c.matches_at.ensures.found) l.invariant.each;
    }

pub returns : goal.returns
returns c =
    let l = c.loop-number in record {
      found = all_matched c.args.regexes.now c.args.haystack.now (places c.args.haystack.now c.args.start) l.matched l.number
          (l.invariant.len ∙ c.requires.entries) (omega (arith, c.loop-number-test.false)) l.invariant.each;
      same = l.invariant.fits;
    }
