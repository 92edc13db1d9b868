use Rattle.std.proofs.Common.{refl, sym, subst, ◌∙◌, true≢false}
use Rattle.std.specs.Prelude.{IfSome}
use Rattle.bites_scan.specs.Trigrams.{AreTrigramsOf}
use Rattle.bites_spec.specs.Utf8.{places}
use Rattle.bites_bytes.proofs.bytes.set_search.matches_at.Goals as goal

pub returns : goal.returns
returns c = record {
  found = (
    λ yes. absurd (true≢false (sym yes)),
    λ has. absurd (true≢false (sym (c.may_match.ensures (places c.args.haystack.now c.args.start) (subst (λ o. IfSome o (λ t. AreTrigramsOf t c.args.haystack.now)) c.in-Some.is c.requires.trigrams) has) ∙ c.if-not-may_match.true)),
  );
  same = refl;
}
