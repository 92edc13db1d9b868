use Rattle.std.proofs.Common.{◌∙◌, ap, refl, sym, subst, arith}
use Rattle.std.specs.Prelude.{is_some}
use Rattle.bites_spec.specs.Found.{IsLeastEnd}
use Rattle.bites_spec.specs.Utf8.{places}
use Rattle.bites_bytes.specs.Calls.{SearchedFrom}
use Rattle.bites_bytes.proofs.SearchLemmas.{least_none, least_some}
use Rattle.bites_bytes.proofs.bytes.cache.Cache.shortest.Goals as goal

pub returns-then-not-search : goal.returns-then-not-search
returns-then-not-search c =
    let r = c.args.regex.now in let hay = c.args.haystack.now in let s = c.args.start in let e = c.search.ensures in let found = e.answered.least refl in record {
      least = least_none r e.answered.compiled hay (places hay s) found.0 c.search.result _ _ found.1 found.2 c.if-not-search.true;
      searched = subst (λ b. SearchedFrom r hay s b c.args.self.now c.search.new.self) c.if-not-search.true e.searched;
      searches = e.searches;
    }

pub returns : goal.returns
returns c =
    let r = c.args.regex.now in let hay = c.args.haystack.now in let s = c.args.start in let e = c.search.ensures in let found = e.answered.least refl in
    let least = least_some r e.answered.compiled hay (places hay s) found.0 c.search.result _ _ found.1 found.2 c.if-not-search.false (omega arith) in record {
      least = subst (IsLeastEnd r.tree hay (places hay s)) (sym c.end_in.ensures) least.0;
      searched = subst (λ b. SearchedFrom r hay s b c.args.self.now c.search.new.self)
          (c.if-not-search.false ∙ sym least.1 ∙ ap is_some (sym c.end_in.ensures)) e.searched;
      searches = e.searches;
    }
