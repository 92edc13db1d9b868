use Rattle.std.proofs.Common.{◌∙◌, ap, subst}
use Rattle.bites_spec.specs.Set.{fits_for}
use Rattle.bites_bytes.specs.Set.{ArePrepared}
use Rattle.bites_bytes.proofs.SetLemmas.{fits_prepared}
use Rattle.bites_bytes.proofs.bytes.set.RegexSet.prepared.Goals as goal

pub returns : goal.returns
returns c =
    let is = c.as_slice.ensures.value ∙ c.self.view_is in let items = c.in_ok-prepare_each.field-0.items in let e = c.in_ok-prepare_each.ensures in record {
      found = subst (λ rs. ArePrepared c.args.dfa_size_limit c.args.prefilter rs items) is e;
      same = fits_prepared c.args.prefilter c.as_slice.result.now items e.same ∙ ap fits_for is;
    }
