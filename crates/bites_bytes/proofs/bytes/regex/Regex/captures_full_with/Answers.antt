use Rattle.std.proofs.Common.{◌∙◌, None, Some, ap, sym, subst}
use Rattle.bites_bytes.specs.Calls.{groups_if, FindsCapturedFull}
use Rattle.bites_spec.proofs.regex.FullLemmas.{full_slots_are_groups}
use Rattle.bites_bytes.proofs.FullLemmas.{captured_full}
use Rattle.bites_bytes.proofs.bytes.regex.Regex.captures_full_with.Goals as goal

pub returns-then-not-find_full : goal.returns-then-not-find_full
returns-then-not-find_full c =
    let e = c.find_full.ensures in let new = c.find_full.new.self in record {
      found = captured_full c.args.self.now e.compiled c.args.haystack.now None (e.reads.found ∙ ap (λ b. groups_if b new) c.if-not-find_full.true);
      searched = e.reads.searched;
      searches = e.reads.searches;
      fits = e.reads.searched.fits;
    }

pub new-requires : goal.new-requires
new-requires c =
    let e = c.find_full.ensures in let new = c.find_full.new.self in
    full_slots_are_groups c.args.self.now e.compiled c.args.haystack.now new (e.reads.found ∙ ap (λ b. groups_if b new) c.if-not-find_full.false)

pub returns : goal.returns
returns c =
    let r = c.args.self.now in let hay = c.args.haystack.now in let new = c.find_full.new.self in let e = c.find_full.ensures in record {
      found = subst (λ x. FindsCapturedFull r hay (Some x)) (sym c.in_ok-new.ensures)
          (captured_full r e.compiled hay (Some new) (e.reads.found ∙ ap (λ b. groups_if b new) c.if-not-find_full.false));
      searched = e.reads.searched;
      searches = e.reads.searches;
      fits = e.reads.searched.fits;
    }
