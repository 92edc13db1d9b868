use Rattle.std.proofs.Common.{rules, refl, inl}
use Rattle.bites_bytes.proofs.ReplacedLemmas.{if_ok, on_err, text_replaces, text_borrows, by_replaces, by_borrows, some_refused, all_refused}
use Rattle.bites_bytes.proofs.ReplacingLemmas.{some_none}
use Rattle.bites_bytes.specs.Replacing.{captures_to_replace}
use Rattle.bites_bytes.proofs.bytes.regex.Regex.replace_by.Goals as goal

pub returns-in-Some : goal.returns-in-Some
returns-in-Some g c =
    let R = g.R.Replacer in let e = c.new-replacing.ensures in let s = c.new-replacing.result in let by = c.in_ok-by_text.ensures in
    let is = text_borrows s c.args.self.now c.args.haystack.now c.args.limit e.begins.regex e.begins.haystack e.begins.last e.left e.out c.program.ensures.compiled
    c.by_text.new.self _ refl c.in-Some.text.now by.found in record {
      found = record {
        replaces = if_ok c.finish.result _ _ c.finish.ensures.bytes
            (λ x written. text_replaces s c.args.self.now c.args.haystack.now c.args.limit e.begins.regex e.begins.haystack e.begins.last e.left e.out
            c.program.ensures.compiled _ _ written c.in-Some.text.now by.found R.replaces R.answers c.args.replacer.now _ (search rules));
        refused = search rules;
        borrowed = if_ok c.finish.result _ _ c.finish.ensures.borrowed (λ x same. (λ b. is.0 (same.0 b), λ none. same.1 (is.1 none)));
      };
      same = by.same;
    }

pub returns : goal.returns
returns g c =
    let R = g.R.Replacer in let e = c.new-replacing.ensures in let s = c.new-replacing.result in let ends = c.in_ok-by.ensures.ends in
    let asked = c.no_expansion.follows.lender-at-none in
    let is = by_borrows s c.args.self.now c.args.haystack.now c.args.limit e.begins.regex e.begins.haystack e.begins.last e.left e.out c.program.ensures.compiled
    c.by.new.self _ refl R.replaces R.answers c.args.replacer.now asked _ ends.found in record {
      found = record {
        replaces = if_ok c.finish-2.result _ _ c.finish-2.ensures.bytes
            (λ x written. by_replaces s c.args.self.now c.args.haystack.now c.args.limit e.begins.regex e.begins.haystack e.begins.last e.left e.out
            c.program.ensures.compiled _ _ written R.replaces R.answers c.args.replacer.now asked _ ends.found (search rules));
        refused = on_err c.finish-2.result _ (all_refused s c.args.self.now c.args.haystack.now c.args.limit e.begins.regex e.begins.haystack e.begins.last
            e.left e.out R.replaces R.answers R.refuses c.args.replacer.now asked _ (search rules) _ ends.found);
        borrowed = if_ok c.finish-2.result _ _ c.finish-2.ensures.borrowed (λ x same. (λ b. is.0 (same.0 b), λ none. same.1 (is.1 none)));
      };
      same = ends.same;
    }

pub returns-in_err-locations : goal.returns-in_err-locations
returns-in_err-locations g c =
    let R = g.R.Replacer in let e = c.new-replacing.ensures in let s = c.new-replacing.result in let asked = c.no_expansion.follows.lender-at-none in record {
      found = record {
        replaces = search rules;
        refused = on_err c.from_residual-in_err-locations.result _
            (some_refused s c.args.self.now c.args.haystack.now c.args.limit e.begins.regex e.begins.haystack e.begins.last e.left e.out
            R.replaces R.answers R.refuses c.args.replacer.now asked asked (search rules)
            (some_none R.replaces R.answers R.refuses asked (captures_to_replace s) asked (inl refl)));
        borrowed = search rules;
      };
      same = refl;
    }

pub returns-in_err-by : goal.returns-in_err-by
returns-in_err-by g c =
    let R = g.R.Replacer in let e = c.new-replacing.ensures in let s = c.new-replacing.result in record {
      found = record {
        replaces = search rules;
        refused = on_err c.from_residual-in_err-by.result _
            (some_refused s c.args.self.now c.args.haystack.now c.args.limit e.begins.regex e.begins.haystack e.begins.last e.left e.out
            R.replaces R.answers R.refuses c.args.replacer.now c.no_expansion.follows.lender-at-none _ (search rules) c.in_err-by.ensures.served);
        borrowed = search rules;
      };
      same = c.in_err-by.ensures.ends.same;
    }
