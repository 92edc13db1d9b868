use Rattle.std.proofs.Common.{◌++◌, ◌∙◌, refl, sym, ap}
use Rattle.bites_bytes.proofs.SplitLemmas.{piece_is}
use Rattle.bites_bytes.proofs.ReplacingSteps.{text_step, text_rest}
use Rattle.bites_bytes.proofs.bytes.replace.Replacing.step_by_text.Goals as goal

pub returns-in_default : goal.returns-in_default
returns-in_default c =
    let e = c.in_default.ensures in record {
      found = text_rest c.args.self.now _ c.spend.result c.spend.ensures c.if-not-spend.false e.found.same e.found.steps.0 e.found.steps.1 e.found.moves refl;
      same = e.same;
    }

pub returns : goal.returns
returns c =
    let s = c.args.self.now in let e = c.in-Some.ensures in record {
      found = text_step s _ c.spend.result c.spend.ensures c.if-not-spend.false e.found.same c.in-Some.found c.args.text.now e.found.steps e.found.moves
          (c.in_ok-extend_from_slice-2.ensures.items
          ∙ ap (λ l. l ++ c.args.text.now) (c.in_ok-extend_from_slice.ensures.items
          ∙ ap (λ p. s.out.items ++ p) (sym (piece_is _ _ _ _ _ _ refl c.end_of_last-begin.ensures.last c.start.ensures))));
      same = e.same;
    }
