use Rattle.bites_table.proofs.BlockLemmas.{single_alike}
use Rattle.bites_table.proofs.StepLemmas.{if_some}
use Rattle.bites_table.proofs.Library.{state_of, in_ranges, takes, [], ◌∷◌, sym, subst}
use Rattle.bites_table.specs.Blocks.{PassAlike, IsSplitBy}
use Rattle.bites_table.proofs.classes.split_state.Goals as goal

pub returns-in-Char : goal.returns-in-Char
returns-in-Char c =
    let begins = c.args.begins.now in
    let new = c.split.new.self in
    if_some (λ _ (by : IsSplitBy begins (in_ranges ((c.in-Char.ch, c.in-Char.ch) ∷ [])) c.args.blocks.now new). record {
      blocks = by.blocks;
      len = by.len;
      finer = by.finer;
      alike = subst (λ s. PassAlike begins new.of.items (takes (state_of s))) (sym c.in-Char.is) (single_alike begins new.of.items c.in-Char.ch by.alike);
    })
    c.split.result c.split.ensures
