use Rattle.bites_table.proofs.Library.{◌<◌, subst, rules}
use Rattle.bites_table.specs.Packed.{Packed, stride}
use Rattle.bites_table.proofs.Words.{asked}
use Rattle.bites_table.proofs.SearchesLemmas.{byte_over}
use Rattle.bites_table.proofs.search.record.Search.byte_at.Goals as goal

pub returns-clause-piece : goal.returns-clause-piece
returns-clause-piece c before asks =
    let class = c.class_of_byte-class in
    record {
      known = subst (λ (x : Packed). class.result < stride x) c.requires.table class.ensures.within;
      within = search rules;
      over = byte_over (asked c.args.self.now before) asks c.args.width.table.now c.requires.table c.args.haystack.now c.requires.haystack c.args.place class.result c.if-place-haystack.false
          class.ensures.ascii class.ensures.past;
    }
