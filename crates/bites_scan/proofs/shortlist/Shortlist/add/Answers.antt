use Rattle.std.proofs.Common.{◌≡◌, w64, length, get_or, ap, sym, ◌∙◌, arith}
use Rattle.std.proofs.lemmas.Nat.Bits.{bit_at_set_same}
use Rattle.std.specs.Int.{bit_at}
use Rattle.bites_scan.specs.Shortlist.{hash_at}
use Rattle.bites_scan.proofs.CellLemmas.{still_set}
use Rattle.bites_scan.proofs.shortlist.Shortlist.add.Goals as goal

pub returns-then-bytes-lt3-clause-added : goal.returns-then-bytes-lt3-clause-added
returns-then-bytes-lt3-clause-added c = record {
  at_end = λ _. bit_at_set_same w64 c.args.self.now.short c.args.number c.requires;
  by_hash = λ h lt _. c.list_under_all.ensures.listed h lt;
}

pub returns-then-bytes-lt3-clause-kept : goal.returns-then-bytes-lt3-clause-kept
returns-then-bytes-lt3-clause-kept c n k listed = record {
  at_end = λ short. still_set w64 c.args.number c.requires c.args.self.now.short k (listed.at_end short);
  by_hash = λ h lt same. c.list_under_all.ensures.kept h k (listed.by_hash h lt same);
}

pub returns-else-bytes-lt3-clause-added : goal.returns-else-bytes-lt3-clause-added
returns-else-bytes-lt3-clause-added c =
    let long : length c.bytes-bytes.result.now ≡ length c.args.literal.now.bytes = ap length c.bytes-bytes.ensures in
    record {
      at_end = λ short. absurd (omega arith);
      by_hash = λ h lt same. ap (λ i. bit_at (get_or c.list_under.new.by_hash i 0) c.args.number)
          (same (omega arith) ∙ ap (λ l. hash_at l 0) (sym c.bytes-bytes.ensures) ∙ sym c.hash.ensures.same) ∙ c.list_under.ensures.listed;
    }

pub returns-else-bytes-lt3-clause-kept : goal.returns-else-bytes-lt3-clause-kept
returns-else-bytes-lt3-clause-kept c n k listed = record {
  at_end = listed.at_end;
  by_hash = λ h lt same. c.list_under.ensures.kept h k (listed.by_hash h lt same);
}
