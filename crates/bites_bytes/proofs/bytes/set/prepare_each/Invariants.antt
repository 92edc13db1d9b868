use Rattle.std.proofs.Common.{◌≡◌, take}
use Rattle.bites_bytes.specs.Set.{ArePrepared}
use Rattle.bites_bytes.proofs.bytes.set.prepare_each.Given as goal

-- the regexes so far are prepared, and with the limit 0 no bytes are left for the others
abbrev pub invariant-loop-regex : goal.invariant-loop-regex
invariant-loop-regex l = record {
  are : ArePrepared l.fn.dfa_size_limit l.fn.prefilter (take l.regex-index l.regexes) l.prepared.items;
  left : l.fn.dfa_size_limit ≡ 0 → l.left ≡ 0;
}
