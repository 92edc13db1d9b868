use Rattle.std.proofs.Common.{ℕ, ◌+◌, Bool, false, not, get_or, arith}
use Rattle.bites_scan.proofs.HalfLemmas.{is_column, byte_of}
use Rattle.bites_scan.proofs.nibbles.column.Goals as goal

pub returns : goal.returns
returns c =
    let has : ℕ → Bool = λ byte. not (get_or c.args.flags.now byte false) in
    is_column has c.args.first _ (omega (
      arith,
      c.from.ensures,
      c.from-2.ensures,
      c.from-3.ensures,
      c.from-4.ensures,
      c.from-5.ensures,
      c.from-6.ensures,
      c.from-7.ensures,
      c.from-8.ensures,
      byte_of (has c.args.first),
      byte_of (has (c.args.first + 16)),
      byte_of (has (c.args.first + 32)),
      byte_of (has (c.args.first + 48)),
      byte_of (has (c.args.first + 64)),
      byte_of (has (c.args.first + 80)),
      byte_of (has (c.args.first + 96)),
      byte_of (has (c.args.first + 112)),
    ))
