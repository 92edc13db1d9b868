use Rattle.std.proofs.Common.{◌≡◌, ℕ, ◌<◌, false, true, not, List, Bool, get_or, refl, sym, subst}
use Rattle.std.specs.Prelude.{IfSome}
use Rattle.bites_spec.specs.Range.{in_ranges}
use Rattle.bites_literals.proofs.ByteRunLemmas.{other_flags, own_flags}
use Rattle.bites_literals.proofs.byte_run.ByteRun.of_ranges.Goals as goal
use Rattle.bites_literals.proofs.byte_run.ByteRun.of_ranges.Goals.{then-repeats, else-repeats}

pub returns : goal.returns
returns c =
    let ranges = c.args.ranges.now in
    let set = c.of-set in
    let ascii = c.if-not-is_ascii.ensures refl in
    let others = other_flags ranges ascii set.result set.ensures.has set.ensures.only c.complement.result c.complement.ensures.has c.complement.ensures.only
    c.flags-2.result c.flags-2.ensures.ascii c.flags-2.ensures.others in
    record {
      ascii = ascii;
      others = subst (λ (s : List Bool). (b : ℕ) → b < 256 → get_or s b false ≡ not (in_ranges ranges b)) (sym c.new-2.ensures) others;
      once = λ none. elim c.if-repeats.branch [
        | then-repeats w ↦ absurd (cc (w.own-is, none))
        | else-repeats w ↦ w.if-repeats.false
      ];
      own = elim c.if-repeats.branch [
        | then-repeats w ↦
            let flags = own_flags ranges ascii set.result set.ensures.has set.ensures.only w.flags.result w.flags.ensures.ascii w.flags.ensures.others in
            subst (λ o. IfSome o (λ own. (c.args.repeats ≡ true) × ((b : ℕ) → b < 256 → get_or own b false ≡ in_ranges ranges b))) (sym w.own-is)
            (w.if-repeats.true, subst (λ (s : List Bool). (b : ℕ) → b < 256 → get_or s b false ≡ in_ranges ranges b) (sym w.new.ensures) flags)
        | else-repeats w ↦ subst (λ o. IfSome o (λ own. (c.args.repeats ≡ true) × ((b : ℕ) → b < 256 → get_or own b false ≡ in_ranges ranges b))) (sym w.own-is) tt
      ];
    }
