use Rattle.bites_table.proofs.Library.{rules, ◌≡◌, ◌∙◌, true, refl, ⊎_elim, slice_index_or, slice_get-get_or}
use Rattle.bites_table.proofs.Words.{Name}
use Rattle.bites_table.proofs.LaidOutLemmas.{tells, tells-looked, tells-nothing}
use Rattle.bites_table.proofs.table.layout.known.Goals as goal

pub returns-then-not-is_looked_at : goal.returns-then-not-is_looked_at
returns-then-not-is_looked_at c x w n k fits known =
    let number = c.args.cell.outcome in
    let m : Name = slice_index_or c.args.names.now number (record { next = 0; act = 0; doing = 0; begins = 0 }) in
    let own = fits.named number m (slice_get-get_or c.args.names.now number _ c.if-outcome-names.false) in
    ⊎_elim (λ none. tells-nothing x n k _ none)
    (λ is. tells x c.args.names.now w fits n k c.args.cell number m.next own.0 known refl own.1 is.next m.act m.doing m.begins is.act is.doing is.begins)
    own.2

pub returns : goal.returns
returns c x w n k fits known =
    let number = c.args.cell.outcome in
    let m : Name = slice_index_or c.args.names.now number (record { next = 0; act = 0; doing = 0; begins = 0 }) in
    let own = fits.named number m (slice_get-get_or c.args.names.now number _ c.if-outcome-names.false) in
    let looked : c.is_looked_at.result ≡ true = search rules in
    let some = c.is_looked_at.ensures looked in
    ⊎_elim (λ none. absurd (some none))
    (λ is. tells-looked x c.args.names.now w fits n k c.args.cell number m.next own.0 known refl own.1 is.next c.in_ok-act.act 247 64 c.in_ok-act.ensures refl (λ e. some (is.doing ∙ e)))
    own.2
