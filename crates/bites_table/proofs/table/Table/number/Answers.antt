use Rattle.std.proofs.Common.{◌≡◌, ◌*◌, ◌<◌, sym, ap, ◌∙◌, subst}
use Rattle.bites_table.specs.Packed.{lists_in, stride}
use Rattle.bites_table.proofs.LayoutLemmas.{row-number}
use Rattle.bites_table.proofs.table.Table.number.Goals as goal

pub returns-clause-number : goal.returns-clause-number
returns-clause-number c =
    let s : c.self.inside.stride ≡ stride c.args.self.now = c.self.invariant.stride_is ∙ ap stride c.self.view_is in
    c.requires.is ∙ ap (λ n. n * stride c.args.self.now) (sym (row-number c.args.self.now c.args.row c.requires c.self.inside.stride s))

pub returns-clause-within : goal.returns-clause-within
returns-clause-within c =
    let s : c.self.inside.stride ≡ stride c.args.self.now = c.self.invariant.stride_is ∙ ap stride c.self.view_is in
    subst (λ n. n < lists_in c.args.self.now) (sym (row-number c.args.self.now c.args.row c.requires c.self.inside.stride s)) c.requires.within
