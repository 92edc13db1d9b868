use Rattle.std.proofs.Common.{ℕ, sym, ap, ◌∙◌, map}
use Rattle.std.proofs.lemmas.List.{map-id}
use Rattle.std.proofs.lemmas.Slice.Eq.{bytes_eq-Decides}
use Rattle.bites_scan.proofs.folding.ExactFolding.are_equal.Goals as goal

pub returns : goal.returns
returns c =
    let a = c.args.a.now in
    let b = c.args.b.now in
    let decides = bytes_eq-Decides a b in
    (λ h. ap (map (λ (x : ℕ). x)) (decides.0 (sym c.eq.ensures ∙ h)), λ e. c.eq.ensures ∙ decides.1 (sym (map-id a) ∙ e ∙ map-id b))
