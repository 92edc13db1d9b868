use Rattle.std.proofs.Common.{◌≡◌, ◌≤◌, ℕ, List, Option, None, Bor, length, slice_index_or, sym, ap, subst, ◌∙◌}
use Rattle.std.specs.Prelude.{MatchOption}
use Rattle.std.specs.Iterator.{YieldsFirstBy}
use Rattle.bites_bytes.specs.Names.{bytes_of}
use Rattle.bites_c.proofs.NameLemmas.{none_there}
use Rattle.bites_c.proofs.text.name_of.Goals as goal

-- no name came, so the number is past the last group
pub returns-in-None : goal.returns-in-None
returns-in-None c =
    let ran = c.nth.ensures.ran in let n = c.args.group in
    let ended = subst (λ (o : Option (Option (Bor (List ℕ)))). YieldsFirstBy bytes_of (λ (l : List (Option (List ℕ))). l) ran.1.0 o c.nth.new.self) c.in-None.is ran.1.2 in
    let few = subst (λ (o : Option (Option (Bor (List ℕ)))). MatchOption o (length ran.0 ≤ n) (λ x. length ran.0 ≡ n)) c.in-None.is ran.2 in
    sym (none_there bytes_of c.capture_names.result ran.0 ran.1.0 n ran.1.1 ended.0 few)
    ∙ ap (λ l. slice_index_or l n None) c.capture_names.ensures.names
