use Rattle.std.proofs.Common.{◌∙◌, ◌<◌, ◌∷◌, [], inl, inr, refl, sym, ap, subst, length}
use Rattle.std.proofs.lemmas.Option.{slice_get_within}
use Rattle.std.specs.Io.BufRead.{strip_last}
use Rattle.std.specs.Io.KnownBytes.{Appends}
use Rattle.std.specs.Prelude.{IsUtf8}
use Rattle.bites_filter.specs.Table.{NoneMatches, IsFirst, name_at}
use Rattle.clients.specs.Served.{served_line}
use Rattle.clients.proofs.routes.paths.RouterLineTask.line.Goals as goal

pub returns-in_default : goal.returns-in_default
returns-in_default g c =
    let routes = c.args.self.now.routes in
    let none = rw c.in_default.is at c.in_ok-served.ensures.first in (
      45 ∷ 10 ∷ [],
      (inl (subst (λ p. IsUtf8 p → NoneMatches routes p) c.without_line_feed.ensures none, refl), c.first_full.ensures.same),
      c.in_ok-write_all.ensures.bytes,
    )

pub name-requires : goal.name-requires
name-requires g c =
    let routes = c.args.self.now.routes in
    let is = rw c.in-Some.is at c.in_ok-served.ensures.first in
    subst (λ rs. c.in-Some.served.rule < length rs) (sym c.first_full.ensures.same) (slice_get_within routes c.in-Some.served.rule is.rule is.at)

pub returns : goal.returns
returns g c =
    let routes = c.args.self.now.routes in let k = c.in-Some.served.rule in let groups = c.in-Some.served.groups in
    let contents = g.W.Write.contents in let line = strip_last 10 c.args.line.now in let same = c.first_full.ensures.same in
    let path = c.without_line_feed.ensures in
    let is = rw c.in-Some.is at c.in_ok-served.ensures.first in
    let text = rw c.in-Some.is at c.in_ok-served.ensures.text in (
      served_line (name_at routes k) line groups.slots,
      (inr (subst IsUtf8 path text.0, k, groups.slots, subst (λ p. IsFirst routes p k groups.slots) path is, refl), same),
      subst (Appends (contents c.args.out.now) (contents c.write_served.new.out))
          (ap (λ n. served_line n groups.haystack groups.slots) (c.name.ensures ∙ ap (λ rs. name_at rs k) same)
          ∙ ap (λ h. served_line (name_at routes k) h groups.slots) (text.1 ∙ path))
          c.in_ok-write_served.ensures,
    )
