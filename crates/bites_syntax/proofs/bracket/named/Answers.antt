use Rattle.std.proofs.Common.{◌≡◌, ◌∙◌, ◌<◌, length, Some, inr, ap, sym, arith}
use Rattle.bites_spec.specs.Class.{named_classes, union}
use Rattle.bites_syntax.specs.Members.{members_named, named_at}
use Rattle.bites_syntax.specs.Parts.{fault_in}
use Rattle.bites_syntax.specs.View.{named_of}
use Rattle.bites_syntax.proofs.BracketParts.{Has_extend}
use Rattle.bites_syntax.proofs.PartLemmas.{reads_some}
use Rattle.bites_syntax.proofs.NamedParts.{named_none, named_shorter, named_some}
use Rattle.bites_syntax.proofs.bracket.named.Goals as goal

pub returns-in_default : goal.returns-in_default
returns-in_default c = reads_some (grind arith) tt λ go set has.
    inr (ap fault_in (named_none go set c.args.cursor.now named_classes c.in_default.ensures) ∙ ap Some (sym c.fault.ensures))

pub returns : goal.returns
returns c =
    let found : named_at c.args.cursor.now named_classes ≡ Some (named_of c.in-Some.name, c.in-Some.negated, c.in-Some.after) = c.in-Some.ensures in
    let less : length c.in-Some.after < length c.args.cursor.now = named_shorter c.args.cursor.now _ named_classes _ _ found in
    reads_some (omega arith) less λ go set has. (
      union set (members_named (named_of c.in-Some.name) c.in-Some.negated),
      named_some go set c.args.cursor.now _ named_classes _ _ found,
      Has_extend _ _ _ set _ has (rw c.ranges-2.ensures.ranges c.class_named-class.ensures) c.in_ok-extend.ensures.added,
    )
