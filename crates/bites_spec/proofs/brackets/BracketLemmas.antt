-- Classes in brackets: the reader reads what the grammar's relations read, and stops where they stop, no later.
use Rattle.std.proofs.Common.{◌≡◌, ◌<◌, ◌≤◌, List, ◌∷◌, length, arith, ap, subst}
use Rattle.bites_spec.specs.Range.{Range}
use Rattle.bites_spec.specs.Bracket.{ReadsBracket}
use Rattle.bites_spec.proofs.characters.ChoiceParts.{StopsBy}
use Rattle.bites_spec.specs.Message.{Message}
use Rattle.bites_spec.specs.Pattern.{Text, Flags, left_bracket}
use Rattle.bites_spec.specs.BracketFault.{StuckMembers, StuckBracket}
use Rattle.bites_spec.proofs.characters.EachLemmas.{skip_shorter}
use Rattle.bites_spec.proofs.brackets.BracketText.{end_shorter}
use Rattle.bites_spec.proofs.brackets.BracketLeads.{member_shorter, front_shorter, front_begins}
pub use Rattle.bites_spec.proofs.brackets.BracketText.{escape_shorter, stuck_escape_shorter, escape_begins, stuck_escape_begins}
pub use Rattle.bites_spec.proofs.brackets.BracketEscapes.{escape_leads}
pub use Rattle.bites_spec.proofs.brackets.BracketMeans.{BracketMeans, bracket_means}
pub use Rattle.bites_spec.proofs.brackets.BracketLeads.{bracket_leads, bracket_shorter, bracket_begins}
pub use Rattle.bites_spec.proofs.brackets.BracketFirst.{escape_first, bracket_first}

stuck_members_shorter : {flags : Flags} {t place : Text} {m : Message} → StuckMembers flags t m place → length place ≤ length t
stuck_members_shorter {flags} (StuckMembers.later t next place set m plain member r) =
    omega (arith, member_shorter member, stuck_members_shorter r, skip_shorter flags t)
stuck_members_shorter (StuckMembers.ends t place m gap is names) = omega (arith, ap length is)
stuck_members_shorter {flags} (StuckMembers.nested t rest place m at is none names) = omega (arith, ap length at, skip_shorter flags t)
stuck_members_shorter {flags} (StuckMembers.intersection t place m at twice names) = omega (arith, ap length at, skip_shorter flags t)
stuck_members_shorter {flags} (StuckMembers.difference t place m at twice names) = omega (arith, ap length at, skip_shorter flags t)
stuck_members_shorter {flags} (StuckMembers.symmetric_difference t place m at twice names) = omega (arith, ap length at, skip_shorter flags t)
stuck_members_shorter {flags} (StuckMembers.in_first t place m r) = omega (arith, stuck_escape_shorter r, skip_shorter flags t)
stuck_members_shorter (StuckMembers.ends_after_first t behind place first m may r gap is names) = omega (arith, ap length is)
stuck_members_shorter {flags} (StuckMembers.assertion_alone t behind place first l m r means at leads names) =
    omega (arith, end_shorter r, ap length at, skip_shorter flags behind, skip_shorter flags t)
stuck_members_shorter (StuckMembers.ends_after_dash t behind next place first m may r dashed gap is names) = omega (arith, ap length is)
stuck_members_shorter {flags} (StuckMembers.in_second t behind next place first m may r dashed second) =
    omega (arith, end_shorter r, ap length dashed, stuck_escape_shorter second, skip_shorter flags next, skip_shorter flags behind, skip_shorter flags t)
stuck_members_shorter {flags} (StuckMembers.no_character t behind next place first second m may r dashed second_may last single names) =
    omega (arith, end_shorter r, ap length dashed, end_shorter last, skip_shorter flags next, skip_shorter flags behind, skip_shorter flags t)
stuck_members_shorter {flags} (StuckMembers.crossed low high t behind next place m may r dashed second_may last order names) =
    omega (arith, end_shorter r, ap length dashed, end_shorter last, skip_shorter flags next, skip_shorter flags behind, skip_shorter flags t)

-- a class in brackets with a fault begins with its bracket
pub stuck_bracket_begins : {flags : Flags} {t place : Text} {m : Message} → StuckBracket flags t m place → (next : Text) × (t ≡ left_bracket ∷ next)
stuck_bracket_begins (StuckBracket.ends_at_once t next place m from gap is names) = (next, from)
stuck_bracket_begins (StuckBracket.ends_after_caret t next place m from marked is names) = (next, from)
stuck_bracket_begins (StuckBracket.ends_after_dashes t next behind_caret dashes place negated m from marked dashed some is names) = (next, from)
stuck_bracket_begins (StuckBracket.ends_after_bracket t next behind_caret more place negated m from marked bracketed gap is names) = (next, from)
stuck_bracket_begins (StuckBracket.in_members t items place negated leading m before r) = front_begins before

-- a fault of a class in brackets stands after its bracket
pub stuck_bracket_shorter : {flags : Flags} {t place : Text} {m : Message} → StuckBracket flags t m place → length place < length t
stuck_bracket_shorter (StuckBracket.ends_at_once t next place m from gap is names) = omega (arith, ap length from, ap length is)
stuck_bracket_shorter (StuckBracket.ends_after_caret t next place m from marked is names) = omega (arith, ap length from, ap length is)
stuck_bracket_shorter (StuckBracket.ends_after_dashes t next behind_caret dashes place negated m from marked dashed some is names) =
    omega (arith, ap length from, ap length is)
stuck_bracket_shorter (StuckBracket.ends_after_bracket t next behind_caret more place negated m from marked bracketed gap is names) =
    omega (arith, ap length from, ap length is)
stuck_bracket_shorter (StuckBracket.in_members t items place negated leading m before r) =
    omega (arith, front_shorter before, stuck_members_shorter r)

-- a class in brackets with a fault is not read as well
pub bracket_not_both : {flags : Flags} {t rest place : Text} {m : Message} {ranges : List Range} →
    StuckBracket flags t m place → ReadsBracket flags t ranges rest → ⊥
bracket_not_both {flags} {t} {rest} {place} {m} stuck reads =
    let begins = bracket_begins reads in
    let led = bracket_leads reads (length begins.0) begins.0 begins.1 (omega arith) in
    subst (StopsBy m place) led.1 (bracket_first stuck (length begins.0) begins.0 begins.1 (omega arith))
