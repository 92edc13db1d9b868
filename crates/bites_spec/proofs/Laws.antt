-- Each law as a term, by the name of its function and at every type. Callers import this module and no other module of
-- proofs: its names are kept, while all others may change.
use Rattle.std.proofs.Common.{List, ap, arith, map, refl, subst, sym, ℕ, ◌∙◌, ◌≡◌}
use Rattle.std.proofs.lemmas.List.{length-map}
use Rattle.bites_spec.specs.FullLaws.{FullRunIsFound, FullSlotsAreGroups, FullFindsSome, FullIsFound}
use Rattle.bites_spec.specs.AllMatches.{MatchesHaveBorders, CapturesAreMatches, FindsAreSuccessive, GroupsAreSuccessive, MatchesStandApart, NoneIsLeftOut}
use Rattle.bites_spec.specs.CallerLaws.{NamesAreAscii, AnchoredIsBegun, AnchoredIsRead, AnchoredIsWhole, AnchoredMatchesWhole, EachParticipates, LiteralIsRead, RangesAreListed, SearchesHaveStarts, StartIsAlone, StartIsPlace, UnionsAreListed}
use Rattle.bites_spec.specs.Captured.{SlotsAreFound, SlotsAreGroups}
use Rattle.bites_spec.specs.Class.{ListsOnce}
use Rattle.bites_spec.specs.EscapedLaws.{EscapedIsText, EscapedFindsText, EscapedIsAccepted, EscapedIsFlat, EscapedIsRead, EscapedMatchesText}
use Rattle.bites_spec.specs.Found.{parse_to}
use Rattle.bites_spec.specs.FoundLaws.{AnswersBeginAlike, FoundLies, StartsFind, LeastEndIsAtMost, StaticLenIsLeast}
use Rattle.bites_spec.specs.GrammarLaws.{FaultsHavePlaces, FaultsOnce, ListsAll, PlacesOnce, ReadIsCompilable, ReadOrRefused, ReaderReads, ReaderRefuses, ReaderRefusesAt, ReadsOnce, RefusedHasNoTree, StuckBracketIsNotRead}
use Rattle.bites_spec.specs.GroupLaws.{DroppedHaveNoPlace, KeptAnswerAlike, LeftAreKept, OpenedAreKept, OpenedOnce}
use Rattle.bites_spec.specs.Iteration.{CapturesHaveSpans}
use Rattle.bites_spec.specs.Laws.{AnsweredKeepsLength, FirstRunIsFirst, FirstRunIsFound, FirstRunIsOne, FoundIsSome, LeastEndIsLeast, LongestIsFound, MatchIsParse, ParsesAreListed, ParsesEndAtMatches, PlainRunsAreSimple, ReplacesOnce, RunsAreParses, StaticCountIsLeast}
use Rattle.bites_spec.specs.Match.{Matches}
use Rattle.bites_spec.specs.Pieces.{limited, text_at}
use Rattle.bites_spec.specs.Preference.{ParseTo, parses}
use Rattle.bites_spec.specs.RangesOf.{RangesOfList, ranges_of}
use Rattle.bites_spec.specs.Refused.{IterationsEnd}
use Rattle.bites_spec.specs.Refutations.{BoundsAreReached, SearchesReachBounds, BoundsRefuse, VisitsRefuse, AnsweredRefuses, FoundRefuses, PreferredRefuses, LeftmostRefuses, SpansRefuse, LeavingOutRefuses, BordersRefuse, ParticipantsRefuse, ItsGroupsRefuse, AppendsRefuse}
use Rattle.bites_spec.specs.RegexLaws.{AnswersHaveGroup0, FindsSome, RunIsFound}
use Rattle.bites_spec.specs.RunLaws.{ChosenRunLies, Group0IsSpan, LeastRunEndIsAtMost, LongestRunIsLongest, LongestRunIsOne, NoFaultIsWellFormed, NothingPastTheEnd, RunLies, RunsAreParsesInOrder, RunsBeginAlike, SlotsAreWritten, StaticLenParticipates}
use Rattle.bites_spec.specs.SpanLaws.{PiecesAndMatches, ReplacedAlternates, ReplacedIsJoined, SpansGrow, SuccessiveGoesOn, SuccessiveIsMapped, SuccessiveIsOne}
use Rattle.bites_spec.specs.Spans.{Successive, successive}
use Rattle.bites_spec.specs.TemplateLaws.{CutsOnce, ExpandsOnce, NumbersAreFirst, PlainStandsForItself, TextsHaveNames}
use Rattle.bites_spec.specs.TextLaws.{FoundHasBorders, GroupsHaveBorders, LeastEndIsBorder, MatchesEndAtBorders, PiecesEndAtBorders, PlacesAreBorders}
use Rattle.bites_spec.specs.Tree.{IsPlain, IsReduced, Tree}
use Rattle.bites_spec.specs.Walks.{Among}
use Rattle.bites_spec.proofs.regex.AlikeLemmas
use Rattle.bites_spec.proofs.regex.AllMatchesLemmas
use Rattle.bites_spec.proofs.regex.FullLemmas
use Rattle.bites_spec.proofs.utf8.StartLemmas
use Rattle.bites_spec.proofs.characters.AsciiNames
use Rattle.bites_spec.proofs.regex.BegunLemmas
use Rattle.bites_spec.proofs.parses.BoundLemmas
use Rattle.bites_spec.proofs.brackets.BracketLemmas
use Rattle.bites_spec.proofs.programs.BuiltLemmas
use Rattle.bites_spec.proofs.regex.CallerLemmas
use Rattle.bites_spec.proofs.classes.ClassLemmas
use Rattle.bites_spec.proofs.regex.CompilableLemmas
use Rattle.bites_spec.proofs.regex.EscapedMatches
use Rattle.bites_spec.proofs.regex.EscapedReading
use Rattle.bites_spec.proofs.parses.EventLemmas
use Rattle.bites_spec.proofs.templates.ExpansionLemmas
use Rattle.bites_spec.proofs.runs.FaultLemmas
use Rattle.bites_spec.proofs.programs.FoundLemmas
use Rattle.bites_spec.proofs.regex.FoundSomeLemmas
use Rattle.bites_spec.proofs.regex.KeptLemmas
use Rattle.bites_spec.proofs.regex.LeftLemmas
use Rattle.bites_spec.proofs.programs.ListedLemmas
use Rattle.bites_spec.proofs.programs.ListedRunLemmas
use Rattle.bites_spec.proofs.programs.LongestLemmas
use Rattle.bites_spec.proofs.examples.LookLemmas
use Rattle.bites_spec.proofs.programs.OneLemmas
use Rattle.bites_spec.proofs.regex.PartCountLemmas
use Rattle.bites_spec.proofs.iteration.PieceTextLemmas
use Rattle.bites_spec.proofs.runs.PlaceLemmas
use Rattle.bites_spec.proofs.classes.RangeLemmas
use Rattle.bites_spec.proofs.iteration.RefusedLemmas
use Rattle.bites_spec.proofs.examples.Refuted
use Rattle.bites_spec.proofs.regex.RegexLemmas
use Rattle.bites_spec.proofs.regex.RegexRuns
use Rattle.bites_spec.proofs.iteration.ReplaceLemmas
use Rattle.bites_spec.proofs.runs.RunBoundLemmas
use Rattle.bites_spec.proofs.runs.RunLemmas
use Rattle.bites_spec.proofs.iteration.SpanLemmas
use Rattle.bites_spec.proofs.parses.StaticLemmas
use Rattle.bites_spec.proofs.iteration.SuccessiveLemmas
use Rattle.bites_spec.proofs.templates.TemplateLemmas
use Rattle.bites_spec.proofs.templates.TemplateTexts
use Rattle.bites_spec.proofs.parses.TextMatches
use Rattle.bites_spec.proofs.parses.TextPlaces
use Rattle.bites_spec.proofs.regex.TwinRuns
use Rattle.bites_spec.proofs.runs.ValueLemmas
use Rattle.bites_spec.proofs.grammar.PlaceLaws
use Rattle.bites_spec.proofs.grammar.WholeLaws
use Rattle.bites_spec.proofs.grammar.WholeOnce
use Rattle.bites_spec.proofs.regex.WrappedLemmas

pub match_is_parse : MatchIsParse
match_is_parse = (λ hay t i j h. EventLemmas.Matches-Parse hay t i j h, λ hay t i j ms h. EventLemmas.Parse-Matches hay t i j ms h)

pub first_run_is_first : FirstRunIsFirst
first_run_is_first = λ p hay well s ps are. RunLemmas.first_run-FirstRun p hay well s ps are

pub first_run_is_one : FirstRunIsOne
first_run_is_one = λ p hay well s ps are o h. OneLemmas.FirstRun-first_run p hay well s ps are o h

pub longest_run_is_longest : LongestRunIsLongest
longest_run_is_longest = λ p hay well s ps are. LongestLemmas.longest_run-LongestRun p hay well s ps are

pub longest_run_is_one : LongestRunIsOne
longest_run_is_one = λ p hay well s ps are o h. LongestLemmas.LongestRun-longest_run p hay well s ps are o h

pub slots_are_written : SlotsAreWritten
slots_are_written = ValueLemmas.slots_are_written

pub group_0_is_span : Group0IsSpan
group_0_is_span = FoundLemmas.group_0_is_span

pub no_fault_is_well_formed : NoFaultIsWellFormed
no_fault_is_well_formed = λ p. (FaultLemmas.first_fault-IsWellFormed p, FaultLemmas.IsWellFormed-first_fault p)

pub nothing_past_the_end : NothingPastTheEnd
nothing_past_the_end = PlaceLemmas.nothing_past_the_end

pub run_lies : RunLies
run_lies = RunBoundLemmas.run_lies

pub chosen_run_lies : ChosenRunLies
chosen_run_lies = AlikeLemmas.chosen_run_lies

pub runs_begin_alike : RunsBeginAlike
runs_begin_alike = AlikeLemmas.runs_begin_alike

pub least_run_end_is_at_most : LeastRunEndIsAtMost
least_run_end_is_at_most = AlikeLemmas.least_run_end_is_at_most

pub runs_are_parses : RunsAreParses
runs_are_parses = λ t p hay fit built i j. (λ r runs. BuiltLemmas.run_is_parse t p hay fit built i j r runs, λ ms parse. BuiltLemmas.parse_is_run t p hay fit built i j ms parse)

pub runs_are_parses_in_order : RunsAreParsesInOrder
runs_are_parses_in_order = ListedRunLemmas.runs_are_parses_in_order

pub plain_runs_are_simple : PlainRunsAreSimple
plain_runs_are_simple = λ t p hay fit built plain i j r runs. FoundLemmas.plain_simple t p hay fit built plain i j r runs

pub first_run_is_found : FirstRunIsFound
first_run_is_found = λ t p hay fit built well s ps are. FoundLemmas.first_run-Found t p hay fit built well s ps are

pub least_end_is_least : LeastEndIsLeast
least_end_is_least = λ t p hay fit built ps o h. FoundLemmas.LeastEnd-IsLeastEnd t p hay fit built ps o h

pub parses_are_listed : ParsesAreListed
parses_are_listed = λ hay t reduced plain i. (λ w h. ListedLemmas.listed-Parse hay t reduced i w h, λ j ms parse. ListedLemmas.Parse-listed hay t plain i j ms parse)

pub longest_is_found : LongestIsFound
longest_is_found = λ t p hay fit built ps o h. FoundLemmas.LongestRun-FoundLongest t p hay fit built ps o h

pub ranges_of_a_set_are_unique : ListsOnce
ranges_of_a_set_are_unique = RangeLemmas.lists_once

listed-matches : (hay : List ℕ) (t : Tree) → IsReduced t → (i j : ℕ) (w : ParseTo) → Among (parses hay t i) w → w.end ≡ j → Matches hay t i j
listed-matches hay t reduced i j w among e =
    let P : ℕ → Type 0 = λ l. Matches hay t i l in subst P e (EventLemmas.Parse-Matches hay t i w.end w.marks (ListedLemmas.listed-Parse hay t reduced i w among))

matches-listed : (hay : List ℕ) (t : Tree) → IsPlain t → (i j : ℕ) → Matches hay t i j → (w : ParseTo) × Among (parses hay t i) w × (w.end ≡ j)
matches-listed hay t plain i j m = let p = EventLemmas.Matches-Parse hay t i j m in (parse_to j p.0, ListedLemmas.Parse-listed hay t plain i j p.0 p.1, refl)

pub parses_end_at_matches : ParsesEndAtMatches
parses_end_at_matches = λ hay t reduced plain i j. (λ (w, among, e). listed-matches hay t reduced i j w among e, λ m. matches-listed hay t plain i j m)

pub static_count_is_least : StaticCountIsLeast
static_count_is_least = StaticLemmas.static_least

pub static_len_is_least : StaticLenIsLeast
static_len_is_least = PartCountLemmas.static_len_is_least

pub static_len_participates : StaticLenParticipates
static_len_participates = PartCountLemmas.static_len_participates

pub successive_answers_are_one_list : (B : Type 0) → SuccessiveIsOne B
successive_answers_are_one_list B = λ span_of hay A lies. (
  SuccessiveLemmas.successive_follow span_of hay A lies,
  λ xs h. SuccessiveLemmas.successive_once span_of hay A xs _ h (SuccessiveLemmas.successive_follow span_of hay A lies),
)

pub successive_answers_go_on : (B : Type 0) → SuccessiveGoesOn B
successive_answers_go_on B = λ span_of hay A lies e. SuccessiveLemmas.goes_on span_of hay A lies e

pub successive_answers_are_mapped : (B C : Type 0) → SuccessiveIsMapped B C
successive_answers_are_mapped B C = λ f span_of span_of_image same hay A. SuccessiveLemmas.mapped_successive f span_of span_of_image same hay A

pub spans_grow : (B : Type 0) → SpansGrow B
spans_grow B = λ span_of hay A lies. (
  SpanLemmas.Successive-in_order span_of hay (λ s o. A s ≡ o) lies (successive span_of hay A) (SuccessiveLemmas.successive_follow span_of hay A lies),
  λ x xs is. SpanLemmas.Successive-ends_grow span_of hay (λ s o. A s ≡ o) lies x xs
      (subst (Successive span_of hay (λ s o. A s ≡ o)) is (SuccessiveLemmas.successive_follow span_of hay A lies)),
)

pub pieces_and_matches : PiecesAndMatches
pieces_and_matches = λ hay ss ordered. (
  PieceTextLemmas.length-gaps_from _ 0 ss ∙ (omega arith),
  sym (PieceTextLemmas.replaced_from-alternate hay 0 ss (map (text_at hay) ss) (length-map ss (text_at hay))) ∙ PieceTextLemmas.replaced_from-same hay 0 ss ordered,
)

pub replaced_alternates : ReplacedAlternates
replaced_alternates = λ hay n ss texts same. PieceTextLemmas.replaced_from-alternate hay 0 (limited n ss) texts same

pub replaced_is_joined : ReplacedIsJoined
replaced_is_joined = λ hay u ss. PieceTextLemmas.replaced_from-joined hay u 0 ss

pub every_set_has_ranges : ListsAll
every_set_has_ranges = ClassLemmas.lists_all

pub ranges_of_a_set_list_it : RangesOfList
ranges_of_a_set_list_it = ClassLemmas.ranges_of_list

pub read_trees_are_compilable : ReadIsCompilable
read_trees_are_compilable = CompilableLemmas.reads_compilable

pub patterns_have_one_tree : ReadsOnce
patterns_have_one_tree = WholeOnce.reads_once

pub patterns_have_one_message : FaultsOnce
patterns_have_one_message = WholeLaws.faults_once

pub refused_patterns_have_no_tree : RefusedHasNoTree
refused_patterns_have_no_tree = λ pattern flags nest_limit m t fault limits. WholeLaws.refused_has_no_tree ranges_of ClassLemmas.ranges_of_list nest_limit pattern flags m t fault limits

pub patterns_are_read_or_refused : ReadOrRefused
patterns_are_read_or_refused = λ pattern flags nest_limit. WholeLaws.read_or_refused ranges_of ClassLemmas.ranges_of_list nest_limit pattern flags

pub reader_reads : ReaderReads
reader_reads = WholeLaws.reader_reads

pub reader_refuses : ReaderRefuses
reader_refuses = WholeLaws.reader_refuses

pub faults_have_places : FaultsHavePlaces
faults_have_places = PlaceLaws.faults_have_places

pub patterns_have_one_offset : PlacesOnce
patterns_have_one_offset = PlaceLaws.places_once

pub reader_refuses_at : ReaderRefusesAt
reader_refuses_at = PlaceLaws.reader_refuses_at

pub stuck_brackets_are_not_read : StuckBracketIsNotRead
stuck_brackets_are_not_read = λ flags t rest place ranges m stuck reads. BracketLemmas.bracket_not_both stuck reads

pub run_is_found : RunIsFound
run_is_found = RegexLemmas.run_is_found

pub finds_some : FindsSome
finds_some = FoundSomeLemmas.finds_some

pub starts_find : StartsFind
starts_find = FoundSomeLemmas.starts_find

pub found_lies : FoundLies
found_lies = BoundLemmas.found_lies

pub answers_begin_alike : AnswersBeginAlike
answers_begin_alike = AlikeLemmas.answers_begin_alike

pub least_end_is_at_most : LeastEndIsAtMost
least_end_is_at_most = AlikeLemmas.least_end_is_at_most

pub found_is_some : FoundIsSome
found_is_some = FoundSomeLemmas.found_is_some

pub answers_keep_their_length : AnsweredKeepsLength
answers_keep_their_length = FoundSomeLemmas.answered_keeps_length

pub replacers_replace_once : (S C : Type 0) → ReplacesOnce S C
replacers_replace_once S C = λ give answer. ReplaceLemmas.replaces_once _ _
    (λ s x t u m k p q. let same = sym p ∙ q in (ap (λ r. r.0) same, ap (λ r. r.1) same))
    (λ s o r m k p q. let same = sym p ∙ q in (ap (λ r. r.0) same, ap (λ r. r.1) same))

pub groups_are_opened_once : OpenedOnce
groups_are_opened_once = WholeOnce.opened_once

pub opened_groups_are_kept : OpenedAreKept
opened_groups_are_kept = KeptLemmas.opened_are_kept

pub left_groups_are_kept : LeftAreKept
left_groups_are_kept = LeftLemmas.left_are_kept

pub dropped_groups_have_no_place : DroppedHaveNoPlace
dropped_groups_have_no_place = LeftLemmas.dropped_have_no_place

pub iterations_end : (S B C E : Type 0) → IterationsEnd S B C E
iterations_end S B C E = λ view left s rs drained. RefusedLemmas.given view left s drained.1.0 rs drained.1.1 drained.1.2.0

pub templates_are_cut_in_one_way : CutsOnce
templates_are_cut_in_one_way = TemplateLemmas.cuts_are_parts

pub templates_have_one_text : ExpandsOnce
templates_have_one_text = TemplateLemmas.expands_once

pub names_in_texts_are_texts : TextsHaveNames
names_in_texts_are_texts = TemplateTexts.expansion_of_text

pub slots_are_groups : SlotsAreGroups
slots_are_groups = RegexRuns.slots_are_groups

pub slots_are_found : SlotsAreFound
slots_are_found = RegexRuns.slots_are_found

pub captures_have_spans : CapturesHaveSpans
captures_have_spans = λ r is hay. RegexRuns.captures_have_spans r is hay

pub places_of_texts_are_borders : PlacesAreBorders
places_of_texts_are_borders = TextPlaces.places_are_borders

pub pieces_of_texts_end_at_borders : PiecesEndAtBorders
pieces_of_texts_end_at_borders = TextPlaces.border_behind

pub matches_in_texts_end_at_borders : MatchesEndAtBorders
matches_in_texts_end_at_borders = TextMatches.match_border

pub groups_in_texts_have_borders : GroupsHaveBorders
groups_in_texts_have_borders = TextMatches.group_borders

pub what_is_found_in_texts_has_borders : FoundHasBorders
what_is_found_in_texts_has_borders = TextMatches.found_borders

pub least_ends_in_texts_are_borders : LeastEndIsBorder
least_ends_in_texts_are_borders = TextMatches.least_end_border

pub escaped_texts_are_read : EscapedIsRead
escaped_texts_are_read = EscapedReading.escaped_is_read

pub escaped_texts_are_flat : EscapedIsFlat
escaped_texts_are_flat = EscapedReading.escaped_is_flat

pub escaped_texts_are_accepted : EscapedIsAccepted
escaped_texts_are_accepted = EscapedReading.escaped_is_accepted

pub escaped_texts_match_their_text : EscapedMatchesText
escaped_texts_match_their_text = EscapedMatches.escaped_matches

pub escaped_texts_find_their_text : EscapedFindsText
escaped_texts_find_their_text = EscapedMatches.escaped_finds

pub numbers_are_of_the_first_name : NumbersAreFirst
numbers_are_of_the_first_name = ExpansionLemmas.index_is

pub finds_are_successive : FindsAreSuccessive
finds_are_successive = AllMatchesLemmas.finds_are_successive

pub groups_are_successive : GroupsAreSuccessive
groups_are_successive = AllMatchesLemmas.groups_are_successive

pub captures_are_matches : CapturesAreMatches
captures_are_matches = AllMatchesLemmas.captures_are_matches

pub none_is_left_out : NoneIsLeftOut
none_is_left_out = AllMatchesLemmas.none_is_left_out

pub matches_stand_apart : MatchesStandApart
matches_stand_apart = AllMatchesLemmas.matches_stand_apart

pub start_is_place : StartIsPlace
start_is_place = CallerLemmas.start_is_place

pub start_is_alone : StartIsAlone
start_is_alone = StartLemmas.start_is_alone

pub searches_have_starts : SearchesHaveStarts
searches_have_starts = StartLemmas.searches_have_starts

pub anchored_is_whole : AnchoredIsWhole
anchored_is_whole = CallerLemmas.anchored_is_whole

pub anchored_matches_whole : AnchoredMatchesWhole
anchored_matches_whole = CallerLemmas.anchored_matches_whole

pub literal_is_read : LiteralIsRead
literal_is_read = CallerLemmas.literal_is_read

pub unions_are_listed : UnionsAreListed
unions_are_listed = CallerLemmas.unions_are_listed

pub ranges_are_listed : RangesAreListed
ranges_are_listed = CallerLemmas.ranges_are_listed

pub each_participates : EachParticipates
each_participates = CallerLemmas.each_participates

pub answers_have_group_0 : AnswersHaveGroup0
answers_have_group_0 = λ r is hay s ps are x e. RegexRuns.run_at-whole r is hay s ps are x e

pub escaped_texts_are_texts : EscapedIsText
escaped_texts_are_texts = EscapedReading.escaped_chars

pub matches_have_borders : MatchesHaveBorders
matches_have_borders = AllMatchesLemmas.matches_have_borders

pub bounds_are_reached : BoundsAreReached
bounds_are_reached = Refuted.bounds_are_reached

pub bounds_refuse : BoundsRefuse
bounds_refuse = Refuted.bounds_refuse

pub visits_refuse : VisitsRefuse
visits_refuse = Refuted.visits_refuse

pub answered_refuses : AnsweredRefuses
answered_refuses = Refuted.answered_refuses

pub found_refuses : FoundRefuses
found_refuses = Refuted.found_refuses

pub preferred_refuses : PreferredRefuses
preferred_refuses = Refuted.preferred_refuses

pub leftmost_refuses : LeftmostRefuses
leftmost_refuses = Refuted.leftmost_refuses

pub spans_refuse : SpansRefuse
spans_refuse = Refuted.spans_refuse

pub leaving_out_refuses : LeavingOutRefuses
leaving_out_refuses = Refuted.leaving_out_refuses

pub borders_refuse : BordersRefuse
borders_refuse = Refuted.borders_refuse

pub participants_refuse : ParticipantsRefuse
participants_refuse = Refuted.participants_refuse

pub its_groups_refuse : ItsGroupsRefuse
its_groups_refuse = Refuted.its_groups_refuse

pub appends_refuse : AppendsRefuse
appends_refuse = Refuted.appends_refuse

pub names_are_ascii : NamesAreAscii
names_are_ascii = AsciiNames.names_are_ascii

pub full_run_is_found : FullRunIsFound
full_run_is_found = FullLemmas.full_run_is_found

pub full_slots_are_groups : FullSlotsAreGroups
full_slots_are_groups = FullLemmas.full_slots_are_groups

pub full_finds_some : FullFindsSome
full_finds_some = FullLemmas.full_finds_some

pub full_is_found : FullIsFound
full_is_found = FullLemmas.full_is_found

pub anchored_is_read : AnchoredIsRead
anchored_is_read = WrappedLemmas.anchored_is_read

pub anchored_is_begun : AnchoredIsBegun
anchored_is_begun = BegunLemmas.anchored_is_begun

pub plain_templates_stand_for_themselves : PlainStandsForItself
plain_templates_stand_for_themselves = TemplateLemmas.plain_stands_for_itself

pub kept_answer_alike : KeptAnswerAlike
kept_answer_alike = TwinRuns.kept_answer_alike

pub searches_reach_bounds : SearchesReachBounds
searches_reach_bounds = LookLemmas.searches_reach_bounds
