-- What proofs use of the libraries below and of the definitions, passed on under one name. `MachineThread` is the thread of the machine on
-- lists, and `StoredState` the state of the code.
pub use Rattle.std.proofs.Common.{arith, ◌≡◌, ℕ, Bool, true, false, ◌&&◌, List, [], ◌∷◌, reverse, Option, Some, None, refl, nat_lt, suc, ◌+◌, ◌-◌, ◌*◌, ◌/◌, ◌%◌, ◌^◌, ◌<◌, ◌≤◌, ◌||◌, min, sym, ap, ap₂, ◌∙◌, ⊎_elim, slice_index, bit_and, bit_or, ◌==◌, length, Result, lt-ltb, le-leb, eq-eqb, nat_le, IsTrue, is_none, IfOk, IfSome, cond, map, inl, ◌⊎◌, ltb-true, if◌then◌else◌, zero, ◌++◌, slice_set, length-append, count_by, get_or, drop, subst, append_assoc, replicate, ◌≢◌, inr, sum_by, option_map, flat_map, rules, add-one, string_bytes, take, eqb-true, option_and_then, is_some, true≢false, leb-true, not, ne_eqb, slice_index_or, drop-cons, sum, Bor, option_to_list, ltb-false, MatchOption, length-drop, ltb, IsUtf8, IsCharBoundary, Ok, Err, IsErr, unwrap_or, vec_len}
pub use Rattle.std.proofs.Math.Seq.{take-add, take-append_seam, drop-append_seam}
pub use Rattle.std.proofs.lemmas.Bool.{cases_lt, cases_order, cond-false, cases_Bool, and_parts, and_from, or_cases, not-false, not-true, cases_eq}
pub use Rattle.std.proofs.lemmas.Bool.Decides.{nat_tests}
pub use Rattle.std.proofs.lemmas.Nat.{row_fits}
pub use Rattle.std.proofs.lemmas.Grind.{common_steps}
pub use Rattle.std.proofs.lemmas.List.{length_push, same_lists, reverse-append, length-set, get_or_append_left, get_or-set_same, get_or-set_other, get_or-replicate, length-replicate, ext_get_or, get_or_default, map-set, length-map, append-nil, map-append, take_more_set, take-set-le, set_past, get_or-drop, length-take-le, drop_at, take_at, set-append_left, take-append-le, take-take, drop-drop, drop_all, take_all, set-get_or, nil_from_length, set-set, reverse-reverse}
pub use Rattle.std.proofs.lemmas.List.Edits.{paste_more}
pub use Rattle.std.proofs.lemmas.List.Elements.{filter-append}
pub use Rattle.std.proofs.lemmas.List.Folds.{list_all-append, list_any_at, list_any_none}
pub use Rattle.std.proofs.lemmas.List.FromFn.{length-map-range_with_len, get_or-map-range_with_len, take-map-range_with_len}
pub use Rattle.std.proofs.lemmas.List.Sums.{prefix_len-le-length, sum_by-append, sum_by-cons, sum_by-set, count_by-le-length, sum_by-le-sum_by, length-filter}
pub use Rattle.std.proofs.lemmas.Option.{none-some, same_Some}
pub use Rattle.std.proofs.lemmas.Str.{IsCharBoundary-after_ascii, IsCharBoundary-end, IsCharBoundary-from_drop}
pub use Rattle.std.specs.Fn.{iterate}
pub use Rattle.std.specs.List.{list_all, list_any, filter, range_with_len, prefix_len, each_same}
pub use Rattle.std.specs.Option.{ok_or, option_or}
pub use Rattle.bites_spec.proofs.characters.DigitLemmas.{and_false, digits_too_large}
pub use Rattle.bites_spec.proofs.programs.BuiltLemmas.{Among-append}
pub use Rattle.bites_spec.proofs.programs.ListedLemmas.{Among-under}
pub use Rattle.bites_spec.proofs.programs.ListedRunLemmas.{Among-map}
pub use Rattle.bites_spec.proofs.programs.SlotLemmas.{Among-left, Among-right, or_none, last_write-append, AllApart-append}
pub use Rattle.bites_spec.proofs.regex.LeftLemmas.{number, groups_in-map, Among-number, left_has_groups, length-left, room_for_groups}
pub use Rattle.bites_spec.proofs.runs.FirstLemmas.{sound, or_cases as option_or_cases}
pub use Rattle.bites_spec.proofs.runs.PlaceLemmas.{places-here, place_on, places-past}
pub use Rattle.bites_spec.proofs.runs.RunLemmas.{same_is, same_refl, match_ends, first_place, no_place, inside_on, Inside, unseen, fewer, enough_for_all}
pub use Rattle.bites_spec.proofs.runs.WalkLemmas.{or_assoc, waiting, pending-append, pending_seen, pending_visit_behind, run_away, run_match, first_among_cong_in}
unfoldable pub use Rattle.bites_spec.proofs.runs.WalkLemmas.{pending}
pub use Rattle.bites_spec.proofs.templates.TemplateLemmas.{expansion_end, word_at_is, expansion_front, bytes_stand}
pub use Rattle.bites_spec.proofs.templates.TemplateTexts.{behind_ascii, NoFurther, no_further, high_behind, expansion_before}
pub use Rattle.bites_spec.proofs.utf8.PieceLemmas.{Among-places, piece_some}
pub use Rattle.bites_spec.proofs.utf8.StartLemmas.{starts_rise, all_are_starts, alone_is_start, alone_within, alone_past, start_lies}
pub use Rattle.bites_spec.specs.Built.{Built, HasForm, Fragment, One, Behind, Copies, Options, Loop, OptionalLoop, Bounded, CopiesUpTo, Repeated, HasFormAll, HasFormEach}
pub use Rattle.bites_spec.specs.Closure.{dropped}
pub use Rattle.bites_spec.specs.Contents.{Contents}
pub use Rattle.bites_spec.specs.Counts.{Record, IsBounded, VisitedBy, VisitedAll, VisitedSome, Fit, HasRoomFor, Room}
pub use Rattle.bites_spec.specs.Cutting.{CutsFront}
pub use Rattle.bites_spec.specs.Expansion.{GivesTexts, GivesNumbers}
pub use Rattle.bites_spec.specs.Look.{Look, is_word_byte}
pub use Rattle.bites_spec.specs.Measure.{Size, size_of, groups_of, name_in, group_name, groups_left, name_size, group_size, both, agreed, repeated_count, groups_of_all, static_count, static_sum, static_agreed, static_captures_len, size, height}
pub use Rattle.bites_spec.specs.PikeVm.{Thread as MachineThread, Searching, Searched, Walking, kept, moved, visited, stepped, step, WalksTo, with_write, thread_on, started, begun, Searches, SearchedTo, at_start, is_over, after, is_empty, threads_at}
pub use Rattle.bites_spec.specs.Program.{targets_of, State, Program, state_at, IsWellFormed, Configuration, at, edges, taking, AreRanges, is_match, char as char_state, ranges, HasRanges, AreStates, looking, splits, match, goto, capture, fail}
pub use Rattle.bites_spec.specs.ProgramFaults.{are_ranges, first_fault, ProgramFault, has_ranges, has_slot, fault_of}
pub use Rattle.bites_spec.specs.Range.{in_range, Range, in_ranges}
pub use Rattle.bites_spec.specs.Refused.{IsFront, AppendsUntilRefused}
pub use Rattle.bites_spec.specs.Run.{Run, Ends, Answered, LeastEnd, slots, longest_run_below, leads, matches, Runs, IsRun, NoRun, run_of, StartsFirst, LongestRun, is_end_at, write_of, last_write, writes, is_same_configuration, enough}
unfoldable pub use Rattle.bites_spec.specs.Run.{first_run, first_run_from, longest_run}
pub use Rattle.bites_spec.specs.Template.{expansion, is_digit, value_from, byte, name, plain, doubled, group_named}
pub use Rattle.bites_spec.specs.Tree.{Tree, group, captures_len, IsReduced, Trees, empty, char, class, look, repetition, sequence, alternation, no_tree, tree_and, is_nullable, trees_of, groups_in, groups_in_all, greatest, AllAreReduced, names_in, names_in_all, count}
pub use Rattle.bites_spec.specs.Utf8.{piece, places, start_alone, AreStarts, step_len}
pub use Rattle.bites_spec.specs.Walks.{Among, first_among, IsNew, AllApart, Walk, last_of, with_configuration}
pub use Rattle.bites_syntax.proofs.TreeParts.{parts_from, parts_end, greatest-append, read_below, Within, count_within}
pub use Rattle.bites_syntax.specs.View.{tree_of}
pub use Rattle.bites_syntax.specs.declared.tree.Kind.{Kind}
pub use Rattle.bites_machine.specs.Bits.{has_bit}
pub use Rattle.bites_machine.specs.Classes.{HasClasses, AllHaveClasses}
pub use Rattle.bites_machine.specs.Emitted.{Emitted, Emitter, pushed, in_front, again, choice, options, bounded, loop, optional_loop, copies_up_to, repeated, writing, grouped, Branches, emitted, branches, class_state}
unfoldable pub use Rattle.bites_machine.specs.Emitted.{emit, emit_all, emit_each}
pub use Rattle.bites_machine.specs.Ends.{next_character, targets_over, targets_at, takes_by}
pub use Rattle.bites_machine.specs.Explore.{AreSound, kept_by, seen_here, visited_before, edges_left, exploring, IsReady, Keeps, Explores, member_count, Passes}
pub use Rattle.bites_machine.specs.Inputs.{starts_of, is_longest, is_earliest, IsAnswer}
pub use Rattle.bites_machine.specs.Names.{filled, bytes_of}
pub use Rattle.bites_machine.specs.Resume.{row_in, thread_in, ReachedBy}
pub use Rattle.bites_machine.specs.Scratch.{WalkState, walk_state, states_in, thread_of, first_match_of, row_of, releases, users_of, with_next, with_table, frame_of, walking_of, next_of, AddsThread}
pub use Rattle.bites_machine.specs.Sizes.{held_size, both_sizes, held}
pub use Rattle.bites_machine.specs.SlotTable.{Pool, slots_at, one_less, with_counts, KeepsRoom, with_pending, awaiting, AreFree, AreTaken, ref_counts_of, one_more, rows_of, Takes}
pub use Rattle.bites_machine.specs.Stack.{Frames, with_frames, frame_at, framed}
pub use Rattle.bites_machine.specs.States.{states_of, state_of}
pub use Rattle.bites_machine.specs.Sweep.{left_in, InvariantWithinStep, ClosesThread, ClosesThreads, ClosesAll, InvariantBetweenSteps, WalksHere, walking_at, CanClose, PlaceSearched, Represents, start_threads, starts_on, SearchResult, IsProgramOf, HasReached, HasRoom, CanCloseAll}
pub use Rattle.bites_machine.specs.Threads.{Listed}
pub use Rattle.bites_machine.specs.Trace.{run_record, record_of_run, nothing_recorded, ReadsVisits, IsStep, IsVisited, after_place, after_each, record_of, record_step}
pub use Rattle.bites_machine.specs.Used.{IsUsed, KeepsRows, KeepsTable, KeepsOf, ForksTo}
pub use Rattle.bites_machine.specs.Visits.{cuts, IsStarted, ArePending, VisitsTo, lets_on}
pub use Rattle.bites_machine.specs.declared.state.State.{State as StoredState}
pub use Rattle.bites_machine.specs.declared.vm.closure.Scratch.{Scratch}
pub use Rattle.bites_machine.specs.declared.vm.position.Position.{Position}
pub use Rattle.bites_machine.specs.declared.vm.resume.RegisterThread.{RegisterThread}
pub use Rattle.bites_machine.specs.declared.vm.stack.Frame.{Frame}
pub use Rattle.bites_machine.specs.declared.vm.traced.Walk.{Walk as TracedWalk}
pub use Rattle.bites_machine.specs.declared.vm.threads.Thread.{Thread}
pub use Rattle.bites_machine.specs.Traced.{Place, IsTracedSearch, visits_of, IsTraced, searching_of, Walks, left_to_walk, edges_unseen, walking_of as traced_walking}
pub use Rattle.bites_machine.specs.Interpolate.{BeginsWith, IsTextFront, parts_in}
pub use Rattle.bites_machine.specs.declared.vm.counted.History.TheVariants.{Transitions, rolls-Transitions, Rest, rolls-Rest, rolls-Run}
pub use Rattle.bites_machine.specs.declared.vm.counted.History.TheOpen.{History-F}
pub use Rattle.bites_machine.specs.declared.vm.counted.History.TheFolds.{fold-roll-History}
pub use Rattle.bites_machine.specs.declared.vm.counted.Counted.{Counted}
pub use Rattle.std.specs.Ordering.{nat_cmp}
pub use Rattle.bites_machine.specs.Compiled.{IsMadeOf, whole, program_of_tree}
pub use lib.Seq.{paste}
