-- The words of specs/ that proofs use, passed on under one name.
pub use Rattle.bites_table.specs.AlikeKinds.{NoneAsserted, TellsApart}
pub use Rattle.bites_table.specs.Blocks.{AreBlocks, AreIntervals, AreSplit, AreSplitByKinds, HaveMembers, IsFiner, IsInterval, IsMoved, PassAlike, at}
pub use Rattle.bites_table.specs.Bounds.{AreBounds, AreTakenAlike, NoneBetween, bounds_after, bounds_of, bounds_of_kinds, bounds_of_state, carriage_returns, ends_of, line_feeds, word_bytes}
pub use Rattle.bites_table.specs.Built.{frame_of, kind_as, list_of, source_of, starts_as, thread_as, walking_of}
pub use Rattle.bites_table.specs.Classes.{AreSound, Intervals, class_by, classes_of, interval_at}
pub use Rattle.bites_table.specs.Distinctions.{CoverAfter, CoverBefore, IsWithin, after_state, before_state, either, is_line, is_return, is_word_kind, nothing, seen}
pub use Rattle.bites_table.specs.Example.{EndsAtLetter, ExampleEnds, ExampleIsTable, TransitionsRefuse, classes, idle_list, input, letter_list, member, over_letter, over_other, program, table, to_match, transition}
pub use Rattle.bites_table.specs.Explored.{AreAfter, AreBefore, ArePlain, AreRoots, AreTaken, IsMaking, number_in, program_in}
pub use Rattle.bites_table.specs.Graph.{AddsList, AddsOutcome, AreHeld, Cell, Graph, IsGraph, IsRoot, NumberedList, Outcome, cell_at, list_as, registers_at, table_of, transition_in, transition_with, with_cells, with_outcome}
pub use Rattle.bites_table.specs.Kinds.{AreAlike, AreAlikeKinds, AreClasses, Classes, Kind, asserts, byte_of, carriage_return, edge, holds_by, is_edge, kind_of, kind_of_byte, leads_at, leads_between, leads_by, line_feed, other, word_byte}
pub use Rattle.bites_table.specs.LaidOut.{AreActs, AreEntries, AreHeldBelow, AreLaid, AreNamed, DoesNothing, EndsHit, Fits, IsAct, IsActOf, IsEntryOf, IsKeptOrBegun, IsWritten, Names, PassesByBits, WritesIndex, masked, register_thread}
pub use Rattle.bites_table.specs.Laws.{IsThreadMap, mapped, passed}
pub use Rattle.bites_table.specs.Layout.{AreWithin, IsEntry, Tell}
pub use Rattle.bites_table.specs.Made.{Grows, IsBase, IsCell, IsFilled, IsMade, IsNoted, IsOutcome, IsOutcomeOf, IsRowOf, IsWalked, NamesAt, ended, start_alone, visits_of}
pub use Rattle.bites_table.specs.Packed.{ends, AreHeldHits, AreKept, ArePassed, EndsRow, GoesOn, IsHeldFrame, IsHeldHit, IsHit, IsKnown, IsPartOf, IsQuiet, IsWholeHit, NamesAct, Packed, Tells, is_dead, lists_in, mask_of, more, more_for_all, more_than_steps, passed_row, row_of, stride, table_in, thread_with_register, unknown}
pub use Rattle.bites_table.specs.Registers.{AreAssigned}
pub use Rattle.bites_table.specs.Searches.{Held, HitsAt, IsHeldAt, IsHitThere, hit_of, IsLent, IsOverPiece, IsPieceAt, IsSame, RunsAct, StandsAt, StopsSo, asked, hit_slots, more_to_do, CanGoOnBy, CanGoOnWith}
pub use Rattle.bites_table.specs.Sources.{Source, Thread, on_row, row_at, row_of_register, slots_from, thread_of, thread_with, threads_by, unwritten, write, written_by}
pub use Rattle.bites_table.specs.Standing.{AreMoved, Asked, IsAsked, IsAt, IsAtRow, IsOver, ends_after, search_at, slots_after, transition_from}
pub use Rattle.bites_table.specs.Stays.{AllWalkSo, AreStays, EndsQuietly, HasOutcome, IsCalm, IsKept, IsRest, IsSkip, IsStay, LeadsAmong, LeadsBack, LeadsQuietly, Stays, StaysOver, WalksSo}
pub use Rattle.bites_table.specs.Steps.{AreRows, Gives, IsOrder, NameRegisters, NamesRegisters, after_step, after_steps, base_of, most_registers, sources_after, with_spare}
pub use Rattle.bites_table.specs.Stored.{AreParts, IsPart, cell_of, list_in, numbered, outcome_in, outcome_of}
pub use Rattle.bites_table.specs.Table.{Ended, HasKind, Input, IsInStep, IsTable, Reached, RunsTo, Table, TableSearch, is_empty, is_over, list_at, search_after, starts_of, IsAtOnePlace, noted_start, table_step, transition_at, with_list}
pub use Rattle.bites_table.specs.Takers.{AssertsAs, over, taken, takers_by}
pub use Rattle.bites_table.specs.Trace.{ComesTo, LeadTo, Says}
pub use Rattle.bites_table.specs.Transition.{IsTransition, Starts, ThreadList, Transition, begun, cuts_off, everywhere, is_walked, nowhere, source_at, starts_after}
pub use Rattle.bites_table.specs.Visited.{AreApart}
pub use Rattle.bites_table.specs.declared.alike_kinds.AlikeKinds.{AlikeKinds}
pub use Rattle.bites_table.specs.declared.blocks.Blocks.{Blocks}
pub use Rattle.bites_table.specs.declared.distinctions.Distinctions.{Distinctions}
pub use Rattle.bites_table.specs.declared.explore.Context.{Context}
pub use Rattle.bites_table.specs.declared.explore.Memory.{Memory}
pub use Rattle.bites_table.specs.declared.explore.Row.{Row}
pub use Rattle.bites_table.specs.declared.explore.base.Base.{Base}
pub use Rattle.bites_table.specs.declared.explore.base.Noted.{Noted}
pub use Rattle.bites_table.specs.declared.explore.graph.StoredList.{StoredList}
pub use Rattle.bites_table.specs.declared.explore.graph.StoredOutcome.{StoredOutcome}
pub use Rattle.bites_table.specs.declared.explore.roots.Roots.{Roots}
pub use Rattle.bites_table.specs.declared.kind.Kind.TheVariants.{Edge}
pub use Rattle.bites_table.specs.declared.registers.Assigned.{Assigned}
pub use Rattle.bites_table.specs.declared.search.record.Lent.{Lent}
pub use Rattle.bites_table.specs.declared.search.record.Search.{Search}
pub use Rattle.bites_table.specs.declared.search.record.Standing.{Standing}
pub use Rattle.bites_table.specs.declared.search.record.Width.{Width}
pub use Rattle.bites_table.specs.declared.steps.Step.{Step}
pub use Rattle.bites_table.specs.declared.steps.Step.TheVariants.{Blank, Copy, Write}
pub use Rattle.bites_table.specs.declared.table.ListEntry.{ListEntry}
pub use Rattle.bites_table.specs.declared.table.act.Act.{Act}
pub use Rattle.bites_table.specs.declared.table.layout.Name.{Name}
pub use Rattle.bites_table.specs.declared.table.sequence.Order.{Order}
pub use Rattle.bites_table.specs.declared.table.skip.Rest.{Rest}
pub use Rattle.bites_table.specs.declared.table.skip.Skip.{Skip}
pub use Rattle.bites_table.specs.declared.table.skip.Stay.{Stay}
pub use Rattle.bites_table.specs.declared.thread_list.Frame.{Frame}
pub use Rattle.bites_table.specs.declared.trace.Stretch.{Stretch}
pub use Rattle.bites_table.specs.declared.walk.Walk.{Walk}
unfoldable pub use Rattle.bites_table.specs.Explored.{classes_in}
unfoldable pub use Rattle.bites_table.specs.Steps.{own_rows}
