-- What the code's types stand for.
use Rattle.std.specs.Prelude.{ℕ, map, option_map}
use Rattle.bites_spec.specs.Closure.{Walking}
use Rattle.bites_machine.specs.Bits.{has_bit}
use Rattle.bites_table.specs.Kinds as kinds
use Rattle.bites_table.specs.Sources as sources
use Rattle.bites_table.specs.Transition as transitions
use Rattle.bites_table.specs.declared.kind.Kind.{Kind}
use Rattle.bites_table.specs.declared.kind.Kind.TheVariants.{Edge, LineFeed, CarriageReturn, WordByte, Other}
use Rattle.bites_table.specs.declared.thread_list.Thread.{Thread}
use Rattle.bites_table.specs.declared.thread_list.Starts.{Starts}
use Rattle.bites_table.specs.declared.thread_list.Starts.TheVariants.{Everywhere, Here, Nowhere, LongestHere, LongestNowhere}
use Rattle.bites_table.specs.declared.thread_list.ThreadList.{ThreadList}
use Rattle.bites_table.specs.declared.thread_list.Source.{Source}
use Rattle.bites_table.specs.declared.thread_list.Frame.{Frame}
use Rattle.bites_table.specs.declared.walk.Walk.{Walk}

-- a kind of byte
abbrev pub kind_as : Kind → kinds.Kind
kind_as Edge = kinds.edge
kind_as LineFeed = kinds.line_feed
kind_as CarriageReturn = kinds.carriage_return
kind_as WordByte = kinds.word_byte
kind_as Other = kinds.other

-- where the start is walked
abbrev pub starts_as : Starts → transitions.Starts
starts_as Everywhere = transitions.everywhere
starts_as Here = transitions.here
starts_as Nowhere = transitions.nowhere
starts_as LongestHere = transitions.longest_here
starts_as LongestNowhere = transitions.longest_nowhere

-- where a row comes from
abbrev pub source_of : Source → sources.Source
source_of s = record { register = s.register; writes = has_bit s.writes }

-- a thread of a walk
abbrev pub frame_of : Frame → sources.Thread sources.Source
frame_of f = record { state = f.state; row = source_of f.source }

-- a thread of a thread list
abbrev pub thread_as : Thread → sources.Thread ℕ
thread_as t = record { state = t.state; row = t.register }

abbrev pub list_of : ThreadList → transitions.ThreadList
list_of l = record { threads = map thread_as l.threads.now; starts = starts_as l.starts; kind = kind_as l.kind }

-- a walk after so many looks
abbrev pub walking_of : Walk → ℕ → Walking (sources.Thread sources.Source)
walking_of w looks = record {
  stack = map frame_of w.stack;
  seen = w.visited;
  next = map frame_of w.takers.items;
  first_match = option_map frame_of w.hit;
  looks = looks;
}
