-- Which of the types below may cross threads.
use denote.Param.Send.{IsSend, IsSync, sendable}
use Rattle.std.proofs.Crossing.{crosses}
use Rattle.bites_syntax.proofs.flags.Flags.TheSendSync as flags
use Rattle.bites_syntax.proofs.tree.Tree.TheLaws.TheKnot.{crosses as tree_crosses}
use Rattle.bites_scan.specs.contracts.literal.Literal as Literal
use Rattle.bites_scan.specs.contracts.literal_set.LiteralSet as LiteralSet
use Rattle.bites_scan.specs.contracts.byte_set.ByteSet as ByteSet
use Rattle.bites_literals.specs.contracts.between.Between as Between
use Rattle.bites_literals.specs.contracts.byte_run.ByteRun as ByteRun
use Rattle.bites_literals.proofs.text.Text.TheSendSync as text
use Rattle.bites_literals.specs.contracts.prefilter.End as End
use Rattle.bites_literals.specs.contracts.prefilter.Near as Near
use Rattle.bites_literals.specs.contracts.prefilter.Prefilter as Prefilter
use Rattle.bites_literals.specs.contracts.prefilter.Reach as Reach
use Rattle.bites_machine.proofs.slot.Slot.TheSendSync as slot
use Rattle.bites_machine.proofs.state.State.TheSendSync as state
use Rattle.bites_machine.proofs.vm.threads.Threads.TheSendSync as threads
use Rattle.bites_machine.proofs.vm.closure.Scratch.TheSendSync as scratch
use Rattle.bites_machine.proofs.group_names.GroupNames.TheSendSync as group_names
use Rattle.bites_machine.specs.contracts.program.Program as Program
use Rattle.bites_machine.specs.contracts.vm.memory.Memory as MachineMemory
use Rattle.bites_machine.specs.contracts.vm.memory.Memory.TheInside as MachineFields
use Rattle.bites_machine.specs.contracts.vm.counted.Searches as Searches
use Rattle.bites_machine.specs.contracts.vm.counted.Trace as Trace
use Rattle.bites_machine.proofs.vm.resume.RegisterThread.TheSendSync as register_thread
use Rattle.bites_table.proofs.classes.Classes.TheSendSync as classes
use Rattle.bites_table.proofs.steps.Step.TheSendSync as step
use Rattle.bites_table.proofs.table.ListEntry.TheSendSync as list_entry
use Rattle.bites_table.proofs.table.act.Act.TheSendSync as act
use Rattle.bites_table.specs.contracts.cache.Cache as TableCache
use Rattle.bites_table.specs.contracts.cache.Cache.TheInside as TableCacheFields
use Rattle.bites_table.specs.contracts.table.Table as Table
use Rattle.bites_table.specs.contracts.table.Table.TheInside as TableFields
use Rattle.bites_table.specs.contracts.table.cell.Cell as Cell
use Rattle.bites_bytes.proofs.bytes.locations.CaptureLocations.TheSendSync as locations
use Rattle.bites_bytes.specs.contracts.bytes.cache.Cache as Cache
use Rattle.bites_bytes.specs.contracts.bytes.prefilter_with_slots.PrefilterWithSlots as PrefilterWithSlots
use Rattle.bites_bytes.specs.contracts.bytes.regex.Compiled as Compiled
use Rattle.bites_bytes.specs.contracts.bytes.regex.Regex as Regex
use Rattle.bites_bytes.specs.contracts.bytes.set.RegexSet as RegexSet
use Rattle.bites_bytes.specs.contracts.bytes.set.SetCache as SetCache
use Rattle.bites_c.specs.contracts.held.Held as Held
use Rattle.bites_c.specs.contracts.held_set.HeldSet as HeldSet
use Rattle.bites_c.specs.contracts.room.Room as Room

program_send : IsSend Program.the_row
program_send = search (sendable, crosses, group_names.the_send, state.the_send) depth 30

program_sync : IsSync Program.the_row
program_sync = search (sendable, crosses, group_names.the_sync, state.the_sync) depth 30

literal_send : IsSend Literal.the_row
literal_send = search (sendable, crosses) depth 20

literal_sync : IsSync Literal.the_row
literal_sync = search (sendable, crosses) depth 20

literal_set_send : IsSend LiteralSet.the_row
literal_set_send = search (sendable, crosses, literal_send) depth 30

literal_set_sync : IsSync LiteralSet.the_row
literal_set_sync = search (sendable, crosses, literal_sync) depth 30

byte_set_send : IsSend ByteSet.the_row
byte_set_send = search (sendable, crosses) depth 30

byte_set_sync : IsSync ByteSet.the_row
byte_set_sync = search (sendable, crosses) depth 30

between_send : IsSend Between.the_row
between_send = search (sendable, crosses, byte_set_send) depth 20

between_sync : IsSync Between.the_row
between_sync = search (sendable, crosses, byte_set_sync) depth 20

reach_send : IsSend Reach.the_row
reach_send = search (sendable, crosses, between_send) depth 30

reach_sync : IsSync Reach.the_row
reach_sync = search (sendable, crosses, between_sync) depth 30

end_send : IsSend End.the_row
end_send = search (sendable, crosses, reach_send, text.the_send) depth 30

end_sync : IsSync End.the_row
end_sync = search (sendable, crosses, reach_sync, text.the_sync) depth 30

near_send : IsSend Near.the_row
near_send = search (sendable, crosses, reach_send, literal_send) depth 30

near_sync : IsSync Near.the_row
near_sync = search (sendable, crosses, reach_sync, literal_sync) depth 30

byte_run_send : IsSend ByteRun.the_row
byte_run_send = search (sendable, crosses, byte_set_send) depth 20

byte_run_sync : IsSync ByteRun.the_row
byte_run_sync = search (sendable, crosses, byte_set_sync) depth 20

prefilter_send : IsSend Prefilter.the_row
prefilter_send = search (sendable, crosses, end_send, near_send, literal_set_send, byte_run_send) depth 40

prefilter_sync : IsSync Prefilter.the_row
prefilter_sync = search (sendable, crosses, end_sync, near_sync, literal_set_sync, byte_run_sync) depth 40

prefilter_with_slots_send : IsSend PrefilterWithSlots.the_row
prefilter_with_slots_send = search (sendable, crosses, prefilter_send, slot.the_send) depth 80 fits 100000

prefilter_with_slots_sync : IsSync PrefilterWithSlots.the_row
prefilter_with_slots_sync = search (sendable, crosses, prefilter_sync, slot.the_sync) depth 80 fits 100000

compiled_send : IsSend Compiled.the_row
compiled_send = search (sendable, crosses, tree_crosses, flags.the_field_send, program_send) depth 40

compiled_sync : IsSync Compiled.the_row
compiled_sync = search (sendable, crosses, tree_crosses, flags.the_field_sync, program_sync) depth 40

cell_send : IsSend Cell.the_row
cell_send = search (sendable, crosses) depth 20

cell_sync : IsSync Cell.the_row
cell_sync = search (sendable, crosses) depth 20

table_fields_send : IsSend TableFields.the_row
table_fields_send = search (sendable, crosses, classes.the_send, cell_send, act.the_send, step.the_send, list_entry.the_send, register_thread.the_send) depth 80 fits 100000

table_fields_sync : IsSync TableFields.the_row
table_fields_sync = search (sendable, crosses, classes.the_sync, cell_sync, act.the_sync, step.the_sync, list_entry.the_sync, register_thread.the_sync) depth 80 fits 100000

table_send : IsSend Table.the_row
table_send = search (sendable, table_fields_send) depth 20

table_sync : IsSync Table.the_row
table_sync = search (sendable, table_fields_sync) depth 20

regex_send : IsSend Regex.the_row
regex_send = search (sendable, crosses, compiled_send, compiled_sync, table_send, table_sync, prefilter_with_slots_send, prefilter_with_slots_sync) depth 40

pub held_send : IsSend Held.the_row
held_send = search (sendable, regex_send) depth 20

trace_send : IsSend Trace.the_row
trace_send = search (sendable, crosses) depth 20

searches_send : IsSend Searches.the_row
searches_send = search (sendable, crosses) depth 20

-- the fields by themselves: with the view around them the search breaks off
machine_fields_send : IsSend MachineFields.the_row
machine_fields_send = search (sendable, threads.the_send, scratch.the_send, scratch.the_field_send, searches_send, trace_send) depth 20

machine_send : IsSend MachineMemory.the_row
machine_send = search (sendable, machine_fields_send) depth 20

table_cache_fields_send : IsSend TableCacheFields.the_row
table_cache_fields_send = search (sendable, crosses, machine_send) depth 20

table_cache_send : IsSend TableCache.the_row
table_cache_send = search (sendable, table_cache_fields_send) depth 20

cache_send : IsSend Cache.the_row
cache_send = search (sendable, table_cache_send) depth 20

pub room_send : IsSend Room.the_row
room_send = search (sendable, cache_send, locations.the_send) depth 20

set_send : IsSend RegexSet.the_row
set_send = search (sendable, crosses, regex_send) depth 20

set_cache_send : IsSend SetCache.the_row
set_cache_send = search (sendable, crosses, cache_send) depth 20

pub held_set_send : IsSend HeldSet.the_row
held_set_send = search (sendable, crosses, set_send, set_cache_send) depth 20
