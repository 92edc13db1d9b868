use Rattle.std.proofs.Common.{◌≡◌, ◌≢◌, ℕ, List, Option, Result, Ok, Err, IfOk, IfErr}
use Rattle.std.specs.Prelude.{chars}
use Rattle.bites_spec.specs.Built.{IsCompilable}
use Rattle.bites_spec.specs.Fault.{Fault}
use Rattle.bites_spec.specs.Grammar.{Reading}
use Rattle.bites_spec.specs.Measure.{Limits, groups_opened}
use Rattle.bites_spec.specs.Message.{Message}
use Rattle.bites_spec.specs.Settings.{Settings, Accepts, settings}
use Rattle.bites_spec.specs.Tree.{Tree}
use Rattle.bites_syntax.specs.FlagsView.{flags_of}
use Rattle.bites_text.specs.Messages.{error_of}
use Rattle.bites_text.specs.declared.error.Error.{Error}
use Rattle.bites_text.specs.declared.error.Error.TheVariants.{Memory}
use Rattle.bites_bytes.specs.Settings.{IsRead, Refuses, fault}
use Rattle.bites_bytes.proofs.bytes.builder.RegexBuilder.read.Goals as goal

read_of : (s : Settings) (o : Result (Tree × List (Option (List ℕ))) Error) → IfOk o (λ r. Limits (chars s.pattern) s.flags s.nest_limit r.0) →
    IfOk o (λ r. (reading : Reading (chars s.pattern) s.flags r.0) → r.1 ≡ groups_opened reading) → IfOk o (λ r. IsCompilable r.0) →
    IfOk o (λ r. IsRead s r.0 r.1)
read_of s (Ok r) read groups compilable = record { read = read; groups = groups; compilable = compilable }
read_of s (Err e) read groups compilable = tt

-- a tree that is accepted is read
none_accepted : {B : Type 0} (s : Settings) (o : Result B Error) →
    IfErr o (λ e. e ≢ Memory → (t : Tree) → Limits (chars s.pattern) s.flags s.nest_limit t → ⊥) →
    IfErr o (λ e. e ≢ Memory → (t : Tree) → Accepts s t → ⊥)
none_accepted s (Ok b) h = h
none_accepted s (Err e) h = λ ne t a. h ne t a.read

-- the message is that of the first fault
refused_by_fault : {B : Type 0} (s : Settings) (o : Result B Error) →
    IfErr o (λ e. e ≢ Memory → (m : Message) × (e ≡ error_of m) × Fault (chars s.pattern) s.flags s.nest_limit m) →
    IfErr o (λ e. e ≢ Memory → Refuses s e)
refused_by_fault s (Ok b) h = h
refused_by_fault s (Err e) h = λ ne. let m = h ne in fault m.0 m.2 m.1

pub returns-clause-read : goal.returns-clause-read
returns-clause-read c =
    let x = c.self.inside in let e = c.parse_with_groups.ensures in
    let s = settings c.deref.result.now (flags_of x.flags) x.limits.size x.limits.nest x.limits.dfa_size x.keep_dropped_groups x.leftmost_longest x.prefilter in
    rw (← c.self.view_is, ← c.deref.ensures) (read_of s c.parse_with_groups.result e.read e.groups e.compilable)

pub returns-clause-refused : goal.returns-clause-refused
returns-clause-refused c =
    let x = c.self.inside in
    let s = settings c.deref.result.now (flags_of x.flags) x.limits.size x.limits.nest x.limits.dfa_size x.keep_dropped_groups x.leftmost_longest x.prefilter in
    rw (← c.self.view_is, ← c.deref.ensures) (none_accepted s c.parse_with_groups.result c.parse_with_groups.ensures.refused)

pub returns-clause-message : goal.returns-clause-message
returns-clause-message c =
    let x = c.self.inside in
    let s = settings c.deref.result.now (flags_of x.flags) x.limits.size x.limits.nest x.limits.dfa_size x.keep_dropped_groups x.leftmost_longest x.prefilter in
    rw (← c.self.view_is, ← c.deref.ensures) (refused_by_fault s c.parse_with_groups.result c.parse_with_groups.ensures.message)
