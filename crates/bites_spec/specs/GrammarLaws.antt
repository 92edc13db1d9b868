-- Laws of the grammar and its faults.
use Rattle.std.specs.Prelude.{◌≡◌, ℕ, ◌⊎◌, ◌↔◌, List, ◌++◌, length, encode_utf8_all, Option, Some, None, Result, Ok, Err}
use Rattle.bites_spec.specs.Range.{Range}
use Rattle.bites_spec.specs.Class.{Set, Lists}
use Rattle.bites_spec.specs.Tree.{Tree}
use Rattle.bites_spec.specs.Built.{IsCompilable}
use Rattle.bites_spec.specs.Message.{Message, too_much_nesting}
use Rattle.bites_spec.specs.Pattern.{Text, Flags}
use Rattle.bites_spec.specs.Bracket.{ReadsBracket}
use Rattle.bites_spec.specs.BracketFault.{StuckBracket}
use Rattle.bites_spec.specs.Grammar.{Reads}
use Rattle.bites_spec.specs.Measure.{Limits, IsTooTall}
use Rattle.bites_spec.specs.RangesOf.{ranges_of}
use Rattle.bites_spec.specs.Reader.{Stop, read}
use Rattle.bites_spec.specs.Fault.{Fault, FaultAt}

-- each set of characters has a list of ranges
abbrev pub ListsAll : Type 0
ListsAll = (set : Set) → (ranges : List Range) × Lists ranges set

-- a pattern has at most one tree
abbrev pub ReadsOnce : Type 0
ReadsOnce = (pattern : Text) (flags : Flags) (t u : Tree) → Reads pattern flags t → Reads pattern flags u → t ≡ u

-- a pattern has at most one message
abbrev pub FaultsOnce : Type 0
FaultsOnce = (pattern : Text) (flags : Flags) (nest_limit : ℕ) (m k : Message) → Fault pattern flags nest_limit m → Fault pattern flags nest_limit k → m ≡ k

-- a pattern with a message has no tree within the limits
abbrev pub RefusedHasNoTree : Type 0
RefusedHasNoTree = (pattern : Text) (flags : Flags) (nest_limit : ℕ) (m : Message) (t : Tree) → Fault pattern flags nest_limit m → Limits pattern flags nest_limit t → ⊥

-- a pattern has a tree within the limits or a message
abbrev pub ReadOrRefused : Type 0
ReadOrRefused =
    (pattern : Text) (flags : Flags) (nest_limit : ℕ) →
    ((t : Tree) × Limits pattern flags nest_limit t) ⊎ ((m : Message) × Fault pattern flags nest_limit m)

-- the grammar's function returns a tree that is not too tall exactly if the pattern has that tree within the limits
abbrev pub ReaderReads : Type 0
ReaderReads =
    (pattern : Text) (flags : Flags) (nest_limit : ℕ) (t : Tree) →
    Limits pattern flags nest_limit t ↔ ((read ranges_of nest_limit pattern flags ≡ Ok t) × (IsTooTall nest_limit t → ⊥))

-- a result of the function refuses the pattern by this message: it stops with it, or its tree is too tall
abbrev pub IsRefusedBy : ℕ → Message → Result Tree Stop → Type 0
IsRefusedBy nest_limit m (Ok t) = IsTooTall nest_limit t × (m ≡ too_much_nesting)
IsRefusedBy nest_limit m (Err e) = m ≡ e.message

-- the grammar's function refuses a pattern by a message exactly if that is the pattern's message
abbrev pub ReaderRefuses : Type 0
ReaderRefuses =
    (pattern : Text) (flags : Flags) (nest_limit : ℕ) (m : Message) →
    Fault pattern flags nest_limit m ↔ IsRefusedBy nest_limit m (read ranges_of nest_limit pattern flags)

-- a pattern has a message exactly if it has that message at an offset, or at none
abbrev pub FaultsHavePlaces : Type 0
FaultsHavePlaces =
    (pattern : Text) (flags : Flags) (nest_limit : ℕ) (m : Message) →
    Fault pattern flags nest_limit m ↔ ((offset : Option ℕ) × FaultAt pattern flags nest_limit m offset)

-- a pattern has at most one message, at most at one offset
abbrev pub PlacesOnce : Type 0
PlacesOnce =
    (pattern : Text) (flags : Flags) (nest_limit : ℕ) (m k : Message) (offset other : Option ℕ) →
    FaultAt pattern flags nest_limit m offset → FaultAt pattern flags nest_limit k other → (m ≡ k) × (offset ≡ other)

-- a result of the function refuses the pattern by this message at this offset: what stands before its stop has so many
-- bytes, or its tree is too tall
abbrev pub IsRefusedAt : ℕ → Text → Message → Option ℕ → Result Tree Stop → Type 0
IsRefusedAt nest_limit pattern m offset (Ok t) = IsTooTall nest_limit t × (m ≡ too_much_nesting) × (offset ≡ None)
IsRefusedAt nest_limit pattern m offset (Err e) =
    (m ≡ e.message) × ((before : Text) × (pattern ≡ before ++ e.place) × (offset ≡ Some (length (encode_utf8_all before))))

-- the grammar's function refuses a pattern by a message at an offset exactly if the pattern has that message there
abbrev pub ReaderRefusesAt : Type 0
ReaderRefusesAt =
    (pattern : Text) (flags : Flags) (nest_limit : ℕ) (m : Message) (offset : Option ℕ) →
    FaultAt pattern flags nest_limit m offset ↔ IsRefusedAt nest_limit pattern m offset (read ranges_of nest_limit pattern flags)

-- a program can hold the tree of a pattern
abbrev pub ReadIsCompilable : Type 0
ReadIsCompilable = (pattern : Text) (flags : Flags) (t : Tree) → Reads pattern flags t → IsCompilable t

-- a class in brackets whose reading stops is not also read
abbrev pub StuckBracketIsNotRead : Type 0
StuckBracketIsNotRead =
    (flags : Flags) (t rest place : Text) (ranges : List Range) (m : Message) →
    StuckBracket flags t m place → ReadsBracket flags t ranges rest → ⊥
