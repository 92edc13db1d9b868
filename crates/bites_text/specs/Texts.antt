-- The numbers and texts of the errors.
use Rattle.std.specs.Prelude.{◌≡◌, ℕ, List, codes, Option, Some, None}
use Rattle.bites_spec.specs.Message.{Message, Entry, entry, entry_of, message_text}
use Rattle.bites_text.specs.declared.error.Error.{Error}
use Rattle.bites_text.specs.declared.error.Error.TheVariants.{TooBig, TooManyStates, TooManySlots}
use Rattle.bites_text.specs.Messages.{error_of, message_of}

-- the number and text of an error: those of its message, or those of one of the compiler's, or those of out of memory
abbrev entry_with : Option Message → Error → Entry
entry_with (Some m) e = entry_of m
entry_with None TooBig = entry 55 (codes "compiled regex exceeded size limit")
entry_with None TooManyStates = entry 56 (codes "exhausted state IDs, too many states")
entry_with None TooManySlots = entry 57 (codes "capture group slots exhausted")
entry_with None e = entry 58 (codes "out of memory")

abbrev pub error_text : Error → List ℕ
error_text e = (entry_with (message_of e) e).text

abbrev pub code_of : Error → ℕ
code_of e = (entry_with (message_of e) e).number

-- the error of a message has the message's text, and the message can be told from it
abbrev pub TextsAgree : Type 0
TextsAgree = (m : Message) → (error_text (error_of m) ≡ message_text m) × (message_of (error_of m) ≡ Some m)
