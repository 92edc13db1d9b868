-- Characters of a pattern: runs of them, digits and escapes, in the reader and in the grammar.
pub mod EachLemmas
pub mod EscapeLemmas
pub mod DigitLemmas
pub mod ChoiceParts
pub mod AsciiNames
