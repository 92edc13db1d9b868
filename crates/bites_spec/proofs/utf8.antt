-- UTF-8: pieces, places and borders.
pub mod PieceLemmas
pub mod AsciiPieces
pub mod ScalarPieces
pub mod StartLemmas
