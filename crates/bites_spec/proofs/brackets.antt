-- Classes in brackets: the reader agrees with the grammar.
pub mod BracketText
pub mod BracketEscapes
pub mod BracketMeans
pub mod BracketLeads
pub mod BracketFirst
pub mod BracketLemmas
