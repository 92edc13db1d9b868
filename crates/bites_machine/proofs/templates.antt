-- Templates: the parts that they are cut into.
pub mod InterpolateLemmas
pub mod InterpolateTexts
