-- Templates: each is cut in one way, and stands for one text.
pub mod CuttingLemmas
pub mod TemplateLemmas
pub mod TemplateTexts
pub mod ExpansionLemmas
