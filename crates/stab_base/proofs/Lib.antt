pub mod GainLemmas
pub mod TextLemmas
