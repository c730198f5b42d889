pub mod AllForms
pub mod Crossing
pub mod InOrder
pub mod LaidOut
pub mod Lists
pub mod Stored
pub mod Trees
pub mod ValidLemmas
