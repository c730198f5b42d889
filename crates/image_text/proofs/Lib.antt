pub mod Left
pub mod Going
pub mod Those
pub mod WordsWritten
pub mod WordsRead
pub mod WordsSoFar
pub mod WordBytes
pub mod ExpressionLaws
