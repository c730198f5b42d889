-- The laws of books, and that a book crosses threads.

-- A run has printed as many values as it has prints, and a cut makes all of them final.
pub mod PrintCounts
-- Of the printed values those stay whose prints stay, of which only the ones since the last cut need to be known.
pub mod StayPrinted
-- What a book keeps crosses threads, which is shown by itself, since a search over all parts of a book ends at a limit.
pub mod Crossing
-- What is final stays printed, and what was released is final.
pub mod Firm
-- What stands behind the laws of books: each event was due where it came, and what is final or pinned stays.
pub mod LawfulBooks
