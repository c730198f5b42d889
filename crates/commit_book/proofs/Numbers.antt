-- The numbers that probes get: which calls hand them out, and what a longer script changes.

-- A book whose script has more numbers is a book.
pub mod Fed
-- Which calls hand numbers out, and how many.
pub mod Handing
-- Who asks for a number, in the words of the code.
pub mod Asking
