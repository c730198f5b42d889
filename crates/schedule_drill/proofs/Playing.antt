-- Lines that are played one after another.
use Rattle.std.proofs.Common.{◌≡◌, ℕ, zero, suc, ◌+◌, ◌<◌, List, [], ◌∷◌, ◌++◌, length, take, drop, Option, Some, None, refl, sym, ap, subst, subst₂, ◌∙◌, append-nil, append_assoc, arith}
use Rattle.std.specs.Prelude.{IfSome, slice_index_or}
use Rattle.std.specs.List.{All}
use Rattle.std.proofs.lemmas.List.{take_more}
use Rattle.std.proofs.lemmas.List.Elements.{All-map}
use Rattle.stab_code.specs.JobParts.{JobParts}
use Rattle.commit_book.specs.Book.{IsShown}
use Rattle.drill_text.specs.declared.order.Order.{Order}
use Rattle.drill_text.specs.declared.script.Line.{Line}
use Rattle.drill_text.specs.Order.{HasLease, order_of}
use Rattle.drill_text.specs.Script.{line_of, script_of}
use Rattle.drill_text.proofs.Orders.{order-was}
use Rattle.text_lines.specs.Lines.{lines_of}
use Rattle.drill_text.specs.declared.fault.DrillFault.{DrillFault}
use Rattle.drill_text.specs.declared.fault.DrillFault.TheVariants.{BadLine, NoSuchLease, HeldTwice, NoMemory}
use Rattle.schedule_drill.specs.Drilled.{ArePlayed, IsFaultOf, IsNew, IsRefused, IsStopped}
use Rattle.schedule_drill.specs.Played.{IsPlayed, Stand}

-- one line more
pub played_more : (lines : List Line) (line : Line) (old between new : Stand) (text more : List ℕ) → ArePlayed lines old text between → IsPlayed between new line more → IsShown new.book → ArePlayed (lines ++ line ∷ []) old (text ++ more) new
played_more [] line old between new text more are is shown = record {
  next = new;
  written = more;
  more = [];
  played = subst (λ (s : Stand). IsPlayed s new line more) are.1 is;
  shown = shown;
  follows = (refl, refl);
  text_is = ap (λ t. t ++ more) are.0 ∙ sym (append-nil more);
}
played_more (first ∷ lines) line old between new text more are is shown = record {
  next = are.next;
  written = are.written;
  more = are.more ++ more;
  played = are.played;
  shown = are.shown;
  follows = played_more lines line are.next between new are.more more are.follows is shown;
  text_is = ap (λ t. t ++ more) are.text_is ∙ append_assoc are.written are.more more;
}

-- a line that isn't played stops those before it
pub stops : (old last : Stand) (script before behind : List Line) (line : Line) (text : List ℕ) → script ≡ before ++ line ∷ behind → ArePlayed before old text last → (fault : DrillFault) → IsFaultOf last.out line fault → IsStopped old script fault
stops old last script before behind line text is are NoMemory faulty = tt
stops old last script before behind line text is are (BadLine at) faulty = record { before = before; line = line; behind = behind; script_is = is; text = text; last = last; played = are; faulty = faulty }
stops old last script before behind line text is are (NoSuchLease at) faulty = record { before = before; line = line; behind = behind; script_is = is; text = text; last = last; played = are; faulty = faulty }
stops old last script before behind line text is are (HeldTwice at) faulty = record { before = before; line = line; behind = behind; script_is = is; text = text; last = last; played = are; faulty = faulty }

-- ---- by places

pub cut_at : (lines : List Line) (i : ℕ) (d : Line) → i < length lines → lines ≡ take i lines ++ slice_index_or lines i d ∷ drop (suc i) lines
cut_at [] i d less = absurd (omega (arith, less))
cut_at (line ∷ lines) zero d less = refl
cut_at (line ∷ lines) (suc i) d less = ap (λ ls. line ∷ ls) (cut_at lines i d (omega (arith, less)))

pub stops_at : (old last : Stand) (script : List Line) (i : ℕ) (d : Line) (text : List ℕ) → i < length script → ArePlayed (take i script) old text last → (fault : DrillFault) → IsFaultOf last.out (slice_index_or script i d) fault → IsStopped old script fault
stops_at old last script i d text less are = stops old last script (take i script) (drop (suc i) script) (slice_index_or script i d) text (cut_at script i d less) are

pub played_next : (old between new : Stand) (script : List Line) (i : ℕ) (d : Line) (text more all : List ℕ) → i < length script → ArePlayed (take i script) old text between → IsPlayed between new (slice_index_or script i d) more → IsShown new.book → all ≡ text ++ more → ArePlayed (take (i + 1) script) old all new
played_next old between new script i d text more all less are is shown same =
    subst₂ (λ ls t. ArePlayed ls old t new) (sym (take_more script i d less)) (sym same) (played_more (take i script) (slice_index_or script i d) old between new text more are is shown)

-- ---- a script

pub refuses : (job : JobParts) (script : List Line) (first : Stand) → IsNew job first → (fault : DrillFault) → IsStopped first script fault → IsRefused job script fault
refuses job script first new NoMemory stopped = tt
refuses job script first new (BadLine at) stopped = (first, new, stopped)
refuses job script first new (NoSuchLease at) stopped = (first, new, stopped)
refuses job script first new (HeldTwice at) stopped = (first, new, stopped)

-- the leases of the orders of a script have numbers from 1 to 64
numbered : (text : List ℕ) → IfSome (order_of text) HasLease
numbered text = by (order_of text) refl
  where
    by : (o : Option Order) → order_of text ≡ o → IfSome o HasLease
    by None is = tt
    by (Some order) is = (order-was text order is).1

pub all_numbered : (bytes : List ℕ) → All (λ (line : Line). IfSome line.order HasLease) (script_of bytes)
all_numbered bytes = All-map (λ (line : Line). IfSome line.order HasLease) line_of (lines_of bytes) (λ k d less. numbered (slice_index_or (lines_of bytes) k d).1)
