-- The lines of a state are read from their text and from no other bytes.
use Rattle.std.proofs.Common.{◌≡◌, ℕ, ◌+◌, true, false, cond, List, [], ◌∷◌, length, Option, Some, None, Result, Ok, Err, refl, sym, ap, ◌∙◌}
use Rattle.std.specs.Prelude.{codes}
use Rattle.std.proofs.lemmas.Bool.{false≢true}
use Rattle.text_lines.specs.Lines.{split}
use Rattle.text_lines.proofs.Splits.{split-first}
use Rattle.image_text.specs.declared.fault.LineFault.{LineFault}
use Rattle.image_text.specs.declared.fault.LineFault.TheVariants.{BadLine}
use Rattle.image_lines.specs.declared.body.TextFault.{TextFault}
use Rattle.image_lines.specs.declared.body.TextFault.TheVariants.{At, NoEnd}
use Rattle.image_lines.specs.declared.line.Line.{Line}
use Rattle.image_lines.specs.declared.line.Line.TheVariants.{Chan, Ref, Out, Thread, End}
use Rattle.image_lines.specs.Body.{Body, before, behind_end, follow, is_end, no_lines, read_lines}
use Rattle.image_lines.specs.BodyText.{AreLines, IsBody, body_text, placed}
use Rattle.image_lines.specs.Line.{line_in}
use Rattle.image_lines.specs.LineText.{IsLine, line_text}
use Rattle.image_lines.proofs.CutLines.{same_lines}
use Rattle.image_lines.proofs.LinePieces.{text_lacks_feeds, text_pieces}
use Rattle.image_lines.proofs.LinesRead.{bytes_were}
use Rattle.image_lines.proofs.LinesWritten.{line_back}

abbrev made : List (ℕ × Line) → Option TextFault → Body
made ls fault = record { lines = ls; fault = fault }

-- the pieces between the line feeds
abbrev body_lines : List Line → List (List ℕ)
body_lines [] = codes "end" ∷ [] ∷ []
body_lines (l ∷ ls) = line_text l ∷ body_lines ls

body_split : (ls : List Line) → AreLines ls → split 10 (body_text ls) ≡ body_lines ls
body_split [] right = refl
body_split (l ∷ ls) right = split-first 10 (line_text l) (body_text ls) (text_lacks_feeds l right.0.0) ∙ ap (λ (ps : List (List ℕ)). line_text l ∷ ps) (body_split ls right.1)

read_more : (at : ℕ) (text : List ℕ) (ls : List Line) → read_lines at (text ∷ body_lines ls) ≡ follow (line_in (split 32 text)) at (at + length text + 1) (body_lines ls) (read_lines (at + length text + 1) (body_lines ls))
read_more at text [] = refl
read_more at text (l ∷ ls) = refl

lines_back : (at : ℕ) (ls : List Line) → AreLines ls → read_lines at (body_lines ls) ≡ made (placed at ls) None
lines_back at [] right = refl
lines_back at (l ∷ ls) right =
    let next = at + length (line_text l) + 1 in
    let others = read_lines (at + length (line_text l) + 1) (body_lines ls) in
    read_more at (line_text l) ls
    ∙ ap (λ (r : Result Line LineFault). follow r at (at + length (line_text l) + 1) (body_lines ls) (read_lines (at + length (line_text l) + 1) (body_lines ls))) (ap line_in (text_pieces l right.0.0) ∙ line_back l right.0.0)
    ∙ ap (λ b. cond b (no_lines (behind_end (at + length (line_text l) + 1) (body_lines ls))) (before ((at, l) ∷ []) (read_lines (at + length (line_text l) + 1) (body_lines ls)))) right.0.1
    ∙ ap (before ((at, l) ∷ [])) (lines_back (at + length (line_text l) + 1) ls right.1)

pub body_back : (at : ℕ) (ls : List Line) → AreLines ls → read_lines at (split 10 (body_text ls)) ≡ made (placed at ls) None
body_back at ls right = ap (read_lines at) (body_split ls right) ∙ lines_back at ls right

-- pieces that were read
record ArePieces (at : ℕ) (ps : List (List ℕ)) (b : Body) : Type 0 where
  lines : List Line
  right : AreLines lines
  pieces_are : ps ≡ body_lines lines
  places : b.lines ≡ placed at lines

no_fault : {P : Type 0} (k : TextFault) (b : Body) → no_lines (Some k) ≡ b → b.fault ≡ None → P
no_fault k b h none = absurd (let no : ◌≡◌ {A = Option TextFault} (Some k) None = ap (λ (x : Body). x.fault) h ∙ none in cc)

end_was : (l : Line) → is_end l ≡ true → l ≡ End
end_was (Chan c) h = absurd (false≢true h)
end_was (Ref r v) h = absurd (false≢true h)
end_was (Out v) h = absurd (false≢true h)
end_was (Thread t g e) h = absurd (false≢true h)
end_was End h = refl

last_was : (at next : ℕ) (text : List ℕ) (l : Line) (p : List ℕ) (ps : List (List ℕ)) (b : Body) → text ≡ line_text l → is_end l ≡ true → no_lines (behind_end next (p ∷ ps)) ≡ b → b.fault ≡ None → ArePieces at (text ∷ p ∷ ps) b
last_was at next text l [] [] b named last h none = record {
  lines = [];
  right = tt;
  pieces_are = ap (λ (t : List ℕ). t ∷ [] ∷ []) (named ∙ ap line_text (end_was l last));
  places = sym (ap (λ (x : Body). x.lines) h);
}
last_was at next text l [] (q ∷ ps) b named last h none = no_fault (At BadLine next) b h none
last_was at next text l (c ∷ p) ps b named last h none = no_fault (At BadLine next) b h none

more_were : (at : ℕ) (text : List ℕ) (l : Line) (ps : List (List ℕ)) (others b : Body) → text ≡ line_text l → IsLine l → is_end l ≡ false → before ((at, l) ∷ []) others ≡ b → ArePieces (at + length text + 1) ps others → ArePieces at (text ∷ ps) b
more_were at text l ps others b named is more h were = record {
  lines = l ∷ were.lines;
  right = ((is, more), were.right);
  pieces_are = ap (λ (t : List ℕ). t ∷ ps) named ∙ ap (λ (qs : List (List ℕ)). line_text l ∷ qs) were.pieces_are;
  places =
      sym (ap (λ (x : Body). x.lines) h) ∙ ap (λ (xs : List (ℕ × Line)). (at, l) ∷ xs) were.places
      ∙ ap (λ (t : List ℕ). (at, l) ∷ placed (at + length t + 1) were.lines) named;
}

pieces_were : (at : ℕ) (ps : List (List ℕ)) (b : Body) → read_lines at ps ≡ b → b.fault ≡ None → ArePieces at ps b
pieces_were at [] b h none = no_fault NoEnd b h none
pieces_were at (text ∷ []) b h none = no_fault NoEnd b h none
pieces_were at (text ∷ next ∷ ps) b given none =
    elim (line_in (split 32 text)) as (λ r. line_in (split 32 text) ≡ r → follow r at (at + length text + 1) (next ∷ ps) (read_lines (at + length text + 1) (next ∷ ps)) ≡ b → ArePieces at (text ∷ next ∷ ps) b) [
      | (Err k) ↦ λ is h. no_fault (At k at) b h none
      | (Ok l) ↦ λ is h.
          let was = bytes_were text l is in
          elim (is_end l) as (λ t. is_end l ≡ t → cond t (no_lines (behind_end (at + length text + 1) (next ∷ ps))) (before ((at, l) ∷ []) (read_lines (at + length text + 1) (next ∷ ps))) ≡ b → ArePieces at (text ∷ next ∷ ps) b) [
            | true ↦ λ last k. last_was at (at + length text + 1) text l next ps b was.0 last k none
            | false ↦ λ more k.
                more_were at text l (next ∷ ps) (read_lines (at + length text + 1) (next ∷ ps)) b was.0 was.1 more k
                (pieces_were (at + length text + 1) (next ∷ ps) (read_lines (at + length text + 1) (next ∷ ps)) refl (ap (λ (x : Body). x.fault) k ∙ none))
          ] refl h
    ] refl given

pub body_was : (at : ℕ) (bytes : List ℕ) (b : Body) → read_lines at (split 10 bytes) ≡ b → b.fault ≡ None → IsBody at bytes b
body_was at bytes b h none =
    let were = pieces_were at (split 10 bytes) b h none in
    record {
      lines = were.lines;
      right = were.right;
      bytes_are = same_lines bytes (body_text were.lines) (were.pieces_are ∙ sym (body_split were.lines were.right));
      places = were.places;
    }
