-- The pieces of a line's text.
use Rattle.std.proofs.Common.{◌≡◌, ℕ, true, List, [], ◌∷◌, ◌++◌, refl, sym, ap, ◌∙◌, arith}
use Rattle.std.specs.Prelude.{codes, decimal}
use Rattle.std.proofs.lemmas.List.{append-nil}
use Rattle.text_lines.specs.Lines.{split}
use Rattle.text_lines.proofs.Splits.{all_lack, lacks, lacks-separated, rejoined}
use Rattle.expression_text.specs.declared.word.Word.{Word}
use Rattle.expression_text.specs.Spelling.{spell, spell_value}
use Rattle.expression_text.specs.WordText.{spaced}
use Rattle.image_text.specs.Range.{AreInRange, all_pieces, pieces}
use Rattle.image_text.proofs.WordBytes.{lack_feeds, lack_more, line_pieces as pieces_behind, one_lacks, two_lack}
use Rattle.image_lines.specs.declared.line.Line.{Line}
use Rattle.image_lines.specs.declared.line.Line.TheVariants.{Chan, Ref, Out, Thread, End}
use Rattle.image_lines.specs.LineText.{IsLine, line_text}
use Rattle.image_lines.specs.ReadBack.{has_no_feed}

abbrev pub line_pieces : Line → List (List ℕ)
line_pieces (Chan c) = codes "chan" ∷ decimal c.0 ∷ []
line_pieces (Ref r v) = codes "ref" ∷ decimal r.0 ∷ all_pieces (spell_value v)
line_pieces (Out v) = codes "out" ∷ all_pieces (spell_value v)
line_pieces (Thread t g e) = codes "thread" ∷ decimal t.0 ∷ decimal g ∷ all_pieces (spell e)
line_pieces End = codes "end" ∷ []

pub text_pieces : (l : Line) → IsLine l → split 32 (line_text l) ≡ line_pieces l
text_pieces (Chan c) h =
    let small = h.1 in
    ap (split 32) (sym (append-nil (codes "chan" ++ spaced (decimal c.0 ∷ [])))) ∙ pieces_behind (codes "chan") (decimal c.0 ∷ []) [] refl (one_lacks 32 c.0 (omega arith) (omega arith)) tt
text_pieces (Ref r v) h =
    let small = h.0.1 in
    pieces_behind (codes "ref") (decimal r.0 ∷ []) (spell_value v) refl (one_lacks 32 r.0 (omega arith) (omega arith)) h.1.range
text_pieces (Out v) h = pieces_behind (codes "out") [] (spell_value v) refl refl h.range
text_pieces (Thread t g e) h =
    let small = h.0.1 in
    let few = h.1 in
    pieces_behind (codes "thread") (decimal t.0 ∷ decimal g ∷ []) (spell e) refl (two_lack 32 t.0 g (omega arith) (omega arith) (omega arith)) h.2.range
text_pieces End h = refl

-- no piece has a line feed
all_lack_feeds : (ws : List Word) → AreInRange ws → all_lack 10 (all_pieces ws) ≡ true
all_lack_feeds [] h = refl
all_lack_feeds (word ∷ ws) h = lack_more 10 (pieces word) (all_pieces ws) (lack_feeds word h.0) (all_lack_feeds ws h.1)

no_feed : (bytes first : List ℕ) (others : List (List ℕ)) → split 32 bytes ≡ first ∷ others → lacks 10 first ≡ true → all_lack 10 others ≡ true → lacks 10 bytes ≡ true
no_feed bytes first others is h k = ap (lacks 10) (rejoined 32 bytes first others is) ∙ lacks-separated 32 10 first others refl h k

pub text_lacks_feeds : (l : Line) → IsLine l → has_no_feed (line_text l) ≡ true
text_lacks_feeds (Chan c) h =
    let small = h.1 in
    no_feed (line_text (Chan c)) (codes "chan") (decimal c.0 ∷ []) (text_pieces (Chan c) h) refl (one_lacks 10 c.0 (omega arith) (omega arith))
text_lacks_feeds (Ref r v) h =
    let small = h.0.1 in
    no_feed (line_text (Ref r v)) (codes "ref") (decimal r.0 ∷ all_pieces (spell_value v)) (text_pieces (Ref r v) h) refl
    (lack_more 10 (decimal r.0 ∷ []) (all_pieces (spell_value v)) (one_lacks 10 r.0 (omega arith) (omega arith)) (all_lack_feeds (spell_value v) h.1.range))
text_lacks_feeds (Out v) h = no_feed (line_text (Out v)) (codes "out") (all_pieces (spell_value v)) (text_pieces (Out v) h) refl (all_lack_feeds (spell_value v) h.range)
text_lacks_feeds (Thread t g e) h =
    let small = h.0.1 in
    let few = h.1 in
    no_feed (line_text (Thread t g e)) (codes "thread") (decimal t.0 ∷ decimal g ∷ all_pieces (spell e)) (text_pieces (Thread t g e) h) refl
    (lack_more 10 (decimal t.0 ∷ decimal g ∷ []) (all_pieces (spell e)) (two_lack 10 t.0 g (omega arith) (omega arith) (omega arith)) (all_lack_feeds (spell e) h.2.range))
text_lacks_feeds End h = refl
