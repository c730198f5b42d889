-- The lines before those of a state are read as they are written.
use Rattle.std.proofs.Common.{◌≡◌, ℕ, ℤ, pos, negsuc, ◌<◌, ◌≤◌, ◌^◌, true, cond, List, [], ◌∷◌, length, Option, Some, Ok, Err, refl, ap, ◌∙◌, arith}
use Rattle.std.specs.Prelude.{FitsSigned, codes, decimal}
use Rattle.std.specs.Fmt.{signed_decimal}
use Rattle.std.specs.Int.{w64}
use Rattle.std.proofs.lemmas.Bool.{and_from, and_parts}
use Rattle.std.proofs.lemmas.Fmt.{decimal_nonempty}
use Rattle.text_lines.specs.Lines.{split}
use Rattle.text_lines.specs.Numeral.{number_in}
use Rattle.text_lines.proofs.Numerals.{number_in-decimal}
use Rattle.text_lines.proofs.Splits.{all_lack, lacks, split-whole}
use Rattle.trace_text.specs.Number.{signed_in}
use Rattle.trace_text.proofs.Numerals.{signed_in-decimal}
use Rattle.image_text.specs.declared.fault.LineFault.TheVariants.{BadLine}
use Rattle.image_text.specs.Reading.{is_piece}
use Rattle.image_text.proofs.WordBytes.{lack_more, one_lacks, signed_lacks, two_lack}
use Rattle.image_text.proofs.WordsWritten.{count_piece}
use Rattle.image_lines.specs.declared.head.Next.{Next}
use Rattle.image_lines.specs.declared.head.Probes.{Probes}
use Rattle.image_lines.specs.Head.{length_in, length_of, next_behind, next_in, next_of, probe_in, probe_of, probes_in, probes_of}
use Rattle.image_lines.specs.HeadText.{AreNext, AreProbes, IsLength, IsProbe, length_text, next_text, probe_text, probes_text}
use Rattle.image_lines.specs.ReadBack.{has_no_feed}
use Rattle.image_lines.proofs.Rows.{row_lacks_feeds, row_pieces}

-- a number up to this one is read
count_back : (least most n : ℕ) → least ≤ n → n ≤ most → most ≤ 4294967295 → number_in least most (decimal n) ≡ Some n
count_back least most n low high small = number_in-decimal least most n low high (omega arith)

pub length_pieces : (n : ℕ) → IsLength n → split 32 (length_text n) ≡ codes "program" ∷ decimal n ∷ []
length_pieces n h = row_pieces (codes "program") (decimal n ∷ []) refl (one_lacks 32 n (omega arith) (omega arith))

pub length_back : (n : ℕ) → IsLength n → length_in (split 32 (length_text n)) ≡ Ok n
length_back n h =
    ap length_in (length_pieces n h)
    ∙ ap (λ b. cond b (length_of (number_in 0 1048576 (decimal n))) (Err BadLine)) (count_piece n (omega arith))
    ∙ ap length_of (count_back 0 1048576 n (omega arith) h (omega arith))

pub length_whole : (n : ℕ) → IsLength n → has_no_feed (length_text n) ≡ true
length_whole n h = row_lacks_feeds (codes "program") (decimal n ∷ []) refl (one_lacks 10 n (omega arith) (omega arith))

pub probes_pieces : (p : Probes) → AreProbes p → split 32 (probes_text p) ≡ codes "probes" ∷ decimal p.count ∷ decimal p.used ∷ []
probes_pieces p h =
    let few = h.0 in
    let small = h.1 in
    row_pieces (codes "probes") (decimal p.count ∷ decimal p.used ∷ []) refl (two_lack 32 p.count p.used (omega arith) (omega arith) (omega arith))

pub probes_back : (p : Probes) → AreProbes p → probes_in (split 32 (probes_text p)) ≡ Ok p
probes_back p h =
    let few = h.0 in
    let small = h.1 in
    ap probes_in (probes_pieces p h)
    ∙ ap (λ b. cond b (probes_of (number_in 0 524288 (decimal p.count)) (number_in 0 4294967295 (decimal p.used))) (Err BadLine))
    (and_from (is_piece (decimal p.count)) (is_piece (decimal p.used)) (count_piece p.count (omega arith)) (count_piece p.used h.1))
    ∙ ap (λ (o : Option ℕ). probes_of o (number_in 0 4294967295 (decimal p.used))) (count_back 0 524288 p.count (omega arith) h.0 (omega arith))
    ∙ ap (probes_of (Some p.count)) (count_back 0 4294967295 p.used (omega arith) h.1 (omega arith))

pub probes_whole : (p : Probes) → AreProbes p → has_no_feed (probes_text p) ≡ true
probes_whole p h =
    let few = h.0 in
    let small = h.1 in
    row_lacks_feeds (codes "probes") (decimal p.count ∷ decimal p.used ∷ []) refl (two_lack 10 p.count p.used (omega arith) (omega arith) (omega arith))

some_piece : (a : List ℕ) → 0 < length a → is_piece a ≡ true
some_piece [] h = absurd (omega arith)
some_piece (b ∷ bytes) h = refl

signed_piece : (z : ℤ) → FitsSigned w64 z → is_piece (signed_decimal z) ≡ true
signed_piece (pos n) fits = let small : n < 2 ^ 63 = fits.sfits in some_piece (decimal n) (decimal_nonempty n (omega arith))
signed_piece (negsuc n) fits = refl

signed_alone : (mark : ℕ) (z : ℤ) → mark < 45 → FitsSigned w64 z → lacks mark (signed_decimal z) ≡ true
signed_alone mark z below h = (and_parts (lacks mark (signed_decimal z)) true (signed_lacks mark z below h)).0

pub probe_pieces : (z : ℤ) → IsProbe z → split 32 (probe_text z) ≡ signed_decimal z ∷ []
probe_pieces z h = split-whole 32 (signed_decimal z) (signed_alone 32 z (omega arith) h)

pub probe_back : (z : ℤ) → IsProbe z → probe_in (split 32 (probe_text z)) ≡ Ok z
probe_back z h =
    ap probe_in (probe_pieces z h)
    ∙ ap (λ b. cond b (probe_of (signed_in (signed_decimal z))) (Err BadLine)) (signed_piece z h)
    ∙ ap probe_of (signed_in-decimal z h)

pub probe_whole : (z : ℤ) → IsProbe z → has_no_feed (probe_text z) ≡ true
probe_whole z h = signed_alone 10 z (omega arith) h

next_lacks : (mark : ℕ) (n : Next) → mark < 45 → AreNext n → all_lack mark (decimal n.cut ∷ decimal n.thread ∷ decimal n.chan ∷ decimal n.reference ∷ []) ≡ true
next_lacks mark n below h =
    let q = h.0 in
    let t = h.1.1 in
    let c = h.2.1 in
    let r = h.3.1 in
    lack_more mark (decimal n.cut ∷ decimal n.thread ∷ []) (decimal n.chan ∷ decimal n.reference ∷ [])
    (two_lack mark n.cut n.thread below (omega arith) (omega arith)) (two_lack mark n.chan n.reference below (omega arith) (omega arith))

pub next_pieces : (n : Next) → AreNext n → split 32 (next_text n) ≡ codes "next" ∷ decimal n.cut ∷ decimal n.thread ∷ decimal n.chan ∷ decimal n.reference ∷ []
next_pieces n h = row_pieces (codes "next") (decimal n.cut ∷ decimal n.thread ∷ decimal n.chan ∷ decimal n.reference ∷ []) refl (next_lacks 32 n (omega arith) h)

pub next_back : (n : Next) → AreNext n → next_in (split 32 (next_text n)) ≡ Ok n
next_back n h =
    let t = h.1.1 in
    let c = h.2.1 in
    let r = h.3.1 in
    let thread = number_in 1 4000000001 (decimal n.thread) in
    let channel = number_in 1 4000000001 (decimal n.chan) in
    let reference = number_in 1 4000000001 (decimal n.reference) in
    ap next_in (next_pieces n h)
    ∙ ap (λ b. cond b (next_behind (number_in 0 4294967295 (decimal n.cut)) thread (decimal n.chan ∷ decimal n.reference ∷ [])) (Err BadLine))
    (and_from (is_piece (decimal n.cut)) (is_piece (decimal n.thread)) (count_piece n.cut h.0) (count_piece n.thread (omega arith)))
    ∙ ap (λ b. cond b (next_of (number_in 0 4294967295 (decimal n.cut)) thread channel reference) (Err BadLine))
    (and_from (is_piece (decimal n.chan)) (is_piece (decimal n.reference)) (count_piece n.chan (omega arith)) (count_piece n.reference (omega arith)))
    ∙ ap (λ (o : Option ℕ). next_of o thread channel reference) (count_back 0 4294967295 n.cut (omega arith) h.0 (omega arith))
    ∙ ap (λ (o : Option ℕ). next_of (Some n.cut) o channel reference) (count_back 1 4000000001 n.thread h.1.0 h.1.1 (omega arith))
    ∙ ap (λ (o : Option ℕ). next_of (Some n.cut) (Some n.thread) o reference) (count_back 1 4000000001 n.chan h.2.0 h.2.1 (omega arith))
    ∙ ap (next_of (Some n.cut) (Some n.thread) (Some n.chan)) (count_back 1 4000000001 n.reference h.3.0 h.3.1 (omega arith))

pub next_whole : (n : Next) → AreNext n → has_no_feed (next_text n) ≡ true
next_whole n h = row_lacks_feeds (codes "next") (decimal n.cut ∷ decimal n.thread ∷ decimal n.chan ∷ decimal n.reference ∷ []) refl (next_lacks 10 n (omega arith) h)
