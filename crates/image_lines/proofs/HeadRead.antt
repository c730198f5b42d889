-- Pieces that are read as a line before those of a state are those of the line.
use Rattle.std.proofs.Common.{◌≡◌, ℕ, ℤ, true, false, ◌&&◌, cond, List, [], ◌∷◌, Option, Some, None, Ok, Err, refl, sym, ap, subst, ◌∙◌, arith}
use Rattle.std.specs.Prelude.{codes, decimal}
use Rattle.std.specs.Fmt.{signed_decimal}
use Rattle.std.specs.Str.{bytes_eq}
use Rattle.std.proofs.lemmas.Bool.{and_parts}
use Rattle.text_lines.specs.Lines.{split}
use Rattle.text_lines.specs.Numeral.{number_in}
use Rattle.text_lines.proofs.Numerals.{number_in-some}
use Rattle.trace_text.specs.Number.{signed_in}
use Rattle.trace_text.proofs.Numerals.{signed_in-some}
use Rattle.image_text.specs.declared.fault.LineFault.TheVariants.{BadLine, BadNumber}
use Rattle.image_text.specs.Reading.{is_piece}
use Rattle.image_lines.specs.declared.head.Next.{Next}
use Rattle.image_lines.specs.declared.head.Probes.{Probes}
use Rattle.image_lines.specs.Head.{length_in, length_of, next_behind, next_in, next_named, next_of, probe_in, probe_of, probes_in, probes_of}
use Rattle.image_lines.specs.HeadText.{AreNext, AreProbes, IsLength, IsNext, IsProbe, length_text, next_text, probe_text, probes_text}
use Rattle.image_lines.proofs.HeadWritten.{length_pieces, next_pieces, probe_pieces, probes_pieces}
use Rattle.image_lines.proofs.Rows.{named_so, no_ok, ok_was, same_bytes}

-- pieces that were read
record IsRead {X : Type 0} (pieces : X → List (List ℕ)) (IsRight : X → Type 0) (ps : List (List ℕ)) (x : X) : Type 0 where
  pieces_are : ps ≡ pieces x
  right : IsRight x

-- bytes whose pieces were read
bytes_from : {X : Type 0} (text : X → List ℕ) (pieces : X → List (List ℕ)) (IsRight : X → Type 0) (bytes : List ℕ) (x : X) → ((y : X) → IsRight y → split 32 (text y) ≡ pieces y) → IsRead pieces IsRight (split 32 bytes) x → (bytes ≡ text x) × IsRight x
bytes_from text pieces IsRight bytes x split_so was = (same_bytes bytes (text x) (was.pieces_are ∙ sym (split_so x was.right)), was.right)

abbrev length_parts : ℕ → List (List ℕ)
length_parts n = codes "program" ∷ decimal n ∷ []

length_was : (ps : List (List ℕ)) (x : ℕ) → length_in ps ≡ Ok x → IsRead length_parts IsLength ps x
length_was (name ∷ a ∷ []) x given =
    elim (bytes_eq name (codes "program") && is_piece a) as (λ b. (bytes_eq name (codes "program") && is_piece a) ≡ b → cond b (length_of (number_in 0 1048576 a)) (Err BadLine) ≡ Ok x → IsRead length_parts IsLength (name ∷ a ∷ []) x) [
      | false ↦ λ test h. no_ok BadLine x h
      | true ↦ λ test h.
          elim (number_in 0 1048576 a) as (λ o. number_in 0 1048576 a ≡ o → length_of o ≡ Ok x → IsRead length_parts IsLength (name ∷ a ∷ []) x) [
            | None ↦ λ is k. no_ok BadNumber x k
            | (Some n) ↦ λ is k.
                let was = number_in-some 0 1048576 a n (omega arith) is in
                let named = named_so name (codes "program") (and_parts (bytes_eq name (codes "program")) (is_piece a) test).0 in
                subst (IsRead length_parts IsLength (name ∷ a ∷ [])) (ok_was n x k) (record {
                  pieces_are = ap (λ (m : List ℕ). m ∷ a ∷ []) named ∙ ap (λ (d : List ℕ). codes "program" ∷ d ∷ []) was.spelled;
                  right = was.high;
                })
          ] refl h
    ] refl given
length_was ps x h = no_ok BadLine x h

pub length_exact : (bytes : List ℕ) (x : ℕ) → length_in (split 32 bytes) ≡ Ok x → (bytes ≡ length_text x) × IsLength x
length_exact bytes x h = bytes_from length_text length_parts IsLength bytes x length_pieces (length_was (split 32 bytes) x h)

abbrev probes_parts : Probes → List (List ℕ)
probes_parts p = codes "probes" ∷ decimal p.count ∷ decimal p.used ∷ []

probes_was : (ps : List (List ℕ)) (x : Probes) → probes_in ps ≡ Ok x → IsRead probes_parts AreProbes ps x
probes_was (name ∷ a ∷ b ∷ []) x given =
    elim (bytes_eq name (codes "probes") && (is_piece a && is_piece b)) as (λ t. (bytes_eq name (codes "probes") && (is_piece a && is_piece b)) ≡ t → cond t (probes_of (number_in 0 524288 a) (number_in 0 4294967295 b)) (Err BadLine) ≡ Ok x → IsRead probes_parts AreProbes (name ∷ a ∷ b ∷ []) x) [
      | false ↦ λ test h. no_ok BadLine x h
      | true ↦ λ test h.
          elim (number_in 0 524288 a) as (λ o. number_in 0 524288 a ≡ o → probes_of o (number_in 0 4294967295 b) ≡ Ok x → IsRead probes_parts AreProbes (name ∷ a ∷ b ∷ []) x) [
            | None ↦ λ is k. no_ok BadNumber x k
            | (Some n) ↦ λ is more. elim (number_in 0 4294967295 b) as (λ o. number_in 0 4294967295 b ≡ o → probes_of (Some n) o ≡ Ok x → IsRead probes_parts AreProbes (name ∷ a ∷ b ∷ []) x) [
              | None ↦ λ no k. no_ok BadNumber x k
              | (Some m) ↦ λ many k.
                  let was = number_in-some 0 524288 a n (omega arith) is in
                  let used = number_in-some 0 4294967295 b m (omega arith) many in
                  let named = named_so name (codes "probes") (and_parts (bytes_eq name (codes "probes")) (is_piece a && is_piece b) test).0 in
                  subst (IsRead probes_parts AreProbes (name ∷ a ∷ b ∷ [])) (ok_was (record { count = n; used = m }) x k) (record {
                    pieces_are =
                        ap (λ (t : List ℕ). t ∷ a ∷ b ∷ []) named ∙ ap (λ (d : List ℕ). codes "probes" ∷ d ∷ b ∷ []) was.spelled
                        ∙ ap (λ (d : List ℕ). codes "probes" ∷ decimal n ∷ d ∷ []) used.spelled;
                    right = (was.high, used.high);
                  })
            ] refl more
          ] refl h
    ] refl given
probes_was ps x h = no_ok BadLine x h

pub probes_exact : (bytes : List ℕ) (x : Probes) → probes_in (split 32 bytes) ≡ Ok x → (bytes ≡ probes_text x) × AreProbes x
probes_exact bytes x h = bytes_from probes_text probes_parts AreProbes bytes x probes_pieces (probes_was (split 32 bytes) x h)

abbrev probe_parts : ℤ → List (List ℕ)
probe_parts z = signed_decimal z ∷ []

probe_was : (ps : List (List ℕ)) (x : ℤ) → probe_in ps ≡ Ok x → IsRead probe_parts IsProbe ps x
probe_was (a ∷ []) x given =
    (elim (is_piece a) as (λ b. cond b (probe_of (signed_in a)) (Err BadLine) ≡ Ok x → IsRead probe_parts IsProbe (a ∷ []) x) [
      | false ↦ λ h. no_ok BadLine x h
      | true ↦ λ h.
          elim (signed_in a) as (λ o. signed_in a ≡ o → probe_of o ≡ Ok x → IsRead probe_parts IsProbe (a ∷ []) x) [
            | None ↦ λ is k. no_ok BadNumber x k
            | (Some z) ↦ λ is k.
                let was = signed_in-some a z is in
                subst (IsRead probe_parts IsProbe (a ∷ [])) (ok_was z x k) (record { pieces_are = ap (λ (d : List ℕ). d ∷ []) was.spelled; right = was.fits })
          ] refl h
    ]) given
probe_was ps x h = no_ok BadLine x h

pub probe_exact : (bytes : List ℕ) (x : ℤ) → probe_in (split 32 bytes) ≡ Ok x → (bytes ≡ probe_text x) × IsProbe x
probe_exact bytes x h = bytes_from probe_text probe_parts IsProbe bytes x probe_pieces (probe_was (split 32 bytes) x h)

abbrev next_parts : Next → List (List ℕ)
next_parts n = codes "next" ∷ decimal n.cut ∷ decimal n.thread ∷ decimal n.chan ∷ decimal n.reference ∷ []

-- the numbers that were read
four_were : (q t c r : Option ℕ) (x : Next) → next_of q t c r ≡ Ok x → (q ≡ Some x.cut) × (t ≡ Some x.thread) × (c ≡ Some x.chan) × (r ≡ Some x.reference)
four_were (Some q) (Some t) (Some c) (Some r) x h =
    let same = ok_was (record { cut = q; thread = t; chan = c; reference = r }) x h in
    (ap (λ (n : Next). Some n.cut) same, ap (λ (n : Next). Some n.thread) same, ap (λ (n : Next). Some n.chan) same, ap (λ (n : Next). Some n.reference) same)
four_were q t c r x h = no_ok BadNumber x h

-- the numbers of a channel and a reference
record AreLast (q t : Option ℕ) (ps : List (List ℕ)) (x : Next) : Type 0 where
  pieces_are : ps ≡ decimal x.chan ∷ decimal x.reference ∷ []
  cut : q ≡ Some x.cut
  thread : t ≡ Some x.thread
  right : IsNext x.chan × IsNext x.reference

last_were : (q t : Option ℕ) (ps : List (List ℕ)) (x : Next) → next_behind q t ps ≡ Ok x → AreLast q t ps x
last_were q t (c ∷ r ∷ []) x given =
    (elim (is_piece c && is_piece r) as (λ b. cond b (next_of q t (number_in 1 4000000001 c) (number_in 1 4000000001 r)) (Err BadLine) ≡ Ok x → AreLast q t (c ∷ r ∷ []) x) [
      | false ↦ λ h. no_ok BadLine x h
      | true ↦ λ h.
          let four = four_were q t (number_in 1 4000000001 c) (number_in 1 4000000001 r) x h in
          let channel = number_in-some 1 4000000001 c x.chan (omega arith) four.2 in
          let reference = number_in-some 1 4000000001 r x.reference (omega arith) four.3 in
          record {
            pieces_are = ap (λ (d : List ℕ). d ∷ r ∷ []) channel.spelled ∙ ap (λ (d : List ℕ). decimal x.chan ∷ d ∷ []) reference.spelled;
            cut = four.0;
            thread = four.1;
            right = ((channel.low, channel.high), (reference.low, reference.high));
          }
    ]) given
last_were q t ps x h = no_ok BadLine x h

abbrev behind_name : Next → List (List ℕ)
behind_name n = decimal n.cut ∷ decimal n.thread ∷ decimal n.chan ∷ decimal n.reference ∷ []

named_were : (ps : List (List ℕ)) (x : Next) → next_named ps ≡ Ok x → IsRead behind_name AreNext ps x
named_were (q ∷ t ∷ ps) x given =
    (elim (is_piece q && is_piece t) as (λ b. cond b (next_behind (number_in 0 4294967295 q) (number_in 1 4000000001 t) ps) (Err BadLine) ≡ Ok x → IsRead behind_name AreNext (q ∷ t ∷ ps) x) [
      | false ↦ λ h. no_ok BadLine x h
      | true ↦ λ h.
          let last = last_were (number_in 0 4294967295 q) (number_in 1 4000000001 t) ps x h in
          let cut = number_in-some 0 4294967295 q x.cut (omega arith) last.cut in
          let thread = number_in-some 1 4000000001 t x.thread (omega arith) last.thread in
          record {
            pieces_are =
                ap (λ (d : List ℕ). d ∷ t ∷ ps) cut.spelled
                ∙ ap (λ (d : List ℕ). decimal x.cut ∷ d ∷ ps) thread.spelled
                ∙ ap (λ (qs : List (List ℕ)). decimal x.cut ∷ decimal x.thread ∷ qs) last.pieces_are;
            right = (cut.high, (thread.low, thread.high), last.right.0, last.right.1);
          }
    ]) given
named_were ps x h = no_ok BadLine x h

next_was : (ps : List (List ℕ)) (x : Next) → next_in ps ≡ Ok x → IsRead next_parts AreNext ps x
next_was [] x h = no_ok BadLine x h
next_was (name ∷ ps) x given =
    elim (bytes_eq name (codes "next")) as (λ b. bytes_eq name (codes "next") ≡ b → cond b (next_named ps) (Err BadLine) ≡ Ok x → IsRead next_parts AreNext (name ∷ ps) x) [
      | false ↦ λ test h. no_ok BadLine x h
      | true ↦ λ test h.
          let were = named_were ps x h in
          record {
            pieces_are = ap (λ (m : List ℕ). m ∷ ps) (named_so name (codes "next") test) ∙ ap (λ (qs : List (List ℕ)). codes "next" ∷ qs) were.pieces_are;
            right = were.right;
          }
    ] refl given

pub next_exact : (bytes : List ℕ) (x : Next) → next_in (split 32 bytes) ≡ Ok x → (bytes ≡ next_text x) × AreNext x
next_exact bytes x h = bytes_from next_text next_parts AreNext bytes x next_pieces (next_was (split 32 bytes) x h)
