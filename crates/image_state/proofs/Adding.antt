-- One line more.
use Rattle.std.proofs.Common.{◌≡◌, ℕ, suc, ◌+◌, ◌<◌, Bool, true, false, List, [], ◌∷◌, ◌++◌, length, get_or, take, refl, sym, ap, ◌∙◌}
use Rattle.std.specs.Prelude.{◌||◌, map}
use Rattle.std.specs.List.{filter_map, list_any}
use Rattle.std.specs.Ordering.{nat_cmp}
use Rattle.std.specs.BTreeSet.{contains}
use Rattle.std.proofs.lemmas.List.{append-nil, map-append, take_more}
use Rattle.std.proofs.lemmas.List.Elements.{filter_map-append}
use Rattle.std.proofs.lemmas.List.Folds.{list_any-append}
use Rattle.image_lines.specs.declared.line.Line.{Line}
use Rattle.image_lines.specs.declared.line.Line.TheVariants.{Chan, Ref, Out, Thread, End}
use Rattle.image_state.specs.declared.named.Named.{Named}
use Rattle.image_state.specs.Held.{AreNamed}
use Rattle.image_state.specs.Named.{is_channel, is_reference, lines_in}
use Rattle.image_state.specs.Parts.{Parts, channel_of, generation_of, output_of, parts_from, reference_of, thread_of, with_line}

pub lines_more : (ls : List (ℕ × Line)) (l : ℕ × Line) → lines_in (ls ++ l ∷ []) ≡ lines_in ls ++ l.1 ∷ []
lines_more ls l = map-append (λ (x : ℕ × Line). x.1) ls (l ∷ [])

turned_or : (a b : Bool) → (a || (b || false)) ≡ (b || a)
turned_or true true = refl
turned_or true false = refl
turned_or false true = refl
turned_or false false = refl

any_more : (test : Line → Bool) (ls : List (ℕ × Line)) (i : ℕ) (d : ℕ × Line) → i < length ls → (test (get_or ls i d).1 || list_any test (lines_in (take i ls))) ≡ list_any test (lines_in (take (i + 1) ls))
any_more test ls i d lt =
    let l = get_or ls i d in
    sym (
    ap (λ (xs : List (ℕ × Line)). list_any test (lines_in xs)) (take_more ls i d lt)
    ∙ ap (list_any test) (lines_more (take i ls) l)
    ∙ list_any-append test (lines_in (take i ls)) (l.1 ∷ [])
    ∙ turned_or (list_any test (lines_in (take i ls))) (test l.1))

-- what the lines so far and one more name
pub named_more : (ls : List (ℕ × Line)) (i : ℕ) (d : ℕ × Line) (l : Line) (old new : Named) → i < length ls → l ≡ (get_or ls i d).1 → AreNamed old (lines_in (take i ls))
    → ((c : ℕ) → contains nat_cmp new.channels c ≡ (is_channel c l || contains nat_cmp old.channels c)) → ((r : ℕ) → contains nat_cmp new.references r ≡ (is_reference r l || contains nat_cmp old.references r))
    → AreNamed new (lines_in (take (i + 1) ls))
named_more ls i d l old new lt at h channels references = record {
  channels = λ c.
      channels c ∙ ap (λ (b : Bool). is_channel c l || b) (h.channels c) ∙ ap (λ (x : Line). is_channel c x || list_any (is_channel c) (lines_in (take i ls))) at
      ∙ any_more (is_channel c) ls i d lt;
  references = λ r.
      references r ∙ ap (λ (b : Bool). is_reference r l || b) (h.references r) ∙ ap (λ (x : Line). is_reference r x || list_any (is_reference r) (lines_in (take i ls))) at
      ∙ any_more (is_reference r) ls i d lt;
}

-- what the lines so far and one more say
abbrev joined : Parts → Parts → Parts
joined p q = record {
  channels = p.channels ++ q.channels;
  references = p.references ++ q.references;
  output = p.output ++ q.output;
  threads = p.threads ++ q.threads;
  generations = p.generations ++ q.generations;
}

same_parts : (p q : Parts) → p.channels ≡ q.channels → p.references ≡ q.references → p.output ≡ q.output → p.threads ≡ q.threads → p.generations ≡ q.generations → p ≡ q
same_parts p q c r o t g =
    ap (λ xs. let z : Parts = record p { channels = xs } in z) c ∙ ap (λ xs. let z : Parts = record q { references = xs; output = p.output; threads = p.threads; generations = p.generations } in z) r
    ∙ ap (λ xs. let z : Parts = record q { output = xs; threads = p.threads; generations = p.generations } in z) o
    ∙ ap (λ xs. let z : Parts = record q { threads = xs; generations = p.generations } in z) t
    ∙ ap (λ xs. let z : Parts = record q { generations = xs } in z) g

said_both : (ls ms : List Line) → parts_from (ls ++ ms) ≡ joined (parts_from ls) (parts_from ms)
said_both ls ms =
    same_parts (parts_from (ls ++ ms)) (joined (parts_from ls) (parts_from ms)) (filter_map-append channel_of ls ms) (filter_map-append reference_of ls ms) (filter_map-append output_of ls ms)
    (filter_map-append thread_of ls ms) (filter_map-append generation_of ls ms)

said_one : (p : Parts) (l : Line) → joined p (parts_from (l ∷ [])) ≡ with_line p l
said_one p (Chan c) = same_parts _ (with_line p (Chan c)) refl (append-nil p.references) (append-nil p.output) (append-nil p.threads) (append-nil p.generations)
said_one p (Ref r v) = same_parts _ (with_line p (Ref r v)) (append-nil p.channels) refl (append-nil p.output) (append-nil p.threads) (append-nil p.generations)
said_one p (Out v) = same_parts _ (with_line p (Out v)) (append-nil p.channels) (append-nil p.references) refl (append-nil p.threads) (append-nil p.generations)
said_one p (Thread t g e) = same_parts _ (with_line p (Thread t g e)) (append-nil p.channels) (append-nil p.references) (append-nil p.output) refl refl
said_one p End = same_parts _ p (append-nil p.channels) (append-nil p.references) (append-nil p.output) (append-nil p.threads) (append-nil p.generations)

pub said_more : (ls : List (ℕ × Line)) (at : ℕ) (l : Line) (old new : Parts) → old ≡ parts_from (lines_in ls) → new ≡ with_line old l → new ≡ parts_from (lines_in (ls ++ (at, l) ∷ []))
said_more ls at l old new so_far more =
    more ∙ ap (λ (p : Parts). with_line p l) so_far
    ∙ sym (ap parts_from (lines_more ls (at, l)) ∙ said_both (lines_in ls) (l ∷ []) ∙ said_one (parts_from (lines_in ls)) l)
