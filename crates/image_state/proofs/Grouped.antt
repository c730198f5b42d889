-- Lines in order are those of each kind, one after the other.
use Rattle.std.proofs.Common.{◌≡◌, ℕ, ◌≤◌, true, false, List, [], ◌∷◌, ◌++◌, refl, sym, ap, ◌∙◌, arith}
use Rattle.std.specs.Prelude.{Some, None, Option, map}
use Rattle.std.specs.List.{AllByRecursion, filter_map}
use Rattle.std.proofs.lemmas.Bool.{false≢true}
use Rattle.stab_base.specs.Datum.{Datum}
use Rattle.stab_base.specs.declared.numbers.ChanId.{ChanId}
use Rattle.stab_base.specs.declared.numbers.RefId.{RefId}
use Rattle.stab_base.specs.declared.numbers.ThreadId.{ThreadId}
use Rattle.language.specs.Expression.{Expr}
use Rattle.image_lines.specs.declared.line.Line.{Line}
use Rattle.image_lines.specs.declared.line.Line.TheVariants.{Chan, Ref, Out, Thread, End}
use Rattle.image_lines.specs.BodyText.{AreLines}
use Rattle.image_state.specs.Order.{AreOrdered}
use Rattle.image_state.specs.Parts.{channel_of, output_of, reference_of}
use Rattle.image_state.proofs.LineKinds.{AreFrom, behind, less, no_channels, no_output, no_references}

-- the whole of a thread's line
abbrev pub Row : Type 0
Row = ThreadId × (ℕ × Expr)

abbrev pub row_of : Line → Option Row
row_of (Thread t g e) = Some (t, (g, e))
row_of l = None

abbrev pub chan_line : ChanId → Line
chan_line c = Chan c

abbrev pub ref_line : RefId × Datum → Line
ref_line r = Ref r.0 r.1

abbrev pub out_line : Datum → Line
out_line v = Out v

abbrev pub row_line : Row → Line
row_line r = Thread r.0 r.1.0 r.1.1

abbrev pub joined : List ChanId → List (RefId × Datum) → List Datum → List Row → List Line
joined cs rs vs ts = map chan_line cs ++ (map ref_line rs ++ (map out_line vs ++ map row_line ts))

abbrev pub grouped : List Line → List Line
grouped ls = joined (filter_map channel_of ls) (filter_map reference_of ls) (filter_map output_of ls) (filter_map row_of ls)

rows_only : (ls : List Line) → AreLines ls → AreFrom 3 ls → ls ≡ map row_line (filter_map row_of ls)
rows_only [] right h = refl
rows_only (Chan c ∷ ls) right h = absurd (let no = h.0 in omega arith)
rows_only (Ref r v ∷ ls) right h = absurd (let no = h.0 in omega arith)
rows_only (Out v ∷ ls) right h = absurd (let no = h.0 in omega arith)
rows_only (Thread t g e ∷ ls) right h = ap (λ (xs : List Line). Thread t g e ∷ xs) (rows_only ls right.1 h.1)
rows_only (End ∷ ls) right h = absurd (false≢true (sym right.0.1))

none_before : (cs ds : List ChanId) (rs qs : List (RefId × Datum)) (vs ws : List Datum) (ts : List Row) → cs ≡ ds → rs ≡ qs → vs ≡ ws → joined cs rs vs ts ≡ joined ds qs ws ts
none_before cs ds rs qs vs ws ts c r v =
    ap (λ (xs : List ChanId). joined xs rs vs ts) c ∙ ap (λ (xs : List (RefId × Datum)). joined ds xs vs ts) r ∙ ap (λ (xs : List Datum). joined ds qs xs ts) v

pub by_kinds : (last : Option Line) (ls : List Line) → AreLines ls → AreOrdered last ls → ls ≡ grouped ls
by_kinds last [] right h = refl
by_kinds last (Chan c ∷ ls) right h = ap (λ (xs : List Line). Chan c ∷ xs) (by_kinds (Some (Chan c)) ls right.1 h.1)
by_kinds last (Ref r v ∷ ls) right h =
    let cs = filter_map channel_of ls in
    let rs = filter_map reference_of ls in
    let vs = filter_map output_of ls in
    let ts = filter_map row_of ls in
    let none = no_channels ls (behind 1 (Ref r v) ls (omega arith) h.1) in
    ap (λ (xs : List Line). Ref r v ∷ xs) (by_kinds (Some (Ref r v)) ls right.1 h.1 ∙ ap (λ (xs : List ChanId). joined xs rs vs ts) none)
    ∙ ap (λ (xs : List ChanId). joined xs ((r, v) ∷ rs) vs ts) (sym none)
by_kinds last (Out v ∷ ls) right h =
    let cs = filter_map channel_of ls in
    let rs = filter_map reference_of ls in
    let vs = filter_map output_of ls in
    let ts = filter_map row_of ls in
    let from = behind 2 (Out v) ls (omega arith) h.1 in
    let none = no_channels ls (less 1 2 (omega arith) ls from) in
    let neither = no_references ls from in
    ap (λ (xs : List Line). Out v ∷ xs) (by_kinds (Some (Out v)) ls right.1 h.1 ∙ none_before cs [] rs [] vs vs ts none neither refl)
    ∙ sym (none_before cs [] rs [] (v ∷ vs) (v ∷ vs) ts none neither refl)
by_kinds last (Thread t g e ∷ ls) right h =
    let cs = filter_map channel_of ls in
    let rs = filter_map reference_of ls in
    let vs = filter_map output_of ls in
    let ts = filter_map row_of ls in
    let from = behind 3 (Thread t g e) ls (omega arith) h.1 in
    let none = no_channels ls (less 1 3 (omega arith) ls from) in
    let neither = no_references ls (less 2 3 (omega arith) ls from) in
    let nothing = no_output ls from in
    ap (λ (xs : List Line). Thread t g e ∷ xs) (rows_only ls right.1 from)
    ∙ sym (none_before cs [] rs [] vs [] ((t, (g, e)) ∷ ts) none neither nothing)
by_kinds last (End ∷ ls) right h = absurd (false≢true (sym right.0.1))
