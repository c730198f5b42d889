-- The lines of a trace, put one after the other.
use Rattle.std.proofs.Common.{◌≡◌, ℕ, zero, suc, ◌+◌, ◌≤◌, List, [], ◌∷◌, ◌++◌, length, drop, Option, Some, Result, Ok, Err, sym, ap, subst, ◌∙◌, arith, append_assoc}
use Rattle.std.specs.Result.{OnOk, OnErr}
use Rattle.std.specs.List.{slice_get}
use Rattle.std.proofs.lemmas.List.{drop_all}
use Rattle.stab_files.specs.Told.{Appends, AppendsPrefix}
use Rattle.stab_files.proofs.Puts.{appends_prefix_more, appends_prefix_trans}
use Rattle.stab_journal.specs.Journal.{Journal}
use Rattle.trace_text.specs.declared.line.Entry.{Entry}
use Rattle.trace_text.specs.Text.{end_line, ended, entries, event_line, event_lines}

-- the entry at a place, and those behind it
front_of : (es : List Entry) (i : ℕ) (e : Entry) → slice_get es i ≡ Some e → drop i es ≡ e ∷ drop (suc i) es
front_of [] i e at = cc
front_of (x ∷ es) zero e at = let same : x ≡ e = cc in ap (λ y. y ∷ es) same
front_of (x ∷ es) (suc i) e at = front_of es i e at

-- the lines that are left behind so many events
abbrev pub left : Journal → ℕ → List ℕ
left j passed = ended (event_lines (suc passed) (drop passed (entries j)) ++ (end_line (length (entries j)) ∷ []))

line_left : (line rest : List ℕ) → line ++ (10 ∷ rest) ≡ (line ++ 10 ∷ []) ++ rest
line_left line rest = sym (append_assoc line (10 ∷ []) rest)

-- the next line, and those behind it
pub left_is : (j : Journal) (passed : ℕ) (e : Entry) → slice_get (entries j) passed ≡ Some e → left j passed ≡ (event_line (suc passed) e ++ 10 ∷ []) ++ left j (suc passed)
left_is j passed e at =
    ap (λ es. ended (event_lines (suc passed) es ++ (end_line (length (entries j)) ∷ []))) (front_of (entries j) passed e at)
    ∙ line_left (event_line (suc passed) e) (left j (suc passed))

-- the end line alone
pub left_none : (j : Journal) (passed : ℕ) → length (entries j) ≤ passed → left j passed ≡ end_line (length (entries j)) ++ 10 ∷ []
left_none j passed all = ap (λ es. ended (event_lines (suc passed) es ++ (end_line (length (entries j)) ∷ []))) (drop_all passed (entries j) all)

module _ (a b c : Option (List ℕ)) (whole front piece rest : List ℕ) (is : whole ≡ front ++ (piece ++ rest)) where
  -- a piece more was put
  pub whole_more : whole ≡ (front ++ piece) ++ rest
  whole_more = is ∙ sym (append_assoc front piece rest)

  -- the piece was cut short
  pub piece_cut : Appends a b front → AppendsPrefix b c piece → AppendsPrefix a c whole
  piece_cut p q =
      subst (AppendsPrefix a c) (sym is) (appends_prefix_trans a b c front (piece ++ rest) p (appends_prefix_more b c piece rest q))

-- the piece that is put next, and what is left behind it
pub next_is : (j : Journal) (passed : ℕ) (e : Entry) (whole front piece : List ℕ) → whole ≡ front ++ left j passed → slice_get (entries j) passed ≡ Some e → piece ≡ event_line (passed + 1) e ++ 10 ∷ [] → whole ≡ front ++ (piece ++ left j (suc passed))
next_is j passed e whole front piece so_far at is =
    let number : passed + 1 ≡ suc passed = omega arith in
    let piece_is : piece ≡ event_line (suc passed) e ++ 10 ∷ [] = is ∙ ap (λ n. event_line n e ++ 10 ∷ []) number in
    so_far ∙ ap (λ x. front ++ x) (left_is j passed e at) ∙ ap (λ x. front ++ (x ++ left j (suc passed))) (sym piece_is)

-- the last piece
pub last_is : (j : Journal) (passed count : ℕ) (whole front piece : List ℕ) → whole ≡ front ++ left j passed → length (entries j) ≤ passed → count ≡ length (entries j) → piece ≡ end_line count ++ 10 ∷ [] → whole ≡ front ++ piece
last_is j passed count whole front piece so_far all number is =
    so_far ∙ ap (λ x. front ++ x) (left_none j passed all) ∙ ap (λ n. front ++ (end_line n ++ 10 ∷ [])) (sym number) ∙ ap (λ x. front ++ x) (sym is)

pub on_ok : {T E : Type 0} (r : Result T E) (P Q : Type 0) → (P → Q) → OnOk r P → OnOk r Q
on_ok (Ok x) P Q f p = f p
on_ok (Err e) P Q f p = p

pub on_err : {T E : Type 0} (r : Result T E) (P Q : Type 0) → (P → Q) → OnErr r P → OnErr r Q
on_err (Ok x) P Q f p = p
on_err (Err e) P Q f p = f p
