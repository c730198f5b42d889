-- Which steps an undo takes away, by the lines of their threads: of each thread that has a line, all from there on.
use Rattle.std.proofs.Common.{◌≡◌, ℕ, suc, ◌<◌, ◌≤◌, Bool, true, false, ◌||◌, List, [], ◌∷◌, ◌++◌, Option, Some, None, refl, sym, ap, subst, ◌∙◌, arith}
use Rattle.std.specs.Prelude.{nat_le}
use Rattle.std.specs.FinMap as map
use Rattle.std.proofs.lemmas.Bool.{false≢true}
use Rattle.std.proofs.lemmas.Bool.Decides.{nat_tests}
use Rattle.stab_journal.specs.declared.event.Numbered.{Numbered}
use Rattle.stab_journal.specs.Dependence.{writes_what}
use Rattle.stab_journal.specs.Floor.{is_revocable}
use Rattle.stab_journal.specs.Journal.{RiseFrom}
use Rattle.stab_journal.specs.Label.{actors, touched}
use Rattle.stab_journal.specs.Names.{has, read}
use Rattle.stab_journal.specs.Reached.{nothing_lost, reached}
use Rattle.language.specs.Plain.{PlainState, IsRun}
use Rattle.reach_line.specs.Reached as marks
use Rattle.restore.specs.declared.line.Line.{Line}
use Rattle.restore.specs.declared.line.Line.TheVariants.{From, Gone}
use Rattle.restore.specs.Line.{IsLineOf}
use Rattle.restore.specs.Left.{LineMap}
use Rattle.journal_laws.specs.Lost.{is_hit}
use Rattle.journal_laws.proofs.Chains.{any_of, upward}
use Rattle.journal_laws.proofs.Numbers.{rise_front}
use Rattle.journal_laws.proofs.Reaching.{reached_by}
use Rattle.journal_laws.proofs.Spawned.{acts_touch, all_lost}
use Rattle.commit_book.specs.Book.{BookView, ShowsRun}
use Rattle.commit_book.proofs.Undoing.Undone.{line_of, untouched, unmade, from}
use Rattle.commit_book.proofs.Undoing.UndoneKnown.{first_of_thread}
use Rattle.commit_book.proofs.Undoing.UndoneLines.{earlier_in, hit_here, line_untouched, line_unmade, line_from, saves_node}

-- whether a step numbered q isn't below a line
abbrev pub is_from_line : Option Line → ℕ → Bool
is_from_line None q = false
is_from_line (Some Gone) q = true
is_from_line (Some (From p)) q = nat_le p.0 q

not_true : (b : Bool) → (b ≡ true → ⊥) → b ≡ false
not_true true f = absurd (f refl)
not_true false f = refl

le_is : (a b : ℕ) → nat_le a b ≡ true → a ≤ b
le_is a b h = grind (arith, nat_tests)

not_le : (a b : ℕ) → nat_le a b ≡ false → b < a
not_le a b h = grind (arith, nat_tests)

eq_cases : (a b : ℕ) (P : Type 0) → (a ≡ b → P) → (a < b → P) → a ≤ b → P
eq_cases a b P same less h =
    elim (nat_le b a) as (λ c. nat_le b a ≡ c → P) [
      | true ↦ λ is. same (let over : b ≤ a = le_is b a is in omega arith)
      | false ↦ λ is. less (not_le b a is)
    ] refl

-- what stands between two steps of a run
pub record IsBetween (a : List Numbered) (n : Numbered) (after : List Numbered) : Type 0 where
  pub middle : List Numbered
  pub is : a ≡ middle ++ n ∷ after

pub between : (p : ℕ) (b : List Numbered) (k : Numbered) (a before : List Numbered) (n : Numbered) (after : List Numbered) → RiseFrom p (b ++ k ∷ a) → b ++ k ∷ a ≡ before ++ n ∷ after → k.seq.0 < n.seq.0 → IsBetween a n after
between p [] k a [] n after rise same less =
    let one : k ≡ n = cc in
    let number : k.seq.0 ≡ n.seq.0 = ap (λ (j : Numbered). j.seq.0) one in
    absurd (omega arith)
between p [] k a (j ∷ before) n after rise same less = record { middle = before; is = cc }
between p (j ∷ b) k a [] n after rise same less =
    let one : j ≡ n = cc in
    let number : j.seq.0 ≡ n.seq.0 = ap (λ (i : Numbered). i.seq.0) one in
    let over : suc j.seq.0 ≤ k.seq.0 = rise_front (suc j.seq.0) b k a rise.1 in
    absurd (omega arith)
between p (j ∷ b) k a (l ∷ before) n after rise same less = between (suc j.seq.0) b k a before n after rise.1 (cc) less

module _ (old : BookView) (run : List Numbered) (s : PlainState) (shown : ShowsRun old run s) (r : IsRun old.job.program run s) (m : ℕ) (revocable : is_revocable run m ≡ true) (qs : List ℕ) (reach : marks.AreReached old.nodes m qs)
    (lines : LineMap) (are : (t : ℕ) → IsLineOf old.nodes qs t (map.get lines t)) where
  abbrev gone : ℕ → Bool
  gone = has (reached run m)

  -- a step of a thread after a lost one that touches it
  lost_after : (u : ℕ) (b : List Numbered) (k : Numbered) (a before : List Numbered) (n : Numbered) (after : List Numbered) → run ≡ b ++ k ∷ a → run ≡ before ++ n ∷ after → k.seq.0 ≤ n.seq.0 → gone k.seq.0 ≡ true → has (touched k.label) u ≡ true → has (actors n.label) u ≡ true → gone n.seq.0 ≡ true
  lost_after u b k a before n after at cut low lost touches acts =
      eq_cases k.seq.0 n.seq.0 (gone n.seq.0 ≡ true)
      (λ same. subst (λ q. gone q ≡ true) same lost)
      (λ less.
      let e = between 1 b k a before n after (subst (λ (l : List Numbered). RiseFrom 1 l) at r.rises) (sym at ∙ cut) less in
      upward m gone nothing_lost run (reached_by m gone run nothing_lost 1 r.rises (λ j le. refl)) k n
      (record { before = b; between = e.middle; after = after; is = at ∙ ap (λ l. b ++ k ∷ l) e.is; how = ap (λ c. c || writes_what k.label e.middle (read n.label)) (any_of (has (touched k.label)) (actors n.label) u acts touches) }) lost)
      low

  -- of a step in which a thread acts, the thread's line says whether it is lost
  pub lost_is : (u : ℕ) (before : List Numbered) (n : Numbered) (after : List Numbered) → run ≡ before ++ n ∷ after → has (actors n.label) u ≡ true → gone n.seq.0 ≡ is_from_line (map.get lines u) n.seq.0
  lost_is u before n after cut acts =
      let rise : RiseFrom 1 (before ++ n ∷ after) = subst (λ (l : List Numbered). RiseFrom 1 l) cut r.rises in
      elim (line_of gone u run) [
        | (untouched miss) ↦
            not_true (gone n.seq.0) (λ lost. false≢true (sym miss ∙ ap (is_hit gone u) cut ∙ hit_here gone u before n after lost (acts_touch n.label u acts)))
            ∙ sym (ap (λ l. is_from_line l n.seq.0) (line_untouched run old.nodes r.rises shown.journal.nodes m revocable qs reach u (map.get lines u) miss (are u)))
        | (unmade b k a at miss lost touches spawns) ↦
            all_lost old.job.program s run r b k a u at spawns m lost before n after cut acts
            ∙ sym (ap (λ l. is_from_line l n.seq.0) (line_unmade run old.nodes r.rises shown.journal.nodes m revocable qs reach u (map.get lines u) b k a at lost spawns (are u)))
        | (from b k a at miss lost touches acts_first) ↦
            let f = first_of_thread old run s shown r m revocable u b k a at miss lost acts_first in
            (elim (nat_le k.seq.0 n.seq.0) as (λ c. nat_le k.seq.0 n.seq.0 ≡ c → gone n.seq.0 ≡ c) [
              | true ↦ λ is. lost_after u b k a before n after at cut (le_is k.seq.0 n.seq.0 is) lost touches acts
              | false ↦ λ is. not_true (gone n.seq.0) (λ goes.
                  let e = earlier_in 1 before n after b k a rise (sym cut ∙ at) (not_le k.seq.0 n.seq.0 is) in
                  false≢true (sym miss ∙ ap (is_hit gone u) e.is ∙ hit_here gone u e.front n e.back goes (acts_touch n.label u acts)))
            ] refl)
            ∙ sym (ap (λ l. is_from_line l n.seq.0) (line_from run old.nodes r.rises shown.journal.nodes m revocable qs reach u (map.get lines u) b k a at miss lost acts_first (saves_node k.label f.saved) f.alive (are u)))
      ]
