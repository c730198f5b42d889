-- The lines of a release.
use Rattle.std.proofs.Common.{◌≡◌, ℕ, zero, suc, ◌≤◌, Bool, List, [], ◌∷◌, ◌++◌, take, drop, Result, Ok, Err, Some, refl, sym, ap, subst, ◌∙◌, arith}
use Rattle.std.proofs.lemmas.Grind.{flat_map-append}
use Rattle.std.proofs.lemmas.List.{take-append-drop}
use Rattle.stab_base.specs.Datum.{Datum}
use Rattle.stab_base.specs.Printed.{printed}
use Rattle.stab_code.specs.Program.{ProgramParts}
use Rattle.stab_journal.specs.declared.event.What.TheVariants.{Release}
use Rattle.stab_journal.specs.Due.{final_prints, released}
use Rattle.stab_journal.specs.Surviving.{run_of}
use Rattle.language.specs.Shown.{line, value_lines}
use Rattle.language.specs.Standing.{event}
use Rattle.journal_laws.proofs.Undone.{stands_run}
use Rattle.commit_book.specs.Book.{BookView, IsShown}
use Rattle.commit_book.specs.Releases.{IsReleased, due_lines, finals}
use Rattle.commit_book.proofs.Keeping.EventSteps.{released_snoc}
use Rattle.commit_book.proofs.Lawful.Firm.{released_final}
use Rattle.book_text.specs.Written.{released_lines}
use Rattle.sink_lines.specs.Device.{Device, GainsPrefix}
use Rattle.turn_floor.specs.Served.{Adds}
use Rattle.live_rounds.specs.declared.halt.Halt.{Halt}
use Rattle.live_rounds.specs.declared.halt.Halt.TheVariants.{SinkFault}
use Rattle.live_rounds.specs.Stretches.{IsPut, PutSays, halted_by}
use Rattle.live_rounds.proofs.Writing.{wrote_none}

take_twice : {X : Type 0} (m n : ℕ) (xs : List X) → m ≤ n → take m (take n xs) ≡ take m xs
take_twice zero n xs le = refl
take_twice (suc m) zero xs le = absurd (omega (arith, le))
take_twice (suc m) (suc n) [] le = refl
take_twice (suc m) (suc n) (x ∷ xs) le = ap (λ l. x ∷ l) (take_twice m n xs (omega (arith, le)))

two_parts : (p : ProgramParts) (m n : ℕ) (xs : List Datum) → m ≤ n → value_lines p (take n xs) ≡ value_lines p (take m xs) ++ value_lines p (drop m (take n xs))
two_parts p m n xs le =
    ap (value_lines p) (sym (take-append-drop m (take n xs)))
    ∙ flat_map-append (λ v. line (printed p.texts v)) (take m (take n xs)) (drop m (take n xs))
    ∙ ap (λ l. value_lines p l ++ value_lines p (drop m (take n xs))) (take_twice m n xs le)

module _ (last new : BookView) (is : IsReleased last new 1) where
  pub release_job : new.job ≡ last.job
  release_job = ap (λ (x : BookView). x.job) is

  pub release_events : new.history.events ≡ last.history.events ++ event 1 (Release (finals last)) ∷ []
  release_events = ap (λ (x : BookView). x.history.events) is

  pub release_adds : Adds 1 last.history.events new.history.events
  release_adds = (event 1 (Release (finals last)) ∷ [], release_events, (refl, tt))

  -- what was due is now released
  pub release_lines : IsShown last → released_lines new ≡ released_lines last ++ due_lines last
  release_lines shown =
      let stands = shown.shows.journal.history.stands in
      let few : released last.history.events ≤ final_prints shown.run = released_final last.job.program last.history.events shown.run shown.state stands in
      let same : shown.run ≡ run_of last.history.events = (stands_run last.job.program last.history.events shown.run shown.state stands).0 in
      let le : released last.history.events ≤ finals last = subst (λ ns. released last.history.events ≤ final_prints ns) same few in
      ap (λ n. value_lines new.job.program (take n new.printed)) (ap released release_events ∙ released_snoc 0 last.history.events (event 1 (Release (finals last))))
      ∙ ap (λ (x : BookView). value_lines x.job.program (take (finals last) x.printed)) is
      ∙ two_parts last.job.program (released last.history.events) (finals last) last.printed le

-- what a put of its lines says
module _ (last new : BookView) (is : IsReleased last new 1) (shown : IsShown last) (text : List ℕ) (lines : text ≡ due_lines last) (sink after : Device (List ℕ)) where
  more : released_lines new ≡ released_lines last ++ text
  more = release_lines last new is shown ∙ ap (λ l. released_lines last ++ l) (sym lines)

  cut_short : (halt : Halt) → halt ≡ SinkFault → GainsPrefix sink after text → IsPut (Some halt) last new sink after
  cut_short halt fault cut =
      subst (λ h. IsPut (Some h) last new sink after) (sym fault)
      (record {
        job = release_job last new is;
        adds = release_adds last new is;
        wrote = record {
          last = last;
          between = sink;
          shown = shown;
          job = release_job last new is;
          release = release_events last new is;
          so_far = wrote_none last last sink refl;
          lines = text;
          more = more;
          cut = cut;
        };
        own = tt;
      })

  pub put_says : (result : Result Bool Halt) → PutSays result text sink after → IsPut (halted_by result) last new sink after
  put_says (Ok released) gains = record {
    job = release_job last new is;
    adds = release_adds last new is;
    wrote = record { lines = text; more = more; gains = gains };
    own = tt;
  }
  put_says (Err halt) says = cut_short halt says.0 says.1
