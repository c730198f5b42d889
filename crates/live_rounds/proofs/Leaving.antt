-- A live desk between two rounds, and when it is left.
use Rattle.std.proofs.Common.{◌≡◌, ◌≢◌, ◌⊎◌, inl, inr, ℕ, ◌≤◌, ◌-◌, ℤ, List, [], ◌∷◌, ◌++◌, length, Option, Some, None, refl, sym, ap, subst, ◌∙◌, append-nil, arith}
use Rattle.stab_code.specs.JobParts.{JobParts, longer}
use Rattle.stab_code.specs.Limits.{max_script}
use Rattle.stab_journal.specs.Journal.{Journal}
use Rattle.stab_journal.specs.Script.{probed}
use Rattle.commit_book.specs.Book.{BookView, IsShown}
use Rattle.commit_book.specs.Probing.{IsWithinScript, fed}
use Rattle.worker_lease.specs.Releases.{AreByOne}
use Rattle.live_desk.specs.Going.{GoesOn}
use Rattle.sink_lines.specs.Device.{Device}
use Rattle.live_rounds.specs.declared.halt.Halt.{Halt}
use Rattle.live_rounds.specs.declared.halt.Halt.TheVariants.{SinkFault, NoMemory, Bad, Failed, TooMany}
use Rattle.live_rounds.specs.declared.next.Next.{Next}
use Rattle.live_rounds.specs.declared.next.Next.TheVariants.{Again, Over, Ended, Halted}
use Rattle.live_rounds.specs.declared.taking.Taken.TheVariants as taken
use Rattle.live_rounds.specs.Going.{FeedSays, IsOwn, LeaveSays, halt_of}
use Rattle.live_rounds.specs.Numbers.{Heard, IsFed, IsLeftOver}
use Rattle.live_rounds.specs.Stretches.{GainsSince, IsGrown, IsPut, IsStretch, WroteSince}
use Rattle.live_rounds.specs.Taking.{TakenSays}
use Rattle.live_rounds.proofs.Feeding.{fed_none}
use Rattle.live_rounds.proofs.Growing.{adds_none, by_one_added, lines_stay, plain_more, same_lines}
use Rattle.live_rounds.proofs.Writing.{stretch_then, wrote_none}

-- ---- what the owner does

-- a book that goes on without a release
pub goes_grown : (old new : BookView) → IsShown old → AreByOne old.history.events → IsShown new → GoesOn old new → IsGrown old new
goes_grown old new before by_one after g = record {
  adds = (g.added, g.is, g.by_one);
  lines = lines_stay old new before by_one after (by_one_added old.history.events new.history.events (g.added, g.is, g.by_one) by_one) g.job
      (g.added, sym g.is) (plain_more old.history.events g.added new.history.events g.is g.plain);
}

-- the same, once it was fed
pub fed_grown : (old mid new : BookView) (numbers : List ℤ) → mid ≡ fed old numbers → AreByOne old.history.events → IsShown mid → IsShown new → GoesOn mid new → IsGrown old new
fed_grown old mid new numbers same by_one before after g =
    let m : IsGrown mid new = goes_grown mid new before (subst (λ (b : BookView). AreByOne b.history.events) (sym same) by_one) after g in
    let f : IsGrown (fed old numbers) new = subst (λ (b : BookView). IsGrown b new) same m in
    record { adds = f.adds; lines = f.lines }

-- the same book
pub same_grown : (old new : BookView) → IsShown old → IsShown new → new.job ≡ old.job → new.history ≡ old.history → IsGrown old new
same_grown old new before after job history = record {
  adds = adds_none old.history.events new.history.events (ap (λ h. h.events) history);
  lines = same_lines old new before after job (ap (λ h. h.events) history);
}

-- ---- what is said of a desk that is left

pub still_within : (old new : BookView) → new.job ≡ old.job → new.history ≡ old.history → IsWithinScript old → IsWithinScript new
still_within old new job history within =
    subst (λ (j : JobParts). length (probed new.history.events) ≤ length j.script) (sym job)
    (subst (λ (h : Journal). length (probed h.events) ≤ length old.job.script) (sym history) within)

pub leave_says : (next : Next) (old new : BookView) → next ≢ Ended → new.job ≡ old.job → new.history ≡ old.history → IsWithinScript old → LeaveSays next next old new
leave_says Again old new not job history within = (refl, history, still_within old new job history within)
leave_says Over old new not job history within = (refl, history, still_within old new job history within)
leave_says Ended old new not job history within = absurd (not refl)
leave_says (Halted halt) old new not job history within = (refl, history, still_within old new job history within)

-- the input has ended
pub leave_ended : (next made : Next) (old new : BookView) → next ≡ Ended → (made ≡ next) ⊎ (made ≡ Halted NoMemory) → LeaveSays next made old new
leave_ended next made old new is (inl same) = subst (λ n. LeaveSays n made old new) (sym is) (inl (same ∙ is))
leave_ended next made old new is (inr none) = subst (λ n. LeaveSays n made old new) (sym is) (inr none)

-- ---- numbers

no_more : (job : JobParts) → job ≡ longer job []
no_more job = ap (λ (s : List ℤ). record job { script = s }) (sym (append-nil job.script))

pub fed_says : (next : Next) (old new : JobParts) (numbers before after : List ℤ) → after ≡ before ++ numbers → FeedSays next old new numbers → IsFed (halt_of next) old new before after
fed_says Again old new numbers before after is says = record { numbers = numbers; over = []; came = is ∙ sym (append-nil (before ++ numbers)); script = says; left = refl }
fed_says Over old new numbers before after is says = absurd says
fed_says Ended old new numbers before after is says = absurd says
fed_says (Halted halt) old new numbers before after is (none, inl script) = record {
  numbers = numbers;
  over = [];
  came = is ∙ sym (append-nil (before ++ numbers));
  script = script;
  left = subst (λ h. IsLeftOver (Some h) new []) (sym none) tt;
}
fed_says (Halted halt) old new numbers before after is (none, inr script) = record {
  numbers = [];
  over = numbers;
  came = is ∙ ap (λ (l : List ℤ). l ++ numbers) (sym (append-nil before));
  script = script ∙ no_more old;
  left = subst (λ h. IsLeftOver (Some h) new numbers) (sym none) tt;
}

pub taken_fed : (halt : Halt) (job : JobParts) (room : ℕ) (before : List ℤ) (after : Heard) → (room ≡ 0 → length job.script ≡ max_script) → TakenSays (taken.Halted halt) room before after
    → IsFed (Some halt) job job before after.came
taken_fed SinkFault job room before after full says = absurd says
taken_fed NoMemory job room before after full says = record {
  numbers = [];
  over = says.0;
  came = says.1 ∙ ap (λ (l : List ℤ). l ++ says.0) (sym (append-nil before));
  script = no_more job;
  left = tt;
}
taken_fed (Bad at) job room before after full says = fed_none (Some (Bad at)) job job before after.came refl says.0 refl
taken_fed Failed job room before after full says = fed_none (Some Failed) job job before after.came refl says.0 refl
taken_fed TooMany job room before after full says = record {
  numbers = [];
  over = says.1 ∷ [];
  came = says.2 ∙ ap (λ (l : List ℤ). l ++ says.1 ∷ []) (sym (append-nil before));
  script = no_more job;
  left = (full says.0, refl);
}

-- a script with room for no number
pub full : (xs ys : List ℤ) → xs ≡ ys → length xs ≤ max_script → max_script - length xs ≡ 0 → length ys ≡ max_script
full xs ys same within none = ap length (sym same) ∙ most (length xs) within none
  where
    most : (n : ℕ) → n ≤ max_script → max_script - n ≡ 0 → n ≡ max_script
    most n within none = omega (arith, within, none)

-- numbers have nothing to do with a sink
pub taken_unwritten : (halt : Halt) (room : ℕ) (before : List ℤ) (after : Heard) → TakenSays (taken.Halted halt) room before after → Some halt ≢ Some SinkFault
taken_unwritten SinkFault room before after says = absurd says
taken_unwritten NoMemory room before after says = λ e. cc
taken_unwritten (Bad at) room before after says = λ e. cc
taken_unwritten Failed room before after says = λ e. cc
taken_unwritten TooMany room before after says = λ e. cc

pub fed_unwritten : (next : Next) (old new : JobParts) (numbers : List ℤ) → FeedSays next old new numbers → halt_of next ≢ Some SinkFault
fed_unwritten Again old new numbers says = λ e. cc
fed_unwritten Over old new numbers says = λ e. cc
fed_unwritten Ended old new numbers says = λ e. cc
fed_unwritten (Halted halt) old new numbers says = λ e. cc

-- ---- stretches

pub own_left : (halt : Option Halt) (job : JobParts) → IsOwn halt → IsLeftOver halt job []
own_left None job own = refl
own_left (Some SinkFault) job own = refl
own_left (Some NoMemory) job own = tt
own_left (Some (Bad at)) job own = absurd own
own_left (Some Failed) job own = absurd own
own_left (Some TooMany) job own = absurd own

-- a release between two rounds
pub put_stretch : (halt : Option Halt) (old new : BookView) (heard : Heard) (x y : Device (List ℕ)) → IsPut halt old new x y → IsStretch halt old new heard heard x y
put_stretch halt old new heard x y put = record {
  fed = fed_none halt old.job new.job heard.came heard.came put.job refl (own_left halt new.job put.own);
  wrote = put.wrote;
}

unwritten : (halt : Option Halt) (old new : BookView) (x : Device (List ℕ)) → halt ≢ Some SinkFault → GainsSince old new x x → WroteSince halt old new x x
unwritten None old new x not gains = gains
unwritten (Some SinkFault) old new x not gains = absurd (not refl)
unwritten (Some NoMemory) old new x not gains = gains
unwritten (Some (Bad at)) old new x not gains = gains
unwritten (Some Failed) old new x not gains = gains
unwritten (Some TooMany) old new x not gains = gains

-- numbers that were taken
pub fed_stretch : (halt : Option Halt) (old new : BookView) (i j : Heard) (x : Device (List ℕ)) → halt ≢ Some SinkFault → IsFed halt old.job new.job i.came j.came → IsGrown old new → IsStretch halt old new i j x x
fed_stretch halt old new i j x not is grown = record { fed = is; wrote = unwritten halt old new x not (wrote_none old new x grown.lines) }

-- a release, and then numbers
pub between_stretch : (halt : Option Halt) (old mid new : BookView) (i j : Heard) (x y : Device (List ℕ)) → IsPut None old mid x y → halt ≢ Some SinkFault
    → IsFed halt mid.job new.job i.came j.came → IsGrown mid new → IsStretch halt old new i j x y
between_stretch halt old mid new i j x y put not is grown =
    stretch_then halt old mid new i i j x y y (put_stretch None old mid i x y put) (fed_stretch halt mid new i j y not is grown)
