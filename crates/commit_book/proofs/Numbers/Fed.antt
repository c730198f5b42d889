-- A book whose script has more numbers is a book.
use Rattle.std.proofs.Common.{◌≡◌, ℕ, ℤ, ◌<◌, ◌≤◌, List, ◌++◌, length, refl, sym, ap, subst, ◌∙◌, arith}
use Rattle.std.specs.Prelude.{pos, IfSome, Some, None, Result, Ok, Err, OnOk, OnErr, slice_get, unwrap_or}
use Rattle.std.proofs.lemmas.Option.{slice_get_within}
use Rattle.stab_code.proofs.Lists.{slice_get-left}
use Rattle.stab_code.specs.JobParts.{JobParts, longer}
use Rattle.stab_journal.specs.declared.event.Event.{Event}
use Rattle.stab_journal.specs.Script.{FollowsScript, probed, script_at}
use Rattle.commit_book.specs.declared.parts.Parts.{Parts}
use Rattle.commit_book.specs.Book.{BookView, IsShown}
use Rattle.commit_book.specs.Layout.{IsBook, view_of}
use Rattle.commit_book.specs.Probing.{IsWithinScript, fed}

same_number : (s more : List ℤ) (i : ℕ) → i < length s → script_at s i ≡ script_at (s ++ more) i
same_number s more i within = ap (λ o. unwrap_or o (pos 0)) (sym (slice_get-left s more i within))

-- events that follow a script follow each longer one, if no probe came past its end
pub follows_more : (s more : List ℤ) (events : List Event) → length (probed events) ≤ length s → FollowsScript s events → FollowsScript (s ++ more) events
follows_more s more events few follows i =
    elim (slice_get (probed events) i) as (λ o. slice_get (probed events) i ≡ o → IfSome o (λ n. n ≡ script_at s i) → IfSome o (λ n. n ≡ script_at (s ++ more) i)) [
      | None ↦ λ at got. tt
      | (Some n) ↦ λ at got.
          let within : i < length (probed events) = slice_get_within (probed events) i n at in
          got ∙ same_number s more i (omega (arith, within, few))
    ] refl (follows i)

pub fed_shown : (b : BookView) (more : List ℤ) → IsWithinScript b → IsShown b → IsShown (fed b more)
fed_shown b more within shown =
    let j = shown.shows.journal in
    let t = shown.shows.threads in
    record {
      run = shown.run;
      state = shown.state;
      shows = record {
        journal = record {
          history = j.history;
          script = follows_more b.job.script more b.history.events within j.script;
          channels = j.channels;
          writes = j.writes;
          references = j.references;
          printed = j.printed;
          next = j.next;
          few = j.few;
          saved = j.saved;
          saved_fit = j.saved_fit;
          nodes = j.nodes;
        };
        threads = record {
          threads = t.threads;
          fit = t.fit;
          generations = t.generations;
          doing = t.doing;
          queue = t.queue;
          offers = t.offers;
          found = t.found;
        };
      };
    }

pub fed_book : (job : JobParts) (parts : Parts) (more : List ℤ) → IsWithinScript (view_of job parts) → IsBook job parts → IsBook (longer job more) parts
fed_book job parts more within b = record {
  kept = record {
    valid = b.kept.valid;
    shown = fed_shown (view_of job parts) more within b.kept.shown;
    tallied = record {
      probes = b.kept.tallied.probes;
      finals = b.kept.tallied.finals;
      released = b.kept.tallied.released;
      undos = b.kept.tallied.undos;
      faulted = b.kept.tallied.faulted;
    };
    read = b.kept.read;
    prints = b.kept.prints;
  };
  short = b.short;
}

-- so it is after a call that adds these numbers, or none
pub fed_or_not : {A E : Type 0} (job new : JobParts) (parts : Parts) (more : List ℤ) (r : Result A E) → OnOk r (new ≡ longer job more) → OnErr r (new ≡ job) → IsWithinScript (view_of job parts) → IsBook job parts → IsBook new parts
fed_or_not job new parts more (Ok a) longer_now same within b = subst (λ (j : JobParts). IsBook j parts) (sym longer_now) (fed_book job parts more within b)
fed_or_not job new parts more (Err e) longer_now same within b = subst (λ (j : JobParts). IsBook j parts) (sym same) b
