use Rattle.std.proofs.Common.{◌≡◌, length, ap, sym, subst, ◌∙◌, arith}
use Rattle.commit_book.specs.declared.counts.Tallies.{Tallies}
use Rattle.commit_book.specs.Layout.{owed}
use Rattle.commit_book.proofs.Acting.Releasing.{owed_none}
use Rattle.stab_code.specs.Program.{ProgramParts}
use Rattle.commit_book.specs.Started.{IsStarted}
use Rattle.commit_book.proofs.Threads.Starting.{start_kept, start_main, start_shown}
use Rattle.commit_book.proofs.book.Book.new.Goals as goal

pub invariant_of-result : goal.invariant_of-result
invariant_of-result c =
    let started = subst (λ (p : ProgramParts). IsStarted p c.in_ok-parts.parts) (c.deref.ensures ∙ c.program.ensures.value) c.in_ok-parts.ensures in
    let none : length c.in_ok-parts.parts.history.events ≡ 0 = ap length started.events in
    let paid : owed c.in_ok-parts.parts ≡ 0 = owed_none c.in_ok-parts.parts (ap (λ (t : Tallies). t.released) started.tallies ∙ ap (λ (t : Tallies). t.finals) (sym started.tallies)) in
    record { kept = start_kept c.args.job c.in_ok-parts.parts started; short = omega (arith, none, paid) }

pub returns-clause-shown : goal.returns-clause-shown
returns-clause-shown c = (start_kept c.args.job c.in_ok-parts.parts (subst (λ (p : ProgramParts). IsStarted p c.in_ok-parts.parts) (c.deref.ensures ∙ c.program.ensures.value) c.in_ok-parts.ensures)).shown

pub returns-clause-start : goal.returns-clause-start
returns-clause-start c =
    let started = subst (λ (p : ProgramParts). IsStarted p c.in_ok-parts.parts) (c.deref.ensures ∙ c.program.ensures.value) c.in_ok-parts.ensures in
    record {
      events = started.events;
      shows = start_shown c.args.job c.in_ok-parts.parts started;
      main = start_main c.args.job c.in_ok-parts.parts started;
      answered = ap (λ t. record { commits = t.commits; stale = t.stale }) started.tallies;
    }
