use Rattle.std.proofs.Common.{◌≡◌, ℕ, ℤ, ◌≤◌, List, sym, ap, subst, ◌∙◌, arith}
use Rattle.std.specs.Prelude.{is_some, unwrap_or}
use Rattle.std.specs.FinMap as map
use Rattle.std.specs.FinMap.{from_entries}
use Rattle.std.specs.Ordering.{nat_cmp}
use Rattle.stab_code.specs.Program.{ProgramParts}
use Rattle.stab_journal.specs.declared.event.Event.{Event}
use Rattle.language.specs.Plain.{effect_of, language_of}
use Rattle.language.specs.Quiet.{IsQuiet}
use Rattle.image_laws.specs.Image.{Image, IsContinuedBy, StandsAt}
use Rattle.stab_image.specs.Limits.{max_number}
use Rattle.stab_image.specs.View.{image_of}
use Rattle.stab_image.proofs.Behind.{led_on, none_is, output_kept, still_none}
use Rattle.stab_image.proofs.Bare.{bare, continued_too}
use Rattle.stab_image.proofs.resuming.resume.Goals as goal
use Rattle.stab_image.proofs.resuming.resume.Goals.{In_ok-resumed}

pub go_on-requires-clause-origin : goal.go_on-requires-clause-origin
go_on-requires-clause-origin c =
    let s = c.image.invariant in
    let same = c.in_ok-generations.ensures ∙ c.deref.ensures.value in
    record {
      known = s.known;
      used = s.used;
      cut = s.cut;
      first = s.thread.0;
      thread = s.thread.1;
      chan = s.chan.1;
      reference = s.reference.1;
      below = s.named;
      generations = λ t. subst (λ (es : List (ℕ × ℕ)). unwrap_or (map.get (from_entries {R = nat_cmp} es) t) 0 ≤ max_number) (sym same) (s.put_back t);
    }

continues : (c : In_ok-resumed) → IsContinuedBy c.args.image c.in_ok-resumed.resumed.events.items c.in_ok-resumed.resumed.state.state
continues c =
    let a = c.image.inside in
    let r = c.in_ok-resumed.resumed in
    let same = c.in_ok-generations.ensures ∙ c.deref.ensures.value in
    subst (λ (i : Image). IsContinuedBy i r.events.items r.state.state) c.image.view_is
    (continued_too (image_of a) r.events.items r.state.state
    (subst (λ (p : ProgramParts). IsContinuedBy (record (bare (image_of a)) { program = p }) r.events.items r.state.state) c.image.invariant.program
    (subst (λ (es : List (ℕ × ℕ)). IsContinuedBy (record (bare (image_of a)) { program = a.state.program; generations = from_entries es }) r.events.items r.state.state) same c.in_ok-resumed.ensures.continues)))

program_is : (c : In_ok-resumed) → c.image.inside.state.program ≡ c.args.image.program
program_is c = c.image.invariant.program ∙ ap (λ (i : Image). i.program) c.image.view_is

pub returns-clause-resumed : goal.returns-clause-resumed
returns-clause-resumed c0 =
    let c = (goal.at.returns-clause-resumed c0).In_ok-resumed in
    let r = c.in_ok-resumed.resumed in
    record {
      continues = continues c;
      program = c.in_ok-resumed.ensures.program ∙ program_is c;
      workers = c.in_ok-resumed.ensures.workers;
      turns = c.in_ok-resumed.ensures.turns;
      spent = λ on.
          let h = c.in_ok-resumed.ensures.spent on in
          (h.0, λ quiet. h.1 (subst (λ (p : ProgramParts). IsQuiet (language_of p) r.state.state) (sym (program_is c)) quiet));
      quiet = λ off. subst (λ (p : ProgramParts). IsQuiet (language_of p) r.state.state) (program_is c) (c.in_ok-resumed.ensures.quiet off);
    }

pub returns-clause-behind : goal.returns-clause-behind
returns-clause-behind c0 =
    let c = (goal.at.returns-clause-behind c0).In_ok-resumed in
    let i = c.args.image in
    let r = c.in_ok-resumed.resumed in
    let h = continues c in
    let led = led_on i h.continues in
    let kept = output_kept (effect_of i.program) h.run i.state r.state.state led.ends in
    let a = c.image.inside in
    let next : i.next_thread ≡ a.next_thread = ap (λ (k : Image). k.next_thread) (sym c.image.view_is) in
    record {
      first = still_none i h.run r.state.state 0 led (omega (arith, c.image.invariant.thread.0, next)) (none_is _ (ap (λ (k : Image). is_some (map.get k.state.threads 0)) (sym c.image.view_is) ∙ c.image.invariant.thread_0));
      more = kept.more;
      printed = kept.is;
    }

pub returns-clause-history : goal.returns-clause-history
returns-clause-history c = λ (p : ProgramParts) (script : List ℤ) (events : List Event) (stands : StandsAt p script events c.args.image).
    c.continued.ensures p script events c.in_ok-resumed.resumed.events.items c.args.image c.in_ok-resumed.resumed.state.state stands (continues (goal.at.returns-clause-history c).In_ok-resumed)
