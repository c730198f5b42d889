-- What a desk tells of the next turn, and how it changes.
use Rattle.std.proofs.Common.{◌≡◌, ℕ, Bool, true, false, cond, ◌&&◌, nat_eq, List, [], ◌∷◌, ◌++◌, length, Option, Some, None, refl, sym, ap, ◌∙◌}
use Rattle.std.specs.Prelude.{map as each, nat_le, nat_lt, option_map, if◌then◌else◌}
use Rattle.std.specs.Option.{option_map_or}
use Rattle.std.specs.FinMap as map
use Rattle.linked_lists.specs.Lists.{without}
use Rattle.stab_code.specs.Program.{ProgramParts}
use Rattle.stab_journal.specs.declared.event.Event.{Event}
use Rattle.stab_journal.specs.Due.{due}
use Rattle.stab_journal.specs.Event.{weight_of}
use Rattle.thread_slots.specs.declared.state.State.{State}
use Rattle.thread_slots.specs.declared.state.State.TheVariants.{Ready, Leased}
use Rattle.thread_slots.specs.Ready.{numbers}
use Rattle.thread_slots.specs.Slot.{Slot, changed, is_in, same_state}
use Rattle.step_eval.specs.ControlView.{ControlView}
use Rattle.commit_book.specs.Book.{BookView}
use Rattle.commit_book.specs.Counts.{in_state}
use Rattle.commit_book.specs.Leases.{LeaseView}
use Rattle.commit_book.specs.Turns.{choice_of, first_ready, given_back, is_empty, is_held, leased, requeued}
use Rattle.commit_book.proofs.Threads.Lending.{get-changed}
use Rattle.lone_worker.specs.Desk.{Desk, Seat, desk_of, seat_of}
use Rattle.schedule_drill.specs.declared.held.Held.{Held}
use Rattle.schedule_drill.specs.Out.{all_given_back}

-- ---- how many threads do what

abbrev seated : State → Option Seat → Bool
seated state o = option_map_or (λ (s : Seat). same_state state s.state) o false

in_seat : (p : ProgramParts) (state : State) (o : Option (Slot ControlView)) → option_map_or (λ (slot : Slot ControlView). same_state state slot.state) o false ≡ seated state (option_map (seat_of p) o)
in_seat p state None = refl
in_seat p state (Some slot) = refl

module _ (a b : BookView) (same : desk_of a ≡ desk_of b) where
  pub one_in : (state : State) (u : ℕ) → is_in state a.threads u ≡ is_in state b.threads u
  one_in state u =
      in_seat a.job.program state (map.get a.threads u)
      ∙ ap (λ (d : Desk). seated state (d.threads u)) same
      ∙ sym (in_seat b.job.program state (map.get b.threads u))

  pub one_count : (state : State) → in_state state a ≡ in_state state b
  one_count state = λ i. length (numbers (λ u. one_in state u i) (same i).next.thread)

-- ---- which turn comes next

abbrev choose : {C : Type 0} → C → C → C → (List ℕ → C) → List Event → List ℕ → ℕ → ℕ → C
choose release quiet spent first events queue leased fuel =
    if nat_lt 0 (due events) then release
    else (if is_empty queue && nat_eq leased 0 then quiet
    else (if nat_le fuel (weight_of events) then spent
    else first queue))

one_chosen : {C : Type 0} (release quiet spent : C) (first : List ℕ → C) (xs ys : List Event) (qs rs : List ℕ) (k l m n : ℕ) → xs ≡ ys → qs ≡ rs → k ≡ l → m ≡ n
    → choose release quiet spent first xs qs k m ≡ choose release quiet spent first ys rs l n
one_chosen release quiet spent first xs ys qs rs k l m n events queue leased fuel = λ i. choose release quiet spent first (events i) (queue i) (leased i) (fuel i)

pub one_choice : (a b : BookView) → desk_of a ≡ desk_of b → choice_of a ≡ choice_of b
one_choice a b same =
    one_chosen _ _ _ first_ready a.history.events b.history.events a.queue b.queue (in_state Leased a) (in_state Leased b) a.job.fuel b.job.fuel
    (ap (λ (d : Desk). d.events) same) (ap (λ (d : Desk). d.queue) same) (one_count a b same Leased) (ap (λ (d : Desk). d.job.fuel) same)

-- ---- a thread is in another state

abbrev restated : State → Option Seat → Option Seat
restated state o = option_map (λ (s : Seat). record s { state = state }) o

restate : (p : ProgramParts) (state : State) (o : Option (Slot ControlView)) → option_map (seat_of p) (option_map (λ (slot : Slot ControlView). record slot { state = state }) o) ≡ restated state (option_map (seat_of p) o)
restate p state None = refl
restate p state (Some slot) = refl

by_case : {X Y : Type 0} (f : X → Y) (b : Bool) (x y : X) → f (cond b x y) ≡ cond b (f x) (f y)
by_case f true x y = refl
by_case f false x y = refl

-- the desk once the thread t is in a state, and the queue is this one
abbrev pub requeued_on : State → ℕ → List ℕ → Desk → Desk
requeued_on state t queue d = record d { threads = λ u. cond (nat_eq u t) (restated state (d.threads t)) (d.threads u); queue = queue }

pub desk_requeued : (b : BookView) (state : State) (t : ℕ) (queue : List ℕ) → desk_of (requeued b (changed b.threads t (λ (slot : Slot ControlView). record slot { state = state })) queue) ≡ requeued_on state t queue (desk_of b)
desk_requeued b state t queue = λ i. record { job = b.job; events = b.history.events; threads = λ u. at u i; queue = queue; offers = b.offers; next = b.next }
  where
    at : (u : ℕ) → option_map (seat_of b.job.program) (map.get (changed b.threads t (λ (slot : Slot ControlView). record slot { state = state })) u)
        ≡ cond (nat_eq u t) (restated state (option_map (seat_of b.job.program) (map.get b.threads t))) (option_map (seat_of b.job.program) (map.get b.threads u))
    at u =
        ap (option_map (seat_of b.job.program)) (get-changed b.threads t u (λ (slot : Slot ControlView). record slot { state = state }))
        ∙ by_case (option_map (seat_of b.job.program)) (nat_eq u t) (option_map (λ (slot : Slot ControlView). record slot { state = state }) (map.get b.threads t)) (map.get b.threads u)
        ∙ ap (λ o. cond (nat_eq u t) o (option_map (seat_of b.job.program) (map.get b.threads u))) (restate b.job.program state (map.get b.threads t))

-- a thread that is lent
pub desk_leased : (b : BookView) (t : ℕ) → desk_of (leased b t) ≡ requeued_on Leased t (without t b.queue) (desk_of b)
desk_leased b t = desk_requeued b Leased t (without t b.queue)

-- ---- a lease that is given back

abbrev pub held_in_seat : ℕ → Option Seat → Bool
held_in_seat generation o = option_map_or (λ (s : Seat). nat_eq s.generation generation && same_state Leased s.state) o false

held_seat : (p : ProgramParts) (generation : ℕ) (o : Option (Slot ControlView)) → option_map_or (λ (slot : Slot ControlView). nat_eq slot.generation generation && same_state Leased slot.state) o false ≡ held_in_seat generation (option_map (seat_of p) o)
held_seat p generation None = refl
held_seat p generation (Some slot) = refl

abbrev pub given_on : LeaseView → Desk → Desk
given_on lease d = cond (held_in_seat lease.generation (d.threads lease.thread)) (requeued_on Ready lease.thread (without lease.thread d.queue ++ lease.thread ∷ []) d) d

pub desk_given : (b : BookView) (lease : LeaseView) → desk_of (given_back b lease) ≡ given_on lease (desk_of b)
desk_given b lease =
    by_case desk_of (is_held b lease) (requeued b (changed b.threads lease.thread (λ (slot : Slot ControlView). record slot { state = Ready })) (without lease.thread b.queue ++ lease.thread ∷ [])) b
    ∙ ap (λ d. cond (is_held b lease) d (desk_of b)) (desk_requeued b Ready lease.thread (without lease.thread b.queue ++ lease.thread ∷ []))
    ∙ ap (λ h. cond h (requeued_on Ready lease.thread (without lease.thread b.queue ++ lease.thread ∷ []) (desk_of b)) (desk_of b)) (held_seat b.job.program lease.generation (map.get b.threads lease.thread))

-- all of them
pub all_given_on : List LeaseView → Desk → Desk
all_given_on [] d = d
all_given_on (lease ∷ leases) d = all_given_on leases (given_on lease d)

pub desk_all_given : (b : BookView) (held : List Held) → desk_of (all_given_back b held) ≡ all_given_on (each (λ (h : Held). h.lease) held) (desk_of b)
unfolding all_given_on
desk_all_given b [] = refl
desk_all_given b (h ∷ held) = desk_all_given (given_back b h.lease) held ∙ ap (all_given_on (each (λ (h : Held). h.lease) held)) (desk_given b h.lease)
