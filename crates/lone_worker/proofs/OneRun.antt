-- From one desk a run has one journal.
use Rattle.std.proofs.Common.{◌≡◌, ◌⊎◌, inl, inr, ℕ, List, [], ◌∷◌, ◌++◌, refl, sym, ap, subst, subst₂, ◌∙◌, append-nil, append_assoc}
use Rattle.std.specs.Prelude.{nat_eq, nat_le, nat_lt, ◌&&◌, if◌then◌else◌}
use Rattle.stab_code.specs.JobParts.{JobParts}
use Rattle.stab_journal.specs.declared.event.Event.{Event}
use Rattle.stab_journal.specs.declared.event.What.TheVariants.{Release}
use Rattle.stab_journal.specs.Due.{due}
use Rattle.stab_journal.specs.Event.{weight_of}
use Rattle.thread_slots.specs.declared.state.State.TheVariants.{Leased}
use Rattle.language.specs.Standing.{event}
use Rattle.commit_book.specs.declared.turn.Turn.TheVariants as turn
use Rattle.commit_book.specs.Book.{BookView}
use Rattle.commit_book.specs.Counts.{in_state}
use Rattle.commit_book.specs.Releases.{IsReleased, finals}
use Rattle.commit_book.specs.Turns.{IsTurn, choice_of, first_ready, is_empty}
use Rattle.lone_worker.specs.declared.worker.RunEnd.{RunEnd}
use Rattle.lone_worker.specs.declared.worker.RunEnd.TheVariants.{Quiet, Spent, Due, NoMemory}
use Rattle.lone_worker.specs.Desk.{Desk, IsUnlent, desk_of}
use Rattle.lone_worker.specs.Running.{AreTurns, none, one_more, IsEndOf, IsRun}
use Rattle.lone_worker.specs.Rounds.{AreRounds, IsPlayed}
use Rattle.lone_worker.specs.Rounds as rounds
use Rattle.lone_worker.specs.Solo.{AreOfOne, BeginsWith, IsSolo, IsWhole, IsWholeSolo}
use Rattle.lone_worker.specs.Turn.{IsTurnOf, worker}
use Rattle.lone_worker.proofs.LeftByTurn.{begins}
use Rattle.lone_worker.proofs.OneStart.{one_start, start_unlent}
use Rattle.lone_worker.proofs.OneTurn.{one_turn}
use Rattle.lone_worker.proofs.Released.{one_release, released_events}

-- ---- which turn comes next

abbrev choose : {C : Type 0} → C → C → C → (List ℕ → C) → List Event → List ℕ → ℕ → ℕ → C
choose release quiet spent first events queue leased fuel =
    if nat_lt 0 (due events) then release
    else (if is_empty queue && nat_eq leased 0 then quiet
    else (if nat_le fuel (weight_of events) then spent
    else first queue))

one_chosen : {C : Type 0} (release quiet spent : C) (first : List ℕ → C) (xs ys : List Event) (qs rs : List ℕ) (k l m n : ℕ) → xs ≡ ys → qs ≡ rs → k ≡ l → m ≡ n
    → choose release quiet spent first xs qs k m ≡ choose release quiet spent first ys rs l n
one_chosen release quiet spent first xs ys qs rs k l m n events queue leased fuel = λ i. choose release quiet spent first (events i) (queue i) (leased i) (fuel i)

pub one_choice : (a b : BookView) → IsUnlent a → IsUnlent b → desk_of a ≡ desk_of b → choice_of a ≡ choice_of b
one_choice a b unlent_a unlent_b same =
    one_chosen _ _ _ first_ready a.history.events b.history.events a.queue b.queue (in_state Leased a) (in_state Leased b) a.job.fuel b.job.fuel
    (ap (λ (d : Desk). d.events) same) (ap (λ (d : Desk). d.queue) same) (unlent_a.free ∙ sym unlent_b.free) (ap (λ (d : Desk). d.job.fuel) same)

-- ---- moves

-- a release, where it comes next
record IsRelease (a x : BookView) : Type 0 where
  due : IsTurn a a worker turn.Release
  released : IsReleased a x worker

-- a turn or a release
abbrev IsMove : BookView → BookView → Type 0
IsMove a x = IsTurnOf a x ⊎ IsRelease a x

-- from one desk they leave one desk
one_move : (a b x y : BookView) → IsUnlent a → IsUnlent b → IsUnlent x → IsUnlent y → IsMove a x → IsMove b y → desk_of a ≡ desk_of b → desk_of x ≡ desk_of y
one_move a b x y unlent_a unlent_b unlent_x unlent_y (inl here) (inl there) same = one_turn a b x y unlent_a unlent_b unlent_x unlent_y here there same
one_move a b x y unlent_a unlent_b unlent_x unlent_y (inl here) (inr there) same =
    let choice = one_choice a b unlent_a unlent_b same in let works = here.leases.0 in let due = there.due.0 in absurd (cc)
one_move a b x y unlent_a unlent_b unlent_x unlent_y (inr here) (inl there) same =
    let choice = one_choice a b unlent_a unlent_b same in let due = here.due.0 in let works = there.leases.0 in absurd (cc)
one_move a b x y unlent_a unlent_b unlent_x unlent_y (inr here) (inr there) same = one_release a b x y same here.released there.released

move_begins : (a x : BookView) → IsUnlent a → IsUnlent x → IsMove a x → BeginsWith x.history.events a.history.events
move_begins a x unlent after (inl here) = begins a x unlent after here
move_begins a x unlent after (inr here) = record { rest = event worker (Release (finals a)) ∷ []; is = released_events a x here.released }

-- none comes where a run came to its end
no_move : (e : RunEnd) (last new at x : BookView) → IsWhole e → IsEndOf e last new → choice_of last ≡ choice_of at → IsMove at x → ⊥
no_move Quiet last new at x whole ends same (inl here) = let is = ends.0 in let works = here.leases.0 in absurd (cc)
no_move Quiet last new at x whole ends same (inr here) = let is = ends.0 in let due = here.due.0 in absurd (cc)
no_move Spent last new at x whole ends same (inl here) = let is = ends.0 in let works = here.leases.0 in absurd (cc)
no_move Spent last new at x whole ends same (inr here) = let is = ends.0 in let due = here.due.0 in absurd (cc)
no_move Due last new at x whole ends same move = absurd whole
no_move NoMemory last new at x whole ends same move = absurd whole

one_end : (e f : RunEnd) (last new other left : BookView) → choice_of last ≡ choice_of other → IsWhole e → IsWhole f → IsEndOf e last new → IsEndOf f other left → e ≡ f
one_end Quiet Quiet last new other left same whole whole' ends ends' = refl
one_end Spent Spent last new other left same whole whole' ends ends' = refl
one_end Quiet Spent last new other left same whole whole' ends ends' = let is = ends.0 in let is' = ends'.0 in absurd (cc)
one_end Spent Quiet last new other left same whole whole' ends ends' = let is = ends.0 in let is' = ends'.0 in absurd (cc)
one_end Due f last new other left same whole whole' ends ends' = absurd whole
one_end NoMemory f last new other left same whole whole' ends ends' = absurd whole
one_end e Due last new other left same whole whole' ends ends' = absurd whole'
one_end e NoMemory last new other left same whole whole' ends ends' = absurd whole'

-- an end adds no event, and a whole run's end changes nothing
end_events : (e : RunEnd) (last new : BookView) → IsEndOf e last new → new.history.events ≡ last.history.events
end_events Quiet last new is = ap (λ (b : BookView). b.history.events) is.1
end_events Spent last new is = ap (λ (b : BookView). b.history.events) is.1
end_events Due last new is = ap (λ (b : BookView). b.history.events) is.1
end_events NoMemory last new is = ap (λ j. j.events) is

end_whole : (e : RunEnd) (last new : BookView) → IsWhole e → IsEndOf e last new → new ≡ last
end_whole Quiet last new whole is = is.1
end_whole Spent last new whole is = is.1
end_whole Due last new whole is = absurd whole
end_whole NoMemory last new whole is = absurd whole

-- one after another
data AreMoves : BookView → BookView → Type 0 where
  still : {book : BookView} → AreMoves book book
  moves : {old between new : BookView} → AreMoves old between → IsMove between new → IsUnlent new → AreMoves old new

with_turns : (a b x : BookView) → AreMoves a b → AreTurns b x → AreMoves a x
with_turns a b _ first none = first
with_turns a b _ first (one_more {between = w} turns here after) = moves (with_turns a b w first turns) (inl here) after

of_rounds : (a x : BookView) → AreRounds a x → AreMoves a x
of_rounds a _ rounds.none = still
of_rounds a _ (rounds.one_more {between = b} {last = c} {new = x} before run unlent released after) =
    let first : AreMoves a c = subst (AreMoves a) (sym run.ends.1) (with_turns a b run.last (of_rounds a b before) run.turns) in
    let due : IsTurn c c worker turn.Release = (ap choice_of run.ends.1 ∙ run.ends.0, refl) in
    moves first (inr (record { due = due; released = released })) after

of_play : (e : RunEnd) (a x : BookView) (play : IsPlayed e a x) → AreMoves a play.run.last
of_play e a x play = with_turns a play.last play.run.last (of_rounds a play.last play.rounds) play.run.turns

moved_unlent : (a x : BookView) → AreMoves a x → IsUnlent a → IsUnlent x
moved_unlent a _ still unlent = unlent
moved_unlent a _ (moves first here after) unlent = after

-- the first of some moves, and the others
record HasFirst (a x : BookView) : Type 0 where
  next : BookView
  move : IsMove a next
  after : IsUnlent next
  rest : AreMoves next x

first_of : (a x : BookView) → AreMoves a x → (a ≡ x) ⊎ HasFirst a x
first_of a _ still = inl refl
first_of a _ (moves {between = w} {new = x} before here after) = by (first_of a w before)
  where
    by : (a ≡ w) ⊎ HasFirst a w → (a ≡ x) ⊎ HasFirst a x
    by (inl same) = inr (record { next = x; move = subst (λ (b : BookView). IsMove b x) (sym same) here; after = after; rest = still })
    by (inr first) = inr (record { next = first.next; move = first.move; after = first.after; rest = moves first.rest here after })

moves_begin : (a x : BookView) → AreMoves a x → IsUnlent a → BeginsWith x.history.events a.history.events
moves_begin a _ still unlent = record { rest = []; is = sym (append-nil a.history.events) }
moves_begin a _ (moves {between = w} {new = x} first here after) unlent =
    let before = moves_begin a w first unlent in
    let more = move_begins w x (moved_unlent a w first unlent) after here in
    record { rest = before.rest ++ more.rest; is = more.is ∙ ap (λ es. es ++ more.rest) before.is ∙ append_assoc a.history.events before.rest more.rest }

-- moves that begin at the desk of x lead to y
record Onward (x y : BookView) : Type 0 where
  at : BookView
  same : desk_of x ≡ desk_of at
  unlent : IsUnlent at
  on : AreMoves at y

-- of the moves from two books with one desk, one list leads on from where the other ends
along : (a x : BookView) → AreMoves a x → (b y : BookView) → IsUnlent a → IsUnlent b → desk_of a ≡ desk_of b → AreMoves b y → (Onward x y) ⊎ (Onward y x)
along a _ still b y unlent_a unlent_b same others = inl (record { at = b; same = same; unlent = unlent_b; on = others })
along a _ (moves {between = w} {new = x} first here after) b y unlent_a unlent_b same others = by (along a w first b y unlent_a unlent_b same others)
  where
    unlent_w : IsUnlent w
    unlent_w = moved_unlent a w first unlent_a

    on : (o : Onward w y) → (o.at ≡ y) ⊎ HasFirst o.at y → (Onward x y) ⊎ (Onward y x)
    on o (inl end) = inr (record { at = w; same = sym (o.same ∙ ap desk_of end); unlent = unlent_w; on = moves still here after })
    on o (inr next) = inl (record { at = next.next; same = one_move w o.at x next.next unlent_w o.unlent after next.after here next.move o.same; unlent = next.after; on = next.rest })

    by : (Onward w y) ⊎ (Onward y w) → (Onward x y) ⊎ (Onward y x)
    by (inl o) = on o (first_of o.at y o.on)
    by (inr o) = inr (record { at = o.at; same = o.same; unlent = o.unlent; on = moves o.on here after })

onward_begins : (x y : BookView) → Onward x y → BeginsWith y.history.events x.history.events
onward_begins x y o =
    let more = moves_begin o.at y o.on o.unlent in
    record { rest = more.rest; is = more.is ∙ ap (λ (d : Desk). d.events ++ more.rest) (sym o.same) }

-- nothing is left to do where a run came to its end
onward_whole : (e : RunEnd) (x y new : BookView) → IsUnlent x → IsWhole e → IsEndOf e x new → Onward x y → desk_of x ≡ desk_of y
onward_whole e x y new unlent whole ends o = by (first_of o.at y o.on)
  where
    by : (o.at ≡ y) ⊎ HasFirst o.at y → desk_of x ≡ desk_of y
    by (inl end) = o.same ∙ ap desk_of end
    by (inr first) = absurd (no_move e x new o.at first.next whole ends (one_choice x o.at unlent o.unlent o.same) first.move)

-- ---- runs

begins_itself : (xs ys : List Event) → xs ≡ ys → BeginsWith xs ys
begins_itself xs ys same = record { rest = []; is = same ∙ sym (append-nil ys) }

module _ (a b x y : BookView) (e f : RunEnd) (unlent_a : IsUnlent a) (unlent_b : IsUnlent b) (same : desk_of a ≡ desk_of b) (played : IsPlayed e a x) (other_played : IsPlayed f b y) where
  abbrev run : IsRun e played.last x
  run = played.run

  abbrev other : IsRun f other_played.last y
  other = other_played.run

  unlent_last : IsUnlent run.last
  unlent_last = moved_unlent a run.last (of_play e a x played) unlent_a

  unlent_other : IsUnlent other.last
  unlent_other = moved_unlent b other.last (of_play f b y other_played) unlent_b

  meets : (Onward run.last other.last) ⊎ (Onward other.last run.last)
  meets = along a run.last (of_play e a x played) b other.last unlent_a unlent_b same (of_play f b y other_played)

  events_x : x.history.events ≡ run.last.history.events
  events_x = end_events e run.last x run.ends

  events_y : y.history.events ≡ other.last.history.events
  events_y = end_events f other.last y other.ends

  begins_on : BeginsWith other.last.history.events run.last.history.events → BeginsWith y.history.events x.history.events
  begins_on more = record { rest = more.rest; is = events_y ∙ more.is ∙ ap (λ es. es ++ more.rest) (sym events_x) }

  begins_back : BeginsWith run.last.history.events other.last.history.events → BeginsWith x.history.events y.history.events
  begins_back more = record { rest = more.rest; is = events_x ∙ more.is ∙ ap (λ es. es ++ more.rest) (sym events_y) }

  last_same : IsWhole e → IsWhole f → (Onward run.last other.last) ⊎ (Onward other.last run.last) → desk_of run.last ≡ desk_of other.last
  last_same whole whole' (inl o) = onward_whole e run.last other.last x unlent_last whole run.ends o
  last_same whole whole' (inr o) = sym (onward_whole f other.last run.last y unlent_other whole' other.ends o)

  has_all : IsWhole e → (Onward run.last other.last) ⊎ (Onward other.last run.last) → BeginsWith x.history.events y.history.events
  has_all whole (inl o) =
      let last = onward_whole e run.last other.last x unlent_last whole run.ends o in
      begins_itself x.history.events y.history.events (events_x ∙ ap (λ (d : Desk). d.events) last ∙ sym events_y)
  has_all whole (inr o) = begins_back (onward_begins other.last run.last o)

  one_of : (Onward run.last other.last) ⊎ (Onward other.last run.last) → BeginsWith x.history.events y.history.events ⊎ BeginsWith y.history.events x.history.events
  one_of (inl o) = inr (begins_on (onward_begins run.last other.last o))
  one_of (inr o) = inl (begins_back (onward_begins other.last run.last o))

  pub one_desk_left : IsWhole e → IsWhole f → desk_of x ≡ desk_of y
  one_desk_left whole whole' = ap desk_of (end_whole e run.last x whole run.ends) ∙ last_same whole whole' meets ∙ sym (ap desk_of (end_whole f other.last y whole' other.ends))

  pub one_run : AreOfOne e f x.history.events y.history.events
  one_run = record {
    either = one_of meets;
    whole = λ whole. has_all whole meets;
    same = λ whole whole'. (one_end e f run.last x other.last y (one_choice run.last other.last unlent_last unlent_other (last_same whole whole' meets)) whole whole' run.ends other.ends, ap (λ (d : Desk). d.events) (one_desk_left whole whole'));
  }

-- ---- of one job

pub one_solo : (job : JobParts) (e f : RunEnd) (xs ys : List Event) → IsSolo job e xs → IsSolo job f ys → AreOfOne e f xs ys
one_solo job e f xs ys a b =
    let same = one_start a.old b.old a.start b.start (a.of_job ∙ sym b.of_job) in
    let one = one_run a.old b.old a.new b.new e f (start_unlent a.old a.start) (start_unlent b.old b.start) same a.run b.run in
    subst₂ (AreOfOne e f) a.left b.left one

pub whole_begins : (job : JobParts) (f : RunEnd) (xs ys : List Event) → IsWholeSolo job xs → IsSolo job f ys → BeginsWith xs ys
whole_begins job f xs ys a b = (one_solo job a.end f xs ys a.solo b).whole a.whole

pub one_whole : (job : JobParts) (xs ys : List Event) → IsWholeSolo job xs → IsWholeSolo job ys → xs ≡ ys
one_whole job xs ys a b = ((one_solo job a.end b.end xs ys a.solo b.solo).same a.whole b.whole).1
