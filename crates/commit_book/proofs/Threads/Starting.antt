-- A book shows its start.
use Rattle.std.proofs.Common.{◌≡◌, inl, ℕ, zero, suc, ◌+◌, max, ℤ, Bool, true, false, cond, nat_eq, List, [], ◌∷◌, ◌++◌, length, map as each, Option, Some, None, refl, sym, ap, subst, ◌∙◌, arith}
use Rattle.std.specs.Prelude.{IfSome, IsSomeAnd, count_by, is_some, option_and_then, option_map, slice_get, unwrap_or, nat_lt, if◌then◌else◌}
use Rattle.std.specs.List.{IsDistinct}
use Rattle.std.specs.Option.{option_map_or}
use Rattle.std.specs.Ordering.{nat_cmp}
use Rattle.std.specs.FinMap as map
use Rattle.std.specs.FinMap.{FinMap, get-empty}
use Rattle.std.specs.FinSet as set
use Rattle.stab_code.specs.JobParts.{JobParts}
use Rattle.stab_code.specs.Program.{ProgramParts}
use Rattle.stab_journal.specs.declared.event.Event.{Event}
use Rattle.stab_journal.specs.declared.event.Numbered.{Numbered}
use Rattle.stab_journal.specs.Generation.{generation}
use Rattle.stab_journal.specs.Due.{final_prints, released}
use Rattle.stab_journal.specs.Floor.{floor}
use Rattle.stab_journal.specs.Journal.{survivors, survivors_from}
use Rattle.stab_journal.specs.Script.{FollowsScript, script_at, probed}
use Rattle.thread_slots.specs.Slot.{Slot, started, same_state}
use Rattle.thread_slots.specs.declared.state.State.TheVariants.{Parked}
use Rattle.thread_slots.specs.Ready.{numbers}
use Rattle.rendezvous.specs.declared.offer.Offer.{Offer}
use Rattle.rendezvous.specs.Line.{nobody, LineBacked}
use Rattle.rendezvous.specs.Line as line
use Rattle.ref_log.specs.Log.{last_of}
use Rattle.checkpoint_store.specs.Saved.{place_cmp}
use Rattle.language.specs.Plain.{start}
use Rattle.language.specs.Standing.{StandsFor, nothing}
use Rattle.language.proofs.Applying.{get_inserted}
use Rattle.step_eval.specs.ControlView.{ControlView, Fits, RedexIsFound, expr_of}
use Rattle.print_log.specs.Log.{Print}
use Rattle.commit_book.specs.declared.parts.Parts.{Parts}
use Rattle.commit_book.specs.Book.{ShowsJournal, ShowsThreads, ShowsRun, over, offered}
use Rattle.commit_book.specs.Counts.{faulted_in, is_undo}
use Rattle.commit_book.specs.Doing.{IsDoing, is_over, is_failed, waits_with}
use Rattle.commit_book.specs.Layout.{AreTallied, IsKept, view_of}
use Rattle.stab_journal.specs.Numbers.{greatest, threads_by, named_by, chans_in, refs_in}
use Rattle.commit_book.specs.Printing.{ArePrints, numbers_of, prints_above}
use Rattle.commit_book.specs.Started.{IsStarted}
use Rattle.commit_book.proofs.Keeping.ReadKept.{read_none_yet}

none_got : (script : List ℤ) (i : ℕ) → IfSome (slice_get [] i) (λ n. n ≡ script_at script i)
none_got script zero = tt
none_got script (suc i) = tt

none_none : {X : Type 0} (b : Bool) → cond {A = Option X} b None None ≡ None
none_none true = refl
none_none false = refl

-- the only thread is thread 1
one_thread : (p : ProgramParts) (slot : Slot ControlView) (t : ℕ) → option_map (λ (s : Slot ControlView). expr_of p s.control) (map.get (map.insert {R = nat_cmp} map.empty 1 slot) t) ≡ map.get (map.insert {R = nat_cmp} map.empty 1 (expr_of p slot.control)) t
one_thread p slot t =
    ap (option_map (λ (s : Slot ControlView). expr_of p s.control)) (get_inserted map.empty 1 slot t)
    ∙ (elim (nat_eq t 1) as (λ b. option_map (λ (s : Slot ControlView). expr_of p s.control) (cond b (Some slot) (map.get {R = nat_cmp} map.empty t)) ≡ cond b (Some (expr_of p slot.control)) (map.get {R = nat_cmp} map.empty t)) [
      | true ↦ refl
      | false ↦ ap (option_map (λ (s : Slot ControlView). expr_of p s.control)) (get-empty nat_cmp t) ∙ sym (get-empty nat_cmp t)
    ])
    ∙ sym (get_inserted map.empty 1 (expr_of p slot.control) t)

-- what holds of thread 1
only : (P : Slot ControlView → Type 0) (slot : Slot ControlView) → P slot → (t : ℕ) → IfSome (map.get (map.insert {R = nat_cmp} map.empty 1 slot) t) P
only P slot h t =
    subst (λ (o : Option (Slot ControlView)). IfSome o P) (sym (get_inserted map.empty 1 slot t))
    (elim (nat_eq t 1) as (λ b. IfSome (cond b (Some slot) (map.get {R = nat_cmp} map.empty t)) P) [
      | true ↦ h
      | false ↦ subst (λ (o : Option (Slot ControlView)). IfSome o P) (sym (get-empty nat_cmp t)) tt
    ])

waits_not : (offers : ControlView → Option Offer) (c : ControlView) (b : Bool) → waits_with offers (started c b) ≡ None
waits_not offers c true = refl
waits_not offers c false = refl

no_offer : (offers : ControlView → Option Offer) (c : ControlView) (b : Bool) (t : ℕ) → option_and_then (waits_with offers) (map.get (map.insert {R = nat_cmp} map.empty 1 (started c b)) t) ≡ None
no_offer offers c b t =
    ap (option_and_then (waits_with offers)) (get_inserted map.empty 1 (started c b) t)
    ∙ (elim (nat_eq t 1) as (λ k. option_and_then (waits_with offers) (cond k (Some (started c b)) (map.get {R = nat_cmp} map.empty t)) ≡ None) [
      | true ↦ waits_not offers c b
      | false ↦ ap (option_and_then (waits_with offers)) (get-empty nat_cmp t)
    ])

starts_so : (c : ControlView) (b : Bool) (over : ControlView → Bool) (offers : ControlView → Option Offer) → b ≡ over c → IsDoing over offers (started c b)
starts_so c true over offers is = record { ended = is; parked = λ h. absurd (cc) }
starts_so c false over offers is = record { ended = is; parked = λ h. absurd (cc) }

not_parked : (P : ControlView → Type 0) (c : ControlView) (b : Bool) → same_state Parked (started c b).state ≡ true → P c
not_parked P c true h = absurd (cc)
not_parked P c false h = absurd (cc)

at_one : (f : Slot ControlView → Bool) (slot : Slot ControlView) → length (numbers (λ t. option_map_or f (map.get (map.insert {R = nat_cmp} map.empty 1 slot) t) false) 2) ≡ (if f slot then 1 else 0)
at_one f slot =
    let m : FinMap nat_cmp (Slot ControlView) = map.insert {R = nat_cmp} map.empty 1 slot in
    let none : map.get m 0 ≡ None = get_inserted map.empty 1 slot 0 ∙ get-empty nat_cmp 0 in
    let some : map.get m 1 ≡ Some slot = get_inserted map.empty 1 slot 1 in
    let last : (b : Bool) → length (cond {A = List ℕ} b (1 ∷ []) []) ≡ cond {A = ℕ} b 1 0 = λ b. one b in
    ap (λ (o : Option (Slot ControlView)). length ((cond {A = List ℕ} (option_map_or f o false) (0 ∷ []) []) ++ cond {A = List ℕ} (option_map_or f (map.get m 1) false) (1 ∷ []) [])) none
    ∙ ap (λ (o : Option (Slot ControlView)). length (cond {A = List ℕ} (option_map_or f o false) (1 ∷ []) [])) some
    ∙ last (f slot)
  where
    one : (b : Bool) → length (cond {A = List ℕ} b (1 ∷ []) []) ≡ cond {A = ℕ} b 1 0
    one true = refl
    one false = refl

pub start_journal : (job : JobParts) (parts : Parts) → IsStarted job.program parts → ShowsJournal (view_of job parts) [] (start job.program)
start_journal job parts is = let p = job.program in record {
  history = record {
    stands = subst (λ (es : List Event). StandsFor p es [] (start p)) (sym is.events) nothing;
    left = ap (survivors_from parts.history.struck 1) is.events;
  };
  script = subst (FollowsScript job.script) (sym is.events) (none_got job.script);
  channels = λ c. ap (λ m. map.contains_key m c) is.lines ∙ ap is_some (get-empty nat_cmp c) ∙ sym (set.contains-empty nat_cmp c);
  writes = record { cut = is.last_cut; writes = is.writes };
  references = λ r. ap (λ ws. option_map (λ w. w.value) (last_of ws)) (is.writes r) ∙ sym (get-empty nat_cmp r);
  printed = ap (λ fs. fs ++ each (λ (p : Print). p.value) parts.printed.recent) is.finals ∙ ap (each (λ (p : Print). p.value)) is.recent;
  next = record {
    thread = is.next ∙ sym (ap (λ es. max 1 (greatest threads_by es) + 1) is.events);
    chan = is.chan ∙ sym (ap (λ es. greatest (named_by chans_in) es + 1) is.events);
    ref = is.ref ∙ sym (ap (λ es. greatest (named_by refs_in) es + 1) is.events);
  };
  few = record {
    threads = omega (arith, is.next);
    chans = omega (arith, is.chan);
    refs = omega (arith, is.ref);
  };
  saved = λ q t. ap (λ m. option_map (expr_of p) (map.get m (record { 0 = q }, record { 0 = t }))) is.saved ∙ ap (option_map (expr_of p)) (get-empty place_cmp (record { 0 = q }, record { 0 = t })) ∙ sym (none_none (nat_lt 0 q));
  saved_fit = λ q t. subst (λ (m : FinMap place_cmp ControlView). IfSome (map.get m (record { 0 = q }, record { 0 = t })) (Fits p)) (sym is.saved) (subst (λ (o : Option ControlView). IfSome o (Fits p)) (sym (get-empty place_cmp (record { 0 = q }, record { 0 = t }))) tt);
  nodes = is.nodes;
}

pub start_threads : (job : JobParts) (parts : Parts) → IsStarted job.program parts → ShowsThreads (view_of job parts) (start job.program)
start_threads job parts is = let p = job.program in let over_main = is_over (expr_of p is.main) in let slot = started is.main over_main in record {
  threads = λ t. ap (λ m. option_map (λ (s : Slot ControlView). expr_of p s.control) (map.get m t)) is.threads ∙ one_thread p slot t ∙ ap (λ e. map.get (map.insert {R = nat_cmp} map.empty 1 e) t) is.stands;
  fit = λ t. subst (λ (m : FinMap nat_cmp (Slot ControlView)). IfSome (map.get m t) (λ s. Fits p s.control)) (sym is.threads) (only (λ s. Fits p s.control) slot is.fits t);
  generations = λ t. subst (λ (m : FinMap nat_cmp (Slot ControlView)). IfSome (map.get m t) (λ s. s.generation ≡ generation t parts.history.events)) (sym is.threads)
      (only (λ s. s.generation ≡ generation t parts.history.events) slot (sym (ap (generation t) is.events)) t);
  doing = λ t. subst (λ (m : FinMap nat_cmp (Slot ControlView)). IfSome (map.get m t) (IsDoing (over p) (offered p))) (sym is.threads) (only (IsDoing (over p) (offered p)) slot (starts_so is.main over_main (over p) (offered p) refl) t);
  queue = is.sound.queue;
  offers = record {
    each = λ t. ap (λ m. map.get m t) is.offers ∙ get-empty nat_cmp t ∙ sym (ap (λ m. option_and_then (waits_with (offered p)) (map.get m t)) is.threads ∙ no_offer (offered p) is.main over_main t);
    lines = record {
      backed = λ c t. subst (λ (o : Option Offer). LineBacked c t o (map.get parts.offers.lines c)) (sym (ap (λ m. map.get m t) is.offers ∙ get-empty nat_cmp t))
          (subst (λ (o : Option line.Line). LineBacked c t None o) (sym (ap (λ m. map.get m c) is.lines ∙ get-empty nat_cmp c)) (refl, refl));
      once = λ c. subst (λ (o : Option line.Line). IfSome o (λ (l : line.Line). IsDistinct nat_eq l.sends × IsDistinct nat_eq l.receives)) (sym (ap (λ m. map.get m c) is.lines ∙ get-empty nat_cmp c)) tt;
    };
    one_side = λ c. inl (ap (λ o. (unwrap_or o nobody).sends) (ap (λ m. map.get m c) is.lines ∙ get-empty nat_cmp c));
  };
  found = λ t. subst (λ (m : FinMap nat_cmp (Slot ControlView)). IfSome (map.get m t) (λ s. same_state Parked s.state ≡ true → RedexIsFound s.control)) (sym is.threads) (only (λ s. same_state Parked s.state ≡ true → RedexIsFound s.control) slot (not_parked RedexIsFound is.main over_main) t);
}

pub start_shown : (job : JobParts) (parts : Parts) → IsStarted job.program parts → ShowsRun (view_of job parts) [] (start job.program)
start_shown job parts is = record { journal = start_journal job parts is; threads = start_threads job parts is }

pub start_main : (job : JobParts) (parts : Parts) → IsStarted job.program parts → IsSomeAnd (map.get parts.slots.threads 1) (λ slot. slot ≡ started slot.control (over job.program slot.control))
start_main job parts is =
    let slot = started is.main (is_over (expr_of job.program is.main)) in
    subst (λ (o : Option (Slot ControlView)). IsSomeAnd o (λ slot. slot ≡ started slot.control (over job.program slot.control)))
    (sym (ap (λ m. map.get m 1) is.threads ∙ get_inserted map.empty 1 slot 1)) refl

pub start_tallied : (p : ProgramParts) (parts : Parts) → IsStarted p parts → AreTallied p parts
start_tallied p parts is = record {
  probes = ap (λ t. t.probes) is.tallies ∙ sym (ap (λ es. length (probed es)) is.events);
  finals = ap (λ t. t.finals) is.tallies ∙ sym (ap final_prints (ap (survivors_from parts.history.struck 1) is.events));
  released = ap (λ t. t.released) is.tallies ∙ sym (ap released is.events);
  undos = ap (λ t. t.undos) is.tallies ∙ sym (ap (count_by is_undo) is.events);
  faulted = ap (λ t. t.faulted) is.tallies ∙ sym (ap (λ n. faulted_in p parts.slots.threads n) is.next ∙ ap (λ m. faulted_in p m 2) is.threads ∙ at_one (λ slot. is_failed (expr_of p slot.control)) (started is.main (is_over (expr_of p is.main))));
}

pub start_prints : (p : ProgramParts) (parts : Parts) → IsStarted p parts → ArePrints parts.history parts.printed
start_prints p parts is =
    let none : survivors parts.history ≡ [] = ap (survivors_from parts.history.struck 1) is.events in
    record {
      finals = ap length is.finals ∙ sym (ap final_prints none);
      recent = ap numbers_of is.recent ∙ sym (ap (λ (run : List Numbered). prints_above (floor run) run) none);
    }

pub start_kept : (job : JobParts) (parts : Parts) → IsStarted job.program parts → IsKept job parts
start_kept job parts is = record { valid = is.valid; shown = record { run = []; state = start job.program; shows = start_shown job parts is }; tallied = start_tallied job.program parts is; read = read_none_yet parts.history parts.rollback (ap (survivors_from parts.history.struck 1) is.events) is.unread; prints = start_prints job.program parts is }
