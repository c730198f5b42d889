-- Whole drills: at stands that pair the same comes of the same lines, and the same line can't be played.
use Rattle.std.proofs.Common.{◌≡◌, ℕ, List, [], ◌∷◌, ◌++◌, Option, Some, None, refl, sym, ap, subst, subst₂, ◌∙◌}
use Rattle.std.specs.Prelude.{IsSomeAnd, is_some}
use Rattle.std.specs.Ordering.{nat_cmp}
use Rattle.std.specs.FinMap as map
use Rattle.std.specs.FinMap.{get-empty}
use Rattle.stab_code.specs.JobParts.{JobParts}
use Rattle.stab_code.specs.Program.{ProgramParts}
use Rattle.journal_laws.proofs.Surviving.{some_is, some_none}
use Rattle.commit_book.specs.Book.{BookView, IsShown}
use Rattle.commit_book.proofs.Threads.Partners.{IsThere, there_of}
use Rattle.drill_text.specs.declared.order.Order.{Order}
use Rattle.drill_text.specs.declared.order.Verb.{Verb}
use Rattle.drill_text.specs.declared.order.Verb.TheVariants.{Lease, Step, Commit}
use Rattle.drill_text.specs.declared.script.Line.{Line}
use Rattle.lone_worker.specs.Desk.{desk_of}
use Rattle.lone_worker.proofs.OneStart.{one_start, start_shown}
use Rattle.drill_text.specs.declared.fault.DrillFault.{DrillFault}
use Rattle.drill_text.specs.declared.fault.DrillFault.TheVariants.{BadLine, NoSuchLease, HeldTwice, NoMemory}
use Rattle.schedule_drill.specs.declared.held.Held.{Held}
use Rattle.schedule_drill.specs.Alike.{AreAlike, AreOne, AreTrue, IsHeldTruly, IsOneHeld}
use Rattle.schedule_drill.specs.Drilled.{ArePlayed, IsDrilled, IsNew, IsOfScript, IsRefused, StopsAt, fault_at, fault_in, refused}
use Rattle.schedule_drill.specs.Out.{Out}
use Rattle.schedule_drill.specs.Played.{IsAnswered, IsCommit, IsObeyed, IsPlayed, IsStep, Stand}
use Rattle.schedule_drill.specs.Text.{answered}
use Rattle.schedule_drill.proofs.OneEnd.{one_end}
use Rattle.schedule_drill.proofs.OneFault.{one_fault}
use Rattle.schedule_drill.proofs.OneLease.{IsSame, one_leased}
use Rattle.schedule_drill.proofs.OneMade.{one_commit}
use Rattle.schedule_drill.proofs.OneStep.{one_step}
use Rattle.schedule_drill.proofs.Truth.{lease_true, none_true, of_found, step_true}
use Rattle.schedule_drill.proofs.TrueCommits.{commit_true}

-- the stands are alike, what is true of leases is true at both, and both books show their histories
pub record ArePaired (a b : Stand) : Type 0 where
  pub alike : AreAlike a b
  pub true_a : AreTrue a
  pub true_b : AreTrue b
  pub shown_a : IsShown a.book
  pub shown_b : IsShown b.book

-- the same was told, and the stands pair
pub record GoOn (x y : Stand) (s t : List ℕ) : Type 0 where
  pub told : s ≡ t
  pub paired : ArePaired x y

-- ---- one line

module _ (a b x y : Stand) (paired : ArePaired a b) (shown_x : IsShown x.book) (shown_y : IsShown y.book) where
  goes : (s t : List ℕ) → IsSame x y s t → AreTrue x → AreTrue y → GoOn x y s t
  goes s t same true_x true_y = record { told = same.told; paired = record { alike = same.alike; true_a = true_x; true_b = true_y; shown_a = shown_x; shown_b = shown_y } }

  one_held : (k : ℕ) (h i : Held) → map.get a.out k ≡ Some h → map.get b.out k ≡ Some i → IsOneHeld a.book.job.program b.book.job.program h i
  one_held k h i here there = subst₂ (AreOne a.book.job.program b.book.job.program) here there (paired.alike.out k)

  step : (k : ℕ) (s t : List ℕ) → IsThere (map.get a.out k) (IsStep a x k s) → IsThere (map.get b.out k) (IsStep b y k t) → GoOn x y s t
  step k s t h i =
      goes s t (one_step a b x y k s t h.value i.value paired.alike (one_held k h.value i.value h.found i.found) h.is i.is)
      (step_true a x k s h.value h.found h.is paired.true_a) (step_true b y k t i.value i.found i.is paired.true_b)

  commit : (k : ℕ) (s t : List ℕ) → IsThere (map.get a.out k) (IsCommit a x k s) → IsThere (map.get b.out k) (IsCommit b y k t) → GoOn x y s t
  commit k s t h i =
      let true_h = of_found (map.get a.out k) h.value (IsHeldTruly a.book) h.found (paired.true_a.held k) in
      let true_i = of_found (map.get b.out k) i.value (IsHeldTruly b.book) i.found (paired.true_b.held k) in
      goes s t (one_commit a b x y k s t h.value i.value paired.alike paired.shown_a paired.shown_b shown_x shown_y true_h true_i (one_held k h.value i.value h.found i.found) h.is i.is)
      (commit_true a x k s h.value paired.shown_a shown_x h.found h.is paired.true_a) (commit_true b y k t i.value paired.shown_b shown_y i.found i.is paired.true_b)

  obeyed : (verb : Verb) (k : ℕ) (s t : List ℕ) → IsObeyed a x verb k s → IsObeyed b y verb k t → GoOn x y s t
  obeyed Lease k s t here there =
      goes s t (one_leased a b x y k s t paired.alike here.1 there.1) (lease_true a x k s paired.shown_a here.1 paired.true_a) (lease_true b y k t paired.shown_b there.1 paired.true_b)
  obeyed Step k s t here there = step k s t (there_of (map.get a.out k) (IsStep a x k s) here) (there_of (map.get b.out k) (IsStep b y k t) there)
  obeyed Commit k s t here there = commit k s t (there_of (map.get a.out k) (IsCommit a x k s) here) (there_of (map.get b.out k) (IsCommit b y k t) there)

  by_order : (s t : List ℕ) (o : Option Order) → IsSomeAnd o (IsAnswered a x s) → IsSomeAnd o (IsAnswered b y t) → GoOn x y s t
  by_order s t None here there = absurd here
  by_order s t (Some order) here there =
      let on = obeyed order.verb order.lease here.what there.what here.obeyed there.obeyed in
      record { told = here.written ∙ ap (answered order) on.told ∙ sym there.written; paired = on.paired }

  pub one_line : (line : Line) (s t : List ℕ) → IsPlayed a x line s → IsPlayed b y line t → GoOn x y s t
  one_line line s t = by_order s t line.order

-- ---- lines

pub one_lines : (lines : List Line) (a b x y : Stand) (s t : List ℕ) → ArePaired a b → ArePlayed lines a s x → ArePlayed lines b t y → GoOn x y s t
one_lines [] a b x y s t paired here there = record { told = here.0 ∙ sym there.0; paired = subst₂ ArePaired (sym here.1) (sym there.1) paired }
one_lines (line ∷ lines) a b x y s t paired here there =
    let first = one_line a b here.next there.next paired here.shown there.shown line here.written there.written here.played there.played in
    let rest = one_lines lines here.next there.next x y here.more there.more first.paired here.follows there.follows in
    record { told = here.text_is ∙ (λ i. first.told i ++ rest.told i) ∙ sym there.text_is; paired = rest.paired }

-- ---- lines that can't be played

-- one that is played can be
module _ (old new : Stand) where
  in_out : (k at : ℕ) (what : List ℕ) (verb : Verb) → IsObeyed old new verb k what → refused (map.contains_key old.out k) verb at ≡ None
  in_out k at what Lease obeyed = ap (λ o. refused (is_some o) Lease at) obeyed.0
  in_out k at what Step obeyed = let h = there_of (map.get old.out k) (IsStep old new k what) obeyed in ap (λ o. refused (is_some o) Step at) h.found
  in_out k at what Commit obeyed = let h = there_of (map.get old.out k) (IsCommit old new k what) obeyed in ap (λ o. refused (is_some o) Commit at) h.found

  pub played_well : (line : Line) (text : List ℕ) → IsPlayed old new line text → fault_at old.out line ≡ None
  played_well line text = by line.order
    where
      by : (o : Option Order) → IsSomeAnd o (IsAnswered old new text) → fault_in old.out line.at o ≡ None
      by None played = absurd played
      by (Some order) played = in_out order.lease line.at played.what order.verb played.obeyed

heads : {X : Type 0} (x y : X) (xs ys : List X) → x ∷ xs ≡ y ∷ ys → x ≡ y
heads x y xs ys is = cc

tails : {X : Type 0} (x y : X) (xs ys : List X) → x ∷ xs ≡ y ∷ ys → xs ≡ ys
tails x y xs ys is = cc

-- whoever is at the stand b can't play what can't be played at a
no_line : (a b next : Stand) (line other : Line) (text : List ℕ) (f : DrillFault) → AreAlike a b → line ≡ other → fault_at a.out line ≡ Some f → IsPlayed b next other text → ⊥
no_line a b next line other text f alike same faulty played =
    some_none (sym faulty ∙ one_fault a b alike line ∙ ap (fault_at b.out) same ∙ played_well b next other text played)

-- a script doesn't go on where it stops
pub never_stops : (before : List Line) (line : Line) (behind : List Line) (a b last end : Stand) (s t : List ℕ) (f : DrillFault) → ArePaired a b
    → ArePlayed before a s last → fault_at last.out line ≡ Some f → ArePlayed (before ++ line ∷ behind) b t end → ⊥
never_stops [] line behind a b last end s t f paired here faulty there =
    no_line a b there.next line line there.written f paired.alike refl (ap (λ (l : Stand). fault_at l.out line) (sym here.1) ∙ faulty) there.played
never_stops (c ∷ before) line behind a b last end s t f paired here faulty there =
    let first = one_line a b here.next there.next paired here.shown there.shown c here.written there.written here.played there.played in
    never_stops before line behind here.next there.next last end here.more there.more f first.paired here.follows faulty there.follows

-- it stops once
pub stops_once : (before other : List Line) (line mate : Line) (behind rest : List Line) (a b last end : Stand) (s t : List ℕ) (f g : DrillFault) → ArePaired a b → before ++ line ∷ behind ≡ other ++ mate ∷ rest
    → ArePlayed before a s last → fault_at last.out line ≡ Some f → ArePlayed other b t end → fault_at end.out mate ≡ Some g → f ≡ g
stops_once [] [] line mate behind rest a b last end s t f g paired same here faulty there wrong =
    some_is (sym faulty ∙ ap (λ (l : Stand). fault_at l.out line) here.1 ∙ one_fault a b paired.alike line ∙ ap (fault_at b.out) (heads line mate behind rest same)
    ∙ ap (λ (l : Stand). fault_at l.out mate) (sym there.1) ∙ wrong)
stops_once [] (d ∷ other) line mate behind rest a b last end s t f g paired same here faulty there wrong =
    absurd (no_line a b there.next line d there.written f paired.alike (heads line d behind (other ++ mate ∷ rest) same) (ap (λ (l : Stand). fault_at l.out line) (sym here.1) ∙ faulty) there.played)
stops_once (c ∷ before) [] line mate behind rest a b last end s t f g paired same here faulty there wrong =
    absurd (some_none (sym (ap (λ (l : Stand). fault_at l.out mate) (sym there.1) ∙ wrong) ∙ sym (one_fault a b paired.alike mate)
    ∙ ap (fault_at a.out) (sym (heads c mate (before ++ line ∷ behind) rest same)) ∙ played_well a here.next c here.written here.played))
stops_once (c ∷ before) (d ∷ other) line mate behind rest a b last end s t f g paired same here faulty there wrong =
    let head = heads c d (before ++ line ∷ behind) (other ++ mate ∷ rest) same in
    let played = subst (λ (l : Line). IsPlayed b there.next l there.written) (sym head) there.played in
    let first = one_line a b here.next there.next paired here.shown there.shown c here.written there.written here.played played in
    stops_once before other line mate behind rest here.next there.next last end here.more there.more f g first.paired (tails c d (before ++ line ∷ behind) (other ++ mate ∷ rest) same)
    here.follows faulty there.follows wrong

-- ---- whole drills

none_out : (p q : ProgramParts) (m n : Out) → m ≡ map.empty → n ≡ map.empty → (k : ℕ) → AreOne p q (map.get m k) (map.get n k)
none_out p q m n here there k = subst₂ (AreOne p q) (sym (ap (λ (o : Out). map.get o k) here ∙ get-empty nat_cmp k)) (sym (ap (λ (o : Out). map.get o k) there ∙ get-empty nat_cmp k)) tt

-- new books of one job pair
pub paired_first : (job : JobParts) (a b : Stand) → IsNew job a → IsNew job b → ArePaired a b
paired_first job a b here there = record {
  alike = record {
    desk = one_start a.book b.book here.start there.start (here.of_job ∙ sym there.of_job);
    out = none_out a.book.job.program b.book.job.program a.out b.out here.out there.out;
  };
  true_a = none_true a here.out;
  true_b = none_true b there.out;
  shown_a = start_shown a.book here.start;
  shown_b = start_shown b.book there.start;
}

module _ (job : JobParts) (script : List Line) where
  both_played : (s t : List ℕ) (a b : BookView) (here : IsDrilled job script s a) (there : IsDrilled job script t b) → GoOn here.last there.last s t
  both_played s t a b here there = one_lines script here.first there.first here.last there.last s t (paired_first job here.first there.first here.begins there.begins) here.played there.played

  pub one_text : (s t : List ℕ) (a b : BookView) → IsDrilled job script s a → IsDrilled job script t b → s ≡ t
  one_text s t a b here there = (both_played s t a b here there).told

  pub one_book : (s t : List ℕ) (a b : BookView) → IsDrilled job script s a → IsDrilled job script t b → desk_of a ≡ desk_of b
  one_book s t a b here there = ap desk_of here.left ∙ one_end here.last there.last (both_played s t a b here there).paired.alike ∙ sym (ap desk_of there.left)

  -- why the script can't be played
  record Stopped (f : DrillFault) : Type 0 where
    first : Stand
    begins : IsNew job first
    stops : StopsAt first script f

  stopped : (f : DrillFault) → IsOfScript f → IsRefused job script f → Stopped f
  stopped NoMemory of_script is = absurd of_script
  stopped (BadLine at) of_script is = record { first = is.0; begins = is.1; stops = is.2 }
  stopped (NoSuchLease at) of_script is = record { first = is.0; begins = is.1; stops = is.2 }
  stopped (HeldTwice at) of_script is = record { first = is.0; begins = is.1; stops = is.2 }

  pub one_reason : (f g : DrillFault) → IsOfScript f → IsOfScript g → IsRefused job script f → IsRefused job script g → f ≡ g
  one_reason f g of_f of_g here there =
      let u = stopped f of_f here in
      let v = stopped g of_g there in
      stops_once u.stops.before v.stops.before u.stops.line v.stops.line u.stops.behind v.stops.behind u.first v.first u.stops.last v.stops.last u.stops.text v.stops.text f g
      (paired_first job u.first v.first u.begins v.begins) (sym u.stops.script_is ∙ v.stops.script_is) u.stops.played u.stops.faulty v.stops.played v.stops.faulty

  pub played_or_refused : (text : List ℕ) (book : BookView) (f : DrillFault) → IsOfScript f → IsDrilled job script text book → IsRefused job script f → ⊥
  played_or_refused text book f of_f here there =
      let u = stopped f of_f there in
      never_stops u.stops.before u.stops.line u.stops.behind u.first here.first u.stops.last here.last u.stops.text text f
      (paired_first job u.first here.first u.begins here.begins) u.stops.played u.stops.faulty
      (subst (λ (lines : List Line). ArePlayed lines here.first text here.last) u.stops.script_is here.played)
