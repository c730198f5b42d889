-- The steps that are reached are those from the lines of touched threads on.
use Rattle.std.proofs.Common.{◌≡◌, ℕ, Bool, true, false, cond, not, ◌&&◌, ◌||◌, nat_eq, List, [], ◌∷◌, ◌++◌, Some, None, refl, sym, ap, subst, ◌∙◌}
use Rattle.std.specs.List.{list_any}
use Rattle.std.proofs.lemmas.Bool.{false≢true, eqb-true}
use Rattle.stab_journal.specs.declared.event.Label.{Label}
use Rattle.stab_journal.specs.declared.event.Label.TheVariants.{Local, Spawn, NewChan, Comm, NewRef, Get, Set, Enter, Cut, Print, Probe, Refuse, Pin, Attempt}
use Rattle.stab_journal.specs.declared.event.Numbered.{Numbered}
use Rattle.stab_journal.specs.Label.{actors, touched, written}
use Rattle.stab_journal.specs.Journal.{RiseFrom}
use Rattle.stab_journal.specs.Names.{has, is_at, read}
use Rattle.stab_journal.specs.Reached.{Lost, nothing_lost, lose, keep, after_step, reads_of, depends, is_reached, reached}
use Rattle.journal_laws.proofs.Without.{IsReachedBy}
use Rattle.stab_journal.specs.Dependence as dependence
use Rattle.stab_journal.specs.Dependence.{shares, writes, writes_what, DependsOn, Reaches, link}
use Rattle.journal_laws.specs.Lines.{is_node, has_node, Leads, by_thread, by_write, IsEdge, Marked, itself, edge, UpTo, same, earlier, IsFromLine}
use Rattle.journal_laws.proofs.Applying.{or_false}
use Rattle.journal_laws.proofs.Stepping.{both, has_none}
use Rattle.journal_laws.proofs.Chains.{chain_reached, found, any_of, or_right, or_cases, read_case, wrote}
use Rattle.journal_laws.proofs.Reaching.{has_this, reached_by}

leads_how : (e : Numbered) (between : List Numbered) (f : Numbered) → Leads e.label between f.label → (shares e.label f.label || writes_what e.label between (read f.label)) ≡ true
leads_how e between f (by_thread t touches acts none) = ap (λ b. b || writes_what e.label between (read f.label)) (any_of (has (touched e.label)) (actors f.label) t acts touches)
leads_how e between f (by_write h) = or_right (shares e.label f.label) _ h

-- an edge is a direct dependence
edge_depends : (run : List Numbered) (e f : Numbered) → IsEdge run e f → DependsOn run e f
edge_depends run e f d = record { before = d.before; between = d.between; after = d.after; is = d.is; how = leads_how e d.between f d.how }

-- what is marked is reached
marked_reached : (run : List Numbered) (m : ℕ) (f : Numbered) → Marked run m f → Reaches run m f
marked_reached run m _ (itself before n after cut at node) = dependence.itself before n after cut at
marked_reached run m _ (edge e f chain d) = link e f (marked_reached run m e chain) (edge_depends run e f d)

by_place : (run : List Numbered) (m : ℕ) (f : Numbered) (t : ℕ) → has (actors f.label) t ≡ true → (e : Numbered) → Reaches run m e → has (touched e.label) t ≡ true → UpTo run e f → Reaches run m f
by_place run m _ t acts e chain touches (same before after cut) = chain
by_place run m _ t acts e chain touches (earlier before between after f cut) = link e f chain (record { before = before; between = between; after = after; is = cut; how = ap (λ b. b || writes_what e.label between (read f.label)) (any_of (has (touched e.label)) (actors f.label) t acts touches) })

-- a node up to f that touches a thread which acts in f
from_line_reached : (run : List Numbered) (m : ℕ) (f : Numbered) → IsFromLine run m f → Reaches run m f
from_line_reached run m f w = by_place run m f w.thread w.acts w.line.node (marked_reached run m w.line.node w.line.marked) w.line.touches w.line.place

-- a step that is no node reads and writes nothing, and touches its one thread
pub record IsPlain (l : Label) : Type 0 where
  reads : read l ≡ None
  writes : written l ≡ None
  thread : ℕ
  acts : actors l ≡ thread ∷ []
  touches : touched l ≡ thread ∷ []

plain_step : (l : Label) → is_node l ≡ false → IsPlain l
plain_step (Local t n) h = record { reads = refl; writes = refl; thread = t.0; acts = refl; touches = refl }
plain_step (NewChan t c) h = record { reads = refl; writes = refl; thread = t.0; acts = refl; touches = refl }
plain_step (Cut t) h = record { reads = refl; writes = refl; thread = t.0; acts = refl; touches = refl }
plain_step (Print t) h = record { reads = refl; writes = refl; thread = t.0; acts = refl; touches = refl }
plain_step (Probe t i) h = record { reads = refl; writes = refl; thread = t.0; acts = refl; touches = refl }
plain_step (Refuse t) h = record { reads = refl; writes = refl; thread = t.0; acts = refl; touches = refl }
plain_step (Attempt t g) h = record { reads = refl; writes = refl; thread = t.0; acts = refl; touches = refl }
plain_step _ h = absurd (false≢true (sym h))

get_is_node : (l : Label) (r : ℕ) → read l ≡ Some r → is_node l ≡ true
get_is_node (Get t r') r h = refl
get_is_node (Enter t) r h = refl
get_is_node (Spawn t u) r h = refl
get_is_node (Comm s r' c) r h = refl
get_is_node (Set t r') r h = refl
get_is_node (NewRef t r') r h = refl
get_is_node (Pin t) r h = refl
get_is_node _ r h = absurd (cc)

actor_touched : (l : Label) (t : ℕ) → has (touched l) t ≡ false → has (actors l) t ≡ false
actor_touched (Spawn s u) t h = elim (nat_eq t s.0) as (λ b. cond b true (cond (nat_eq t u.0) true false) ≡ false → cond b true false ≡ false) [ true ↦ λ h. h | false ↦ λ h. refl ] h
actor_touched (Local s n) t h = h
actor_touched (NewChan s c) t h = h
actor_touched (Comm s r c) t h = h
actor_touched (NewRef s r) t h = h
actor_touched (Get s r) t h = h
actor_touched (Set s r) t h = h
actor_touched (Enter s) t h = h
actor_touched (Cut s) t h = h
actor_touched (Print s) t h = h
actor_touched (Probe s i) t h = h
actor_touched (Refuse s) t h = h
actor_touched (Pin s) t h = h
actor_touched (Attempt s g) t h = h

and_false : (a b : Bool) → ((a && false) || b) ≡ b
and_false true b = refl
and_false false b = refl

no_node : (n : Numbered) (t : ℕ) (between : List Numbered) → has (actors n.label) t ≡ false → has_node t between ≡ false → has_node t (n ∷ between) ≡ false
no_node n t between none later = ap (λ b. (is_node n.label && b) || has_node t between) none ∙ and_false (is_node n.label) (has_node t between) ∙ later

no_plain : (n : Numbered) (t : ℕ) (between : List Numbered) → is_node n.label ≡ false → has_node t between ≡ false → has_node t (n ∷ between) ≡ false
no_plain n t between plain later = ap (λ b. (b && has (actors n.label) t) || has_node t between) plain ∙ later

record FirstActor (l : Label) : Type 0 where
  thread : ℕ
  acts : has (actors l) thread ≡ true
  touches : has (touched l) thread ≡ true

at_first : (l : Label) (t : ℕ) (us ts : List ℕ) → actors l ≡ t ∷ us → touched l ≡ t ∷ ts → FirstActor l
at_first l t us ts a b = record { thread = t; acts = ap (λ k. has k t) a ∙ has_this t us; touches = ap (λ k. has k t) b ∙ has_this t ts }

first_actor : (l : Label) → FirstActor l
first_actor (Local t n) = at_first _ t.0 _ _ refl refl
first_actor (Spawn t u) = at_first _ t.0 _ _ refl refl
first_actor (NewChan t c) = at_first _ t.0 _ _ refl refl
first_actor (Comm s r c) = at_first _ s.0 _ _ refl refl
first_actor (NewRef t r) = at_first _ t.0 _ _ refl refl
first_actor (Get t r) = at_first _ t.0 _ _ refl refl
first_actor (Set t r) = at_first _ t.0 _ _ refl refl
first_actor (Enter t) = at_first _ t.0 _ _ refl refl
first_actor (Cut t) = at_first _ t.0 _ _ refl refl
first_actor (Print t) = at_first _ t.0 _ _ refl refl
first_actor (Probe t i) = at_first _ t.0 _ _ refl refl
first_actor (Refuse t) = at_first _ t.0 _ _ refl refl
first_actor (Pin t) = at_first _ t.0 _ _ refl refl
first_actor (Attempt t g) = at_first _ t.0 _ _ refl refl

or_or : (a : Bool) → ((a || false) || false) ≡ true → a ≡ true
or_or true h = refl
or_or false h = h

-- of a step that is no node and depends on a lost one the thread is lost
plain_lost : (l : Label) (x : Lost) (p : IsPlain l) → depends l x ≡ true → x.threads p.thread ≡ true
plain_lost l x p h = or_or _ (sym (ap (λ k. list_any x.threads k || reads_of (read l) x.references) p.acts ∙ ap (λ o. (x.threads p.thread || false) || reads_of o x.references) p.reads) ∙ h)

only_one : (t u : ℕ) → has (u ∷ []) t ≡ true → t ≡ u
only_one t u h = elim (nat_eq t u) as (λ b. nat_eq t u ≡ b → cond b true false ≡ true → t ≡ u) [ true ↦ λ is h. eqb-true t u is | false ↦ λ is h. absurd (false≢true h) ] refl h

plain_touch : (l : Label) (x : Lost) (p : IsPlain l) (t : ℕ) → depends l x ≡ true → has (touched l) t ≡ true → x.threads t ≡ true
plain_touch l x p t h at = ap x.threads (only_one t p.thread (sym (ap (λ k. has k t) p.touches) ∙ at)) ∙ plain_lost l x p h

module _ (m : ℕ) (gone : ℕ → Bool) (P : Numbered → Type 0) (U : Numbered → Numbered → Type 0) where
  -- a thread has its line at f or before
  record Line (t : ℕ) (f : Numbered) : Type 0 where
    node : Numbered
    marked : P node
    touches : has (touched node.label) t ≡ true
    place : U node f

  -- what holds of the steps from here on
  record Rest (ns : List Numbered) : Type 0 where
    up : (e f : Numbered) → IsEdge ns e f → P e → P f
    place : (before : List Numbered) (e : Numbered) (between : List Numbered) (f : Numbered) (after : List Numbered) → ns ≡ before ++ e ∷ (between ++ f ∷ after) → U e f
    self : (before : List Numbered) (e : Numbered) (after : List Numbered) → ns ≡ before ++ e ∷ after → U e e
    start : (before : List Numbered) (n : Numbered) (after : List Numbered) → ns ≡ before ++ n ∷ after → m ≡ n.seq.0 → P n
    node : (before : List Numbered) (n : Numbered) (after : List Numbered) → ns ≡ before ++ n ∷ after → m ≡ n.seq.0 → is_node n.label ≡ true

  rest_tail : (n : Numbered) (ns : List Numbered) → Rest (n ∷ ns) → Rest ns
  rest_tail n ns r = record {
    up = λ e f d p. r.up e f (record { before = n ∷ d.before; between = d.between; after = d.after; is = ap (λ k. n ∷ k) d.is; from = d.from; to = d.to; how = d.how }) p;
    place = λ before e between f after cut. r.place (n ∷ before) e between f after (ap (λ k. n ∷ k) cut);
    self = λ before e after cut. r.self (n ∷ before) e after (ap (λ k. n ∷ k) cut);
    start = λ before e after cut at. r.start (n ∷ before) e after (ap (λ k. n ∷ k) cut) at;
    node = λ before e after cut at. r.node (n ∷ before) e after (ap (λ k. n ∷ k) cut) at;
  }

  record Waits (x : Lost) (ns : List Numbered) : Type 0 where
    threads : (t : ℕ) → x.threads t ≡ true → (between : List Numbered) (f : Numbered) (after : List Numbered) → ns ≡ between ++ f ∷ after → has (actors f.label) t ≡ true → is_node f.label ≡ true → has_node t between ≡ false → P f
    lines : (t : ℕ) → x.threads t ≡ true → (between : List Numbered) (f : Numbered) (after : List Numbered) → ns ≡ between ++ f ∷ after → Line t f
    references : (r : ℕ) → x.references r ≡ true → (between : List Numbered) (f : Numbered) (after : List Numbered) → ns ≡ between ++ f ∷ after → read f.label ≡ Some r → writes r between ≡ false → P f

  -- a node that the pass reaches is marked
  node_now : (n : Numbered) (ns : List Numbered) (x : Lost) → Rest (n ∷ ns) → Waits x (n ∷ ns) → is_node n.label ≡ true → is_reached m n x ≡ true → P n
  node_now n ns x r w node h = or_cases _ _ (P n) (λ at. r.start [] n ns refl (eqb-true m n.seq.0 at))
      (or_cases _ _ (P n)
      (λ h. let t = found x.threads (actors n.label) h in w.threads t.at t.passes [] n ns refl t.here node refl)
      (read_case P (read n.label) x.references (P n) (λ q is h. w.references q h [] n ns refl is refl))) h

  -- and of each step that it reaches a thread has its line here or before
  line_now : (n : Numbered) (ns : List Numbered) (x : Lost) → Rest (n ∷ ns) → Waits x (n ∷ ns) → is_reached m n x ≡ true → (t : ℕ) × (has (actors n.label) t ≡ true) × Line t n
  line_now n ns x r w h =
      elim (is_node n.label) as (λ c. is_node n.label ≡ c → (t : ℕ) × (has (actors n.label) t ≡ true) × Line t n) [
        | true ↦ λ node. let a = first_actor n.label in (a.thread, a.acts, record { node = n; marked = node_now n ns x r w node h; touches = a.touches; place = r.self [] n ns refl })
        | false ↦ λ plain.
            let free : depends n.label x ≡ true = or_cases _ _ _ (λ at. absurd (both _ (r.node [] n ns refl (eqb-true m n.seq.0 at)) plain)) (λ h. h) h in
            let p = plain_step n.label plain in
            (p.thread, ap (λ l. has l p.thread) p.acts ∙ has_this p.thread [], w.lines p.thread (plain_lost n.label x p free) [] n ns refl)
      ] refl

  stale_later : (n : Numbered) (ns : List Numbered) (x : Lost) → Waits x (n ∷ ns) → (q : ℕ) → x.references q ≡ true → is_at (written n.label) q ≡ false → (between : List Numbered) (f : Numbered) (after : List Numbered) → ns ≡ between ++ f ∷ after → read f.label ≡ Some q → writes q between ≡ false → P f
  stale_later n ns x w q lost at between f after cut reads none = w.references q lost (n ∷ between) f after (ap (λ k. n ∷ k) cut) reads (ap (λ b. b || writes q between) at ∙ none)

  waits_marked : (n : Numbered) (ns : List Numbered) (x : Lost) → Rest (n ∷ ns) → Waits x (n ∷ ns) → is_node n.label ≡ true → P n → Waits (lose n.label x) ns
  waits_marked n ns x r w node p = record {
    threads = λ t h between f after cut acts is none.
        elim (has (touched n.label) t) as (λ b. has (touched n.label) t ≡ b → P f) [
          | true ↦ λ at. r.up n f (record { before = []; between = between; after = after; is = ap (λ k. n ∷ k) cut; from = node; to = is; how = by_thread t at acts none }) p
          | false ↦ λ at. w.threads t (sym (ap (λ b. b || x.threads t) at) ∙ h) (n ∷ between) f after (ap (λ k. n ∷ k) cut) acts is (no_node n t between (actor_touched n.label t at) none)
        ] refl;
    lines = λ t h between f after cut. or_cases _ _ (Line t f)
        (λ at. record { node = n; marked = p; touches = at; place = r.place [] n between f after (ap (λ k. n ∷ k) cut) })
        (λ was. w.lines t was (n ∷ between) f after (ap (λ k. n ∷ k) cut)) h;
    references = λ q h between f after cut reads none.
        elim (is_at (written n.label) q) as (λ b. is_at (written n.label) q ≡ b → P f) [
          | true ↦ λ at. r.up n f (record { before = []; between = between; after = after; is = ap (λ k. n ∷ k) cut; from = node; to = get_is_node f.label q reads; how = by_write (wrote P n.label between (read f.label) q reads at none) }) p
          | false ↦ λ at. stale_later n ns x w q (sym (ap (λ b. b || x.references q) at) ∙ h) at between f after cut reads none
        ] refl;
  }

  waits_kept : (n : Numbered) (ns : List Numbered) (x : Lost) → Waits x (n ∷ ns) → depends n.label x ≡ false → Waits (keep n.label x) ns
  waits_kept n ns x w free = record {
    threads = λ t h between f after cut acts is none. w.threads t h (n ∷ between) f after (ap (λ k. n ∷ k) cut) acts is (no_node n t between (has_none x.threads (actors n.label) t (or_false _ _ free).0 h) none);
    lines = λ t h between f after cut. w.lines t h (n ∷ between) f after (ap (λ k. n ∷ k) cut);
    references = λ q h between f after cut reads none.
        elim (is_at (written n.label) q) as (λ b. is_at (written n.label) q ≡ b → (not b && x.references q) ≡ true → P f) [
          | true ↦ λ at h. absurd (false≢true h)
          | false ↦ λ at h. stale_later n ns x w q h at between f after cut reads none
        ] refl h;
  }

  -- a step that is no node loses nothing new
  waits_plain : (n : Numbered) (ns : List Numbered) (x : Lost) → Waits x (n ∷ ns) → is_node n.label ≡ false → depends n.label x ≡ true → Waits (lose n.label x) ns
  waits_plain n ns x w plain h =
      let p = plain_step n.label plain in
      let was : (t : ℕ) → (lose n.label x).threads t ≡ true → x.threads t ≡ true = λ t h'. or_cases _ _ _ (λ at. plain_touch n.label x p t h at) (λ k. k) h' in
      record {
        threads = λ t h between f after cut acts is none. w.threads t (was t h) (n ∷ between) f after (ap (λ k. n ∷ k) cut) acts is (no_plain n t between plain none);
        lines = λ t h between f after cut. w.lines t (was t h) (n ∷ between) f after (ap (λ k. n ∷ k) cut);
        references = λ q h between f after cut reads none. stale_later n ns x w q (sym (ap (λ o. is_at o q || x.references q) p.writes) ∙ h) (ap (λ o. is_at o q) p.writes) between f after cut reads none;
      }

  waits_step : (b : Bool) (n : Numbered) (ns : List Numbered) (x : Lost) → b ≡ is_reached m n x → Rest (n ∷ ns) → Waits x (n ∷ ns) → Waits (after_step b n.label x) ns
  waits_step true n ns x is r w =
      elim (is_node n.label) as (λ c. is_node n.label ≡ c → Waits (lose n.label x) ns) [
        | true ↦ λ node. waits_marked n ns x r w node (node_now n ns x r w node (sym is))
        | false ↦ λ plain. waits_plain n ns x w plain (or_cases _ _ _ (λ at. absurd (both _ (r.node [] n ns refl (eqb-true m n.seq.0 at)) plain)) (λ h. h) (sym is))
      ] refl
  waits_step false n ns x is r w = waits_kept n ns x w (or_false (nat_eq m n.seq.0) _ (sym is)).1

  -- of each step that is reached: a node is marked, and a thread of it has its line here or before
  abbrev All : List Numbered → Type 0
  All [] = Unit {0}
  All (n ∷ ns) = (gone n.seq.0 ≡ true → (is_node n.label ≡ true → P n) × ((t : ℕ) × (has (actors n.label) t ≡ true) × Line t n)) × All ns

  all_steps : (ns : List Numbered) (x : Lost) → Rest ns → Waits x ns → IsReachedBy m gone x ns → All ns
  all_steps [] x r w by = tt
  all_steps (n ∷ ns) x r w by = (
    (λ h. let is = sym by.0 ∙ h in ((λ node. node_now n ns x r w node is), line_now n ns x r w is)),
    all_steps ns _ (rest_tail n ns r) (waits_step (gone n.seq.0) n ns x by.0 r w) by.1,
  )

  all_at : (before : List Numbered) (n : Numbered) (after : List Numbered) → All (before ++ n ∷ after) → gone n.seq.0 ≡ true → (is_node n.label ≡ true → P n) × ((t : ℕ) × (has (actors n.label) t ≡ true) × Line t n)
  all_at [] n after all h = all.0 h
  all_at (k ∷ before) n after all h = all_at before n after all.1 h

  nothing_waits : (ns : List Numbered) → Waits nothing_lost ns
  nothing_waits ns = record { threads = λ t h. absurd (false≢true h); lines = λ t h. absurd (false≢true h); references = λ r h. absurd (false≢true h) }

-- what is reached from m, where m numbers a node: its nodes are what edges lead to, and of each step a thread has its line there or before
module _ (run : List Numbered) (m q : ℕ) (rise : RiseFrom q run) (starts : (before : List Numbered) (n : Numbered) (after : List Numbered) → run ≡ before ++ n ∷ after → m ≡ n.seq.0 → is_node n.label ≡ true) where
  run_rest : Rest m (λ k. has (reached run m) k) (Marked run m) (UpTo run) run
  run_rest = record {
    up = λ e f d p. edge e f p d;
    place = λ before e between f after cut. earlier before between after f cut;
    self = λ before e after cut. same before after cut;
    start = λ before n after cut at. itself before n after cut at (starts before n after cut at);
    node = starts;
  }

  pub reached_lines : (before : List Numbered) (f : Numbered) (after : List Numbered) → run ≡ before ++ f ∷ after → has (reached run m) f.seq.0 ≡ true → (is_node f.label ≡ true → Marked run m f) × IsFromLine run m f
  reached_lines before f after cut h =
      let all = all_steps m (λ k. has (reached run m) k) (Marked run m) (UpTo run) run nothing_lost run_rest (nothing_waits m (λ k. has (reached run m) k) (Marked run m) (UpTo run) run) (reached_by m (λ k. has (reached run m) k) run nothing_lost q rise (λ k le. refl)) in
      let this = all_at m (λ k. has (reached run m) k) (Marked run m) (UpTo run) before f after (subst (λ (l : List Numbered). All m (λ k. has (reached run m) k) (Marked run m) (UpTo run) l) cut all) h in
      (this.0, record { thread = this.1.0; acts = this.1.1; line = record { node = this.1.2.node; marked = this.1.2.marked; touches = this.1.2.touches; place = this.1.2.place } })

  -- and nothing else
  pub lines_reached : (f : Numbered) → IsFromLine run m f → has (reached run m) f.seq.0 ≡ true
  lines_reached f w = chain_reached run m q rise f (from_line_reached run m f w)

  pub marked_is_reached : (f : Numbered) → Marked run m f → has (reached run m) f.seq.0 ≡ true
  marked_is_reached f w = chain_reached run m q rise f (marked_reached run m f w)
