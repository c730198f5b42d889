-- Where a search has looked everywhere, each history's state is covered, and each state in which nothing can step is like a kept one.
use Rattle.std.proofs.Common.{◌≡◌, ℕ, true, false, List, Option, Some, None, refl, sym, ap, subst, ◌∙◌}
use Rattle.std.specs.Prelude.{ℤ, length, slice_get, is_some, option_map, option_and_then, IsSomeAnd}
use Rattle.std.proofs.lemmas.Bool.{false≢true}
use Rattle.stab_code.specs.Program.{ProgramParts}
use Rattle.stab_journal.specs.declared.event.Event.{Event}
use Rattle.stab_journal.specs.declared.event.Numbered.{Numbered}
use Rattle.stab_journal.specs.Label.{actors, touched}
use Rattle.stab_journal.specs.Names.{has}
use Rattle.stab_journal.specs.Script.{FollowsScript, probed}
use Rattle.language.specs.Expression.{Expr}
use Rattle.language.specs.Plain.{PlainState, language_of, look_in, mark_in, plain_step, standing, effect_of}
use Rattle.language.specs.Quiet.{IsQuiet}
use Rattle.language.specs.Redex.{mark}
use Rattle.language.specs.Standing.{StandsFor, is_stabilize}
use Rattle.language.specs.Table.{Look, done, fault, act, pure, stabilizes}
use Rattle.language.proofs.Resting.{no_step}
use Rattle.language.proofs.Touching.{changes_only}
use Rattle.journal_laws.proofs.Stepping.{step_of}
use Rattle.stab_base.specs.declared.fault.Fault.{Fault}
use Rattle.explore_laws.specs.Explored.{ended, IsFailing, Settles, here, next, Stored, IsCovered, IsExplored, IsListed}
use Rattle.explore_laws.specs.Renamed.{Naming, AreLike, unnamed, expr_in, look_in as look_with}
use Rattle.explore_laws.proofs.Closing as closing
use Rattle.explore_laws.proofs.Configs.{Config, after}
use Rattle.explore_laws.proofs.Covering.{covers}
use Rattle.explore_laws.proofs.FreeSteps.{code, code_of, AreAt, untouched}
use Rattle.explore_laws.proofs.Histories.{begin_at, IsReached, NeverTakesBack, found}
use Rattle.explore_laws.proofs.Likeness.{one_to_one}
use Rattle.explore_laws.proofs.LikeSteps.{is_unnamed}
use Rattle.explore_laws.proofs.Orderly.{Free, Open, Like, mark_same}
use Rattle.explore_laws.proofs.Renaming.{look_same}
use Rattle.explore_laws.proofs.Together.{goes, acts_first}

stabilize_same : (n : Naming) (k : Look Expr) → is_stabilize (look_with n k) ≡ is_stabilize k
stabilize_same n (act stabilizes) = refl
stabilize_same n (act a) = refl
stabilize_same n (done v) = refl
stabilize_same n (fault f) = refl
stabilize_same n (pure e) = refl

not_code : (k : Look Expr) → is_stabilize k ≡ true → code k ≡ 0
not_code (act stabilizes) h = refl
not_code k h = absurd (false≢true h)

none_is : {A : Type 0} (o : Option A) → is_some o ≡ false → o ≡ None
none_is None h = refl
none_is (Some x) h = absurd (false≢true (sym h))

ended_same : (n : Naming) (k : Look Expr) → ended (look_with n k) ≡ ended k
ended_same n (act a) = refl
ended_same n (done v) = refl
ended_same n (fault f) = refl
ended_same n (pure e) = refl

ended_code : (k : Look Expr) (f : Fault) → ended k ≡ Some (Some f) → code k ≡ 0
ended_code (fault k) f h = refl
ended_code (done v) f h = refl
ended_code (pure e) f h = absurd (cc)
ended_code (act a) f h = absurd (cc)

module _ (p : ProgramParts) where
  fate_by : (s r : PlainState) (h : AreLike s r) (o x : Option Expr) → option_map (expr_in unnamed) o ≡ option_map (expr_in h.there) x → option_map (λ e. ended (look_in p e)) o ≡ option_map (λ e. ended (look_in p e)) x
  fate_by s r h None None same = refl
  fate_by s r h None (Some e) same = cc
  fate_by s r h (Some d) None same = cc
  fate_by s r h (Some d) (Some e) same =
      let one : expr_in unnamed d ≡ expr_in h.there e = cc in
      ap Some (sym (ended_same unnamed (look_in p d)) ∙ ap ended (sym (look_same unnamed is_unnamed p d)) ∙ ap (λ y. ended (look_in p y)) one
      ∙ ap ended (look_same h.there (one_to_one h.there h.back h.two_way) p e) ∙ ended_same h.there (look_in p e))

  -- threads of states that differ by numbers alone ended alike
  pub fates : (s r : PlainState) (h : AreLike s r) (t : ℕ) → option_map (λ e. ended (look_in p e)) (standing r (h.there.thread t)) ≡ option_map (λ e. ended (look_in p e)) (standing s t)
  fates s r h t = fate_by s r h (standing r (h.there.thread t)) (standing s t) (h.like.threads t)

module _ (p : ProgramParts) (script : List ℤ) (stored : List Stored) (x : IsExplored p script stored) where
  -- the kept states, as configs
  P : Config → Type 0
  P c = (i : ℕ) × (slice_get stored i ≡ Some (record { state = c.state; used = c.used }))

  kept : (i : ℕ) (m : Stored) → slice_get stored i ≡ Some m → Config
  kept i m there =
      let b = x.bounded i m there in
      record { state = m.state; used = m.used; bound = b.bound; known = b.known; threads = b.threads; chans = b.chans; references = b.references }

  record IsLifted (c : Config) (n : PlainState) : Type 0 where
    config : Config
    leads : closing.Leads (Free p script) (Open p script) (Like p script) c config
    state : config.state ≡ n
    used : config.used ≡ c.used

  lifted : (s n : PlainState) (c : Config) → c.state ≡ s → Settles p s n → IsLifted c n
  lifted _ _ c is (here s) = record { config = c; leads = closing.here c; state = is; used = refl }
  lifted _ _ c is (next s a n q l free made more) =
      let made_too : plain_step p c.state q l ≡ Some a = ap (λ (y : PlainState). plain_step p y q l) is ∙ made in
      let d : Config = after p c q l a made_too c.used in
      let k = lifted a n d refl more in
      record { config = k.config; leads = closing.next c d k.config (record { q = q; l = l; free = free; made = made_too; used = refl }) k.leads; state = k.state; used = k.used }

  covered : (c : Config) → IsCovered p stored c.state c.used → closing.IsCovered (Free p script) (Open p script) (Like p script) P c
  unfolding P kept
  covered c k =
      let l = lifted c.state k.at c refl k.leads in
      record {
        at = l.config;
        stored = kept k.place k.found k.there;
        leads = l.leads;
        like = record { states = subst (λ (y : PlainState). AreLike y k.found.state) (sym l.state) k.like; used = l.used ∙ k.used_too };
        is = (k.place, k.there);
      }

  is_closed : closing.IsClosed (Free p script) (Open p script) (Like p script) P
  unfolding P
  is_closed = record {
    settled = λ c a k f. x.settled k.0 (record { state = c.state; used = c.used }) k.1 f.q f.l a.state f.free f.made;
    closed = λ c b k o. covered b (subst (λ (u : ℕ). IsCovered p stored b.state u) (sym o.used) (x.closed k.0 (record { state = c.state; used = c.used }) k.1 o.q o.l b.state o.opened o.asked o.made));
  }

  cover : (c : Config) → IsReached p script c → closing.IsCovered (Free p script) (Open p script) (Like p script) P c
  cover c r = covers p script P is_closed (begin_at p script) c (covered (begin_at p script) x.starts) r

  -- a thread whose next step isn't free stays where it is while others make free steps
  waits : (c n : Config) → closing.Leads (Free p script) (Open p script) (Like p script) c n → (t : ℕ) (e : Expr) → standing c.state t ≡ Some e → code (look_in p e) ≡ 0 → standing n.state t ≡ Some e
  waits _ _ (closing.here c) t e at stays = at
  waits _ _ (closing.next c a n f more) t e at stays =
      let st = step_of (effect_of p) c.state f.q f.l a.state f.made in
      let acts : AreAt (language_of p) c.state (code_of f.l) (actors f.l) = subst (AreAt (language_of p) c.state (code_of f.l)) (sym (acts_first f.l f.free)) (goes p c f.q f.l a.state f.free f.made) in
      let free : has (touched f.l) t ≡ false = untouched (language_of p) c.state t e at stays f.l f.free st.allowed acts in
      waits a n more t e ((changes_only (language_of p) c.state a.state f.q f.l f.made).threads t free ∙ at) stays

  -- in a kept state that is like it the thread stands there too, and there it is in no section
  out_by : (c m : PlainState) (h : AreLike c m) → ((u : ℕ) → IsSomeAnd (standing m u) (λ d. is_stabilize (look_in p d) ≡ true) → mark_in m u ≡ None) → (t : ℕ) (e : Expr) → is_stabilize (look_in p e) ≡ true
      → (o : Option Expr) → standing m (h.there.thread t) ≡ o → option_map (expr_in unnamed) o ≡ Some (expr_in h.there e) → mark e ≡ None
  out_by c m h inside t e at None there same = cc
  out_by c m h inside t e at (Some d) there same =
      let one : expr_in unnamed d ≡ expr_in h.there e = cc in
      let looks : is_stabilize (look_in p d) ≡ true =
      sym (stabilize_same unnamed (look_in p d)) ∙ ap is_stabilize (sym (look_same unnamed is_unnamed p d)) ∙ ap (λ y. is_stabilize (look_in p y)) one
      ∙ ap is_stabilize (look_same h.there (one_to_one h.there h.back h.two_way) p e) ∙ stabilize_same h.there (look_in p e) ∙ at in
      let out : mark_in m (h.there.thread t) ≡ None = inside (h.there.thread t) (subst (λ (o : Option Expr). IsSomeAnd o (λ y. is_stabilize (look_in p y) ≡ true)) (sym there) looks) in
      let none : mark d ≡ None = sym (ap (option_and_then mark) there) ∙ out in
      none_is (mark e) (sym (mark_same h.there e) ∙ ap (λ y. is_some (mark y)) (sym one) ∙ mark_same unnamed d ∙ ap is_some none)

  never_by : (c : Config) → IsReached p script c → (t : ℕ) (o : Option Expr) → standing c.state t ≡ o → IsSomeAnd o (λ e. is_stabilize (look_in p e) ≡ true) → option_and_then mark o ≡ None
  unfolding P
  never_by c r t None there at = absurd at
  never_by c r t (Some e) there at =
      let k = cover c r in
      let waiting : standing k.at.state t ≡ Some e = waits c k.at k.leads t e there (not_code (look_in p e) at) in
      let like = k.like.states in
      out_by k.at.state k.stored.state like (x.inside k.is.0 (record { state = k.stored.state; used = k.stored.used }) k.is.1) t e at (standing k.stored.state (like.there.thread t)) refl
      (like.like.threads t ∙ ap (option_map (expr_in like.there)) waiting)

  never : NeverTakesBack p script
  never c r t at = never_by c r t (standing c.state t) refl at

  plain : (c n : Config) → closing.Leads (Free p script) (Open p script) (Like p script) c n → Settles p c.state n.state
  plain _ _ (closing.here c) = here c.state
  plain _ _ (closing.next c a n f more) = next c.state a.state n.state f.q f.l f.free f.made (plain a n more)

  pub is_covered : (events : List Event) (run : List Numbered) (s : PlainState) → StandsFor p events run s → FollowsScript script events → IsCovered p stored s (length (probed events))
  unfolding P
  is_covered events run s stands follows =
      let h = found p script never events run s stands follows in
      let k = cover h.config h.reaches in
      record {
        at = k.at.state;
        leads = subst (λ (y : PlainState). Settles p y k.at.state) h.state (plain h.config k.at k.leads);
        place = k.is.0;
        found = record { state = k.stored.state; used = k.stored.used };
        there = k.is.1;
        like = k.like.states;
        used_too = sym h.used ∙ same_used h.config k.at k.leads ∙ k.like.used;
      }
    where
      same_used : (c n : Config) → closing.Leads (Free p script) (Open p script) (Like p script) c n → c.used ≡ n.used
      same_used _ _ (closing.here c) = refl
      same_used _ _ (closing.next c a n f more) = sym f.used ∙ same_used a n more

  some_none : (a : PlainState) (o : Option PlainState) → o ≡ Some a → o ≡ None → ⊥
  some_none a o h k = cc

  rests : (s n : PlainState) → IsQuiet (language_of p) s → Settles p s n → s ≡ n
  rests _ _ quiet (here s) = refl
  rests _ _ quiet (next s a n q l free made more) = absurd (some_none a _ made (no_step (language_of p) s quiet q l))

  pub is_listed : (events : List Event) (run : List Numbered) (s : PlainState) → StandsFor p events run s → FollowsScript script events → IsQuiet (language_of p) s → IsListed stored s
  is_listed events run s stands follows quiet =
      let k = is_covered events run s stands follows in
      record { place = k.place; found = k.found; there = k.there; like = subst (λ (y : PlainState). AreLike y k.found.state) (sym (rests s k.at quiet k.leads)) k.like }

  fails_by : (k : Fault) (o : Option Expr) → option_map (λ e. ended (look_in p e)) o ≡ Some (Some (Some k)) → IsSomeAnd o (λ e. ended (look_in p e) ≡ Some (Some k))
  fails_by k None h = cc
  fails_by k (Some e) h = let is : ended (look_in p e) ≡ Some (Some k) = cc in is

  fails_from : (s : PlainState) (c : Config) → c.state ≡ s → IsReached p script c → (t : ℕ) (k : Fault) (o : Option Expr) → standing s t ≡ o → IsSomeAnd o (λ e. ended (look_in p e) ≡ Some (Some k)) → IsFailing p stored k
  unfolding P
  fails_from s c is r t k None at h = absurd h
  fails_from s c is r t k (Some e) at h =
      let v = cover c r in
      let here_too : standing c.state t ≡ Some e = ap (λ (y : PlainState). standing y t) is ∙ at in
      let waiting : standing v.at.state t ≡ Some e = waits c v.at v.leads t e here_too (ended_code (look_in p e) k h) in
      record {
        place = v.is.0;
        found = record { state = v.stored.state; used = v.stored.used };
        there = v.is.1;
        thread = v.like.states.there.thread t;
        stands = fails_by k (standing v.stored.state (v.like.states.there.thread t)) (fates p v.at.state v.stored.state v.like.states t ∙ ap (option_map (λ y. ended (look_in p y))) waiting ∙ ap Some h);
      }

  pub is_failing : (events : List Event) (run : List Numbered) (s : PlainState) → StandsFor p events run s → FollowsScript script events → (t : ℕ) (k : Fault) → IsSomeAnd (standing s t) (λ e. ended (look_in p e) ≡ Some (Some k)) → IsFailing p stored k
  is_failing events run s stands follows t k h =
      let f = found p script never events run s stands follows in
      fails_from s f.config f.state f.reaches t k (standing s t) refl h
