-- The pass finds exactly what chains of direct dependence lead to.
use Rattle.std.proofs.Common.{◌≡◌, ℕ, Bool, true, false, cond, not, ◌&&◌, ◌||◌, nat_eq, List, [], ◌∷◌, ◌++◌, Option, Some, None, refl, sym, ap, subst, ◌∙◌}
use Rattle.std.specs.List.{list_any}
use Rattle.std.specs.Cmp.{nat_eq_equiv}
use Rattle.std.proofs.lemmas.Bool.{false≢true, eqb-true, eq-eqb, and_parts, not-true}
use Rattle.stab_journal.specs.declared.event.Label.{Label}
use Rattle.stab_journal.specs.declared.event.Numbered.{Numbered}
use Rattle.stab_journal.specs.Label.{actors, touched, written}
use Rattle.stab_journal.specs.Journal.{RiseFrom}
use Rattle.stab_journal.specs.Names.{has, is_at, read}
use Rattle.stab_journal.specs.Reached.{Lost, nothing_lost, lose, keep, after_step, reads_of, depends, reached}
use Rattle.journal_laws.proofs.Without.{IsClosedFrom, IsReachedBy}
use Rattle.stab_journal.specs.Dependence.{shares, writes, writes_what, IsUpward, Reaches, itself, link}
use Rattle.journal_laws.proofs.Applying.{or_false}
use Rattle.journal_laws.proofs.Reaching.{reached_by}

-- one of a list passes a test
pub record Found (ts : List ℕ) (p : ℕ → Bool) : Type 0 where
  pub at : ℕ
  pub here : has ts at ≡ true
  pub passes : p at ≡ true

pub or_right : (a b : Bool) → b ≡ true → (a || b) ≡ true
or_right true b h = refl
or_right false b h = h

if_true : (b c : Bool) → c ≡ true → cond b true c ≡ true
if_true true c h = refl
if_true false c h = h

pub found : (p : ℕ → Bool) (ts : List ℕ) → list_any p ts ≡ true → Found ts p
found p [] h = absurd (false≢true h)
found p (t ∷ ts) h =
    elim (p t) as (λ b. p t ≡ b → (b || list_any p ts) ≡ true → Found (t ∷ ts) p) [
      | true ↦ λ is h. record { at = t; here = ap (λ b. cond b true (has ts t)) (nat_eq_equiv.refl t); passes = is }
      | false ↦ λ is h. let rest = found p ts h in record { at = rest.at; here = if_true _ _ rest.here; passes = rest.passes }
    ] refl h

pub any_of : (p : ℕ → Bool) (ts : List ℕ) (t : ℕ) → has ts t ≡ true → p t ≡ true → list_any p ts ≡ true
any_of p [] t at h = absurd (false≢true at)
any_of p (u ∷ ts) t at h =
    elim (nat_eq t u) as (λ b. nat_eq t u ≡ b → cond b true (has ts t) ≡ true → (p u || list_any p ts) ≡ true) [
      | true ↦ λ is at. ap (λ b. b || list_any p ts) (ap p (sym (eqb-true t u is)) ∙ h)
      | false ↦ λ is at. or_right (p u) _ (any_of p ts t at h)
    ] refl at

pub or_cases : (a b : Bool) (P : Type 0) → (a ≡ true → P) → (b ≡ true → P) → (a || b) ≡ true → P
or_cases true b P f g h = f refl
or_cases false b P f g h = g h

-- each later step that acts for a thread that is touched has P, and so has each Get of a lost write
record Pending (P : Numbered → Type 0) (x : Lost) (ns : List Numbered) : Type 0 where
  threads : (t : ℕ) → x.threads t ≡ true → (between : List Numbered) (f : Numbered) (after : List Numbered) → ns ≡ between ++ f ∷ after → has (actors f.label) t ≡ true → P f
  references : (r : ℕ) → x.references r ≡ true → (between : List Numbered) (f : Numbered) (after : List Numbered) → ns ≡ between ++ f ∷ after → read f.label ≡ Some r → writes r between ≡ false → P f

module _ (P : Numbered → Type 0) where
  pub read_case : (o : Option ℕ) (x : ℕ → Bool) (Q : Type 0) → ((r : ℕ) → o ≡ Some r → x r ≡ true → Q) → reads_of o x ≡ true → Q
  read_case None x Q f h = absurd (false≢true h)
  read_case (Some r) x Q f h = f r refl h

  now : (n : Numbered) (ns : List Numbered) (x : Lost) → Pending P x (n ∷ ns) → depends n.label x ≡ true → P n
  now n ns x pend h = or_cases _ _ (P n)
      (λ h. let t = found x.threads (actors n.label) h in pend.threads t.at t.passes [] n ns refl t.here)
      (read_case (read n.label) x.references (P n) (λ r is h. pend.references r h [] n ns refl is refl)) h

  pub shared : (e f : Numbered) (t : ℕ) → has (touched e.label) t ≡ true → has (actors f.label) t ≡ true → shares e.label f.label ≡ true
  shared e f t at acts = any_of (has (touched e.label)) (actors f.label) t acts at

  pub wrote : (e : Label) (between : List Numbered) (o : Option ℕ) (r : ℕ) → o ≡ Some r → is_at (written e) r ≡ true → writes r between ≡ false → writes_what e between o ≡ true
  wrote e between o r is at none = ap (writes_what e between) is ∙ ap (λ b. b && not (writes r between)) at ∙ ap not none

  after_lost : (n : Numbered) (ns : List Numbered) (x : Lost) → IsUpward P (n ∷ ns) → P n → Pending P x (n ∷ ns) → Pending P (lose n.label x) ns
  after_lost n ns x up has_it pend = record {
    threads = λ t h between f after cut acts. or_cases _ _ (P f)
        (λ at. up n f (record { before = []; between = between; after = after; is = ap (λ k. n ∷ k) cut; how = ap (λ b. b || writes_what n.label between (read f.label)) (shared n f t at acts) }) has_it)
        (λ was. pend.threads t was (n ∷ between) f after (ap (λ k. n ∷ k) cut) acts) h;
    references = λ r h between f after cut reads none.
        elim (is_at (written n.label) r) as (λ b. is_at (written n.label) r ≡ b → P f) [
          | true ↦ λ at. up n f (record { before = []; between = between; after = after; is = ap (λ k. n ∷ k) cut; how = or_right (shares n.label f.label) _ (wrote n.label between (read f.label) r reads at none) }) has_it
          | false ↦ λ at. pend.references r (sym (ap (λ b. b || x.references r) at) ∙ h) (n ∷ between) f after (ap (λ k. n ∷ k) cut) reads (ap (λ b. b || writes r between) at ∙ none)
        ] refl;
  }

  after_kept : (n : Numbered) (ns : List Numbered) (x : Lost) → Pending P x (n ∷ ns) → Pending P (keep n.label x) ns
  after_kept n ns x pend = record {
    threads = λ t h between f after cut acts. pend.threads t h (n ∷ between) f after (ap (λ k. n ∷ k) cut) acts;
    references = λ r h between f after cut reads none.
        elim (is_at (written n.label) r) as (λ b. is_at (written n.label) r ≡ b → (not b && x.references r) ≡ true → P f) [
          | true ↦ λ at h. absurd (false≢true h)
          | false ↦ λ at h. pend.references r h (n ∷ between) f after (ap (λ k. n ∷ k) cut) reads (ap (λ b. b || writes r between) at ∙ none)
        ] refl h;
  }

  after_one : (b : Bool) (n : Numbered) (ns : List Numbered) (x : Lost) → IsUpward P (n ∷ ns) → (b ≡ true → P n) → Pending P x (n ∷ ns) → Pending P (after_step b n.label x) ns
  after_one true n ns x up has_it pend = after_lost n ns x up (has_it refl) pend
  after_one false n ns x up has_it pend = after_kept n ns x pend

  tail_up : (n : Numbered) (ns : List Numbered) → IsUpward P (n ∷ ns) → IsUpward P ns
  tail_up n ns up e f d p = up e f (record { before = n ∷ d.before; between = d.between; after = d.after; is = ap (λ k. n ∷ k) d.is; how = d.how }) p

  nothing_pending : (ns : List Numbered) → Pending P nothing_lost ns
  nothing_pending ns = record { threads = λ t h. absurd (false≢true h); references = λ r h. absurd (false≢true h) }

stays_free : (b c : Bool) → b ≡ false → (c ≡ true → b ≡ true) → c ≡ false
stays_free b true s f = sym (f refl) ∙ s
stays_free b false s f = refl

-- closed under direct dependence is closed by the pass
closed_pass : (gone : ℕ → Bool) (ns : List Numbered) (x : Lost) → IsUpward (λ (n : Numbered). gone n.seq.0 ≡ true) ns → Pending (λ (n : Numbered). gone n.seq.0 ≡ true) x ns → IsClosedFrom gone x ns
closed_pass gone [] x up pend = tt
closed_pass gone (n ∷ ns) x up pend = (
  λ stays. stays_free (gone n.seq.0) (depends n.label x) stays (now (λ (n : Numbered). gone n.seq.0 ≡ true) n ns x pend),
  closed_pass gone ns _ (tail_up (λ (n : Numbered). gone n.seq.0 ≡ true) n ns up) (after_one (λ (n : Numbered). gone n.seq.0 ≡ true) (gone n.seq.0) n ns x up (λ h. h) pend),
)

pub closed_run : (gone : ℕ → Bool) (run : List Numbered) → IsUpward (λ (n : Numbered). gone n.seq.0 ≡ true) run → IsClosedFrom gone nothing_lost run
closed_run gone run up = closed_pass gone run nothing_lost up (nothing_pending _ run)

pub lost_more : (b : Bool) (l : Label) (x : Lost) (t : ℕ) → x.threads t ≡ true → (after_step b l x).threads t ≡ true
lost_more true l x t h = or_right (has (touched l) t) (x.threads t) h
lost_more false l x t h = h

pub still_stale : (b : Bool) (l : Label) (x : Lost) (r : ℕ) → is_at (written l) r ≡ false → x.references r ≡ true → (after_step b l x).references r ≡ true
still_stale true l x r none h = or_right (is_at (written l) r) (x.references r) h
still_stale false l x r none h = ap (λ b. not b && x.references r) none ∙ h

wrote_what : (e : Label) (between : List Numbered) (o : Option ℕ) (Q : Type 0) → ((r : ℕ) → o ≡ Some r → is_at (written e) r ≡ true → writes r between ≡ false → Q) → writes_what e between o ≡ true → Q
wrote_what e between None Q f h = absurd (false≢true h)
wrote_what e between (Some r) Q f h = let both = and_parts _ _ h in f r refl both.0 (not-true _ both.1)

module _ (m : ℕ) (gone : ℕ → Bool) where
  -- each step that the pass reaches has P, where the first has it and it goes upward
  abbrev pub Each : (Numbered → Type 0) → List Numbered → Type 0
  Each P [] = Unit {0}
  Each P (n ∷ ns) = (gone n.seq.0 ≡ true → P n) × Each P ns

  abbrev pub Start : (Numbered → Type 0) → List Numbered → Type 0
  Start P ns = (before : List Numbered) (n : Numbered) (after : List Numbered) → ns ≡ before ++ n ∷ after → m ≡ n.seq.0 → P n

  each_reached : (P : Numbered → Type 0) (ns : List Numbered) (x : Lost) → IsUpward P ns → Start P ns → Pending P x ns → IsReachedBy m gone x ns → Each P ns
  each_reached P [] x up start pend by = tt
  each_reached P (n ∷ ns) x up start pend by =
      let this : gone n.seq.0 ≡ true → P n = λ h. or_cases _ _ (P n) (λ at. start [] n ns refl (eqb-true m n.seq.0 at)) (now P n ns x pend) (sym by.0 ∙ h) in
      (this, each_reached P ns _ (tail_up P n ns up) (λ before k after cut at. start (n ∷ before) k after (ap (λ l. n ∷ l) cut) at) (after_one P (gone n.seq.0) n ns x up this pend) by.1)

  pub each_at : (P : Numbered → Type 0) (before : List Numbered) (n : Numbered) (after : List Numbered) → Each P (before ++ n ∷ after) → gone n.seq.0 ≡ true → P n
  each_at P [] n after each h = each.0 h
  each_at P (k ∷ before) n after each h = each_at P before n after each.1 h

  -- what is lost stays lost
  late_thread : (x : Lost) (t : ℕ) (between : List Numbered) (f : Numbered) (after : List Numbered) → IsReachedBy m gone x (between ++ f ∷ after) → x.threads t ≡ true → has (actors f.label) t ≡ true → gone f.seq.0 ≡ true
  late_thread x t [] f after by lost acts = by.0 ∙ or_right (nat_eq m f.seq.0) _ (ap (λ b. b || reads_of (read f.label) x.references) (any_of x.threads (actors f.label) t acts lost))
  late_thread x t (n ∷ between) f after by lost acts = late_thread (after_step (gone n.seq.0) n.label x) t between f after by.1 (lost_more (gone n.seq.0) n.label x t lost) acts

  late_reference : (x : Lost) (r : ℕ) (between : List Numbered) (f : Numbered) (after : List Numbered) → IsReachedBy m gone x (between ++ f ∷ after) → x.references r ≡ true → writes r between ≡ false → read f.label ≡ Some r → gone f.seq.0 ≡ true
  late_reference x r [] f after by lost none reads = by.0 ∙ or_right (nat_eq m f.seq.0) _ (or_right (list_any x.threads (actors f.label)) _ (ap (λ o. reads_of o x.references) reads ∙ lost))
  late_reference x r (n ∷ between) f after by lost none reads = late_reference (after_step (gone n.seq.0) n.label x) r between f after by.1 (still_stale (gone n.seq.0) n.label x r (or_false _ _ none).0 lost) (or_false _ _ none).1 reads

  -- what the pass reaches goes upward
  up_at : (x : Lost) (before : List Numbered) (e : Numbered) (between : List Numbered) (f : Numbered) (after : List Numbered) → IsReachedBy m gone x (before ++ e ∷ (between ++ f ∷ after))
      → (shares e.label f.label || writes_what e.label between (read f.label)) ≡ true → gone e.seq.0 ≡ true → gone f.seq.0 ≡ true
  up_at x [] e between f after by how goes =
      let by' = subst (λ (b : Bool). IsReachedBy m gone (after_step b e.label x) (between ++ f ∷ after)) goes by.1 in
      or_cases _ _ _
      (λ h. let t = found (has (touched e.label)) (actors f.label) h in late_thread (lose e.label x) t.at between f after by' (ap (λ b. b || x.threads t.at) t.passes) t.here)
      (wrote_what e.label between (read f.label) _ (λ r reads at none. late_reference (lose e.label x) r between f after by' (ap (λ b. b || x.references r) at) none reads))
      how
  up_at x (n ∷ before) e between f after by how goes = up_at (after_step (gone n.seq.0) n.label x) before e between f after by.1 how goes

  pub upward : (x : Lost) (ns : List Numbered) → IsReachedBy m gone x ns → IsUpward (λ (n : Numbered). gone n.seq.0 ≡ true) ns
  upward x ns by e f d goes = up_at x d.before e d.between f d.after (subst (λ (l : List Numbered). IsReachedBy m gone x l) d.is by) d.how goes

  first_at : (x : Lost) (before : List Numbered) (n : Numbered) (after : List Numbered) → IsReachedBy m gone x (before ++ n ∷ after) → m ≡ n.seq.0 → gone n.seq.0 ≡ true
  first_at x [] n after by at = by.0 ∙ ap (λ b. b || depends n.label x) (eq-eqb m n.seq.0 at)
  first_at x (k ∷ before) n after by at = first_at (after_step (gone k.seq.0) k.label x) before n after by.1 at

  chain_goes : (run : List Numbered) → IsReachedBy m gone nothing_lost run → (f : Numbered) → Reaches run m f → gone f.seq.0 ≡ true
  chain_goes run by _ (itself before f after cut at) = first_at nothing_lost before f after (subst (λ (l : List Numbered). IsReachedBy m gone nothing_lost l) cut by) at
  chain_goes run by _ (link e f chain d) = upward nothing_lost run by e f d (chain_goes run by e chain)

-- the numbers of the pass are those of the steps to which a chain leads
pub chain_reached : (run : List Numbered) (m q : ℕ) → RiseFrom q run → (f : Numbered) → Reaches run m f → has (reached run m) f.seq.0 ≡ true
chain_reached run m q rise f chain = chain_goes m (has (reached run m)) run (reached_by m (has (reached run m)) run nothing_lost q rise (λ k le. refl)) f chain

pub reached_chain : (run : List Numbered) (m q : ℕ) → RiseFrom q run → (before : List Numbered) (f : Numbered) (after : List Numbered) → run ≡ before ++ f ∷ after → has (reached run m) f.seq.0 ≡ true → Reaches run m f
reached_chain run m q rise before f after cut goes =
    let each = each_reached m (has (reached run m)) (Reaches run m) run nothing_lost (λ e k d chain. link e k chain d) (λ b n a c at. itself b n a c at) (nothing_pending (Reaches run m) run) (reached_by m (has (reached run m)) run nothing_lost q rise (λ k le. refl)) in
    each_at m (has (reached run m)) (Reaches run m) before f after (subst (λ (l : List Numbered). Each m (has (reached run m)) (Reaches run m) l) cut each) goes
