-- What the theorem of closed sets asks of steps, for the plain language: but for two free steps.
use Rattle.std.proofs.Common.{◌≡◌, ℕ, true, false, not, List, [], ◌∷◌, Option, Some, None, refl, sym, ap, ◌∙◌}
use Rattle.std.specs.Prelude.{ℤ, is_some, option_and_then, option_map, map as each, IsSomeAnd}
use Rattle.std.specs.List.{list_any}
use Rattle.std.specs.FinMap as map
use Rattle.std.proofs.lemmas.Bool.{false≢true}
use Rattle.stab_code.specs.Program.{ProgramParts}
use Rattle.stab_journal.specs.declared.event.Label.{Label}
use Rattle.stab_journal.specs.declared.event.Label.TheVariants.{Local, Spawn, NewChan, Comm, NewRef, Get, Set, Enter, Cut, Print, Probe, Refuse, Pin, Attempt}
use Rattle.stab_journal.specs.Label.{touched}
use Rattle.stab_journal.specs.Names.{has}
use Rattle.stab_journal.specs.Script.{script_at}
use Rattle.language.specs.declared.head.Head.{Head}
use Rattle.language.specs.declared.head.Head.TheVariants.{Section}
use Rattle.language.specs.Expression.{Expr}
use Rattle.language.specs.Redex.{Frame, innermost, section_or, mark, frames}
use Rattle.language.specs.Plain.{PlainState, plain_step, language_of}
use Rattle.language.proofs.Touching.{changes_only}
use Rattle.journal_laws.proofs.Applying.{or_false}
use Rattle.explore_laws.specs.Apart.{disturbs, are_apart}
use Rattle.explore_laws.specs.Explored.{IsAsked, uses}
use Rattle.explore_laws.specs.Free.{is_free, is_open}
use Rattle.explore_laws.specs.Renamed.{Naming, IsLike, AreLike, unnamed, head_in, expr_in, label_in}
use Rattle.explore_laws.proofs.Commuting.{commute, both_true, not_true}
use Rattle.explore_laws.proofs.Configs.{Config, after}
use Rattle.explore_laws.proofs.FreeSteps.{free_apart}
use Rattle.explore_laws.proofs.Likeness.{one_to_one, alike_same, alike_back, alike_on}
use Rattle.explore_laws.proofs.LikeSteps.{alike}
use Rattle.explore_laws.proofs.Renaming.{frame_in, frames_same}

-- a section stays one
section_same : (n : Naming) (h : Head) (o x : Option ℕ) → is_some o ≡ is_some x → is_some (section_or (head_in n h) o) ≡ is_some (section_or h x)
section_same n (Section q) o x h = refl
section_same n g o x h = h

marks_same : (n : Naming) (fs : List Frame) → is_some (innermost (each (frame_in n) fs)) ≡ is_some (innermost fs)
marks_same n [] = refl
marks_same n (f ∷ fs) = section_same n f.head (innermost (each (frame_in n) fs)) (innermost fs) (marks_same n fs)

pub mark_same : (n : Naming) (e : Expr) → is_some (mark (expr_in n e)) ≡ is_some (mark e)
mark_same n e = ap (λ fs. is_some (innermost fs)) (frames_same n e) ∙ marks_same n (frames e)

none_is : {A : Type 0} (o : Option A) → is_some o ≡ false → o ≡ None
none_is None h = refl
none_is (Some x) h = absurd (false≢true (sym h))

mark_by : (n : Naming) (o x : Option Expr) → option_map (expr_in unnamed) o ≡ option_map (expr_in n) x → option_and_then mark x ≡ None → option_and_then mark o ≡ None
mark_by n None x h none = refl
mark_by n (Some e) None h none = cc
mark_by n (Some e) (Some d) h none =
    let same : expr_in unnamed e ≡ expr_in n d = cc in
    none_is (mark e) (sym (mark_same unnamed e) ∙ ap (λ z. is_some (mark z)) same ∙ mark_same n d ∙ ap is_some none)

module _ (p : ProgramParts) (script : List ℤ) where
  abbrev pub Asks : Config → Label → Type 0
  Asks c l = IsAsked script c.state c.used l

  pub record Free (c d : Config) : Type 0 where
    pub q : ℕ
    pub l : Label
    pub free : is_free l ≡ true
    pub made : plain_step p c.state q l ≡ Some d.state
    pub used : d.used ≡ c.used

  pub record Open (c d : Config) : Type 0 where
    pub q : ℕ
    pub l : Label
    pub opened : is_open l ≡ true
    pub asked : Asks c l
    pub made : plain_step p c.state q l ≡ Some d.state
    pub used : d.used ≡ uses l c.used

  pub record Like (c d : Config) : Type 0 where
    pub states : AreLike c.state d.state
    pub used : c.used ≡ d.used

  free_in : (n : Naming) (l : Label) → is_free (label_in n l) ≡ is_free l
  free_in n (Local t k) = refl
  free_in n (Spawn t u) = refl
  free_in n (NewChan t c) = refl
  free_in n (Comm s r c) = refl
  free_in n (NewRef t r) = refl
  free_in n (Get t r) = refl
  free_in n (Set t r) = refl
  free_in n (Enter t) = refl
  free_in n (Cut t) = refl
  free_in n (Print t) = refl
  free_in n (Probe t i) = refl
  free_in n (Refuse t) = refl
  free_in n (Pin t) = refl
  free_in n (Attempt t g) = refl

  open_in : (n : Naming) (l : Label) → is_open (label_in n l) ≡ is_open l
  open_in n (Local t k) = refl
  open_in n (Spawn t u) = refl
  open_in n (NewChan t c) = refl
  open_in n (Comm s r c) = refl
  open_in n (NewRef t r) = refl
  open_in n (Get t r) = refl
  open_in n (Set t r) = refl
  open_in n (Enter t) = refl
  open_in n (Cut t) = refl
  open_in n (Print t) = refl
  open_in n (Probe t i) = refl
  open_in n (Refuse t) = refl
  open_in n (Pin t) = refl
  open_in n (Attempt t g) = refl

  uses_in : (n : Naming) (l : Label) (u : ℕ) → uses (label_in n l) u ≡ uses l u
  uses_in n (Probe t i) u = refl
  uses_in n (Local t k) u = refl
  uses_in n (Spawn t v) u = refl
  uses_in n (NewChan t c) u = refl
  uses_in n (Comm s r c) u = refl
  uses_in n (NewRef t r) u = refl
  uses_in n (Get t r) u = refl
  uses_in n (Set t r) u = refl
  uses_in n (Enter t) u = refl
  uses_in n (Cut t) u = refl
  uses_in n (Print t) u = refl
  uses_in n (Refuse t) u = refl
  uses_in n (Pin t) u = refl
  uses_in n (Attempt t g) u = refl

  asks_in : (a b : Config) (n : Naming) → IsLike n a.state b.state → a.used ≡ b.used → (l : Label) → Asks a l → Asks b (label_in n l)
  asks_in a b n like used (Probe t i) h = h ∙ ap (script_at script) used
  asks_in a b n like used (Attempt t g) h = h
  asks_in a b n like used (Refuse t) h = mark_by n (map.get b.state.threads (n.thread t.0)) (map.get a.state.threads t.0) (like.threads t.0) h
  asks_in a b n like used (Local t k) h = tt
  asks_in a b n like used (Spawn t u) h = tt
  asks_in a b n like used (NewChan t c) h = tt
  asks_in a b n like used (Comm s r c) h = tt
  asks_in a b n like used (NewRef t r) h = tt
  asks_in a b n like used (Get t r) h = tt
  asks_in a b n like used (Set t r) h = tt
  asks_in a b n like used (Enter t) h = tt
  asks_in a b n like used (Cut t) h = tt
  asks_in a b n like used (Print t) h = tt
  asks_in a b n like used (Pin t) h = tt

  module _ (a b x : Config) (like : Like a b) where
    abbrev n : Naming
    n = like.states.there

    free_to : (f : Free a x) (o : Option PlainState) → plain_step p b.state f.q (label_in n f.l) ≡ o → IsSomeAnd o (IsLike n x.state) → (y : Config) × Free b y × Like x y
    free_to f None at h = absurd h
    free_to f (Some z) at h = (
      after p b f.q (label_in n f.l) z at b.used,
      record { q = f.q; l = label_in n f.l; free = free_in n f.l ∙ f.free; made = at; used = refl },
      record { states = record { there = n; back = like.states.back; two_way = like.states.two_way; like = h }; used = f.used ∙ like.used },
    )

    pub free_alike : Free a x → (y : Config) × Free b y × Like x y
    free_alike f = free_to f _ refl (alike p n (one_to_one n like.states.back like.states.two_way) a.state b.state like.states.like f.q f.q f.l x.state f.made)

    open_to : (f : Open a x) (o : Option PlainState) → plain_step p b.state f.q (label_in n f.l) ≡ o → IsSomeAnd o (IsLike n x.state) → (y : Config) × Open b y × Like x y
    open_to f None at h = absurd h
    open_to f (Some z) at h = (
      after p b f.q (label_in n f.l) z at (uses f.l b.used),
      record { q = f.q; l = label_in n f.l; opened = open_in n f.l ∙ f.opened; asked = asks_in a b n like.states.like like.used f.l f.asked; made = at; used = sym (uses_in n f.l b.used) },
      record { states = record { there = n; back = like.states.back; two_way = like.states.two_way; like = h }; used = f.used ∙ ap (uses f.l) like.used },
    )

    pub open_alike : Open a x → (y : Config) × Open b y × Like x y
    open_alike f = open_to f _ refl (alike p n (one_to_one n like.states.back like.states.two_way) a.state b.state like.states.like f.q f.q f.l x.state f.made)

  -- what is asked of an open step is still so after a free one of another thread
  asks_after : (s a : Config) (q : ℕ) (k l : Label) → plain_step p s.state q k ≡ Some a.state → disturbs k l ≡ false → a.used ≡ s.used → Asks s l → Asks a l
  asks_after s a q k (Probe t i) made apart used h = h ∙ ap (script_at script) (sym used)
  asks_after s a q k (Attempt t g) made apart used h = h
  asks_after s a q k (Refuse t) made apart used h =
      let free : has (touched k) t.0 ≡ false = (or_false (has (touched k) t.0) _ (or_false (list_any (has (touched k)) (touched (Refuse t))) _ apart).0).0 in
      ap (option_and_then mark) ((changes_only (language_of p) s.state a.state q k made).threads t.0 free) ∙ h
  asks_after s a q k (Local t n) made apart used h = tt
  asks_after s a q k (Spawn t u) made apart used h = tt
  asks_after s a q k (NewChan t c) made apart used h = tt
  asks_after s a q k (Comm t u c) made apart used h = tt
  asks_after s a q k (NewRef t r) made apart used h = tt
  asks_after s a q k (Get t r) made apart used h = tt
  asks_after s a q k (Set t r) made apart used h = tt
  asks_after s a q k (Enter t) made apart used h = tt
  asks_after s a q k (Cut t) made apart used h = tt
  asks_after s a q k (Print t) made apart used h = tt
  asks_after s a q k (Pin t) made apart used h = tt

  module _ (s a b : Config) (f : Free s a) (o : Open s b) where
    abbrev are : are_apart f.l o.l ≡ true
    are = free_apart (language_of p) s.state f.q o.q f.l o.l a.state b.state f.free o.opened f.made o.made

    apart_to : (x : Option PlainState) → plain_step p a.state o.q o.l ≡ x → IsSomeAnd x (λ c. plain_step p b.state f.q f.l ≡ Some c) → (c : Config) × Open a c × Free b c
    apart_to None at h = absurd h
    apart_to (Some z) at h =
        let first : disturbs f.l o.l ≡ false = not_true _ (both_true (not (disturbs f.l o.l)) _ are).0 in (
          after p a o.q o.l z at (uses o.l a.used),
          record { q = o.q; l = o.l; opened = o.opened; asked = asks_after s a f.q f.l o.l f.made first f.used o.asked; made = at; used = refl },
          record { q = f.q; l = f.l; free = f.free; made = h; used = ap (uses o.l) f.used ∙ sym o.used },
        )

    -- a free step and an open one commute
    pub apart : (c : Config) × Open a c × Free b c
    apart = apart_to _ refl (commute (language_of p) s.state a.state b.state f.q o.q f.l o.l are f.made o.made)

  pub same : (c : Config) → Like c c
  same c = record { states = alike_same c.state; used = refl }

  pub back : (c d : Config) → Like c d → Like d c
  back c d h = record { states = alike_back c.state d.state h.states; used = sym h.used }

  pub on : (a b c : Config) → Like a b → Like b c → Like a c
  on a b c h k = record { states = alike_on a.state b.state c.state h.states k.states; used = h.used ∙ k.used }
