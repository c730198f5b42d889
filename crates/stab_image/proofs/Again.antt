-- The image that the lines of an image make is that image.
use Rattle.std.proofs.Common.{◌≡◌, ℕ, suc, zero, ◌+◌, ◌-◌, ◌<◌, ◌≤◌, Bool, true, false, cond, List, [], ◌∷◌, ◌++◌, refl, sym, ap, ◌∙◌, arith}
use Rattle.std.specs.Prelude.{Some, None, Option, ◌||◌, is_some, map as each, nat_eq, unwrap_or}
use Rattle.std.specs.List.{cons_option, filter_map, list_any}
use Rattle.std.specs.Ordering.{nat_cmp}
use Rattle.std.specs.Cmp.{unsigned_tied}
use Rattle.std.specs.FinMap as map
use Rattle.std.specs.FinMap.{FinMap, entries, find, from_entries, get-entries, get-from_entries, nat_cmp-IsAntisymmetric, same_map}
use Rattle.std.specs.FinSet as set
use Rattle.std.specs.FinSet.{FinSet, contains-from_list_nat, from_list, same_set}
use Rattle.std.proofs.lemmas.Bool.{eqb-true, eq-eqb, false≢true, ne_eqb}
use Rattle.std.proofs.lemmas.Cmp.{nat_cmp_total}
use Rattle.std.proofs.lemmas.List.{append-nil}
use Rattle.std.proofs.lemmas.List.Elements.{filter_map-append}
use Rattle.stab_base.specs.Datum.{Datum}
use Rattle.stab_base.specs.declared.numbers.ChanId.{ChanId}
use Rattle.stab_base.specs.declared.numbers.RefId.{RefId}
use Rattle.stab_base.specs.declared.numbers.ThreadId.{ThreadId}
use Rattle.language.specs.Expression.{Expr}
use Rattle.language.specs.Plain.{PlainState}
use Rattle.image_laws.specs.Image.{Image, generation_at}
use Rattle.image_text.specs.Rising.{those}
use Rattle.image_lines.specs.declared.line.Line.{Line}
use Rattle.image_state.specs.Parts.{channel_of, generation_of, output_of, parts_from, reference_of, thread_of}
use Rattle.image_state.specs.Sound.{state_from}
use Rattle.image_state.proofs.Listed.{from_entries-entries}
use Rattle.stab_image.specs.Read.{image_with}
use Rattle.stab_image.specs.Written.{IsRight, channel_line, lines_of, next_of, output_line, reference_line, thread_line}

-- what lines of one kind say
module _ {Y : Type 0} (f : Line → Option Y) where
  nothing_of : {X : Type 0} (g : X → Line) → ((x : X) → f (g x) ≡ None) → (xs : List X) → filter_map f (each g xs) ≡ []
  nothing_of g none [] = refl
  nothing_of g none (x ∷ xs) = ap (λ o. cons_option o (filter_map f (each g xs))) (none x) ∙ nothing_of g none xs

  all_of : {X : Type 0} (g : X → Line) (h : X → Y) → ((x : X) → f (g x) ≡ Some (h x)) → (xs : List X) → filter_map f (each g xs) ≡ each h xs
  all_of g h some [] = refl
  all_of g h some (x ∷ xs) = ap (λ o. cons_option o (filter_map f (each g xs))) (some x) ∙ ap (λ (ys : List Y). h x ∷ ys) (all_of g h some xs)

  of_four : (a b c d : List Line) (w x y z : List Y) → filter_map f a ≡ w → filter_map f b ≡ x → filter_map f c ≡ y → filter_map f d ≡ z → filter_map f (a ++ (b ++ (c ++ d))) ≡ w ++ (x ++ (y ++ z))
  of_four a b c d w x y z p q r s =
      filter_map-append f a (b ++ (c ++ d))
      ∙ ap (λ (l : List Y). l ++ filter_map f (b ++ (c ++ d))) p
      ∙ ap (λ (l : List Y). w ++ l)
      (filter_map-append f b (c ++ d)
      ∙ ap (λ (l : List Y). l ++ filter_map f (c ++ d)) q
      ∙ ap (λ (l : List Y). x ++ l) (filter_map-append f c d ∙ ap (λ (l : List Y). l ++ filter_map f d) r ∙ ap (λ (l : List Y). y ++ l) s))

module _ (i : Image) where
  abbrev pub cs : List ℕ
  cs = those (set.contains i.state.channels) 1 (i.next_chan - 1)

  abbrev pub rs : List (ℕ × Datum)
  rs = entries i.state.references

  abbrev ts : List (ℕ × Expr)
  ts = entries i.state.threads

  abbrev pub chan_id : ℕ → ChanId
  chan_id c = record { 0 = c }

  abbrev pub ref_pair : ℕ × Datum → RefId × Datum
  ref_pair r = (record { 0 = r.0 }, r.1)

  abbrev thread_pair : ℕ × Expr → ThreadId × Expr
  thread_pair t = (record { 0 = t.0 }, t.1)

  abbrev count_pair : ℕ × Expr → ℕ × ℕ
  count_pair t = (t.0, generation_at i t.0)

  pub channels_said : filter_map channel_of (lines_of i) ≡ each chan_id cs
  channels_said =
      of_four channel_of (each channel_line cs) (each reference_line rs) (each output_line i.state.output) (each (thread_line i) ts) (each chan_id cs) [] [] []
      (all_of channel_of channel_line chan_id (λ c. refl) cs) (nothing_of channel_of reference_line (λ r. refl) rs) (nothing_of channel_of output_line (λ v. refl) i.state.output) (nothing_of channel_of (thread_line i) (λ t. refl) ts)
      ∙ append-nil (each chan_id cs)

  pub references_said : filter_map reference_of (lines_of i) ≡ each ref_pair rs
  references_said =
      of_four reference_of (each channel_line cs) (each reference_line rs) (each output_line i.state.output) (each (thread_line i) ts) [] (each ref_pair rs) [] []
      (nothing_of reference_of channel_line (λ c. refl) cs) (all_of reference_of reference_line ref_pair (λ r. refl) rs) (nothing_of reference_of output_line (λ v. refl) i.state.output) (nothing_of reference_of (thread_line i) (λ t. refl) ts)
      ∙ append-nil (each ref_pair rs)

  same_all : (vs : List Datum) → each (λ (v : Datum). v) vs ≡ vs
  same_all [] = refl
  same_all (v ∷ vs) = ap (λ (xs : List Datum). v ∷ xs) (same_all vs)

  output_said : filter_map output_of (lines_of i) ≡ i.state.output
  output_said =
      of_four output_of (each channel_line cs) (each reference_line rs) (each output_line i.state.output) (each (thread_line i) ts) [] [] (each (λ (v : Datum). v) i.state.output) []
      (nothing_of output_of channel_line (λ c. refl) cs) (nothing_of output_of reference_line (λ r. refl) rs) (all_of output_of output_line (λ v. v) (λ v. refl) i.state.output) (nothing_of output_of (thread_line i) (λ t. refl) ts)
      ∙ append-nil (each (λ (v : Datum). v) i.state.output) ∙ same_all i.state.output

  threads_said : filter_map thread_of (lines_of i) ≡ each thread_pair ts
  threads_said =
      of_four thread_of (each channel_line cs) (each reference_line rs) (each output_line i.state.output) (each (thread_line i) ts) [] [] [] (each thread_pair ts)
      (nothing_of thread_of channel_line (λ c. refl) cs) (nothing_of thread_of reference_line (λ r. refl) rs) (nothing_of thread_of output_line (λ v. refl) i.state.output) (all_of thread_of (thread_line i) thread_pair (λ t. refl) ts)

  generations_said : filter_map generation_of (lines_of i) ≡ each count_pair ts
  generations_said =
      of_four generation_of (each channel_line cs) (each reference_line rs) (each output_line i.state.output) (each (thread_line i) ts) [] [] [] (each count_pair ts)
      (nothing_of generation_of channel_line (λ c. refl) cs) (nothing_of generation_of reference_line (λ r. refl) rs) (nothing_of generation_of output_line (λ v. refl) i.state.output) (all_of generation_of (thread_line i) count_pair (λ t. refl) ts)

  -- the channels
  pub numbers_same : (ks : List ℕ) → each (λ (c : ChanId). c.0) (each chan_id ks) ≡ ks
  numbers_same [] = refl
  numbers_same (k ∷ ks) = ap (λ (xs : List ℕ). k ∷ xs) (numbers_same ks)

  no_more : (has : ℕ → Bool) (a n c : ℕ) → c < a → list_any (λ y. nat_eq y c) (those has a n) ≡ false
  no_more has a zero c lt = refl
  no_more has a (suc n) c lt =
      elim (has a) as (λ b. list_any (λ y. nat_eq y c) (cond b (a ∷ those has (suc a) n) (those has (suc a) n)) ≡ false) [
        | true ↦ ap (λ b. b || list_any (λ y. nat_eq y c) (those has (suc a) n)) (ne_eqb a c (λ same. omega arith)) ∙ no_more has (suc a) n c (omega arith)
        | false ↦ no_more has (suc a) n c (omega arith)
      ]

  pub those_there : (has : ℕ → Bool) (a n c : ℕ) → a ≤ c → c < a + n → list_any (λ y. nat_eq y c) (those has a n) ≡ has c
  those_there has a zero c low high = absurd (omega arith)
  those_there has a (suc n) c low high =
      elim (nat_eq a c) as (λ t. nat_eq a c ≡ t → list_any (λ y. nat_eq y c) (those has a (suc n)) ≡ has c) [
        | true ↦ λ is.
            let same : a ≡ c = eqb-true a c is in
            (elim (has a) as (λ b. has a ≡ b → list_any (λ y. nat_eq y c) (cond b (a ∷ those has (suc a) n) (those has (suc a) n)) ≡ has c) [
              | true ↦ λ here. ap (λ b. b || list_any (λ y. nat_eq y c) (those has (suc a) n)) is ∙ sym here ∙ ap has same
              | false ↦ λ here. no_more has (suc a) n c (omega arith) ∙ sym here ∙ ap has same
            ]) refl
        | false ↦ λ is.
            let other : a ≡ c → ⊥ = λ same. false≢true (sym is ∙ eq-eqb a c same) in
            let above : suc a ≤ c = omega (arith, other) in
            (elim (has a) as (λ b. list_any (λ y. nat_eq y c) (cond b (a ∷ those has (suc a) n) (those has (suc a) n)) ≡ has c) [
              | true ↦ ap (λ b. b || list_any (λ y. nat_eq y c) (those has (suc a) n)) is ∙ those_there has (suc a) n c above (omega arith)
              | false ↦ those_there has (suc a) n c above (omega arith)
            ])
      ] refl

  without_it : (has : ℕ → Bool) (a n c : ℕ) → has c ≡ false → list_any (λ y. nat_eq y c) (those has a n) ≡ false
  without_it has a zero c none = refl
  without_it has a (suc n) c none =
      elim (has a) as (λ b. has a ≡ b → list_any (λ y. nat_eq y c) (cond b (a ∷ those has (suc a) n) (those has (suc a) n)) ≡ false) [
        | true ↦ λ here.
            ap (λ b. b || list_any (λ y. nat_eq y c) (those has (suc a) n)) (ne_eqb a c (λ same. false≢true (sym none ∙ sym (ap has same) ∙ here))) ∙ without_it has (suc a) n c none
        | false ↦ λ here. without_it has (suc a) n c none
      ] refl

  pub pairs_same : {X Y : Type 0} (g : ℕ × X → Y) (h : Y → ℕ × X) → ((p : ℕ × X) → h (g p) ≡ p) → (es : List (ℕ × X)) → each h (each g es) ≡ es
  pairs_same g h same [] = refl
  pairs_same {X} g h same (e ∷ es) = ap (λ (f : ℕ × X). f ∷ each h (each g es)) (same e) ∙ ap (λ (fs : List (ℕ × X)). e ∷ fs) (pairs_same g h same es)

  module _ (right : IsRight i) where
    channel_same : (c : ℕ) → set.contains (from_list {R = nat_cmp} cs) c ≡ set.contains i.state.channels c
    channel_same c =
        contains-from_list_nat cs c
        ∙ elim (set.contains i.state.channels c) as (λ b. set.contains i.state.channels c ≡ b → list_any (λ y. nat_eq y c) cs ≡ b) [
          | true ↦ λ is.
              let low = (right.channels c is).0 in
              let high = (right.channels c is).1 in
              those_there (set.contains i.state.channels) 1 (i.next_chan - 1) c low (omega arith) ∙ is
          | false ↦ λ is. without_it (set.contains i.state.channels) 1 (i.next_chan - 1) c is
        ] refl

    channels_again : set.from_list {R = nat_cmp} (each (λ (c : ChanId). c.0) (filter_map channel_of (lines_of i))) ≡ i.state.channels
    channels_again =
        ap (λ (ks : List ChanId). from_list {R = nat_cmp} (each (λ (c : ChanId). c.0) ks)) channels_said ∙ ap (λ (ks : List ℕ). from_list {R = nat_cmp} ks) (numbers_same cs)
        ∙ same_set nat_cmp_total nat_cmp-IsAntisymmetric (from_list cs) i.state.channels channel_same

    references_again : from_entries {R = nat_cmp} (each (λ (r : RefId × Datum). (r.0.0, r.1)) (filter_map reference_of (lines_of i))) ≡ i.state.references
    references_again =
        ap (λ (xs : List (RefId × Datum)). from_entries {R = nat_cmp} (each (λ (r : RefId × Datum). (r.0.0, r.1)) xs)) references_said
        ∙ ap (λ (es : List (ℕ × Datum)). from_entries {R = nat_cmp} es) (pairs_same ref_pair (λ (r : RefId × Datum). (r.0.0, r.1)) (λ p. refl) rs)
        ∙ from_entries-entries i.state.references

    threads_again : from_entries {R = nat_cmp} (each (λ (t : ThreadId × Expr). (t.0.0, t.1)) (filter_map thread_of (lines_of i))) ≡ i.state.threads
    threads_again =
        ap (λ (xs : List (ThreadId × Expr)). from_entries {R = nat_cmp} (each (λ (t : ThreadId × Expr). (t.0.0, t.1)) xs)) threads_said
        ∙ ap (λ (es : List (ℕ × Expr)). from_entries {R = nat_cmp} es) (pairs_same thread_pair (λ (t : ThreadId × Expr). (t.0.0, t.1)) (λ p. refl) ts)
        ∙ from_entries-entries i.state.threads

    -- the generations: those of the threads that are there
    counted : (t : ℕ) (es : List (ℕ × Expr)) → find nat_cmp t (each count_pair es) ≡ cond (is_some (find nat_cmp t es)) (Some (generation_at i t)) None
    counted t [] = refl
    counted t (e ∷ es) =
        elim (nat_eq t e.0) as (λ b. nat_eq t e.0 ≡ b → find nat_cmp t (each count_pair (e ∷ es)) ≡ cond (is_some (find nat_cmp t (e ∷ es))) (Some (generation_at i t)) None) [
          | true ↦ λ is.
              let tied = unsigned_tied t e.0 ∙ is in
              ap (λ b. cond b (Some (generation_at i e.0)) (find nat_cmp t (each count_pair es))) tied
              ∙ ap (λ (k : ℕ). let o : Option ℕ = Some (generation_at i k) in o) (sym (eqb-true t e.0 is))
              ∙ ap (λ b. cond (is_some (cond b (Some e.1) (find nat_cmp t es))) (Some (generation_at i t)) None) (sym tied)
          | false ↦ λ is.
              let tied = unsigned_tied t e.0 ∙ is in
              ap (λ b. cond b (Some (generation_at i e.0)) (find nat_cmp t (each count_pair es))) tied
              ∙ counted t es
              ∙ ap (λ b. cond (is_some (cond b (Some e.1) (find nat_cmp t es))) (Some (generation_at i t)) None) (sym tied)
        ] refl

    had : (o : Option ℕ) → cond (is_some o) (Some (unwrap_or o 0)) None ≡ o
    had None = refl
    had (Some k) = refl

    generations_again : from_entries {R = nat_cmp} (filter_map generation_of (lines_of i)) ≡ i.generations
    generations_again =
        ap (λ (es : List (ℕ × ℕ)). from_entries {R = nat_cmp} es) generations_said
        ∙ same_map nat_cmp_total nat_cmp-IsAntisymmetric (from_entries (each count_pair ts)) i.generations (λ t.
        get-from_entries nat_cmp_total (each count_pair ts) t ∙ counted t ts
        ∙ ap (λ b. cond b (Some (generation_at i t)) None) (ap is_some (sym (get-entries i.state.threads t)) ∙ sym (right.generations t))
        ∙ had (map.get i.generations t))

    abbrev Made : FinMap nat_cmp Expr → FinMap nat_cmp Datum → FinSet nat_cmp → List Datum → FinMap nat_cmp ℕ → Image
    Made t r c o g = record i { state = record { threads = t; references = r; channels = c; output = o }; generations = g }

    five : (t u : FinMap nat_cmp Expr) (r s : FinMap nat_cmp Datum) (c d : FinSet nat_cmp) (o p : List Datum) (g h : FinMap nat_cmp ℕ) → t ≡ u → r ≡ s → c ≡ d → o ≡ p → g ≡ h → Made t r c o g ≡ Made u s d p h
    five t u r s c d o p g h e1 e2 e3 e4 e5 =
        ap (λ (x : FinMap nat_cmp Expr). Made x r c o g) e1 ∙ ap (λ (x : FinMap nat_cmp Datum). Made u x c o g) e2 ∙ ap (λ (x : FinSet nat_cmp). Made u s x o g) e3
        ∙ ap (λ (x : List Datum). Made u s d x g) e4 ∙ ap (λ (x : FinMap nat_cmp ℕ). Made u s d p x) e5

    pub image_again : (at : ℕ) (rest : List ℕ) → image_with i.text i.program (record { script = i.script; used = i.used; next = next_of i; at = at; rest = rest }) (parts_from (lines_of i)) ≡ i
    image_again at rest =
        let s : PlainState = state_from (parts_from (lines_of i)) in
        five s.threads i.state.threads s.references i.state.references s.channels i.state.channels s.output i.state.output
        (from_entries (filter_map generation_of (lines_of i))) i.generations threads_again references_again channels_again output_said generations_again
