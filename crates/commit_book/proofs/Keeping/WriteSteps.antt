-- The kept writes of references after a step.
use Rattle.std.proofs.Common.{◌≡◌, ℕ, ◌<◌, Bool, true, false, cond, ◌||◌, List, [], ◌∷◌, ◌++◌, Option, Some, None, refl, sym, ap, ◌∙◌, append_assoc, append-nil, arith}
use Rattle.std.specs.Prelude.{option_map, is_some, nat_lt}
use Rattle.std.specs.List.{last_or}
use Rattle.std.specs.Ordering.{nat_cmp}
use Rattle.std.specs.FinMap as map
use Rattle.std.specs.FinMap.{FinMap}
use Rattle.std.proofs.lemmas.Bool.{false≢true}
use Rattle.stab_base.specs.Datum.{Datum}
use Rattle.stab_journal.specs.declared.event.Label.{Label}
use Rattle.stab_journal.specs.declared.event.Numbered.{Numbered}
use Rattle.stab_journal.specs.Floor.{is_cut, floor}
use Rattle.stab_journal.specs.Label.{written}
use Rattle.stab_journal.specs.Names.{is_at}
use Rattle.ref_log.specs.Log.{Write, kept, has_below, last_of}
use Rattle.language.specs.Steps.{State, Effect, Table, plain, apply, after_steps, next, put_value}
use Rattle.language.proofs.Applying.{put_value-apart}
use Rattle.journal_laws.specs.Surviving.{value_of}
use Rattle.journal_laws.proofs.Applying.{put_value-here}
use Rattle.journal_laws.proofs.Stepping.{step_of}
use Rattle.journal_laws.proofs.Surviving.{some_is, some_none, no_steps}
use Rattle.commit_book.specs.Run.{write_of, writes_in}
use Rattle.commit_book.specs.References.{writes_at, AreWrites, HoldValues}
use Rattle.commit_book.proofs.Keeping.Floors.{floor_snoc, not_less}

below_snoc : (f : ℕ) (ws : List Write) (w : Write) → nat_lt w.number f ≡ false → has_below f (ws ++ w ∷ []) ≡ has_below f ws
below_snoc f [] w uncut = ap (λ b. b || false) uncut
below_snoc f (v ∷ ws) w uncut = ap (λ b. nat_lt v.number f || b) (below_snoc f ws w uncut)

kept_snoc : (f : ℕ) (ws : List Write) (w : Write) → nat_lt w.number f ≡ false → kept f (ws ++ w ∷ []) ≡ kept f ws ++ w ∷ []
kept_snoc f [] w uncut = refl
kept_snoc f (v ∷ ws) w uncut =
    ap (λ b. cond b (kept f (ws ++ w ∷ [])) (v ∷ (ws ++ w ∷ []))) (below_snoc f ws w uncut)
    ∙ ap (λ k. cond (has_below f ws) k (v ∷ (ws ++ w ∷ []))) (kept_snoc f ws w uncut)
    ∙ (elim (has_below f ws) as (λ b. cond b (kept f ws ++ w ∷ []) (v ∷ (ws ++ w ∷ [])) ≡ cond b (kept f ws) (v ∷ ws) ++ w ∷ []) [ true ↦ refl | false ↦ refl ])

kept_now : (f q : ℕ) (b : Bool) (v : Datum) (ws : List Write) → f < q → kept f ws ++ cond b (record { number = q; value = v } ∷ []) [] ≡ kept f (ws ++ cond b (record { number = q; value = v } ∷ []) [])
kept_now f q true v ws above = sym (kept_snoc f ws (record { number = q; value = v }) (not_less q f (omega arith)))
kept_now f q false v ws above = append-nil (kept f ws) ∙ ap (kept f) (sym (append-nil ws))

full_last : (f : ℕ) (ws : List Write) (o p : Option Write) → has_below f ws ≡ true → last_or o ws ≡ last_or p ws
full_last f [] o p h = absurd (false≢true h)
full_last f (w ∷ ws) o p h = refl

-- the last write stays at a cut
pub kept_last : (f : ℕ) (ws : List Write) (o : Option Write) → last_or o (kept f ws) ≡ last_or o ws
kept_last f [] o = refl
kept_last f (w ∷ ws) o = elim (has_below f ws) as (λ b. has_below f ws ≡ b → last_or o (cond b (kept f ws) (w ∷ ws)) ≡ last_or (Some w) ws) [
  | true ↦ λ is. kept_last f ws o ∙ full_last f ws o (Some w) is
  | false ↦ λ is. refl
] refl

abbrev pub value_in : Option Write → Option Datum
value_in w = option_map (λ (w : Write). w.value) w

module _ {E : Type 0} (effect : Table E) where
  pub writes_snoc : (r : ℕ) (o : Option (State E)) (run : List Numbered) (n : Numbered) → writes_in effect r o (run ++ n ∷ []) ≡ writes_in effect r o run ++ writes_in effect r (after_steps effect o run) (n ∷ [])
  writes_snoc r o [] n = refl
  writes_snoc r o (k ∷ run) n =
      let first = cond (is_at (written k.label) r) (write_of k.seq.0 (value_of (next effect o k) r)) [] in
      ap (λ ws. first ++ ws) (writes_snoc r (next effect o k) run n)
      ∙ sym (append_assoc first (writes_in effect r (next effect o k) run) (writes_in effect r (after_steps effect (next effect o k) run) (n ∷ [])))

  -- the write of a step
  abbrev pub write_now : ℕ → ℕ → Label → Effect E → List Write
  write_now r q l e = cond (is_at (written l) r) (record { number = q; value = e.value } ∷ []) []

  writes_now : (r : ℕ) (s : State E) (n : Numbered) (e : Effect E) → plain effect s n.seq.0 n.label ≡ Some (apply s n.label e) → writes_in effect r (Some s) (n ∷ []) ≡ write_now r n.seq.0 n.label e
  writes_now r s n e step =
      append-nil (cond (is_at (written n.label) r) (write_of n.seq.0 (value_of (plain effect s n.seq.0 n.label) r)) [])
      ∙ ap (λ o. cond (is_at (written n.label) r) (write_of n.seq.0 (value_of o r)) []) step
      ∙ (elim (is_at (written n.label) r) as (λ b. is_at (written n.label) r ≡ b → cond b (write_of n.seq.0 (value_of (Some (apply s n.label e)) r)) [] ≡ cond b (record { number = n.seq.0; value = e.value } ∷ []) []) [
        | true ↦ λ is. ap (write_of n.seq.0) (put_value-here (written n.label) e.value s.references r is)
        | false ↦ λ is. refl
      ] refl)

  -- a step that is no cut adds its write
  pub writes_step : (start s : State E) (run : List Numbered) (n : Numbered) (e : Effect E) (last_cut : ℕ) (references new : FinMap nat_cmp (List Write)) → after_steps effect (Some start) run ≡ Some s → plain effect s n.seq.0 n.label ≡ Some (apply s n.label e) → is_cut n.label ≡ false → floor run < n.seq.0
      → ((r : ℕ) → writes_at new r ≡ writes_at references r ++ write_now r n.seq.0 n.label e)
      → AreWrites effect last_cut references start run → AreWrites effect last_cut new start (run ++ n ∷ [])
  writes_step start s run n e last_cut references new runs step uncut above wrote is = record {
    cut = is.cut ∙ sym (floor_snoc 0 run n uncut);
    writes = λ r.
        wrote r ∙ ap (λ ws. ws ++ write_now r n.seq.0 n.label e) (is.writes r)
        ∙ kept_now (floor run) n.seq.0 (is_at (written n.label) r) e.value (writes_in effect r (Some start) run) above
        ∙ ap (λ ws. kept (floor run) (writes_in effect r (Some start) run ++ ws)) (sym (ap (λ o. writes_in effect r o (n ∷ [])) runs ∙ writes_now r s n e step))
        ∙ ap (kept (floor run)) (sym (writes_snoc r (Some start) run n))
        ∙ ap (λ f. kept f (writes_in effect r (Some start) (run ++ n ∷ []))) (sym (floor_snoc 0 run n uncut));
  }

  one_read : (r : ℕ) (n : Numbered) (m : State E) (now : Option Write) (ws : List Write) (end : Option Datum) (v : Option Datum) → map.get m.references r ≡ v → is_some v ≡ true
      → ((now : Option Write) → value_in now ≡ map.get m.references r → value_in (last_or now ws) ≡ end)
      → value_in (last_or now (write_of n.seq.0 v ++ ws)) ≡ end
  one_read r n m now ws end None at there more = absurd (false≢true there)
  one_read r n m now ws end (Some v) at there more = more (Some (record { number = n.seq.0; value = v })) (sym at)

  reads : (r : ℕ) (ns : List Numbered) (s end : State E) (now : Option Write) → value_in now ≡ map.get s.references r → after_steps effect (Some s) ns ≡ Some end → value_in (last_or now (writes_in effect r (Some s) ns)) ≡ map.get end.references r
  reads r [] s end now at runs = at ∙ ap (λ (s : State E). map.get s.references r) (some_is runs)
  reads r (n ∷ ns) s end now at runs =
      elim (plain effect s n.seq.0 n.label) as (λ o. plain effect s n.seq.0 n.label ≡ o → after_steps effect o ns ≡ Some end → value_in (last_or now (cond (is_at (written n.label) r) (write_of n.seq.0 (value_of o r)) [] ++ writes_in effect r o ns)) ≡ map.get end.references r) [
        | None ↦ λ is runs. absurd (some_none (sym runs ∙ no_steps effect ns))
        | (Some m) ↦ λ is runs.
            let st = step_of effect s n.seq.0 n.label m is in
            let here : map.get m.references r ≡ map.get (put_value (written n.label) st.eff.value s.references) r = ap (λ (s : State E). map.get s.references r) st.is in
            elim (is_at (written n.label) r) as (λ b. is_at (written n.label) r ≡ b → value_in (last_or now (cond b (write_of n.seq.0 (map.get m.references r)) [] ++ writes_in effect r (Some m) ns)) ≡ map.get end.references r) [
              | true ↦ λ w. one_read r n m now (writes_in effect r (Some m) ns) (map.get end.references r) (map.get m.references r) refl (ap is_some (here ∙ put_value-here (written n.label) st.eff.value s.references r w)) (λ k at. reads r ns m end k at runs)
              | false ↦ λ w. reads r ns m end now (at ∙ sym (here ∙ put_value-apart (written n.label) st.eff.value s.references r w)) runs
            ] refl
      ] refl runs

  -- the last write that is kept is what the reference holds
  pub holds_values : (start end : State E) (run : List Numbered) (last_cut : ℕ) (references : FinMap nat_cmp (List Write)) → ((r : ℕ) → map.get start.references r ≡ None) → after_steps effect (Some start) run ≡ Some end → AreWrites effect last_cut references start run → HoldValues references end
  holds_values start end run last_cut references empty runs is r =
      ap (λ ws. value_in (last_of ws)) (is.writes r) ∙ ap value_in (kept_last (floor run) (writes_in effect r (Some start) run) None) ∙ reads r run start end None (sym (empty r)) runs
