-- What one step leaves of each part that is kept of the run, from what the calls on the part leave.
use Rattle.std.proofs.Common.{◌≡◌, ℕ, Bool, true, false, cond, ◌&&◌, ◌||◌, nat_eq, List, [], ◌∷◌, ◌++◌, Option, Some, None, refl, sym, ap, subst, ◌∙◌, append-nil, arith}
use Rattle.std.specs.Prelude.{IfSome, is_some, option_map, if◌then◌else◌}
use Rattle.std.specs.FinMap as map
use Rattle.std.specs.FinMap.{FinMap}
use Rattle.std.proofs.lemmas.Bool.{eqb-true}
use Rattle.std.proofs.lemmas.Bool.Decides.{nat_tests}
use Rattle.stab_base.specs.Datum.{Datum}
use Rattle.stab_base.specs.declared.numbers.Seq.{Seq}
use Rattle.stab_base.specs.declared.numbers.ThreadId.{ThreadId}
use Rattle.stab_journal.specs.Names.{has}
use Rattle.checkpoint_store.specs.Saved.{is_place, place_cmp}
use Rattle.ref_log.specs.Calls.{IsAfter, made, wrote}
use Rattle.ref_log.specs.Log.{Log, Write, writes_of}
use Rattle.rendezvous.specs.Line.{Lines, left, nobody}
use Rattle.language.proofs.Applying.{get_inserted}
use Rattle.commit_book.specs.Saved.{saved_of, AllSaved}

-- ---- channels

mapped_some : {A B : Type 0} (f : A → B) (o : Option A) → is_some (option_map f o) ≡ is_some o
mapped_some f None = refl
mapped_some f (Some a) = refl

-- the channels that are there stay where offers are withdrawn
pub lines_left : (old new : Lines) (u : ℕ) → ((c : ℕ) → map.get new c ≡ option_map (left u) (map.get old c)) → (c : ℕ) → map.contains_key new c ≡ map.contains_key old c
lines_left old new u is c = ap is_some (is c) ∙ mapped_some (left u) (map.get old c)

key_inserted : {A : Type 0} (b : Bool) (a : A) (o : Option A) → is_some (cond b (Some a) o) ≡ (b || is_some o)
key_inserted true a o = refl
key_inserted false a o = refl

-- a channel that is made is there too
pub lines_made : (old new : Lines) (d : ℕ) → new ≡ map.insert old d nobody → (c : ℕ) → map.contains_key new c ≡ (nat_eq c d || map.contains_key old c)
lines_made old new d is c = ap (λ m. map.contains_key m c) is ∙ ap is_some (get_inserted old d nobody c) ∙ key_inserted (nat_eq c d) nobody (map.get old c)

-- ---- writes

other_way : (a b : ℕ) → nat_eq a b ≡ nat_eq b a
other_way a b = grind (arith, nat_tests)

added_at : (s r q : ℕ) (v : Datum) (ws : List Write) → cond (nat_eq s r) (ws ++ record { number = q; value = v } ∷ []) ws ≡ ws ++ cond (nat_eq r s) (record { number = q; value = v } ∷ []) []
added_at s r q v ws =
    ap (λ b. cond b (ws ++ record { number = q; value = v } ∷ []) ws) (other_way s r)
    ∙ (elim (nat_eq r s) as (λ b. cond b (ws ++ record { number = q; value = v } ∷ []) ws ≡ ws ++ cond b (record { number = q; value = v } ∷ []) []) [ true ↦ refl | false ↦ sym (append-nil ws) ])

-- a reference that is made, and one that is written, has a write more
pub writes_made : (old new : Log) (s q : ℕ) (v : Datum) → IsAfter (made s q v) old new → (r : ℕ) → writes_of new r ≡ writes_of old r ++ cond (nat_eq r s) (record { number = q; value = v } ∷ []) []
writes_made old new s q v after r = after.writes r ∙ added_at s r q v (writes_of old r)

pub writes_wrote : (old new : Log) (s q : ℕ) (v : Datum) → IsAfter (wrote s q v) old new → (r : ℕ) → writes_of new r ≡ writes_of old r ++ cond (nat_eq r s) (record { number = q; value = v } ∷ []) []
writes_wrote old new s q v after r = after.writes r ∙ added_at s r q v (writes_of old r)

-- ---- saved controls

module _ {C E : Type 0} (expr : C → E) (next : ℕ) where
  -- a step that saves nothing
  pub saved_same : (old : FinMap place_cmp C) → ((t : ℕ) → option_map expr (saved_of old next t) ≡ None) → (q t : ℕ) → option_map expr (saved_of old q t) ≡ cond (nat_eq q next) None (option_map expr (saved_of old q t))
  saved_same old none q t =
      elim (nat_eq q next) as (λ b. nat_eq q next ≡ b → option_map expr (saved_of old q t) ≡ cond b None (option_map expr (saved_of old q t))) [
        | true ↦ λ at. ap (λ k. option_map expr (saved_of old k t)) (eqb-true q next at) ∙ none t
        | false ↦ λ apart. refl
      ] refl

  place_saved : (a b : Bool) (c : C) (o : Option C) (known : Option E) → (b ≡ true → Some (expr c) ≡ known) → (a ≡ true → option_map expr o ≡ None)
      → option_map expr (if a && b then Some c else o) ≡ cond a (cond b known None) (option_map expr o)
  place_saved true true c o known is none = is refl
  place_saved true false c o known is none = none refl
  place_saved false b c o known is none = refl

  -- a step that saves its one actor's control
  pub saved_one : (old new : FinMap place_cmp C) (t : ThreadId) (c : C) (stood : ℕ → Option E)
      → ((r : Seq) (u : ThreadId) → map.get new (r, u) ≡ (if is_place (record { 0 = next }) t r u then Some c else map.get old (r, u)))
      → ((u : ℕ) → option_map expr (saved_of old next u) ≡ None) → Some (expr c) ≡ stood t.0
      → (q u : ℕ) → option_map expr (saved_of new q u) ≡ cond (nat_eq q next) (cond (has (t.0 ∷ []) u) (stood u) None) (option_map expr (saved_of old q u))
  saved_one old new t c stood saved none is q u =
      ap (option_map expr) (saved (record { 0 = q }) (record { 0 = u }))
      ∙ place_saved (nat_eq q next) (nat_eq u t.0) c (saved_of old q u) (stood u)
      (λ at. is ∙ ap stood (sym (eqb-true u t.0 at)))
      (λ at. ap (λ k. option_map expr (saved_of old k u)) (eqb-true q next at) ∙ none u)
      ∙ ap (λ k. cond (nat_eq q next) k (option_map expr (saved_of old q u))) (also (nat_eq u t.0) (stood u))
    where
      also : (b : Bool) (o : Option E) → cond b o None ≡ cond (cond b true false) o None
      also true o = refl
      also false o = refl

  -- a step that saves those of its two actors, in any order
  pub saved_two : (old mid new : FinMap place_cmp C) (x y : ThreadId) (c d : C) (stood : ℕ → Option E)
      → ((r : Seq) (u : ThreadId) → map.get mid (r, u) ≡ (if is_place (record { 0 = next }) x r u then Some c else map.get old (r, u)))
      → ((r : Seq) (u : ThreadId) → map.get new (r, u) ≡ (if is_place (record { 0 = next }) y r u then Some d else map.get mid (r, u)))
      → ((u : ℕ) → option_map expr (saved_of old next u) ≡ None) → Some (expr c) ≡ stood x.0 → Some (expr d) ≡ stood y.0
      → (q u : ℕ) → option_map expr (saved_of new q u) ≡ cond (nat_eq q next) (cond (has (x.0 ∷ y.0 ∷ []) u) (stood u) None) (option_map expr (saved_of old q u))
  saved_two old mid new x y c d stood first second none is also q u =
      ap (option_map expr) (second (record { 0 = q }) (record { 0 = u }) ∙ ap (λ o. if is_place (record { 0 = next }) y (record { 0 = q }) (record { 0 = u }) then Some d else o) (first (record { 0 = q }) (record { 0 = u })))
      ∙ both (nat_eq q next) (nat_eq u x.0) (nat_eq u y.0) (saved_of old q u)
      (λ at. is ∙ ap stood (sym (eqb-true u x.0 at)))
      (λ at. also ∙ ap stood (sym (eqb-true u y.0 at)))
      (λ at. ap (λ k. option_map expr (saved_of old k u)) (eqb-true q next at) ∙ none u)
    where
      both : (a i j : Bool) (o : Option C) → (i ≡ true → Some (expr c) ≡ stood u) → (j ≡ true → Some (expr d) ≡ stood u) → (a ≡ true → option_map expr o ≡ None)
          → option_map expr (if a && j then Some d else (if a && i then Some c else o)) ≡ cond a (cond (cond i true (cond j true false)) (stood u) None) (option_map expr o)
      both true true true o f g h = g refl
      both true true false o f g h = f refl
      both true false true o f g h = g refl
      both true false false o f g h = h refl
      both false i j o f g h = refl

module _ {C : Type 0} (P : C → Type 0) where
  if_place : (b : Bool) (c : C) (o : Option C) → P c → IfSome o P → IfSome (if b then Some c else o) P
  if_place true c o is all = is
  if_place false c o is all = all

  -- what holds of each saved control holds with one more
  pub all_saved : (old new : FinMap place_cmp C) (k : Seq) (t : ThreadId) (c : C)
      → ((r : Seq) (u : ThreadId) → map.get new (r, u) ≡ (if is_place k t r u then Some c else map.get old (r, u))) → P c → AllSaved P old → AllSaved P new
  all_saved old new k t c saved is all q u =
      subst (λ (o : Option C). IfSome o P) (sym (saved (record { 0 = q }) (record { 0 = u })))
      (if_place (is_place k t (record { 0 = q }) (record { 0 = u })) c (saved_of old q u) is (all q u))
