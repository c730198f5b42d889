-- What is read was written.
use Rattle.std.proofs.Common.{◌≡◌, ℕ, zero, suc, ◌+◌, ◌≤◌, Bool, true, false, cond, List, [], ◌∷◌, ◌++◌, length, Option, Some, None, refl, sym, ap, subst, ◌∙◌, append_assoc, append-nil, arith}
use Rattle.std.specs.Prelude.{option_map, option_and_then}
use Rattle.std.specs.Bool.{⊤}
use Rattle.stab_base.specs.Datum.{pair}
use Rattle.stab_base.specs.Limits.{is_within_limits}
use Rattle.language.specs.Expression.{Expr, value, variable, failed, form, parts_of}
use Rattle.expression_text.specs.declared.word.Word.{Word}
use Rattle.expression_text.specs.declared.word.Word.TheVariants.{Unit, Truth, Int, Text, Chan, Ref, Both, Var, Fault, Block, Let, Do, If, Two, Not, Neg, Pair, Fst, Snd, Call, Spawn, Stable, NewChan, NewRef, Get, Set, Send, Recv, Pick, Stabilize, Cut, Pin, Print, Probe, Attempt, Section}
use Rattle.language.specs.Depth.{depth, depth_of_parts}
use Rattle.expression_text.specs.Spelling.{count, arity, opening, items_of, item_word, spell_value, spell, spell_parts, IsWell, AreWell, Spells}
use Rattle.expression_text.specs.Reading.{Plan, leaf, both, few, block, stray, plan, Read, pair_of, item_of, read_list, read_items, read_plan, read}

some_is : {X : Type 0} {a b : X} → Some a ≡ Some b → a ≡ b
some_is h = cc

none_some : {X : Type 0} {a : X} → None ≡ Some a → ⊥
none_some h = cc

cond_some : {X : Type 0} (b : Bool) (x y : X) → cond b (Some x) None ≡ Some y → (b ≡ true) × (x ≡ y)
cond_some true x y h = (refl, some_is h)
cond_some false x y h = absurd (none_some h)

-- what came first, where something came of it
record Then {A B : Type 0} (f : A → Option B) (o : Option A) (y : B) : Type 0 where
  first : A
  was : o ≡ Some first
  is : f first ≡ Some y

bind_of : {A B : Type 0} (f : A → Option B) (o : Option A) (y : B) → option_and_then f o ≡ Some y → Then f o y
bind_of f None y h = absurd (none_some h)
bind_of f (Some x) y h = record { first = x; was = refl; is = h }

record Mapped {A B : Type 0} (f : A → B) (o : Option A) (y : B) : Type 0 where
  first : A
  was : o ≡ Some first
  is : f first ≡ y

map_of : {A B : Type 0} (f : A → B) (o : Option A) (y : B) → option_map f o ≡ Some y → Mapped f o y
map_of f None y h = absurd (none_some h)
map_of f (Some x) y h = record { first = x; was = refl; is = some_is h }

-- what a word says
unfoldable pub Facts : Word → Plan → Type 0
Facts w (leaf e) = (spell e ≡ w ∷ []) × IsWell e × (depth e ≡ 1)
Facts w both = Both ≡ w
Facts w (few h n) = (opening h n ≡ w) × (items_of h ≡ []) × (n ≡ arity h n)
Facts w (block n) = Block n ≡ w
Facts w stray = ⊤

pub facts : (w : Word) → Facts w (plan w)
unfolding Facts
facts Unit = (refl, tt, refl)
facts (Truth b) = (refl, tt, refl)
facts (Int n) = (refl, tt, refl)
facts (Text t) = (refl, tt, refl)
facts (Chan c) = (refl, tt, refl)
facts (Ref r) = (refl, tt, refl)
facts Both = refl
facts (Var x) = (refl, tt, refl)
facts (Fault k) = (refl, tt, refl)
facts (Block n) = refl
facts (Let x) = tt
facts Do = tt
facts If = (refl, refl, refl)
facts (Two op) = (refl, refl, refl)
facts Not = (refl, refl, refl)
facts Neg = (refl, refl, refl)
facts Pair = (refl, refl, refl)
facts Fst = (refl, refl, refl)
facts Snd = (refl, refl, refl)
facts (Call f n) = (refl, refl, refl)
facts (Spawn f n) = (refl, refl, refl)
facts (Stable f n) = (refl, refl, refl)
facts NewChan = (refl, refl, refl)
facts NewRef = (refl, refl, refl)
facts Get = (refl, refl, refl)
facts Set = (refl, refl, refl)
facts Send = (refl, refl, refl)
facts Recv = (refl, refl, refl)
facts Pick = (refl, refl, refl)
facts Stabilize = (refl, refl, refl)
facts Cut = (refl, refl, refl)
facts Pin = (refl, refl, refl)
facts Print = (refl, refl, refl)
facts Probe = (refl, refl, refl)
facts Attempt = (refl, refl, refl)
facts (Section m) = (refl, refl, refl)

module _ (d : ℕ) (one : List Word → Read Expr) (sound : (ws rest : List Word) (e : Expr) → one ws ≡ Some (e, rest) → Spells d ws e rest) where
  -- so many parts are written
  record Parted (n : ℕ) (ws : List Word) (es : List Expr) (rest : List Word) : Type 0 where
    words_are : ws ≡ spell_parts [] (parts_of es) ++ rest
    well : AreWell (parts_of es)
    flat : depth_of_parts (parts_of es) ≤ d
    many : count (parts_of es) ≡ n

  list_sound : (n : ℕ) (ws rest : List Word) (es : List Expr) → read_list one n ws ≡ Some (es, rest) → Parted n ws es rest
  list_sound zero ws rest es h =
      subst (λ (p : List Expr × List Word). Parted zero ws p.0 p.1) (some_is h) (record { words_are = refl; well = tt; flat = omega arith; many = refl })
  list_sound (suc n) ws rest es h =
      let t = bind_of _ (one ws) (es, rest) h in
      let s = sound ws t.first.1 t.first.0 t.was in
      let m = map_of _ (read_list one n t.first.1) (es, rest) t.is in
      let r = list_sound n t.first.1 m.first.1 m.first.0 m.was in
      subst (λ (p : List Expr × List Word). Parted (suc n) ws p.0 p.1) m.is (record {
        words_are = s.words_are ∙ ap (λ k. spell t.first.0 ++ k) r.words_are ∙ sym (append_assoc (spell t.first.0) (spell_parts [] (parts_of m.first.0)) m.first.1);
        well = (s.well, r.well);
        flat = omega (arith, s.flat, r.flat);
        many = ap suc r.many;
      })

  -- the words of items
  item_words : List (Option ℕ) → List Expr → List Word
  item_words [] es = []
  item_words (o ∷ os) [] = []
  item_words (o ∷ os) (e ∷ es) = item_word o ∷ (spell e ++ item_words os es)

  record Itemed (n : ℕ) (ws : List Word) (os : List (Option ℕ)) (es : List Expr) (rest : List Word) : Type 0 where
    words_are : ws ≡ item_words os es ++ rest
    well : AreWell (parts_of es)
    flat : depth_of_parts (parts_of es) ≤ d
    many : length os ≡ n
    as_many : length es ≡ n

  item_is : (ws rest : List Word) (o : Option ℕ) → item_of ws ≡ Some (o, rest) → ws ≡ item_word o ∷ rest
  item_is (Let x ∷ ws) rest o h = ap (λ (p : Option ℕ × List Word). item_word p.0 ∷ p.1) (some_is h)
  item_is (Do ∷ ws) rest o h = ap (λ (p : Option ℕ × List Word). item_word p.0 ∷ p.1) (some_is h)
  item_is ws rest o h = absurd (none_some h)

  items_sound : (n : ℕ) (ws rest : List Word) (os : List (Option ℕ)) (es : List Expr) → read_items one n ws ≡ Some ((os, es), rest) → Itemed n ws os es rest
  unfolding item_words
  items_sound zero ws rest os es h =
      subst (λ (p : (List (Option ℕ) × List Expr) × List Word). Itemed zero ws p.0.0 p.0.1 p.1) (some_is h) (record { words_are = refl; well = tt; flat = omega arith; many = refl; as_many = refl })
  items_sound (suc n) ws rest os es h =
      let i = bind_of _ (item_of ws) ((os, es), rest) h in
      let t = bind_of _ (one i.first.1) ((os, es), rest) i.is in
      let s = sound i.first.1 t.first.1 t.first.0 t.was in
      let m = map_of _ (read_items one n t.first.1) ((os, es), rest) t.is in
      let r = items_sound n t.first.1 m.first.1 m.first.0.0 m.first.0.1 m.was in
      subst (λ (p : (List (Option ℕ) × List Expr) × List Word). Itemed (suc n) ws p.0.0 p.0.1 p.1) m.is (record {
        words_are = item_is ws i.first.1 i.first.0 i.was ∙ ap (λ k. item_word i.first.0 ∷ k) (s.words_are ∙ ap (λ k. spell t.first.0 ++ k) r.words_are ∙ sym (append_assoc (spell t.first.0) (item_words m.first.0.0 m.first.0.1) m.first.1));
        well = (s.well, r.well);
        flat = omega (arith, s.flat, r.flat);
        many = ap suc r.many;
        as_many = ap suc r.as_many;
      })

  -- the words of items and of the last part are those of all parts
  with_last : (os : List (Option ℕ)) (es : List Expr) (e : Expr) (rest : List Word) → length os ≡ length es → item_words os es ++ (spell e ++ rest) ≡ spell_parts os (parts_of (es ++ e ∷ [])) ++ rest
  unfolding item_words
  with_last [] [] e rest n = ap (λ k. k ++ rest) (sym (append-nil (spell e)))
  with_last [] (f ∷ es) e rest n = absurd (omega (arith, n))
  with_last (o ∷ os) [] e rest n = absurd (omega (arith, n))
  with_last (o ∷ os) (f ∷ es) e rest n =
      ap (λ k. item_word o ∷ k)
      (append_assoc (spell f) (item_words os es) (spell e ++ rest) ∙ ap (λ k. spell f ++ k) (with_last os es e rest (omega (arith, n))) ∙ sym (append_assoc (spell f) (spell_parts os (parts_of (es ++ e ∷ []))) rest))

  well_last : (es : List Expr) (e : Expr) → AreWell (parts_of es) → IsWell e → AreWell (parts_of (es ++ e ∷ []))
  well_last [] e all w = (w, tt)
  well_last (f ∷ es) e all w = (all.0, well_last es e all.1 w)

  flat_last : (es : List Expr) (e : Expr) → depth_of_parts (parts_of es) ≤ d → depth e ≤ d → depth_of_parts (parts_of (es ++ e ∷ [])) ≤ d
  flat_last [] e all w = omega (arith, w)
  flat_last (f ∷ es) e all w = omega (arith, all, flat_last es e (omega (arith, all)) w)

  count_last : (es : List Expr) (e : Expr) → count (parts_of (es ++ e ∷ [])) ≡ length es + 1
  count_last [] e = omega arith
  count_last (f ∷ es) e = omega (arith, count_last es e)

  pair_is : (a b e : Expr) (ws rest : List Word) (x y : List Word) → pair_of a b ws ≡ Some (e, rest) → x ≡ spell a ++ y → y ≡ spell b ++ ws → IsWell a → IsWell b → depth a ≤ d → depth b ≤ d → Spells (suc d) (Both ∷ x) e rest
  pair_is (value a) (value b) e ws rest x y h k l p q r s =
      let c = cond_some (is_within_limits (pair a b)) (value (pair a b), ws) (e, rest) h in
      subst (λ (t : Expr × List Word). Spells (suc d) (Both ∷ x) t.0 t.1) c.1 (record {
        words_are = ap (λ m. Both ∷ m) (k ∙ ap (λ m. spell_value a ++ m) l ∙ sym (append_assoc (spell_value a) (spell_value b) ws));
        well = (c.0, p, q);
        flat = omega (arith, r, s);
      })
  pair_is (value a) (variable z) e ws rest x y h k l p q r s = absurd (none_some h)
  pair_is (value a) (failed z) e ws rest x y h k l p q r s = absurd (none_some h)
  pair_is (value a) (form g z) e ws rest x y h k l p q r s = absurd (none_some h)
  pair_is (variable z) b e ws rest x y h k l p q r s = absurd (none_some h)
  pair_is (failed z) b e ws rest x y h k l p q r s = absurd (none_some h)
  pair_is (form g z) b e ws rest x y h k l p q r s = absurd (none_some h)

  plan_sound : (w : Word) (p : Plan) → Facts w p → (ws rest : List Word) (e : Expr) → read_plan one p ws ≡ Some (e, rest) → Spells (suc d) (w ∷ ws) e rest
  unfolding Facts
  plan_sound w (leaf a) f ws rest e h =
      subst (λ (t : Expr × List Word). Spells (suc d) (w ∷ ws) t.0 t.1) (some_is h) (record { words_are = ap (λ k. k ++ ws) (sym f.0); well = f.1; flat = omega (arith, f.2) })
  plan_sound w both f ws rest e h =
      let t = bind_of _ (one ws) (e, rest) h in
      let s = sound ws t.first.1 t.first.0 t.was in
      let u = bind_of _ (one t.first.1) (e, rest) t.is in
      let v = sound t.first.1 u.first.1 u.first.0 u.was in
      subst (λ (k : Word). Spells (suc d) (k ∷ ws) e rest) f (pair_is t.first.0 u.first.0 e u.first.1 rest ws t.first.1 u.is s.words_are v.words_are s.well v.well s.flat v.flat)
  plan_sound w (few g n) f ws rest e h =
      let m = map_of _ (read_list one n ws) (e, rest) h in
      let r = list_sound n ws m.first.1 m.first.0 m.was in
      subst (λ (t : Expr × List Word). Spells (suc d) (w ∷ ws) t.0 t.1) m.is (record {
        words_are = ap (λ k. k ∷ ws) (sym f.0 ∙ ap (opening g) (sym r.many))
            ∙ ap (λ k. opening g (count (parts_of m.first.0)) ∷ k) (r.words_are ∙ ap (λ k. spell_parts k (parts_of m.first.0) ++ m.first.1) (sym f.1));
        well = (r.many ∙ f.2 ∙ ap (arity g) (sym r.many), r.well);
        flat = omega (arith, r.flat);
      })
  plan_sound w (block n) f ws rest e h =
      let t = bind_of _ (read_items one n ws) (e, rest) h in
      let i = items_sound n ws t.first.1 t.first.0.0 t.first.0.1 t.was in
      let m = map_of _ (one t.first.1) (e, rest) t.is in
      let s = sound t.first.1 m.first.1 m.first.0 m.was in
      let slots = t.first.0.0 in
      let es = t.first.0.1 in
      subst (λ (k : Expr × List Word). Spells (suc d) (w ∷ ws) k.0 k.1) m.is (record {
        words_are = ap (λ k. k ∷ ws) (sym f ∙ ap Block (sym i.many))
            ∙ ap (λ k. Block (length slots) ∷ k) (i.words_are ∙ ap (λ k. item_words slots es ++ k) s.words_are ∙ with_last slots es m.first.0 m.first.1 (i.many ∙ sym i.as_many));
        well = (count_last es m.first.0 ∙ ap (λ k. k + 1) (i.as_many ∙ sym i.many), well_last es m.first.0 i.well s.well);
        flat = let k = flat_last es m.first.0 i.flat s.flat in omega (arith, k);
      })
  plan_sound w stray f ws rest e h = absurd (none_some h)

pub reads_sound : (d : ℕ) (ws rest : List Word) (e : Expr) → read d ws ≡ Some (e, rest) → Spells d ws e rest
reads_sound zero ws rest e h = absurd (none_some h)
reads_sound (suc d) [] rest e h = absurd (none_some h)
reads_sound (suc d) (w ∷ ws) rest e h = plan_sound d (read d) (reads_sound d) w (plan w) (facts w) ws rest e h
