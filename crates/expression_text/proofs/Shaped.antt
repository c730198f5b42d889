-- The pass accepts exactly the words of what is owed.
use Rattle.std.proofs.Common.{◌≡◌, ℕ, zero, suc, ◌+◌, true, List, [], ◌∷◌, ◌++◌, length, Option, Some, None, refl, sym, ap, ◌∙◌, append_assoc, append-nil, arith}
use Rattle.std.specs.Bool.{⊤}
use Rattle.std.proofs.lemmas.Bool.{false≢true}
use Rattle.stab_base.specs.Datum.{Datum, unit, truth, int, text, chan, reference, pair}
use Rattle.language.specs.declared.head.Head.{Head}
use Rattle.language.specs.declared.head.Head.TheVariants as head
use Rattle.language.specs.Expression.{Expr, value, variable, failed, form, Parts, none, part}
use Rattle.expression_text.specs.declared.word.Word.{Word}
use Rattle.expression_text.specs.declared.word.Word.TheVariants.{Both, Block, Let, Do}
use Rattle.expression_text.specs.Spelling.{count, arity, opening, items_of, item_word, spell_value, spell, spell_parts, IsWell, AreWell}
use Rattle.expression_text.specs.Reading.{Plan, leaf, both, few, block, stray, plan}
use Rattle.expression_text.specs.Shape.{Owed, expression, val, item, many, begun, begun_value, begun_item, shape, IsFormed, AreFormed, Pays}
use Rattle.expression_text.proofs.Sound.{Facts, facts}

-- what is written of each part, the pass takes
abbrev AllTaken : Parts → Type 0
AllTaken none = ⊤
AllTaken (part e ps) = ((os : List Owed) (rest : List Word) → shape (Some (expression ∷ os)) (spell e ++ rest) ≡ shape (Some os) rest) × AllTaken ps

parts_taken : (ps : Parts) → AllTaken ps → (os : List Owed) (rest : List Word) → shape (Some (many (count ps) expression os)) (spell_parts [] ps ++ rest) ≡ shape (Some os) rest
parts_taken none all os rest = refl
parts_taken (part e ps) all os rest =
    ap (shape (Some (expression ∷ many (count ps) expression os))) (append_assoc (spell e) (spell_parts [] ps) rest)
    ∙ all.0 (many (count ps) expression os) (spell_parts [] ps ++ rest) ∙ parts_taken ps all.1 os rest

item_taken : (o : Option ℕ) (os : List Owed) (ws : List Word) → shape (Some (item ∷ os)) (item_word o ∷ ws) ≡ shape (Some (expression ∷ os)) ws
item_taken (Some x) os ws = refl
item_taken None os ws = refl

items_taken : (slots : List (Option ℕ)) (ps : Parts) → count ps ≡ length slots + 1 → AllTaken ps → (os : List Owed) (rest : List Word) → shape (Some (many (length slots) item (expression ∷ os))) (spell_parts slots ps ++ rest) ≡ shape (Some os) rest
items_taken [] none n all os rest = absurd (omega (arith, n))
items_taken [] (part e none) n all os rest = ap (λ ws. shape (Some (expression ∷ os)) (ws ++ rest)) (append-nil (spell e)) ∙ all.0 os rest
items_taken [] (part e (part f ps)) n all os rest = absurd (omega (arith, n))
items_taken (o ∷ slots) none n all os rest = absurd (omega (arith, n))
items_taken (o ∷ slots) (part e ps) n all os rest =
    let left : List Owed = many (length slots) item (expression ∷ os) in
    item_taken o left ((spell e ++ spell_parts slots ps) ++ rest)
    ∙ ap (shape (Some (expression ∷ left))) (append_assoc (spell e) (spell_parts slots ps) rest)
    ∙ all.0 left (spell_parts slots ps ++ rest) ∙ items_taken slots ps (omega (arith, n)) all.1 os rest

few_taken : (h : Head) (ps : Parts) (n : ℕ) → count ps ≡ n → AllTaken ps → (os : List Owed) (rest : List Word) → shape (begun (few h n) os) (spell_parts [] ps ++ rest) ≡ shape (Some os) rest
few_taken h ps n is all os rest = ap (λ k. shape (Some (many k expression os)) (spell_parts [] ps ++ rest)) (sym is) ∙ parts_taken ps all os rest

form_taken : (h : Head) (ps : Parts) → count ps ≡ arity h (count ps) → AllTaken ps → (os : List Owed) (rest : List Word) → shape (begun (plan (opening h (count ps))) os) (spell_parts (items_of h) ps ++ rest) ≡ shape (Some os) rest
form_taken (head.Block slots) ps n all os rest = items_taken slots ps n all os rest
form_taken head.If ps n all os rest = few_taken head.If ps 3 n all os rest
form_taken (head.Two op) ps n all os rest = few_taken (head.Two op) ps 2 n all os rest
form_taken head.Not ps n all os rest = few_taken head.Not ps 1 n all os rest
form_taken head.Neg ps n all os rest = few_taken head.Neg ps 1 n all os rest
form_taken head.Pair ps n all os rest = few_taken head.Pair ps 2 n all os rest
form_taken head.Fst ps n all os rest = few_taken head.Fst ps 1 n all os rest
form_taken head.Snd ps n all os rest = few_taken head.Snd ps 1 n all os rest
form_taken (head.Call f) ps n all os rest = few_taken (head.Call f) ps (count ps) refl all os rest
form_taken (head.Spawn f) ps n all os rest = few_taken (head.Spawn f) ps (count ps) refl all os rest
form_taken (head.Stable f) ps n all os rest = few_taken (head.Stable f) ps (count ps) refl all os rest
form_taken head.NewChan ps n all os rest = few_taken head.NewChan ps 0 n all os rest
form_taken head.NewRef ps n all os rest = few_taken head.NewRef ps 1 n all os rest
form_taken head.Get ps n all os rest = few_taken head.Get ps 1 n all os rest
form_taken head.Set ps n all os rest = few_taken head.Set ps 2 n all os rest
form_taken head.Send ps n all os rest = few_taken head.Send ps 2 n all os rest
form_taken head.Recv ps n all os rest = few_taken head.Recv ps 1 n all os rest
form_taken head.Pick ps n all os rest = few_taken head.Pick ps 2 n all os rest
form_taken head.Stabilize ps n all os rest = few_taken head.Stabilize ps 0 n all os rest
form_taken head.Cut ps n all os rest = few_taken head.Cut ps 0 n all os rest
form_taken head.Pin ps n all os rest = few_taken head.Pin ps 0 n all os rest
form_taken head.Print ps n all os rest = few_taken head.Print ps 1 n all os rest
form_taken head.Probe ps n all os rest = few_taken head.Probe ps 0 n all os rest
form_taken head.Attempt ps n all os rest = few_taken head.Attempt ps 0 n all os rest
form_taken (head.Section m) ps n all os rest = few_taken (head.Section m) ps 1 n all os rest

value_taken : (v : Datum) (os : List Owed) (rest : List Word) → shape (Some (val ∷ os)) (spell_value v ++ rest) ≡ shape (Some os) rest
value_taken unit os rest = refl
value_taken (truth b) os rest = refl
value_taken (int n) os rest = refl
value_taken (text t) os rest = refl
value_taken (chan c) os rest = refl
value_taken (reference r) os rest = refl
value_taken (pair a b) os rest =
    ap (shape (Some (val ∷ val ∷ os))) (append_assoc (spell_value a) (spell_value b) rest) ∙ value_taken a (val ∷ os) (spell_value b ++ rest) ∙ value_taken b os rest

mutual
  taken : (e : Expr) → IsFormed e → (os : List Owed) (rest : List Word) → shape (Some (expression ∷ os)) (spell e ++ rest) ≡ shape (Some os) rest
  taken (value unit) w os rest = refl
  taken (value (truth b)) w os rest = refl
  taken (value (int n)) w os rest = refl
  taken (value (text t)) w os rest = refl
  taken (value (chan c)) w os rest = refl
  taken (value (reference r)) w os rest = refl
  taken (value (pair a b)) w os rest =
      ap (shape (Some (val ∷ val ∷ os))) (append_assoc (spell_value a) (spell_value b) rest) ∙ value_taken a (val ∷ os) (spell_value b ++ rest) ∙ value_taken b os rest
  taken (variable x) w os rest = refl
  taken (failed k) w os rest = refl
  taken (form h ps) w os rest = form_taken h ps w.0 (all_taken ps w.1) os rest

  all_taken : (ps : Parts) → AreFormed ps → AllTaken ps
  all_taken none w = tt
  all_taken (part e ps) w = (taken e w.0, all_taken ps w.1)

-- what is owed and paid, the pass accepts
pub paid : (os : List Owed) (ws : List Word) → Pays os ws → shape (Some os) ws ≡ true
paid [] ws p = ap (shape (Some [])) p
paid (expression ∷ os) ws p = ap (shape (Some (expression ∷ os))) p.3 ∙ taken p.0 p.2 os p.1 ∙ paid os p.1 p.4
paid (val ∷ os) ws p = ap (shape (Some (val ∷ os))) p.2 ∙ value_taken p.0 os p.1 ∙ paid os p.1 p.3
paid (item ∷ os) ws p = ap (shape (Some (item ∷ os))) p.4 ∙ item_taken p.0 os (spell p.1 ++ p.2) ∙ taken p.1 p.3 os p.2 ∙ paid os p.2 p.5

no_shape : (ws : List Word) → shape None ws ≡ true → ⊥
no_shape [] h = false≢true h
no_shape (w ∷ ws) h = no_shape ws h

mutual
  well_formed : (e : Expr) → IsWell e → IsFormed e
  well_formed (value v) w = tt
  well_formed (variable x) w = tt
  well_formed (failed k) w = tt
  well_formed (form h ps) w = (w.0, wells_formed ps w.1)

  wells_formed : (ps : Parts) → AreWell ps → AreFormed ps
  wells_formed none w = tt
  wells_formed (part e ps) w = (well_formed e w.0, wells_formed ps w.1)

-- so many expressions are paid, and then the rest
record Parted (n : ℕ) (os : List Owed) (ws : List Word) : Type 0 where
  parts : Parts
  rest : List Word
  formed : AreFormed parts
  many_are : count parts ≡ n
  words_are : ws ≡ spell_parts [] parts ++ rest
  pays : Pays os rest

parted : (n : ℕ) (os : List Owed) (ws : List Word) → Pays (many n expression os) ws → Parted n os ws
parted zero os ws p = record { parts = none; rest = ws; formed = tt; many_are = refl; words_are = refl; pays = p }
parted (suc n) os ws p =
    let r = parted n os p.1 p.4 in
    record {
      parts = part p.0 r.parts;
      rest = r.rest;
      formed = (p.2, r.formed);
      many_are = ap suc r.many_are;
      words_are = p.3 ∙ ap (λ k. spell p.0 ++ k) r.words_are ∙ sym (append_assoc (spell p.0) (spell_parts [] r.parts) r.rest);
      pays = r.pays;
    }

-- so many items are paid, and then an expression and the rest
record Blocked (n : ℕ) (os : List Owed) (ws : List Word) : Type 0 where
  slots : List (Option ℕ)
  parts : Parts
  rest : List Word
  formed : AreFormed parts
  many_are : length slots ≡ n
  one_more : count parts ≡ n + 1
  words_are : ws ≡ spell_parts slots parts ++ rest
  pays : Pays os rest

blocked : (n : ℕ) (os : List Owed) (ws : List Word) → Pays (many n item (expression ∷ os)) ws → Blocked n os ws
blocked zero os ws p = record { slots = []; parts = part p.0 none; rest = p.1; formed = (p.2, tt); many_are = refl; one_more = omega arith; words_are = p.3 ∙ ap (λ k. k ++ p.1) (sym (append-nil (spell p.0))); pays = p.4 }
blocked (suc n) os ws p =
    let r = blocked n os p.2 p.5 in
    record {
      slots = p.0 ∷ r.slots;
      parts = part p.1 r.parts;
      rest = r.rest;
      formed = (p.3, r.formed);
      many_are = ap suc r.many_are;
      one_more = omega (arith, r.one_more);
      words_are = p.4 ∙ ap (λ k. item_word p.0 ∷ k) (ap (λ k. spell p.1 ++ k) r.words_are ∙ sym (append_assoc (spell p.1) (spell_parts r.slots r.parts) r.rest));
      pays = r.pays;
    }

module _ (ws : List Word) (later : (os : List Owed) → shape (Some os) ws ≡ true → Pays os ws) where
  pays_expression : (w : Word) (p : Plan) → Facts w p → (os : List Owed) → shape (begun p os) ws ≡ true → Pays (expression ∷ os) (w ∷ ws)
  unfolding Facts
  pays_expression w (leaf e) f os h = (e, ws, well_formed e f.1, ap (λ k. k ++ ws) (sym f.0), later os h)
  pays_expression w both f os h =
      let p = later (val ∷ val ∷ os) h in
      let q = p.3 in (
        value (pair p.0 q.0),
        q.1,
        tt,
        ap (λ k. k ∷ ws) (sym f) ∙ ap (λ k. Both ∷ k) (p.2 ∙ ap (λ k. spell_value p.0 ++ k) q.2 ∙ sym (append_assoc (spell_value p.0) (spell_value q.0) q.1)),
        q.3,
      )
  pays_expression w (few g n) f os h =
      let r = parted n os ws (later (many n expression os) h) in (
        form g r.parts,
        r.rest,
        (r.many_are ∙ f.2 ∙ ap (arity g) (sym r.many_are), r.formed),
        ap (λ k. k ∷ ws) (sym f.0 ∙ ap (opening g) (sym r.many_are)) ∙ ap (λ k. opening g (count r.parts) ∷ k) (r.words_are ∙ ap (λ k. spell_parts k r.parts ++ r.rest) (sym f.1)),
        r.pays,
      )
  pays_expression w (block n) f os h =
      let r = blocked n os ws (later (many n item (expression ∷ os)) h) in (
        form (head.Block r.slots) r.parts,
        r.rest,
        (r.one_more ∙ ap (λ k. k + 1) (sym r.many_are), r.formed),
        ap (λ k. k ∷ ws) (sym f ∙ ap Block (sym r.many_are)) ∙ ap (λ k. Block (length r.slots) ∷ k) r.words_are,
        r.pays,
      )
  pays_expression w stray f os h = absurd (no_shape ws h)

  pays_value : (w : Word) (p : Plan) → Facts w p → (os : List Owed) → shape (begun_value p os) ws ≡ true → Pays (val ∷ os) (w ∷ ws)
  unfolding Facts
  pays_value w (leaf (value v)) f os h = (v, ws, ap (λ k. k ++ ws) (sym f.0), later os h)
  pays_value w (leaf (variable x)) f os h = absurd (no_shape ws h)
  pays_value w (leaf (failed k)) f os h = absurd (no_shape ws h)
  pays_value w (leaf (form g ps)) f os h = absurd (no_shape ws h)
  pays_value w both f os h =
      let p = later (val ∷ val ∷ os) h in
      let q = p.3 in (
        pair p.0 q.0,
        q.1,
        ap (λ k. k ∷ ws) (sym f) ∙ ap (λ k. Both ∷ k) (p.2 ∙ ap (λ k. spell_value p.0 ++ k) q.2 ∙ sym (append_assoc (spell_value p.0) (spell_value q.0) q.1)),
        q.3,
      )
  pays_value w (few g n) f os h = absurd (no_shape ws h)
  pays_value w (block n) f os h = absurd (no_shape ws h)
  pays_value w stray f os h = absurd (no_shape ws h)

  pays_item : (w : Word) (os : List Owed) → shape (begun_item w os) ws ≡ true → Pays (item ∷ os) (w ∷ ws)
  pays_item (Let x) os h = let p = later (expression ∷ os) h in (Some x, p.0, p.1, p.2, ap (λ k. Let x ∷ k) p.3, p.4)
  pays_item Do os h = let p = later (expression ∷ os) h in (None, p.0, p.1, p.2, ap (λ k. Do ∷ k) p.3, p.4)
  pays_item w os h = absurd (no_shape ws h)

-- what the pass accepts is paid
pub pays : (ws : List Word) (os : List Owed) → shape (Some os) ws ≡ true → Pays os ws
pays [] [] h = refl
pays [] (o ∷ os) h = absurd (false≢true h)
pays (w ∷ ws) [] h = absurd (no_shape ws h)
pays (w ∷ ws) (expression ∷ os) h = pays_expression ws (pays ws) w (plan w) (facts w) os h
pays (w ∷ ws) (val ∷ os) h = pays_value ws (pays ws) w (plan w) (facts w) os h
pays (w ∷ ws) (item ∷ os) h = pays_item ws (pays ws) w os h
