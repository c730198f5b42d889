-- What is written is read back.
use Rattle.std.proofs.Common.{◌≡◌, ℕ, zero, suc, ◌+◌, ◌≤◌, cond, List, [], ◌∷◌, ◌++◌, length, Option, Some, None, refl, sym, ap, ◌∙◌, append_assoc, arith}
use Rattle.std.specs.Prelude.{option_map, option_and_then}
use Rattle.std.specs.Bool.{⊤}
use Rattle.stab_base.specs.Datum.{Datum, unit, truth, int, text, chan, reference, pair, depth_of}
use Rattle.language.specs.declared.head.Head.{Head}
use Rattle.language.specs.declared.head.Head.TheVariants as head
use Rattle.language.specs.Expression.{Expr, value, variable, failed, form, Parts, none, part, parts_of}
use Rattle.expression_text.specs.declared.word.Word.{Word}
use Rattle.language.specs.Depth.{depth, depth_of_parts}
use Rattle.expression_text.specs.Spelling.{count, arity, opening, items_of, item_word, spell_value, spell, spell_parts, IsWithin, IsWell, AreWell, Spells}
use Rattle.expression_text.specs.Reading.{few, block, plan, Read, pair_of, item_of, read_list, read_items, read_plan, read}

-- the parts as a list
list_of : Parts → List Expr
list_of none = []
list_of (part e ps) = e ∷ list_of ps

list_parts : (ps : Parts) → parts_of (list_of ps) ≡ ps
unfolding list_of
list_parts none = refl
list_parts (part e ps) = ap (part e) (list_parts ps)

module _ (one : List Word → Read Expr) where
  -- each part is read back
  abbrev AllBack : Parts → Type 0
  AllBack none = ⊤
  AllBack (part e ps) = ((rest : List Word) → one (spell e ++ rest) ≡ Some (e, rest)) × AllBack ps

  list_back : (ps : Parts) → AllBack ps → (rest : List Word) → read_list one (count ps) (spell_parts [] ps ++ rest) ≡ Some (list_of ps, rest)
  unfolding list_of
  list_back none all rest = refl
  list_back (part e ps) all rest =
      ap (λ ws. option_and_then (λ p. option_map (λ q. (p.0 ∷ q.0, q.1)) (read_list one (count ps) p.1)) (one ws)) (append_assoc (spell e) (spell_parts [] ps) rest)
      ∙ ap (option_and_then (λ p. option_map (λ q. (p.0 ∷ q.0, q.1)) (read_list one (count ps) p.1))) (all.0 (spell_parts [] ps ++ rest))
      ∙ ap (option_map (λ q. (e ∷ q.0, q.1))) (list_back ps all.1 rest)

  item_back : (o : Option ℕ) (ws : List Word) → item_of (item_word o ∷ ws) ≡ Some (o, ws)
  item_back (Some x) ws = refl
  item_back None ws = refl

  -- the items are read, and then the last part
  record ItemsBack (slots : List (Option ℕ)) (ps : Parts) (rest : List Word) : Type 0 where
    items : List Expr
    last : Expr
    are : list_of ps ≡ items ++ last ∷ []
    read_is : read_items one (length slots) (spell_parts slots ps ++ rest) ≡ Some ((slots, items), spell last ++ rest)
    last_is : one (spell last ++ rest) ≡ Some (last, rest)

  items_back : (slots : List (Option ℕ)) (ps : Parts) → count ps ≡ length slots + 1 → AllBack ps → (rest : List Word) → ItemsBack slots ps rest
  unfolding list_of
  items_back [] none n all rest = absurd (omega (arith, n))
  items_back [] (part e none) n all rest = record { items = []; last = e; are = refl; read_is = ap (λ ws. Some (([], []), ws)) (append_assoc (spell e) [] rest); last_is = all.0 rest }
  items_back [] (part e (part f ps)) n all rest = absurd (omega (arith, n))
  items_back (o ∷ slots) none n all rest = absurd (omega (arith, n))
  items_back (o ∷ slots) (part e ps) n all rest =
      let b = items_back slots ps (omega (arith, n)) all.1 rest in
      record {
        items = e ∷ b.items;
        last = b.last;
        are = ap (λ l. e ∷ l) b.are;
        read_is =
            ap (option_and_then (λ o. option_and_then (λ p. option_map (λ q. ((o.0 ∷ q.0.0, p.0 ∷ q.0.1), q.1)) (read_items one (length slots) p.1)) (one o.1))) (item_back o ((spell e ++ spell_parts slots ps) ++ rest))
            ∙ ap (λ ws. option_and_then (λ p. option_map (λ q. ((o ∷ q.0.0, p.0 ∷ q.0.1), q.1)) (read_items one (length slots) p.1)) (one ws)) (append_assoc (spell e) (spell_parts slots ps) rest)
            ∙ ap (option_and_then (λ p. option_map (λ q. ((o ∷ q.0.0, p.0 ∷ q.0.1), q.1)) (read_items one (length slots) p.1))) (all.0 (spell_parts slots ps ++ rest))
            ∙ ap (option_map (λ q. ((o ∷ q.0.0, e ∷ q.0.1), q.1))) b.read_is;
        last_is = b.last_is;
      }

  few_back : (h : Head) (ps : Parts) → AllBack ps → (rest : List Word) → read_plan one (few h (count ps)) (spell_parts [] ps ++ rest) ≡ Some (form h ps, rest)
  few_back h ps all rest = ap (option_map (λ p. (form h (parts_of p.0), p.1))) (list_back ps all rest) ∙ ap (λ k. Some (form h k, rest)) (list_parts ps)

  block_back : (slots : List (Option ℕ)) (ps : Parts) → count ps ≡ length slots + 1 → AllBack ps → (rest : List Word) → read_plan one (block (length slots)) (spell_parts slots ps ++ rest) ≡ Some (form (head.Block slots) ps, rest)
  block_back slots ps n all rest =
      let b = items_back slots ps n all rest in
      ap (option_and_then (λ p. option_map (λ q. (form (head.Block p.0.0) (parts_of (p.0.1 ++ q.0 ∷ [])), q.1)) (one p.1))) b.read_is
      ∙ ap (option_map (λ q. (form (head.Block slots) (parts_of (b.items ++ q.0 ∷ [])), q.1))) b.last_is
      ∙ ap (λ l. Some (form (head.Block slots) (parts_of l), rest)) (sym b.are) ∙ ap (λ k. Some (form (head.Block slots) k, rest)) (list_parts ps)

  -- a form is read back by its word
  form_back : (h : Head) (ps : Parts) → count ps ≡ arity h (count ps) → AllBack ps → (rest : List Word) → read_plan one (plan (opening h (count ps))) (spell_parts (items_of h) ps ++ rest) ≡ Some (form h ps, rest)
  form_back (head.Block slots) ps n all rest = block_back slots ps n all rest
  form_back head.If ps n all rest = ap (λ k. read_plan one (few head.If k) (spell_parts [] ps ++ rest)) (sym n) ∙ few_back head.If ps all rest
  form_back (head.Two op) ps n all rest = ap (λ k. read_plan one (few (head.Two op) k) (spell_parts [] ps ++ rest)) (sym n) ∙ few_back (head.Two op) ps all rest
  form_back head.Not ps n all rest = ap (λ k. read_plan one (few head.Not k) (spell_parts [] ps ++ rest)) (sym n) ∙ few_back head.Not ps all rest
  form_back head.Neg ps n all rest = ap (λ k. read_plan one (few head.Neg k) (spell_parts [] ps ++ rest)) (sym n) ∙ few_back head.Neg ps all rest
  form_back head.Pair ps n all rest = ap (λ k. read_plan one (few head.Pair k) (spell_parts [] ps ++ rest)) (sym n) ∙ few_back head.Pair ps all rest
  form_back head.Fst ps n all rest = ap (λ k. read_plan one (few head.Fst k) (spell_parts [] ps ++ rest)) (sym n) ∙ few_back head.Fst ps all rest
  form_back head.Snd ps n all rest = ap (λ k. read_plan one (few head.Snd k) (spell_parts [] ps ++ rest)) (sym n) ∙ few_back head.Snd ps all rest
  form_back (head.Call f) ps n all rest = few_back (head.Call f) ps all rest
  form_back (head.Spawn f) ps n all rest = few_back (head.Spawn f) ps all rest
  form_back (head.Stable f) ps n all rest = few_back (head.Stable f) ps all rest
  form_back head.NewChan ps n all rest = ap (λ k. read_plan one (few head.NewChan k) (spell_parts [] ps ++ rest)) (sym n) ∙ few_back head.NewChan ps all rest
  form_back head.NewRef ps n all rest = ap (λ k. read_plan one (few head.NewRef k) (spell_parts [] ps ++ rest)) (sym n) ∙ few_back head.NewRef ps all rest
  form_back head.Get ps n all rest = ap (λ k. read_plan one (few head.Get k) (spell_parts [] ps ++ rest)) (sym n) ∙ few_back head.Get ps all rest
  form_back head.Set ps n all rest = ap (λ k. read_plan one (few head.Set k) (spell_parts [] ps ++ rest)) (sym n) ∙ few_back head.Set ps all rest
  form_back head.Send ps n all rest = ap (λ k. read_plan one (few head.Send k) (spell_parts [] ps ++ rest)) (sym n) ∙ few_back head.Send ps all rest
  form_back head.Recv ps n all rest = ap (λ k. read_plan one (few head.Recv k) (spell_parts [] ps ++ rest)) (sym n) ∙ few_back head.Recv ps all rest
  form_back head.Pick ps n all rest = ap (λ k. read_plan one (few head.Pick k) (spell_parts [] ps ++ rest)) (sym n) ∙ few_back head.Pick ps all rest
  form_back head.Stabilize ps n all rest = ap (λ k. read_plan one (few head.Stabilize k) (spell_parts [] ps ++ rest)) (sym n) ∙ few_back head.Stabilize ps all rest
  form_back head.Cut ps n all rest = ap (λ k. read_plan one (few head.Cut k) (spell_parts [] ps ++ rest)) (sym n) ∙ few_back head.Cut ps all rest
  form_back head.Pin ps n all rest = ap (λ k. read_plan one (few head.Pin k) (spell_parts [] ps ++ rest)) (sym n) ∙ few_back head.Pin ps all rest
  form_back head.Print ps n all rest = ap (λ k. read_plan one (few head.Print k) (spell_parts [] ps ++ rest)) (sym n) ∙ few_back head.Print ps all rest
  form_back head.Probe ps n all rest = ap (λ k. read_plan one (few head.Probe k) (spell_parts [] ps ++ rest)) (sym n) ∙ few_back head.Probe ps all rest
  form_back head.Attempt ps n all rest = ap (λ k. read_plan one (few head.Attempt k) (spell_parts [] ps ++ rest)) (sym n) ∙ few_back head.Attempt ps all rest
  form_back (head.Section m) ps n all rest = ap (λ k. read_plan one (few (head.Section m) k) (spell_parts [] ps ++ rest)) (sym n) ∙ few_back (head.Section m) ps all rest

value_back : (v : Datum) → IsWithin v → (d : ℕ) → depth_of v + 1 ≤ d → (rest : List Word) → read d (spell_value v ++ rest) ≡ Some (value v, rest)
value_back v w zero le rest = absurd (omega (arith, le))
value_back unit w (suc d) le rest = refl
value_back (truth b) w (suc d) le rest = refl
value_back (int n) w (suc d) le rest = refl
value_back (text t) w (suc d) le rest = refl
value_back (chan c) w (suc d) le rest = refl
value_back (reference r) w (suc d) le rest = refl
value_back (pair a b) w (suc d) le rest =
    ap (λ ws. option_and_then (λ p. option_and_then (λ q. pair_of p.0 q.0 q.1) (read d p.1)) (read d ws)) (append_assoc (spell_value a) (spell_value b) rest)
    ∙ ap (option_and_then (λ p. option_and_then (λ q. pair_of p.0 q.0 q.1) (read d p.1))) (value_back a w.1 d (omega (arith, le)) (spell_value b ++ rest))
    ∙ ap (option_and_then (λ q. pair_of (value a) q.0 q.1)) (value_back b w.2 d (omega (arith, le)) rest)
    ∙ ap (λ c. cond c (Some (value (pair a b), rest)) None) w.0

mutual
  back : (e : Expr) → IsWell e → (d : ℕ) → depth e ≤ d → (rest : List Word) → read d (spell e ++ rest) ≡ Some (e, rest)
  back (value v) w d le rest = value_back v w d le rest
  back (variable x) w zero le rest = absurd (omega (arith, le))
  back (variable x) w (suc d) le rest = refl
  back (failed k) w zero le rest = absurd (omega (arith, le))
  back (failed k) w (suc d) le rest = refl
  back (form h ps) w zero le rest = absurd (omega (arith, le))
  back (form h ps) w (suc d) le rest = form_back (read d) h ps w.0 (all_back ps w.1 d (omega (arith, le))) rest

  all_back : (ps : Parts) → AreWell ps → (d : ℕ) → depth_of_parts ps ≤ d → AllBack (read d) ps
  all_back none w d le = tt
  all_back (part e ps) w d le = (back e w.0 d (omega (arith, le)), all_back ps w.1 d (omega (arith, le)))

pub reads_back : (d : ℕ) (ws rest : List Word) (e : Expr) → Spells d ws e rest → read d ws ≡ Some (e, rest)
reads_back d ws rest e s = ap (read d) s.words_are ∙ back e s.well d s.flat rest
