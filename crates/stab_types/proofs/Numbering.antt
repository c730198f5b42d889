-- The numbers of written types, one after another.
use Rattle.std.proofs.Common.{◌≡◌, nat_lt, true, List, [], ◌∷◌, ◌++◌, length, map, refl, sym, ap, ◌∙◌}
use Rattle.std.specs.List.{AllByRecursion}
use Rattle.std.proofs.lemmas.List.{map-append}
use Rattle.stab_code.specs.Program.{FunctionParts}
use Rattle.stab_code.specs.Written.{Written}
use Rattle.type_table.specs.declared.shape.TypeId.{TypeId}
use Rattle.type_table.specs.Table.{type_at}
use Rattle.type_table.proofs.Types.{longer_refl, longer_trans, longer_length}
use Rattle.stab_types.specs.declared.given.Signature.{Signature}
use Rattle.stab_types.specs.Checked.{AreNumbered, IsNumbered}
use Rattle.stab_types.specs.Given.{AreSignatures}
use Rattle.stab_types.proofs.Going.{numbers_below, takes_more, gives_more}

pub numbered_start : (types : List Written) → AreNumbered types types [] []
numbered_start types = record { longer = longer_refl types; below = tt; is = λ all l. refl }

all_snoc : {X : Type 0} (P : X → Type 0) (xs : List X) (x : X) → AllByRecursion P xs → P x → AllByRecursion P (xs ++ x ∷ [])
all_snoc P [] x h k = (k, tt)
all_snoc P (y ∷ xs) x h k = (h.0, all_snoc P xs x h.1 k)

pub numbered_more : (old types next : List Written) (ns : List TypeId) (ws : List Written) (n : TypeId) (w : Written) → AreNumbered old types ns ws → IsNumbered types next n w → AreNumbered old next (ns ++ n ∷ []) (ws ++ w ∷ [])
numbered_more old types next ns ws n w are is = record {
  longer = longer_trans old types next are.longer is.longer;
  below = all_snoc (λ (k : TypeId). nat_lt k.0 (length next) ≡ true) ns n (numbers_below (length types) (length next) ns (longer_length types next is.longer) are.below) is.below;
  is = λ all l.
      map-append (type_at all) ns (n ∷ [])
      ∙ ap (λ us. us ++ type_at all n ∷ []) (are.is all (longer_trans types next all is.longer l))
      ∙ ap (λ u. ws ++ u ∷ []) (is.is all l);
}

pub signatures_start : (types : List Written) → AreSignatures types [] []
signatures_start types = record { takes_below = tt; gives_below = tt; takes = λ all l. refl; gives = λ all l. refl }

pub signatures_snoc : (types mid next : List Written) (ss : List Signature) (fs : List FunctionParts) (s : Signature) (f : FunctionParts) → AreSignatures types ss fs →
    AreNumbered types mid s.takes.items f.takes → IsNumbered mid next s.gives f.gives → AreSignatures next (ss ++ s ∷ []) (fs ++ f ∷ [])
signatures_snoc types mid next ss fs s f are takes gives =
    let longer = longer_trans types mid next takes.longer gives.longer in
    let size = longer_length types next longer in
    record {
      takes_below = all_snoc (λ (s : Signature). AllByRecursion (λ (k : TypeId). nat_lt k.0 (length next) ≡ true) s.takes.items) ss s (takes_more (length types) (length next) ss size are.takes_below)
          (numbers_below (length mid) (length next) s.takes.items (longer_length mid next gives.longer) takes.below);
      gives_below = all_snoc (λ (s : Signature). nat_lt s.gives.0 (length next) ≡ true) ss s (gives_more (length types) (length next) ss size are.gives_below) gives.below;
      takes = λ all l.
          map-append (λ (s : Signature). map (type_at all) s.takes.items) ss (s ∷ [])
          ∙ ap (λ us. us ++ map (type_at all) s.takes.items ∷ []) (are.takes all (longer_trans types next all longer l))
          ∙ ap (λ u. map (λ (f : FunctionParts). f.takes) fs ++ u ∷ []) (takes.is all (longer_trans mid next all gives.longer l))
          ∙ sym (map-append (λ (f : FunctionParts). f.takes) fs (f ∷ []));
      gives = λ all l.
          map-append (λ (s : Signature). type_at all s.gives) ss (s ∷ [])
          ∙ ap (λ us. us ++ type_at all s.gives ∷ []) (are.gives all (longer_trans types next all longer l))
          ∙ ap (λ u. map (λ (f : FunctionParts). f.gives) fs ++ u ∷ []) (gives.is all l)
          ∙ sym (map-append (λ (f : FunctionParts). f.gives) fs (f ∷ []));
    }
