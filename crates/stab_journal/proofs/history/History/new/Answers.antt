use Rattle.std.proofs.Common.{◌≡◌, [], refl, rules}
use Rattle.std.specs.Ordering.{nat_cmp}
use Rattle.std.specs.FinSet.{contains-empty}
use Rattle.stab_journal.proofs.history.History.new.Goals as goal

pub invariant_of-result : goal.invariant_of-result
invariant_of-result c =
    let items : c.new.result.items ≡ [] = c.new.ensures.items in
    record {
      valid = record {
        in_range = rw items tt;
        steps_only = λ q struck. rw items (let none = contains-empty nat_cmp q in let some = rw items at struck in cc);
        weight = rw items (search rules);
        few = rw items (search rules);
      };
      weight = rw items refl;
    }
