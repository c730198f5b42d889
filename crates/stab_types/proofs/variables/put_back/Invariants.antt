use Rattle.std.proofs.Common.{◌≡◌, length, vec_len}
use Rattle.stab_types.specs.Given.{put_back}
use Rattle.stab_types.proofs.Lets.{AreWithin}
use Rattle.stab_types.proofs.variables.put_back.Given as goal

abbrev pub decreases-loop-last : goal.decreases-loop-last
decreases-loop-last l = vec_len l.hidden

abbrev pub invariant-loop-last : goal.invariant-loop-last
invariant-loop-last l = record {
  within : AreWithin (length l.seen) l.hidden.items;
  back : put_back l.seen l.hidden.items ≡ put_back l.initial.seen l.initial.hidden.items;
}
