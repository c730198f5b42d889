use Rattle.std.proofs.Common.{◌≡◌, [], drop}
use Rattle.std.specs.Prelude.{reverse}
use Rattle.scope_check.specs.Progress.{texts_of}
use Rattle.scope_check.specs.Seen.{params_seen}
use Rattle.scope_check.proofs.progress.Progress.begin.Given as goal

abbrev pub invariant-loop-i : goal.invariant-loop-i
invariant-loop-i l = record {
  seen : params_seen 0 l.params [] ≡ params_seen l.i (drop l.i l.params) (reverse l.self.seen.items);
  lets : l.self.lets ≡ 0;
  heads : l.self.heads.items ≡ l.initial.self.heads.items;
  texts : texts_of l.self ≡ texts_of l.initial.self;
}
