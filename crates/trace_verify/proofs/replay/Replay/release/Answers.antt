use Rattle.std.proofs.Common.{◌≡◌, refl, sym, ap, ◌∙◌, arith}
use Rattle.stab_journal.specs.Due.{final_prints}
use Rattle.stab_journal.specs.Since.{final_prints_since}
use Rattle.trace_verify.specs.Verdict.{wrong_release}
use Rattle.trace_verify.specs.declared.surviving.Surviving.{Surviving}
use Rattle.trace_verify.specs.Parts.{run_in}
use Rattle.trace_verify.proofs.Following.{release_follows}
use Rattle.trace_verify.proofs.replay.Replay.release.Goals as goal
use Rattle.trace_verify.proofs.replay.Replay.release.Goals.{then-k-final_prints-via-then-k-final_prints, then-k-final_prints-via-else-k-final_prints+then-k-self}

from_start : (s : Surviving) → s.parts.since ≡ 0 → final_prints_since s.parts.since (run_in s.parts) ≡ final_prints (run_in s.parts)
from_start s since = ap (λ q. final_prints_since q (run_in s.parts)) since

pub returns-then-k-final_prints : goal.returns-then-k-final_prints
returns-then-k-final_prints c = λ p script events number r.
    elim c.then-k-final_prints.branch [
      | then-k-final_prints-via-then-k-final_prints w ↦ wrong_release c.args.k (λ h. w.if-k-final_prints.true (h.0 ∙ sym (c.final_prints.ensures ∙ from_start c.args.self.now.surviving c.requires.ready.kept.since)))
      | then-k-final_prints-via-else-k-final_prints+then-k-self w ↦ wrong_release c.args.k (λ h. omega (arith, w.if-k-self.true, h.1, r.released))
    ]

pub returns : goal.returns
returns c = λ p script events number r.
    release_follows p script events c.args.self.now _ c.args.seq.0 c.args.k number r c.requires.ready (c.if-k-final_prints.false ∙ c.final_prints.ensures ∙ from_start c.args.self.now.surviving c.requires.ready.kept.since) c.if-k-self.false refl refl refl refl
