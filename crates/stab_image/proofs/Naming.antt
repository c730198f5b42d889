-- The numbers that the events so far name.
use Rattle.std.proofs.Common.{◌≡◌, ℕ, ◌+◌, List, take, sym, ap, ◌∙◌}
use Rattle.std.specs.Prelude.{Some, fold, max, slice_get}
use Rattle.stab_journal.specs.declared.event.Event.{Event}
use Rattle.stab_journal.specs.declared.event.What.{What}
use Rattle.stab_journal.specs.Numbers.{chans_in, refs_in, named_by, threads_by, greatest}
use Rattle.stab_journal.proofs.NumberSteps.{greatest_snoc}
use Rattle.trace_verify.proofs.Judging.{one_more}
use Rattle.stab_image.specs.declared.named.Named.{Named}
use Rattle.stab_image.specs.Named.{AreNamed}

one_kind : (names : What → List ℕ) (es : List Event) (i : ℕ) (e : Event) (k n : ℕ) → slice_get es i ≡ Some e → n ≡ fold max k (names e.what) → k ≡ greatest names (take i es) → n ≡ greatest names (take (i + 1) es)
one_kind names es i e k n at more is =
    more ∙ ap (λ g. fold max g (names e.what)) is ∙ sym (ap (greatest names) (one_more es i e at) ∙ greatest_snoc names (take i es) e)

-- one event more
pub named_more : (es : List Event) (i : ℕ) (e : Event) (a b : Named) → slice_get es i ≡ Some e → b.thread ≡ fold max a.thread (threads_by e.what) → b.chan ≡ fold max a.chan (named_by chans_in e.what)
    → b.reference ≡ fold max a.reference (named_by refs_in e.what) → AreNamed (take i es) a → AreNamed (take (i + 1) es) b
named_more es i e a b at t c r h = record {
  thread = one_kind threads_by es i e a.thread b.thread at t h.thread;
  chan = one_kind (named_by chans_in) es i e a.chan b.chan at c h.chan;
  reference = one_kind (named_by refs_in) es i e a.reference b.reference at r h.reference;
}
