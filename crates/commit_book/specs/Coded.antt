-- How proofs store a book.
use Rattle.std.specs.Prelude.{ℕ, List, refl}
use Rattle.std.specs.Ordering.{nat_cmp}
use Rattle.std.specs.FinMap as map
use Rattle.std.specs.FinMap.{FinMap}
use Rattle.std.specs.Coded.{Coded, code_by, coded×, coded_ℕ, coded_list}
use Rattle.stab_base.specs.Datum.{Datum}
use Rattle.stab_base.specs.DatumCode.{coded_datum}
use Rattle.stab_code.specs.JobParts.{JobParts}
use Rattle.stab_journal.specs.Journal.{Journal}
use Rattle.thread_slots.specs.declared.state.State.{State}
use Rattle.thread_slots.specs.Slot.{Slot, slot_code}
use Rattle.rendezvous.specs.Line.{Seen, seen_code}
use Rattle.ref_log.specs.Log.{Write, coded_write}
use Rattle.checkpoint_store.specs.Saved.{place_cmp, coded_place}
use Rattle.comm_graph.specs.declared.node.NodeFor.{NodeFor}
use Rattle.comm_graph.specs.Node.{Node}
use Rattle.comm_graph.specs.Edge.{node_code}
use Rattle.step_eval.specs.ControlView.{ControlView}
use Rattle.commit_book.specs.Book.{Next, Answered, BookView}

abbrev pub next_code : Coded Next
next_code = code_by (ℕ × (ℕ × ℕ)) (coded× coded_ℕ (coded× coded_ℕ coded_ℕ)) (λ n. (n.thread, (n.chan, n.ref))) (λ p. record { thread = p.0; chan = p.1.0; ref = p.1.1 }) (λ _. refl)

abbrev pub answered_code : Coded Answered
answered_code = code_by (ℕ × ℕ) (coded× coded_ℕ coded_ℕ) (λ n. (n.commits, n.stale)) (λ p. record { commits = p.0; stale = p.1 }) (λ _. refl)

-- a book as the tuple of its fields
abbrev pub Tuple : Type 0
Tuple = JobParts × (Journal × (FinMap nat_cmp (Slot ControlView) × (List ℕ × (Seen × (ℕ × (FinMap nat_cmp (List Write) × (FinMap place_cmp ControlView × (List Node × (List Datum × (Next × Answered))))))))))

abbrev pub tuple_code : Coded JobParts → Coded Journal → Coded ControlView → Coded State → Coded NodeFor → Coded Tuple
tuple_code job journal control state kinds =
    coded× job (coded× journal (coded× (map.code coded_ℕ (slot_code control state)) (coded× (coded_list coded_ℕ) (coded× seen_code (coded× coded_ℕ (coded× (map.code coded_ℕ (coded_list coded_write)) (coded× (map.code coded_place control) (coded× (coded_list (node_code kinds)) (coded× (coded_list coded_datum) (coded× next_code answered_code))))))))))

abbrev pub tuple_of : BookView → Tuple
tuple_of b = (b.job, (b.history, (b.threads, (b.queue, (b.offers, (b.last_cut, (b.references, (b.saved, (b.nodes, (b.printed, (b.next, b.answered)))))))))))

abbrev pub view_in : Tuple → BookView
view_in p = record {
  job = p.0;
  history = p.1.0;
  threads = p.1.1.0;
  queue = p.1.1.1.0;
  offers = p.1.1.1.1.0;
  last_cut = p.1.1.1.1.1.0;
  references = p.1.1.1.1.1.1.0;
  saved = p.1.1.1.1.1.1.1.0;
  nodes = p.1.1.1.1.1.1.1.1.0;
  printed = p.1.1.1.1.1.1.1.1.1.0;
  next = p.1.1.1.1.1.1.1.1.1.1.0;
  answered = p.1.1.1.1.1.1.1.1.1.1.1;
}

abbrev pub book_code : Coded JobParts → Coded Journal → Coded ControlView → Coded State → Coded NodeFor → Coded BookView
book_code job journal control state kinds = code_by Tuple (tuple_code job journal control state kinds) tuple_of view_in (λ _. refl)
