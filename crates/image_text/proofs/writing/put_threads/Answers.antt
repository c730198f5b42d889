use Rattle.std.proofs.Common.{ℕ, [], ◌∷◌, ◌++◌, sym, ap, ◌∙◌}
use Rattle.std.specs.Prelude.{Option, codes, decimal, unwrap_or}
use Rattle.std.specs.FinMap.{from_entries}
use Rattle.expression_text.specs.Spelling.{spell}
use Rattle.expression_text.specs.WordText.{words_text}
use Rattle.image_text.specs.ImageText.{long_row, thread_line}
use Rattle.image_text.proofs.Going.{at_first, at_last, one_more}
use Rattle.image_text.proofs.Left.{listed_left, next_listed}
use Rattle.image_text.proofs.writing.put_threads.Goals as goal

pub loop-t-init : goal.loop-t-init
loop-t-init c = record {
  going = at_first (thread_line (from_entries c.args.generations.now)) c.args.state.now.state.threads c.args.out.now.items c.requires.none;
  generations = listed_left c.args.generations.now c.requires.rising;
}

pub bounds-generations-i : goal.bounds-generations-i
bounds-generations-i c =
    (next_listed c.args.generations.now c.args.state.now.state.threads c.loop-t.i c.loop-t.last c.in-Some.t.0 c.loop-t.invariant.generations c.requires.same c.in-Some.ensures.least).within

pub loop-t-preserved : goal.loop-t-preserved
loop-t-preserved c =
    let es = c.args.generations.now in
    let threads = c.args.state.now.state.threads in
    let next = next_listed es threads c.loop-t.i c.loop-t.last c.in-Some.t.0 c.loop-t.invariant.generations c.requires.same c.in-Some.ensures.least in
    record {
      going =
          one_more (thread_line (from_entries es)) threads c.loop-t.last c.in-Some.t.0 c.in-Some.e.now c.args.out.now.items c.loop-t.out.items c.put_thread.new.out.items
          c.loop-t.invariant.going c.in-Some.ensures.least c.in-Some.ensures.stands
          (c.in_ok-put_thread.ensures
          ∙ ap (λ (g : ℕ). c.loop-t.out.items ++ long_row (codes "thread") (decimal c.in-Some.t.0 ∷ decimal g ∷ []) (words_text (spell c.in-Some.e.now)))
          (ap (λ (p : ℕ × ℕ). p.1) (next.at _) ∙ sym (ap (λ (o : Option ℕ). unwrap_or o 0) next.holds)));
      generations = next.later;
    }

pub returns : goal.returns
returns c =
    at_last (thread_line (from_entries c.args.generations.now)) c.args.state.now.state.threads c.loop-t.last c.args.out.now.items c.loop-t.out.items c.loop-t.invariant.going c.in_default.ensures.least
