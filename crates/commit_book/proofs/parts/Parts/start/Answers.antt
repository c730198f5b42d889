use Rattle.std.proofs.Common.{◌≡◌, ◌+◌, refl, ap, ◌∙◌}
use Rattle.std.specs.FinMap as map
use Rattle.thread_slots.specs.Slot.{started}
use Rattle.step_eval.specs.ControlView.{expr_of}
use Rattle.commit_book.specs.Doing.{is_over, is_failed}
use Rattle.commit_book.specs.Started.{first_tallies}
use Rattle.commit_book.proofs.parts.Parts.start.Goals as goal

pub returns : goal.returns
returns c =
    let p = c.args.program.now in
    let main = c.in_ok-main.main in
    let fits = c.in_ok-main.ensures.fits in
    let ended : c.is_over-ended.result ≡ is_over (expr_of p main) = c.is_over-ended.ensures p c.main_of.ensures.valid fits in
    let failed : c.is_failed-failed.result ≡ is_failed (expr_of p main) = c.is_failed-failed.ensures p c.main_of.ensures.valid fits in
    let number : c.add.result.0 ≡ 1 = c.add.ensures.number ∙ c.reserve.ensures.next ∙ c.new-slots.ensures.next in
    let none : c.reserve.new.self.threads ≡ map.empty = c.reserve.ensures.threads ∙ c.new-slots.ensures.threads in
    record {
      valid = c.main_of.ensures.valid;
      events = c.new.ensures.events;
      struck = c.new.ensures.struck;
      main = main;
      stands = c.in_ok-main.ensures.expr;
      fits = fits;
      threads =
          c.add.ensures.threads
          ∙ ap (λ m. map.insert m c.add.result.0 (started main c.is_over-ended.result)) none
          ∙ ap (λ k. map.insert map.empty k (started main c.is_over-ended.result)) number
          ∙ ap (λ b. map.insert map.empty 1 (started main b)) ended;
      sound = c.add.ensures.sound;
      next = c.add.ensures.next ∙ ap (λ k. k + 1) (c.reserve.ensures.next ∙ c.new-slots.ensures.next);
      lines = c.new-2.ensures.lines;
      offers = c.new-2.ensures.offers;
      last_cut = c.new-3.ensures.last_cut;
      writes = c.new-3.ensures.empty;
      saved = c.new-4.ensures.empty;
      nodes = c.new-5.ensures;
      finals = c.new-6.ensures.finals;
      recent = c.new-6.ensures.recent;
      chan = refl;
      ref = refl;
      tallies = c.first.ensures ∙ ap first_tallies failed;
      unread = c.new-7.ensures;
    }
