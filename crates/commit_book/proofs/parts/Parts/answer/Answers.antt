use Rattle.std.specs.FinMap as map
use Rattle.commit_book.proofs.Threads.GoneOn.{fits_there, stood}
use Rattle.commit_book.proofs.parts.Parts.answer.Goals as goal

pub returns : goal.returns
returns c =
    let p = c.args.program.now in
    let o = map.get c.args.self.now.slots.threads c.args.t.0 in
    let before = c.go_on-before.result in
    record {
      before = before;
      control = c.answer.new.self;
      was = stood o before c.requires.there c.go_on-before.ensures.before;
      stands = c.answer.ensures.expr;
      fits = c.answer.ensures.fits;
      gone = c.go_on-before.ensures.gone p c.requires.valid c.answer.ensures.fits (fits_there p o before c.requires.there c.go_on-before.ensures.before (c.requires.fit c.args.t.0));
    }
