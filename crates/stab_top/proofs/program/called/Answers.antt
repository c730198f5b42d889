use Rattle.std.proofs.Common.{refl, drop, string_bytes, map as each}
use Rattle.std.specs.Vec.Iter.{into_iter_items}
use Rattle.call_report.specs.Call.{call_over}
use Rattle.call_report.specs.Report.{outcome_of}
use Rattle.stab_top.proofs.Wording.{hears_none, no_memory_call}
use Rattle.stab_top.proofs.program.called.Goals as goal

pub returns-in-Err-clause-says : goal.returns-in-Err-clause-says
returns-in-Err-clause-says g c =
    let files = c.args.files.now in
    let sink = c.args.sink.now in
    no_memory_call (each string_bytes (drop 1 (into_iter_items c.args.args)))
    (call_over g.F.Files.held g.F.Files.faults files files g.N.NumberSource.came g.N.NumberSource.ended g.N.NumberSource.last c.args.source.now c.args.source.now (outcome_of g.K.Sink.told g.K.Sink.faults sink sink c.bare.result))
    c.bare.ensures.status (record { refuses = (c.bare.ensures.blames, (refl, refl)); no_fault = refl })

pub returns-in-Err-clause-hears : goal.returns-in-Err-clause-hears
returns-in-Err-clause-hears g c = hears_none _ _ refl
