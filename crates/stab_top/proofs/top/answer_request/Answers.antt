use Rattle.std.proofs.Common.{Ok, ap, refl}
use Rattle.stab_words.specs.declared.request.Request.TheVariants.{Run, Trace, Mill, Verify, Drill, Check, Types, Watch, Save, Resume, Serve}
use Rattle.stab_top.proofs.Wording.{heard, hears_none, said}
use Rattle.stab_top.proofs.top.answer_request.Goals as goal

pub returns-in-Run-clause-says : goal.returns-in-Run-clause-says
returns-in-Run-clause-says g c =
    said c.args.request.now (Run c.in-Run.args) _ c.in-Run.is c.run_file.ensures.says

pub returns-in-Trace-clause-says : goal.returns-in-Trace-clause-says
returns-in-Trace-clause-says g c =
    said c.args.request.now (Trace c.in-Trace.args) _ c.in-Trace.is c.trace_file.ensures.says

pub returns-in-Mill-clause-says : goal.returns-in-Mill-clause-says
returns-in-Mill-clause-says g c =
    said c.args.request.now (Mill c.in-Mill.args) _ c.in-Mill.is (refl, c.run_mill.ensures)

pub returns-in-Verify-clause-says : goal.returns-in-Verify-clause-says
returns-in-Verify-clause-says g c =
    said c.args.request.now (Verify c.in-Verify.args) _ c.in-Verify.is c.verify_file.ensures.says

pub returns-in-Check-clause-says : goal.returns-in-Check-clause-says
returns-in-Check-clause-says g c =
    said c.args.request.now (Check c.in-Check.file) _ c.in-Check.is c.check_file.ensures.says

pub returns-in-Drill-clause-says : goal.returns-in-Drill-clause-says
returns-in-Drill-clause-says g c =
    said c.args.request.now (Drill c.in-Drill.args) _ c.in-Drill.is c.drill_file.ensures.says

pub returns-in-Types-clause-says : goal.returns-in-Types-clause-says
returns-in-Types-clause-says g c =
    said c.args.request.now (Types c.in-Types.file) _ c.in-Types.is c.types_file.ensures.says

pub returns-in-Watch-clause-says : goal.returns-in-Watch-clause-says
returns-in-Watch-clause-says g c =
    said c.args.request.now (Watch c.in-Watch.args) _ c.in-Watch.is c.watch_file.ensures.says

pub returns-in-Save-clause-says : goal.returns-in-Save-clause-says
returns-in-Save-clause-says g c =
    said c.args.request.now (Save c.in-Save.args) _ c.in-Save.is c.save_file.ensures.says

pub returns-in-Resume-clause-says : goal.returns-in-Resume-clause-says
returns-in-Resume-clause-says g c =
    said c.args.request.now (Resume c.in-Resume.args) _ c.in-Resume.is c.resume_file.ensures.says

pub returns-in-Run-clause-hears : goal.returns-in-Run-clause-hears
returns-in-Run-clause-hears g c = hears_none (Ok c.args.request.now) _ refl

pub returns-in-Trace-clause-hears : goal.returns-in-Trace-clause-hears
returns-in-Trace-clause-hears g c = hears_none (Ok c.args.request.now) _ refl

pub returns-in-Mill-clause-hears : goal.returns-in-Mill-clause-hears
returns-in-Mill-clause-hears g c = hears_none (Ok c.args.request.now) _ refl

pub returns-in-Verify-clause-hears : goal.returns-in-Verify-clause-hears
returns-in-Verify-clause-hears g c = hears_none (Ok c.args.request.now) _ refl

pub returns-in-Check-clause-hears : goal.returns-in-Check-clause-hears
returns-in-Check-clause-hears g c = hears_none (Ok c.args.request.now) _ refl

pub returns-in-Drill-clause-hears : goal.returns-in-Drill-clause-hears
returns-in-Drill-clause-hears g c = hears_none (Ok c.args.request.now) _ refl

pub returns-in-Types-clause-hears : goal.returns-in-Types-clause-hears
returns-in-Types-clause-hears g c = hears_none (Ok c.args.request.now) _ refl

pub returns-in-Watch-clause-hears : goal.returns-in-Watch-clause-hears
returns-in-Watch-clause-hears g c = hears_none (Ok c.args.request.now) _ refl

pub returns-in-Save-clause-hears : goal.returns-in-Save-clause-hears
returns-in-Save-clause-hears g c = hears_none (Ok c.args.request.now) _ refl

pub returns-in-Resume-clause-hears : goal.returns-in-Resume-clause-hears
returns-in-Resume-clause-hears g c = hears_none (Ok c.args.request.now) _ refl

pub returns-in-Serve-clause-says : goal.returns-in-Serve-clause-says
returns-in-Serve-clause-says g c =
    said c.args.request.now (Serve c.in-Serve.args) _ c.in-Serve.is c.serve_file.ensures.says

pub returns-in-Serve-clause-hears : goal.returns-in-Serve-clause-hears
returns-in-Serve-clause-hears g c =
    heard (Ok c.args.request.now) (Ok (Serve c.in-Serve.args)) _ (ap Ok c.in-Serve.is) c.serve_file.ensures.unheard
