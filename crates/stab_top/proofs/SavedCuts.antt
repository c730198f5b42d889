-- By what the statuses say, the image at a cut of a good trace is saved, and a bad trace or probe file is refused.
use Rattle.std.proofs.Common.{◌≡◌, ◌⊎◌, inl, inr, ℕ, ℤ, ◌<◌, List, take, Option, Some, Result, Ok, Err, refl, sym, subst, ◌∙◌}
use Rattle.probe_text.specs.declared.fault.ProbesFault.{ProbesFault}
use Rattle.image_commands.specs.Cuts.{IsCutOf, cuts_in}
use Rattle.image_commands.specs.Saved.{IsImageOf}
use Rattle.image_laws.specs.Image.{StandsAt}
use Rattle.stab_code.specs.Program.{ProgramParts}
use Rattle.stab_journal.specs.declared.event.Event.{Event}
use Rattle.stab_journal.specs.Journal.{Journal}
use Rattle.stab_text.specs.Text.{IsTextOf}
use Rattle.stab_text.proofs.Reading.{not_both, one_program}
use Rattle.stab_words.specs.Asked.{asked}
use Rattle.stab_words.specs.declared.request.Request.TheVariants.{Save}
use Rattle.stab_words.specs.declared.request.SaveArgs.{SaveArgs}
use Rattle.trace_text.specs.declared.fault.TraceFault.{TraceFault}
use Rattle.trace_text.specs.Reading as traces
use Rattle.trace_text.specs.Text.{entries}
use Rattle.trace_verify.specs.declared.verdict.Verdict.TheVariants.{Yes}
use Rattle.trace_verify.specs.Verdict.{passes}
use Rattle.trace_verify.proofs.OneVerdict.{one_verdict}
use Rattle.call_status.specs.declared.role.Role.TheVariants as roles
use Rattle.call_status.specs.declared.status.Status.{Status}
use Rattle.call_status.specs.declared.status.Status.TheVariants.{Done, Held, BadWords, BadText, NoFile, TooBig, FileFault, SinkFault, Spent, NoMemory, BadProbes, BadTrace, BadScript, No, Untyped, NoCut, BadImage}
use Rattle.file_commands.specs.declared.saving.Source.{Source}
use Rattle.file_commands.specs.Saving.{CutSays, SaveEnds, SaveSays, source_form}
use Rattle.call_report.specs.Reading.{probes_form, trace_form}
use Rattle.call_report.specs.Call.{Call, CountedFault, LastSays, ScriptSays, status_of}
use Rattle.stab_top.specs.Call.{Says}
use Rattle.stab_top.specs.Complete.{IsHeld, IsRefused, IsSavedAs, IsScriptFor}
use Rattle.stab_top.proofs.Complete.{Failed, behind_program, err_is, failed_refused, fault_refused, not_ok, probes_refused, request_said, said_of}
use Rattle.stab_top.proofs.OwnTraces.{same_events, same_ok, same_run}

-- ---- what is said of a trace, once the program and the script are read

-- what is said of the trace of a program with this text
abbrev CutsSay : Call → SaveArgs → List ℕ → ProgramParts → List ℤ → Type 0
CutsSay c args text program script = LastSays trace_form c args.trace (λ history. SaveEnds (status_of c) text program script history args.at c.outcome)

module _ (c : Call) (args : SaveArgs) (text : List ℕ) (program : ProgramParts) (of : IsTextOf text program) where
  of_source : Failed (status_of c) c ⊎ ((s : Source) × ((s.text.items ≡ text) × IsTextOf text s.program) × ScriptSays c args.probes (λ script. CutSays c args s script))
      → Failed (status_of c) c ⊎ ScriptSays c args.probes (CutsSay c args text program)
  of_source (inl failed) = inl failed
  of_source (inr (s, is, says)) =
      inr (subst (λ (p : ProgramParts). ScriptSays c args.probes (CutsSay c args text p)) (one_program text s.program program is.1 of)
      (subst (λ (t : List ℕ). ScriptSays c args.probes (CutsSay c args t s.program)) is.0 says))

  source_said : IsHeld roles.Program c args.file text → SaveSays c args → Failed (status_of c) c ⊎ ScriptSays c args.probes (CutsSay c args text program)
  source_said held says =
      of_source (said_of source_form c args.file text held (λ fault has. not_both text program fault of has) c.files.faults (λ s. ScriptSays c args.probes (λ script. CutSays c args s script)) says)

cuts_said : (words : List (List ℕ)) (c : Call) (args : SaveArgs) (text : List ℕ) (program : ProgramParts) (script : List ℤ) → Says words c → asked words ≡ Ok (Save args)
    → IsHeld roles.Program c args.file text → IsTextOf text program → IsScriptFor c args.probes script → Failed (status_of c) c ⊎ CutsSay c args text program script
cuts_said words c args text program script says is held of for_script =
    behind_program c args.probes script (CutsSay c args text program) for_script (source_said c args text program of held (request_said words c (Save args) says is))

-- ---- a trace that is read

module _ (text : List ℕ) (program : ProgramParts) (script : List ℤ) (n : ℕ) where
  image_of_same : (a b : Journal) (bytes : List ℕ) → entries a ≡ entries b → IsImageOf text program script a n bytes → IsImageOf text program script b n bytes
  image_of_same a b bytes same x =
      let events = same_events a b same in
      record {
        of_run = same_run program script b a (sym same) x.of_run;
        seq = x.seq;
        cut = subst (λ (es : List Event). IsCutOf es n x.seq) events x.cut;
        image = x.image;
        stands = subst (λ (es : List Event). StandsAt program script (take x.seq es) x.image) events x.stands;
        text_is = x.text_is;
        is_text = x.is_text;
      }

  module _ (c : Call) (bytes : List ℕ) (history : Journal) (is : traces.reading bytes ≡ Ok (entries history)) where
    as_saved : (status : Status) (h : Journal) → entries h ≡ entries history → SaveEnds status text program script h n c.outcome → IsSavedAs status c text program script history n ⊎ CountedFault c
    as_saved Done h same (image_bytes, made, put) = inl (image_bytes, image_of_same h history image_bytes same made, put.1)
    as_saved SinkFault h same (image_bytes, made, put) = inr (inr put.1.1)
    as_saved NoCut h same (run, few, rests) = inl (same_run program script history h (sym same) run, subst (λ (es : List Event). cuts_in es < n) (same_events h history same) few)
    as_saved No h same ends = inl (λ run. ends.no (one_verdict program script h ends.verdict Yes ends.is (passes (same_run program script h history same run))))
    as_saved NoMemory h same ends = inl tt
    as_saved Held h same ends = elim ends [ ]
    as_saved BadWords h same ends = elim ends [ ]
    as_saved BadText h same ends = elim ends [ ]
    as_saved NoFile h same ends = elim ends [ ]
    as_saved TooBig h same ends = elim ends [ ]
    as_saved FileFault h same ends = elim ends [ ]
    as_saved Spent h same ends = elim ends [ ]
    as_saved BadProbes h same ends = elim ends [ ]
    as_saved BadTrace h same ends = elim ends [ ]
    as_saved BadScript h same ends = elim ends [ ]
    as_saved Untyped h same ends = elim ends [ ]
    as_saved BadImage h same ends = elim ends [ ]

    failed_saved : Failed (status_of c) c → IsSavedAs (status_of c) c text program script history n ⊎ CountedFault c
    failed_saved (inl none) = inl (subst (λ (s : Status). IsSavedAs s c text program script history n) (sym none) tt)
    failed_saved (inr counted) = inr counted.1

    read_saved : Failed (status_of c) c ⊎ ((h : Journal) × (traces.reading bytes ≡ Ok (entries h)) × SaveEnds (status_of c) text program script h n c.outcome)
        → IsSavedAs (status_of c) c text program script history n ⊎ CountedFault c
    read_saved (inl failed) = failed_saved failed
    read_saved (inr (h, reads, ends)) = as_saved (status_of c) h (same_ok (traces.reading bytes) (entries h) (entries history) reads is) ends

    trace_saved : (name : List ℕ) → IsHeld roles.Trace c name bytes → Failed (status_of c) c ⊎ LastSays trace_form c name (λ h. SaveEnds (status_of c) text program script h n c.outcome)
        → IsSavedAs (status_of c) c text program script history n ⊎ CountedFault c
    trace_saved name held (inl failed) = failed_saved failed
    trace_saved name held (inr says) =
        read_saved (said_of trace_form c name bytes held (λ fault has. not_ok (entries history) fault (sym is ∙ has)) c.files_after (λ h. SaveEnds (status_of c) text program script h n c.outcome) says)

pub cut_is_saved : (words : List (List ℕ)) (c : Call) (args : SaveArgs) (text bytes : List ℕ) (program : ProgramParts) (script : List ℤ) (history : Journal) → Says words c → asked words ≡ Ok (Save args)
    → IsHeld roles.Program c args.file text → IsTextOf text program → IsScriptFor c args.probes script → IsHeld roles.Trace c args.trace bytes → trace_form.IsOf bytes history
    → IsSavedAs (status_of c) c text program script history args.at ⊎ CountedFault c
cut_is_saved words c args text bytes program script history says is held of for_script there reads =
    trace_saved text program script args.at c bytes history reads args.trace there (cuts_said words c args text program script says is held of for_script)

-- ---- a trace or a probe file with a fault

trace_refused : (c : Call) (args : SaveArgs) (text bytes : List ℕ) (program : ProgramParts) (script : List ℤ) (fault : TraceFault) → IsHeld roles.Trace c args.trace bytes → traces.reading bytes ≡ Err fault
    → Failed (status_of c) c ⊎ CutsSay c args text program script → IsRefused trace_form c fault ⊎ CountedFault c
trace_refused c args text bytes program script fault there has (inl failed) = failed_refused trace_form c args.trace bytes there fault failed
trace_refused c args text bytes program script fault there has (inr says) =
    fault_refused trace_form c args.trace bytes there fault (λ h is. not_ok (entries h) fault (sym is ∙ has)) (λ other is. err_is other fault (sym is ∙ has)) c.files_after
    (λ h. SaveEnds (status_of c) text program script h args.at c.outcome) says

pub bad_trace_unsaved : (words : List (List ℕ)) (c : Call) (args : SaveArgs) (text bytes : List ℕ) (program : ProgramParts) (script : List ℤ) (fault : TraceFault) → Says words c → asked words ≡ Ok (Save args)
    → IsHeld roles.Program c args.file text → IsTextOf text program → IsScriptFor c args.probes script → IsHeld roles.Trace c args.trace bytes → trace_form.HasFault bytes fault → IsRefused trace_form c fault ⊎ CountedFault c
bad_trace_unsaved words c args text bytes program script fault says is held of for_script there has =
    trace_refused c args text bytes program script fault there has (cuts_said words c args text program script says is held of for_script)

pub bad_probes_unsaved : (words : List (List ℕ)) (c : Call) (args : SaveArgs) (text name bytes : List ℕ) (program : ProgramParts) (fault : ProbesFault) → Says words c → asked words ≡ Ok (Save args)
    → IsHeld roles.Program c args.file text → IsTextOf text program → args.probes ≡ Some name → IsHeld roles.Probes c name bytes → probes_form.HasFault bytes fault → IsRefused probes_form c fault ⊎ CountedFault c
bad_probes_unsaved words c args text name bytes program fault says is held of named there has =
    probes_refused c args.probes (CutsSay c args text program) name bytes fault named there has (source_said c args text program of held (request_said words c (Save args) says is))
