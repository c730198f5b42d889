-- A run that went on from an image.
use Rattle.std.proofs.Common.{◌≡◌, inl, inr, ℕ, Bool, true, false, Some, refl, sym, subst}
use Rattle.image_laws.specs.Image.{Image}
use Rattle.image_commands.specs.declared.resuming.Shown.{Shown}
use Rattle.image_commands.specs.Shown.{IsShown}
use Rattle.call_status.specs.declared.status.Status.{Status}
use Rattle.call_status.specs.declared.status.Status.TheVariants.{Done, Held, BadWords, BadText, NoFile, TooBig, FileFault, SinkFault, Spent, NoMemory, BadProbes, BadTrace, BadScript, No, Untyped, NoCut, BadImage}
use Rattle.call_report.specs.declared.report.Made.TheVariants as made
use Rattle.call_report.specs.Report.{Leaves, Outcome}
use Rattle.file_commands.specs.Resuming.{HasGoneOn, HasWritten, IsPutAs, ResumeEnds, StopsAs, status_by}

module _ (image : Image) (fuel quantum : ℕ) where
  -- the status is that of the end
  stops_by : (shown : Shown) (spent all_ended : Bool) → shown.resumed.spent ≡ spent → shown.all_ended ≡ all_ended → IsShown image fuel quantum shown → StopsAs (status_by spent all_ended) image.program shown.resumed
  stops_by shown true all_ended is all h = is
  stops_by shown false true is all h = (is, h.all all)
  stops_by shown false false is all h = (is, h.some all)

  module _ (o : Outcome) where
    written : (status : Status) → HasWritten status image fuel quantum o → ResumeEnds status image fuel quantum o
    written Done w = w
    written Held w = w
    written BadWords w = w
    written BadText w = w
    written NoFile w = w
    written TooBig w = w
    written FileFault w = w
    written SinkFault w = elim w.stops [ ]
    written Spent w = w
    written NoMemory w = elim w.stops [ ]
    written BadProbes w = w
    written BadTrace w = w
    written BadScript w = w
    written No w = w
    written Untyped w = w
    written NoCut w = w
    written BadImage w = w

    put_as : (on : HasGoneOn image fuel quantum o) (status : Status) → StopsAs status image.program on.resumed → IsPutAs status on.text o → ResumeEnds o.report.status image fuel quantum o
    put_as on status stops (inl put) = subst (λ s. ResumeEnds s image fuel quantum o) (sym put.0) (written status (record { on = on; stops = stops; gains = put.1 }))
    put_as on status stops (inr put) = subst (λ s. ResumeEnds s image fuel quantum o) (sym put.0) (on, put.1)

    -- what was shown of a run was written, or a prefix of it
    pub gone_on : (shown : Shown) (status : Status) → IsShown image fuel quantum shown → status ≡ status_by shown.resumed.spent shown.all_ended → Leaves o.report (Some (made.Resumed shown.resumed)) → IsPutAs status shown.text.items o → ResumeEnds o.report.status image fuel quantum o
    gone_on shown status h is reported put =
        put_as (record { resumed = shown.resumed; reported = reported; is = h.resumed; text = shown.text.items; shows = h.text }) status
        (subst (λ s. StopsAs s image.program shown.resumed) (sym is) (stops_by shown shown.resumed.spent shown.all_ended refl refl h)) put
