-- By what the statuses say, a run goes on from a good image, and a bad one is refused.
use Rattle.std.proofs.Common.{◌≡◌, ◌⊎◌, inl, inr, ℕ, ◌-◌, List, length, Result, Ok, Err, refl, sym, ap, subst, ◌∙◌}
use Rattle.stab_code.specs.Program.{ProgramParts}
use Rattle.stab_text.proofs.Reading.{not_both, one_program}
use Rattle.image_laws.specs.Image.{Image}
use Rattle.image_lines.specs.declared.body.TextFault.{TextFault}
use Rattle.image_lines.specs.CountsText.{counts_text}
use Rattle.image_lines.specs.Opening.{program_in}
use Rattle.image_lines.proofs.OpeningLaws.{program_back}
use Rattle.image_text.specs.declared.image_fault.ImageFault.{ImageFault}
use Rattle.stab_image.specs.Read.{Answer, IsRead, IsReadBehind, IsReadFrom, counts_read}
use Rattle.stab_image.specs.Written.{IsImageText}
use Rattle.stab_image.proofs.ReadLaws.{image_back}
use Rattle.stab_image.proofs.TextOf.{counts_of_image, text_is}
use Rattle.stab_words.specs.Asked.{asked}
use Rattle.stab_words.specs.declared.request.Request.TheVariants.{Resume}
use Rattle.stab_words.specs.declared.request.ResumeArgs.{ResumeArgs}
use Rattle.call_status.specs.declared.role.Role.TheVariants as roles
use Rattle.call_status.specs.declared.status.Status.{Status}
use Rattle.call_status.specs.declared.status.Status.TheVariants.{Done, Held, BadWords, BadText, NoFile, TooBig, FileFault, SinkFault, Spent, NoMemory, BadProbes, BadTrace, BadScript, No, Untyped, NoCut, BadImage}
use Rattle.file_commands.specs.Resuming.{image_form, IsNoImage, ResumeEnds, ResumeSays}
use Rattle.call_report.specs.Call.{Call, CountedFault, status_of}
use Rattle.stab_top.specs.Call.{Says}
use Rattle.stab_top.specs.Complete.{HasResumed, IsHeld, IsRefused}
use Rattle.stab_top.proofs.Complete.{Failed, err_is, fault_refused, ok_is, request_said, said_of}

-- ---- bytes are read as one thing

one_behind : (text : List ℕ) (at : ℕ) (rest : List ℕ) (r s : Answer) → IsReadBehind text at rest r → IsReadBehind text at rest s → r ≡ s
one_behind text at rest r s (inl a) (inl b) = a.is ∙ ap (λ (p : ProgramParts). counts_read text p at rest) (one_program text a.program b.program a.is_text b.is_text) ∙ sym b.is
one_behind text at rest r s (inl a) (inr b) = absurd (not_both text a.program b.fault a.is_text b.has)
one_behind text at rest r s (inr a) (inl b) = absurd (not_both text b.program a.fault b.is_text a.has)
one_behind text at rest r s (inr a) (inr b) = a.is ∙ sym b.is

one_from : (count : ℕ) (x : Result (List ℕ × List ℕ) TextFault) (r s : Answer) → IsReadFrom count x r → IsReadFrom count x s → r ≡ s
one_from count (Ok x) r s a b = one_behind x.0 (count - length x.1) x.1 r s a b
one_from count (Err k) r s a b = a ∙ sym b

one_fault : (bytes : List ℕ) (a b : ImageFault) → IsRead bytes (Err a) → IsRead bytes (Err b) → a ≡ b
one_fault bytes a b first second = err_is {A = Image} a b (one_from (length bytes) (program_in bytes) (Err a) (Err b) first second)

-- the text of an image is read as that image
image_read : (bytes : List ℕ) (i : Image) → IsImageText bytes i → IsRead bytes (Ok i)
image_read bytes i h =
    let rest = counts_text (counts_of_image i) in
    let opened : program_in bytes ≡ Ok (i.text, rest) = ap program_in (h.bytes_are ∙ text_is i) ∙ program_back i.text rest h.right.small in
    let answer : Answer = counts_read i.text i.program (length bytes - length rest) rest in
    let read : IsRead bytes answer =
    subst (λ (x : Result (List ℕ × List ℕ) TextFault). IsReadFrom (length bytes) x answer) (sym opened) (inl (record { program = i.program; is_text = h.right.text; is = refl })) in
    subst (IsRead bytes) (image_back bytes i answer h read) read

one_image : (bytes : List ℕ) (i j : Image) → IsImageText bytes i → IsImageText bytes j → i ≡ j
one_image bytes i j a b = ok_is {B = ImageFault} i j (image_back bytes j (Ok i) b (image_read bytes i a))

-- ---- a good image

module _ (c : Call) (args : ResumeArgs) (bytes : List ℕ) (held : IsHeld roles.Image c args.image bytes) where
  as_resumed : (image : Image) (status : Status) → ResumeEnds status image args.fuel args.quantum c.outcome → HasResumed status image args.fuel args.quantum c.outcome ⊎ CountedFault c
  as_resumed image Done ends = inl ends
  as_resumed image Held ends = inl ends
  as_resumed image Spent ends = inl ends
  as_resumed image SinkFault (on, gains) = inr (inr gains.1)
  as_resumed image NoMemory ends = inl tt
  as_resumed image BadWords ends = elim ends.stops [ ]
  as_resumed image BadText ends = elim ends.stops [ ]
  as_resumed image NoFile ends = elim ends.stops [ ]
  as_resumed image TooBig ends = elim ends.stops [ ]
  as_resumed image FileFault ends = elim ends.stops [ ]
  as_resumed image BadProbes ends = elim ends.stops [ ]
  as_resumed image BadTrace ends = elim ends.stops [ ]
  as_resumed image BadScript ends = elim ends.stops [ ]
  as_resumed image No ends = elim ends.stops [ ]
  as_resumed image Untyped ends = elim ends.stops [ ]
  as_resumed image NoCut ends = elim ends.stops [ ]
  as_resumed image BadImage ends = elim ends.stops [ ]

  came : (image : Image) → IsImageText bytes image → Failed (status_of c) c ⊎ ((other : Image) × IsImageText bytes other × ResumeEnds (status_of c) other args.fuel args.quantum c.outcome)
      → HasResumed (status_of c) image args.fuel args.quantum c.outcome ⊎ CountedFault c
  came image is (inl (inl none)) = inl (subst (λ (s : Status). HasResumed s image args.fuel args.quantum c.outcome) (sym none) tt)
  came image is (inl (inr counted)) = inr counted.1
  came image is (inr (other, also, ends)) =
      as_resumed image (status_of c) (subst (λ (i : Image). ResumeEnds (status_of c) i args.fuel args.quantum c.outcome) (one_image bytes other image also is) ends)

  said : (image : Image) → IsImageText bytes image → ResumeSays c args → HasResumed (status_of c) image args.fuel args.quantum c.outcome ⊎ CountedFault c
  said image is says =
      came image is (said_of image_form c args.image bytes held (λ fault has. has.none image is) c.files_after (λ i. ResumeEnds (status_of c) i args.fuel args.quantum c.outcome) says)

  refused : (fault : ImageFault) → IsNoImage bytes fault → ResumeSays c args → IsRefused image_form c fault ⊎ CountedFault c
  refused fault has says =
      fault_refused image_form c args.image bytes held fault (λ image is. has.none image is) (λ other same. one_fault bytes other fault same.first has.first) c.files_after
      (λ i. ResumeEnds (status_of c) i args.fuel args.quantum c.outcome) says

pub image_goes_on : (words : List (List ℕ)) (c : Call) (args : ResumeArgs) (bytes : List ℕ) (image : Image) → Says words c → asked words ≡ Ok (Resume args)
    → IsHeld roles.Image c args.image bytes → image_form.IsOf bytes image → HasResumed (status_of c) image args.fuel args.quantum c.outcome ⊎ CountedFault c
image_goes_on words c args bytes image says is held reads = said c args bytes held image reads (request_said words c (Resume args) says is)

pub bad_image_refused : (words : List (List ℕ)) (c : Call) (args : ResumeArgs) (bytes : List ℕ) (fault : ImageFault) → Says words c → asked words ≡ Ok (Resume args)
    → IsHeld roles.Image c args.image bytes → image_form.HasFault bytes fault → IsRefused image_form c fault ⊎ CountedFault c
bad_image_refused words c args bytes fault says is held has = refused c args bytes held fault has (request_said words c (Resume args) says is)
