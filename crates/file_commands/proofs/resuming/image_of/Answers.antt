use Rattle.file_commands.proofs.ImageRead.{no_image}
use Rattle.file_commands.proofs.resuming.image_of.Goals as goal

pub returns-in-Err : goal.returns-in-Err
returns-in-Err c =
    let bytes = c.args.bytes.now in
    let fault = c.in-Err.fault in
    record {
      ok = tt;
      err = c.refusal.ensures bytes (λ other. no_image bytes fault other (λ image is. c.in-Err.ensures.whole image is) c.in-Err.ensures.fault);
    }
