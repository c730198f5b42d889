-- What was written, stretch after stretch.
use Rattle.std.proofs.Common.{◌≡◌, ℕ, List, [], ◌++◌, Option, Some, None, refl, sym, ap, subst, ◌∙◌, append-nil, append_assoc}
use Rattle.stab_code.specs.JobParts.{JobParts}
use Rattle.commit_book.specs.Book.{BookView}
use Rattle.book_text.specs.Written.{released_lines}
use Rattle.sink_lines.specs.Device.{Device}
use Rattle.sink_lines.proofs.Gained.{gains_nothing, gains_on}
use Rattle.live_rounds.specs.declared.halt.Halt.{Halt}
use Rattle.live_rounds.specs.declared.halt.Halt.TheVariants.{SinkFault, NoMemory, Bad, Failed, TooMany}
use Rattle.live_rounds.specs.Numbers.{Heard, IsFed}
use Rattle.live_rounds.specs.Stretches.{GainsSince, IsCutSince, IsStretch, WroteSince}
use Rattle.live_rounds.proofs.Feeding.{fed_none, fed_then}

-- nothing was released
pub wrote_none : (old new : BookView) (sink : Device (List ℕ)) → released_lines new ≡ released_lines old → GainsSince old new sink sink
wrote_none old new sink same = record { lines = []; more = same ∙ sym (append-nil (released_lines old)); gains = gains_nothing sink }

gains_then : (a b c : BookView) (x y z : Device (List ℕ)) → GainsSince a b x y → GainsSince b c y z → GainsSince a c x z
gains_then a b c x y z first next = record {
  lines = first.lines ++ next.lines;
  more = next.more ∙ ap (λ l. l ++ next.lines) first.more ∙ append_assoc (released_lines a) first.lines next.lines;
  gains = gains_on x y z first.lines next.lines first.gains next.gains;
}

cut_then : (a b c : BookView) (x y z : Device (List ℕ)) → GainsSince a b x y → IsCutSince b c y z → IsCutSince a c x z
cut_then a b c x y z first next = record {
  last = next.last;
  between = next.between;
  shown = next.shown;
  job = next.job;
  release = next.release;
  so_far = gains_then a b next.last x y next.between first next.so_far;
  lines = next.lines;
  more = next.more;
  cut = next.cut;
}

-- one stretch behind another
pub wrote_then : (halt : Option Halt) (a b c : BookView) (x y z : Device (List ℕ)) → GainsSince a b x y → WroteSince halt b c y z → WroteSince halt a c x z
wrote_then None a b c x y z first next = gains_then a b c x y z first next
wrote_then (Some SinkFault) a b c x y z first next = cut_then a b c x y z first next
wrote_then (Some NoMemory) a b c x y z first next = gains_then a b c x y z first next
wrote_then (Some (Bad at)) a b c x y z first next = gains_then a b c x y z first next
wrote_then (Some Failed) a b c x y z first next = gains_then a b c x y z first next
wrote_then (Some TooMany) a b c x y z first next = gains_then a b c x y z first next

pub stretch_then : (halt : Option Halt) (a b c : BookView) (i j k : Heard) (x y z : Device (List ℕ)) → IsStretch None a b i j x y → IsStretch halt b c j k y z → IsStretch halt a c i k x z
stretch_then halt a b c i j k x y z first next = record {
  fed = fed_then halt a.job b.job c.job i.came j.came k.came first.fed next.fed;
  wrote = wrote_then halt a b c x y z first.wrote next.wrote;
}

-- ---- the same book under another name

cut_stays : (a b c : BookView) (x y : Device (List ℕ)) → c.job ≡ b.job → c.history.events ≡ b.history.events → released_lines c ≡ released_lines b → IsCutSince a b x y → IsCutSince a c x y
cut_stays a b c x y job events lines cut = record {
  last = cut.last;
  between = cut.between;
  shown = cut.shown;
  job = job ∙ cut.job;
  release = events ∙ cut.release;
  so_far = cut.so_far;
  lines = cut.lines;
  more = lines ∙ cut.more;
  cut = cut.cut;
}

pub gains_stay : (a b c : BookView) (x y : Device (List ℕ)) → released_lines c ≡ released_lines b → GainsSince a b x y → GainsSince a c x y
gains_stay a b c x y lines gains = record { lines = gains.lines; more = lines ∙ gains.more; gains = gains.gains }

-- the job and the history stay
pub wrote_stays : (halt : Option Halt) (a b c : BookView) (x y : Device (List ℕ)) → c.job ≡ b.job → c.history.events ≡ b.history.events → released_lines c ≡ released_lines b → WroteSince halt a b x y → WroteSince halt a c x y
wrote_stays None a b c x y job events lines wrote = gains_stay a b c x y lines wrote
wrote_stays (Some SinkFault) a b c x y job events lines wrote = cut_stays a b c x y job events lines wrote
wrote_stays (Some NoMemory) a b c x y job events lines wrote = gains_stay a b c x y lines wrote
wrote_stays (Some (Bad at)) a b c x y job events lines wrote = gains_stay a b c x y lines wrote
wrote_stays (Some Failed) a b c x y job events lines wrote = gains_stay a b c x y lines wrote
wrote_stays (Some TooMany) a b c x y job events lines wrote = gains_stay a b c x y lines wrote

pub stretch_stays : (halt : Option Halt) (a b c : BookView) (i j : Heard) (x y : Device (List ℕ)) → c.job ≡ b.job → c.history.events ≡ b.history.events → released_lines c ≡ released_lines b
    → IsStretch halt a b i j x y → IsStretch halt a c i j x y
stretch_stays halt a b c i j x y job events lines stretch = record {
  fed = subst (λ (k : JobParts). IsFed halt a.job k i.came j.came) (sym job) stretch.fed;
  wrote = wrote_stays halt a b c x y job events lines stretch.wrote;
}

-- the job and the lines stay, and no halt was made
pub stretch_on : (a b c : BookView) (i j : Heard) (x y : Device (List ℕ)) → c.job ≡ b.job → released_lines c ≡ released_lines b → IsStretch None a b i j x y → IsStretch None a c i j x y
stretch_on a b c i j x y job lines stretch = record {
  fed = subst (λ (k : JobParts). IsFed None a.job k i.came j.came) (sym job) stretch.fed;
  wrote = gains_stay a b c x y lines stretch.wrote;
}

-- memory is wanted
pub starved : (a b : BookView) (i j : Heard) (x y : Device (List ℕ)) → IsStretch None a b i j x y → IsStretch (Some NoMemory) a b i j x y
starved a b i j x y stretch = record {
  fed = record { numbers = stretch.fed.numbers; over = stretch.fed.over; came = stretch.fed.came; script = stretch.fed.script; left = tt };
  wrote = stretch.wrote;
}

-- before anything was done
pub stretch_none : (a : BookView) (i : Heard) (x : Device (List ℕ)) → IsStretch None a a i i x x
stretch_none a i x = record { fed = fed_none None a.job a.job i.came i.came refl refl refl; wrote = wrote_none a a x refl }
